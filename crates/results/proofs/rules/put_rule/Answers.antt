-- `put_rule` meets its contract.
use Prim.Native.Nat.{ℕ, ◌-◌}
use native.Mathlib.Omega.{arith}
use mathlib.Core.List.{List}
use mathlib.Core.Logic.{inl}
use mathlib.Core.Path.{◌≡◌, ◌∙◌, ap, subst}
use lib.Dec.{eqb}
use lib.ListN.{length, drop}
use Rattle.grammar.specs.Lists.{keep, place, numbers_below}
use Rattle.grammar.specs.Table.{Rule}
use Rattle.grammar.specs.ReadTable.{rule_tag}
use Rattle.sets.specs.Sets.{member}
use Rattle.writer.specs.Tables.{RulePuts}
use Rattle.writer.proofs.TableLaws.{rule_puts}
use Rattle.results.specs.Results.{rule_from}
use Rattle.results.specs.PlanKind.{kind_of}
use Rattle.results.proofs.SetLaws.{set_held, set_ascending, set_some, set_labelled, set_pairs, label_small, label_used, text_is, rule_is}
use Rattle.results.proofs.ResultLaws.{rule_value, scratch_long, scratch_room, made_stored, made_over}
use Rattle.reader.proofs.AnswerLaws.{handed_on}
use Rattle.results.proofs.rules.put_rule.Goals as goal

pub label_place-label-requires : goal.label_place-label-requires
label_place-label-requires c =
    let s = c.requires.4.rules.in_words in
    let i = c.args.i in
    let h = c.requires.3 in
    label_small s i h _
    (c.set_label.ensures _ _ s.table _ s.views (set_held s i h _ c.load-set.ensures) (set_ascending s i h) (set_some s i h))

pub overflow_cast-scratch-2 : goal.overflow_cast-scratch-2
overflow_cast-scratch-2 c =
    let s = c.requires.4.rules.in_words in
    let i = c.args.i in
    let h = c.requires.3 in
    let small =
    label_small s i h c.set_label.result
    (c.set_label.ensures _ _ s.table _ s.views (set_held s i h _ c.load-set.ensures) (set_ascending s i h) (set_some s i h)) in
    omega arith

pub bounds-scratch-1 : goal.bounds-scratch-1
bounds-scratch-1 c =
    let before = c.args.scratch.now in
    scratch_long before c.set_content.new.scratch (drop (length before - 2) (drop 2 before)) c.args.i (omega arith)

pub overflow_add-stop : goal.overflow_add-stop
overflow_add-stop c =
    let q = c.requires.4.rules in
    let small = (made_stored _ (rule_from q c.args.i).content _ (c.set_content.ensures q) c.in_ok-end.was).small in
    omega arith

pub slice_bounds-put_field-end : goal.slice_bounds-put_field-end
slice_bounds-put_field-end c =
    let q = c.requires.4.rules in
    let before = c.args.scratch.now in
    let made = made_stored _ (rule_from q c.args.i).content _ (c.set_content.ensures q) c.in_ok-end.was in
    scratch_room before c.set_content.new.scratch (drop (length before - 2) (drop 2 before)) c.args.i c.label_place-label.result _ (omega arith)
    made.inside

pub returns-in_err-end : goal.returns-in_err-end
returns-in_err-end c =
    rw (handed_on c.from_residual.result c.from_residual.ensures)
    (λ q.
    inl (made_over _ (rule_from q.rules c.args.i).content _ (c.set_content.ensures q.rules) c.in_err-end.was))

pub returns : goal.returns
returns c =
    let content = c.set_content in
    λ q.
    let s = q.rules.in_words in
    let i = c.args.i in
    let h = c.requires.3 in
    let on = member c.load-used.result.words 0 in
    let used = ap (λ (w : List ℕ). member w 0) c.load-used.ensures ∙ q.used_are in
    let made = made_stored _ (rule_from q.rules i).content _ (content.ensures q.rules) c.in_ok-end.was in
    let label : c.set_label.result ≡ _ =
    c.set_label.ensures _ _ s.table _ s.views (set_held s i h _ c.load-set.ensures) (set_ascending s i h) (set_some s i h) in
    let below = set_labelled s i h in
    let placed =
    c.label_place-label.ensures.0 (length s.table.labels) (omega arith) (label_used s i h on c.set_label.result used label)
    ∙ ap (λ (l : ℕ). place eqb l (keep on (numbers_below (length s.table.labels)))) label in
    let rule : Rule = rule_from q.rules i in
    let marked =
    text_is s.table s.sets (kind_of c.args.plan.kind) i c.args.plan.union.rules (set_pairs s i h) _ _
    (set_held s i h _ c.load-set.ensures)
    q.rules.text_is in
    subst (λ (rule : Rule). RulePuts c.args.draft.now c.args.at rule c.put_field.new.draft c.put_field.result)
    (rule_is s.table s.sets (kind_of c.args.plan.kind) i on c.label_place-label.result used placed)
    (rule_puts c.args.draft.now c.put_field.new.draft c.args.at _ _
    (record { type = i; label = c.label_place-label.result; content = rule.content; text = rule.text })
    c.put_field.result
    (c.rule_tag-tag.ensures ∙ ap rule_tag (c.has_text.ensures ∙ marked))
    (rule_value c.args.scratch.now content.new.scratch _ i c.label_place-label.result _ rule.content rule.text (omega arith) made)
    made.fits
    c.put_field.ensures)
