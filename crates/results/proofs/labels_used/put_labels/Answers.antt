-- `put_labels` meets its contract. The loop's invariant: the fields of the used labels before `l` are written.
use Prim.Native.Nat.{ℕ, ◌+◌, ◌<◌}
use native.Mathlib.Omega.{arith}
use mathlib.Core.Bool.{Bool}
use mathlib.Core.List.{List, [], ◌++◌}
use mathlib.Core.Path.{◌≡◌, ◌∙◌, ap, subst}
use lib.ListN.{length, get_or}
use Rattle.grammar.specs.Limits.{input_limit}
use Rattle.grammar.specs.Lists.{joined_of, numbers_below}
use Rattle.grammar.specs.Fields.{field_bytes}
use Rattle.reader.specs.TableIndex.{label_count}
use Rattle.theory.specs.Alternatives.{only_if}
use Rattle.sets.specs.Sets.{member}
use Rattle.writer.specs.Writing.{Put}
use Rattle.writer.proofs.TableLaws.{up_start, step_stop, step_more}
use Rattle.results.specs.Results.{labels_bytes}
use Rattle.results.proofs.ResultLaws.{name_field, labels_joined}
use Rattle.reader.proofs.AnswerLaws.{handed_on}
use Rattle.results.proofs.labels_used.put_labels.Goals as goal

pub loop-l-init : goal.loop-l-init
loop-l-init c = (
  omega arith,
  λ q. up_start (name_field q (member c.load-used.result.words 0)) c.args.draft.now 0 (omega arith),
)

pub returns-in_err-end : goal.returns-in_err-end
returns-in_err-end c =
    rw (handed_on c.from_residual.result c.from_residual.ensures)
    (λ q.
    let on = member c.load-used.result.words 0 in
    let field = name_field q on in
    let over =
    step_stop field c.loop-l.l (c.loop-l.invariant.1 q) _ c.put_label.new.draft c.put_label.result (ap (λ (b : Bool). only_if b (field_bytes 0x10 (get_or (q.first ++ q.second) c.loop-l.l []))) c.has.ensures) (c.put_label.ensures q)
    c.in_err-end.was
    _
    c.loop-l-test.true in
    subst (λ (b : List ℕ). input_limit < 0 + length b)
    (ap (λ (n : ℕ). joined_of field (numbers_below (n + c.args.news.count))) c.label_count.ensures
    ∙ labels_joined q on
    ∙ ap (labels_bytes (q.first ++ q.second)) (ap (λ (w : List ℕ). member w 0) c.load-used.ensures))
    over)

pub loop-l-preserved : goal.loop-l-preserved
loop-l-preserved c =
    let on = member c.load-used.result.words 0 in
    let p = c.requires.2 in (
      (step_more (name_field p on) c.loop-l.l (c.loop-l.invariant.1 p) _ c.put_label.new.draft c.put_label.result (ap (λ (b : Bool). only_if b (field_bytes 0x10 (get_or (p.first ++ p.second) c.loop-l.l []))) c.has.ensures) (c.put_label.ensures p) c.in_ok-end.was).1,
      λ q. (step_more (name_field q on) c.loop-l.l (c.loop-l.invariant.1 q) _ c.put_label.new.draft c.put_label.result (ap (λ (b : Bool). only_if b (field_bytes 0x10 (get_or (q.first ++ q.second) c.loop-l.l []))) c.has.ensures) (c.put_label.ensures q) c.in_ok-end.was).0,
    )

pub returns : goal.returns
returns c =
    λ q.
    let on = member c.load-used.result.words 0 in
    let e : c.loop-l.l ≡ label_count c.args.olds.now + c.args.news.count = omega arith in (
      subst (λ (b : List ℕ). Put c.args.draft.now 0 b c.loop-l.draft c.loop-l.end)
          (ap (λ (n : ℕ). joined_of (name_field q on) (numbers_below n)) e
          ∙ labels_joined q on
          ∙ ap (labels_bytes (q.first ++ q.second)) (ap (λ (w : List ℕ). member w 0) c.load-used.ensures))
          (c.loop-l.invariant.1 q),
      c.loop-l.invariant.0,
    )
