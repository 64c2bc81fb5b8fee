-- `put_result` meets its contract: labels, starts, rules and the end are the bytes of the table.
use Prim.Native.Nat.{ℕ}
use native.Mathlib.Omega.{arith}
use mathlib.Core.Bool.{Bool}
use mathlib.Core.List.{List, [], ◌++◌}
use mathlib.Core.Path.{◌≡◌, ◌∙◌, ap, subst}
use lib.ListN.{length}
use borrow.Author.Rules.{rules}
use Rattle.std.specs.Prelude.{Err}
use Rattle.grammar.specs.Lists.{keep, numbers_below}
use Rattle.grammar.specs.WriteTable.{table_bytes}
use Rattle.sets.specs.Sets.{set_of_eight_at}
use Rattle.sets.proofs.SetLaws.{eight_before}
use Rattle.union.specs.Places.{start_types_at, used_at}
use Rattle.writer.specs.Tables.{TablePut}
use Rattle.writer.proofs.TableLaws.{put_length_is, put_over, put_then}
use Rattle.forms.specs.SetForms.{table_by_sets, pairs_within}
use Rattle.results.specs.PlanKind.{kind_of}
use Rattle.results.specs.Results.{rule_from, labels_bytes, body_bytes}
use Rattle.results.proofs.SetLaws.{rules_stay}
use Rattle.results.proofs.ResultLaws.{table_bytes_lem}
use Rattle.reader.proofs.AnswerLaws.{handed_on}
use Rattle.results.proofs.result.put_result.Goals as goal

pub put_body-requires : goal.put_body-requires
put_body-requires c =
    let n = c.args.plan.count in
    let on = set_of_eight_at c.labels_used.new.words used_at in
    let rule = rule_from c.requires.2.rules in
    let h =
    put_length_is c.args.draft.now 0 rule n (labels_bytes (c.requires.2.names.first ++ c.requires.2.names.second) on)
    (body_bytes (set_of_eight_at c.args.words.now start_types_at) rule n)
    c.put_labels.new.draft
    []
    c.put_labels.result
    (c.put_labels.ensures c.requires.2.names)
    c.in_ok-end.was in
    let w : length c.put_labels.new.draft ≡ length c.args.draft.now = search rules in
    let same : length c.labels_used.new.words ≡ length c.args.words.now = search rules in (
      h.1,
      omega arith,
      c.requires.1,
      record { rules = rules_stay c.requires.2.rules c.labels_used.ensures.1 same; used_are = c.labels_used.ensures.0 _ _ c.requires.2.rules.in_words },
    )

pub returns-in_err-end : goal.returns-in_err-end
returns-in_err-end c =
    rw (handed_on c.from_residual.result c.from_residual.ensures)
    (let n = c.args.plan.count in
    λ q.
    let s = q.rules.in_words in
    let on = set_of_eight_at c.labels_used.new.words used_at in
    let starts = set_of_eight_at c.args.words.now start_types_at in
    let rule = rule_from q.rules in
    let names = q.names.first ++ q.names.second in
    subst (λ (b : List ℕ). TablePut c.args.draft.now 0 rule n b c.put_labels.new.draft (Err (record {})))
    (table_bytes_lem s.table s.sets (kind_of c.args.plan.kind) n names on starts q.same s.count_is (c.labels_used.ensures.0 _ _ s))
    (put_over c.args.draft.now 0 rule n (labels_bytes names on) (body_bytes starts rule n) c.put_labels.new.draft c.put_labels.new.draft
    c.put_labels.result
    (c.put_labels.ensures q.names)
    c.in_err-end.was))

pub returns : goal.returns
returns c =
    let n = c.args.plan.count in
    let kind = kind_of c.args.plan.kind in
    λ q.
    let s = q.rules.in_words in
    let used-are = c.labels_used.ensures.0 _ _ s in
    let same : length c.labels_used.new.words ≡ length c.args.words.now = search rules in
    let on = set_of_eight_at c.labels_used.new.words used_at in
    let starts = set_of_eight_at c.labels_used.new.words start_types_at in
    let rule = rule_from q.rules in
    let names = q.names.first ++ q.names.second in
    subst (λ (b : List ℕ). TablePut c.args.draft.now 0 rule n b c.put_body.new.draft c.put_body.result)
    (table_bytes_lem s.table s.sets kind n names on starts q.same s.count_is used-are
    ∙ ap (λ (t : ℕ → Bool). table_bytes (table_by_sets s.table s.sets (pairs_within kind s.table) (keep t (numbers_below n))))
    (eight_before c.labels_used.ensures.1 start_types_at (omega arith)))
    (put_then c.args.draft.now 0 rule n (labels_bytes names on) (body_bytes starts rule n) c.put_labels.new.draft c.put_body.new.draft
    c.put_labels.result
    (c.put_labels.ensures q.names)
    c.in_ok-end.was
    c.put_body.result
    (c.put_body.ensures (record { rules = rules_stay q.rules c.labels_used.ensures.1 same; used_are = used-are })))
