-- `label_places::find_label` meets its contract.
use Rattle.reader.proofs.AnswerLaws.{handed_on}
use Rattle.reader.proofs.CallLaws.{table_there, find_unloaded, find_unread, find_past, find_at}
use Rattle.theory.proofs.Bytes.ClassLaws.{all_classed}
use mathlib.Core.Path.{sym, ◌∙◌}
use native.Mathlib.Omega.{arith}
use Rattle.theory.proofs.Tables.RoomierLimits.{within_large}
use Rattle.reader.proofs.LabelPlaceLaws.{label_short}
use Rattle.reader.proofs.label_places.find_label.Goals as goal

pub returns-then-not-classes_load : goal.returns-then-not-classes_load
returns-then-not-classes_load c =
    find_unloaded _ c.args.classes.now c.args.table.now c.args.label (sym c.classes_load.ensures ∙ c.if-not-classes_load.true)

pub read_table-requires : goal.read_table-requires
read_table-requires c =
    let all = all_classed c.args.classes.now (sym c.classes_load.ensures ∙ c.if-not-classes_load.false) in record { in_bounds = omega arith }

pub returns-then-label_count-label : goal.returns-then-label_count-label
returns-then-label_count-label c =
    find_past (within_large c.args.limits) _ (sym c.classes_load.ensures ∙ c.if-not-classes_load.false) _ c.args.label _ _ c.read_table.ensures c.in_ok-read_table.was (omega (arith, c.label_count.ensures, c.if-label_count-label.true))

pub name_begins-from-requires : goal.name_begins-from-requires
name_begins-from-requires c =
    record { some_held = (table_there (within_large c.args.limits) _ (sym c.classes_load.ensures ∙ c.if-not-classes_load.false) _ c.args.label _ _ c.read_table.ensures c.in_ok-read_table.was); label_bound = omega (arith, c.label_count.ensures, c.if-label_count-label.false) }

pub label_to-requires : goal.label_to-requires
label_to-requires c =
    let few = (table_there (within_large c.args.limits) _ (sym c.classes_load.ensures ∙ c.if-not-classes_load.false) _ c.args.label _ _ c.read_table.ensures c.in_ok-read_table.was).held.indexes.few_labels in omega (arith, c.label_count.ensures, c.if-label_count-label.false)

pub label_from-requires : goal.label_from-requires
label_from-requires c =
    let few = (table_there (within_large c.args.limits) _ (sym c.classes_load.ensures ∙ c.if-not-classes_load.false) _ c.args.label _ _ c.read_table.ensures c.in_ok-read_table.was).held.indexes.few_labels in omega (arith, c.label_count.ensures, c.if-label_count-label.false)

pub overflow_sub-result : goal.overflow_sub-result
overflow_sub-result c =
    let short = label_short (table_there (within_large c.args.limits) _ (sym c.classes_load.ensures ∙ c.if-not-classes_load.false) _ c.args.label _ _ c.read_table.ensures c.in_ok-read_table.was) c.args.label (omega (arith, c.label_count.ensures, c.if-label_count-label.false)) in omega (arith, short.0, c.label_to.ensures, c.label_from.ensures)

pub overflow_add-result : goal.overflow_add-result
overflow_add-result c =
    let short = label_short (table_there (within_large c.args.limits) _ (sym c.classes_load.ensures ∙ c.if-not-classes_load.false) _ c.args.label _ _ c.read_table.ensures c.in_ok-read_table.was) c.args.label (omega (arith, c.label_count.ensures, c.if-label_count-label.false)) in omega (arith, short.1, c.label_to.ensures, c.label_from.ensures, c.name_begins-from.ensures.upper_bound)

pub returns-in_err-read_table : goal.returns-in_err-read_table
returns-in_err-read_table c =
    rw (handed_on _ c.from_residual.ensures) (find_unread (within_large c.args.limits) _ (sym c.classes_load.ensures ∙ c.if-not-classes_load.false) _ c.args.label _ _ c.read_table.ensures _ c.in_err-read_table.was)

pub returns : goal.returns
returns c =
    find_at (within_large c.args.limits) _ (sym c.classes_load.ensures ∙ c.if-not-classes_load.false) _ c.args.label _ _ c.read_table.ensures c.in_ok-read_table.was (omega (arith, c.label_count.ensures, c.if-label_count-label.false)) (λ i. (c.shared_slice_known-2-1.given i).fits) c.name_begins-from.result c.name_begins-from.ensures.value _ c.label_to.ensures _ c.label_from.ensures
