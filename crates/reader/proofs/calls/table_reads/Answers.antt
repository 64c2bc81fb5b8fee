-- `calls::table_reads` meets its contract.
use Rattle.reader.proofs.CallLaws.{table_unanswered, table_unloaded, table_answered}
use Rattle.theory.proofs.Bytes.ClassLaws.{all_classed}
use mathlib.Core.Path.{refl, sym, ◌∙◌}
use native.Mathlib.Omega.{arith}
use Rattle.grammar.specs.LimitSets.{limits_of}
use Rattle.theory.proofs.Theorems.SizedPromises.{table_sized}
use Rattle.reader.proofs.calls.table_reads.Goals as goal

pub returns-then-work-limits : goal.returns-then-work-limits
returns-then-work-limits c =
    table_sized c.limits_of-limits.ensures.limits (table_unanswered (limits_of c.limits_of-limits.result) c.args.classes.now c.args.table.now c.args.work.now c.if-work-limits.true)

pub returns-then-not-classes_load : goal.returns-then-not-classes_load
returns-then-not-classes_load c =
    table_sized c.limits_of-limits.ensures.limits (table_unloaded (limits_of c.limits_of-limits.result) c.args.classes.now c.args.table.now c.args.work.now c.if-work-limits.false _ (c.clear_work.ensures (limits_of c.limits_of-limits.result) refl) (sym c.classes_load.ensures ∙ c.if-not-classes_load.true))

pub read_table-requires : goal.read_table-requires
read_table-requires c =
    let all = all_classed c.args.classes.now (sym c.classes_load.ensures ∙ c.if-not-classes_load.false) in record { in_bounds = omega arith }

pub returns : goal.returns
returns c =
    table_sized c.limits_of-limits.ensures.limits (table_answered (limits_of c.limits_of-limits.result) c.args.classes.now c.args.table.now c.args.work.now c.if-work-limits.false _ (c.clear_work.ensures (limits_of c.limits_of-limits.result) refl) (sym c.classes_load.ensures ∙ c.if-not-classes_load.false) _ c.read_table.ensures.answer)
