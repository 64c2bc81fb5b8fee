-- `calls::is_local` meets its contract: too few words, or the table read and tested.
use mathlib.Core.Path.{refl}
use Rattle.grammar.specs.Kinds.{local}
use Rattle.grammar.specs.LimitSets.{limits_of}
use Rattle.theory.proofs.Theorems.SizedPromises.{kind_sized}
use Rattle.validator.proofs.VerdictLaws as laws
use Rattle.validator.proofs.calls.is_local.Goals as goal

pub returns-then-work-limits : goal.returns-then-work-limits
returns-then-work-limits c =
    kind_sized c.limits_of-limits.ensures.limits (laws.kind_unanswered (limits_of c.limits_of-limits.result) c.args.classes.now local c.args.table.now c.args.work.now c.if-work-limits.true)

pub returns : goal.returns
returns c =
    kind_sized c.limits_of-limits.ensures.limits
    (laws.kind_answered (limits_of c.limits_of-limits.result) c.args.classes.now local c.args.table.now c.args.work.now c.if-work-limits.false _ (c.clear_work.ensures (limits_of c.limits_of-limits.result) refl)
    c.read_and_test_local-answer.result c.read_and_test_local-answer.ensures)
