-- `calls::is_single_type` meets its contract: too few words, or the words that are needed lent and then cleared.
use Rattle.grammar.specs.Kinds.{single_type}
use native.Mathlib.Omega.{arith}
use mathlib.Core.Path.{◌∙◌, refl}
use Rattle.grammar.specs.LimitSets.{limits_of}
use Rattle.theory.proofs.Theorems.SizedPromises.{kind_sized}
use Rattle.basis.proofs.WorkLaws.{lent_cleared}
use Rattle.validator.proofs.VerdictLaws as laws
use Rattle.validator.proofs.calls.is_single_type.Goals as goal

pub returns-then-work-limits : goal.returns-then-work-limits
returns-then-work-limits c =
    kind_sized c.limits_of-limits.ensures.limits (laws.kind_unanswered (limits_of c.limits_of-limits.result) c.args.classes.now single_type c.args.table.now c.args.work.now c.if-work-limits.true)

pub returns : goal.returns
returns c =
    kind_sized c.limits_of-limits.ensures.limits
    (laws.kind_answered (limits_of c.limits_of-limits.result) c.args.classes.now single_type c.args.table.now c.args.work.now c.if-work-limits.false _
    ((c.clear_work.ensures (limits_of c.limits_of-limits.result) refl) ∙ lent_cleared (limits_of c.limits_of-limits.result) c.args.work.now c.read_and_test_single_type-answer.new.words c.limits_of-limits.result.words (omega arith) c.if-work-limits.false c.read_and_test_single_type-answer.auto.words)
    c.read_and_test_single_type-answer.result c.read_and_test_single_type-answer.ensures)
