-- `calls::lets_in` meets its contract: too few words, or the words that are needed lent and then cleared.
use native.Mathlib.Omega.{arith}
use mathlib.Core.Path.{◌∙◌, refl}
use Rattle.grammar.specs.LimitSets.{limits_of}
use Rattle.theory.proofs.Theorems.SizedPromises.{membership_sized}
use Rattle.basis.proofs.WorkLaws.{lent_cleared}
use Rattle.validator.proofs.VerdictLaws as laws
use Rattle.validator.proofs.calls.lets_in.Goals as goal

pub returns-then-work-limits : goal.returns-then-work-limits
returns-then-work-limits c =
    membership_sized c.limits_of-limits.ensures.limits (laws.lets_in_unanswered (limits_of c.limits_of-limits.result) c.args.classes.now c.args.table.now c.args.format c.args.document.now c.args.work.now c.if-work-limits.true)

pub returns : goal.returns
returns c =
    membership_sized c.limits_of-limits.ensures.limits
    (laws.lets_in_answered (limits_of c.limits_of-limits.result) c.args.classes.now c.args.table.now c.args.format c.args.document.now c.args.work.now c.if-work-limits.false _
    ((c.clear_work.ensures (limits_of c.limits_of-limits.result) refl) ∙ lent_cleared (limits_of c.limits_of-limits.result) c.args.work.now c.read_and_decide-answer.new.words c.limits_of-limits.result.words (omega arith) c.if-work-limits.false c.read_and_decide-answer.auto.words)
    c.read_and_decide-answer.result c.read_and_decide-answer.ensures)
