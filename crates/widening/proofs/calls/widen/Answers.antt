-- `calls::widen` meets its contract: too few words, or the words that are needed lent and then cleared, and what was made in a draft handed over.
use Prim.Native.Nat.{◌-◌}
use native.Mathlib.Omega.{arith}
use mathlib.Core.Path.{◌∙◌, refl}
use Rattle.results.specs.PlanKind.{kind_of}
use Rattle.drafting.specs.Drafting.{widened_from}
use Rattle.basis.proofs.WorkLaws.{lent_cleared}
use Rattle.widening.proofs.CallLaws as laws
use Rattle.drafting.proofs.DraftLaws as drafts
use Rattle.grammar.specs.LimitSets.{limits_of}
use Rattle.theory.proofs.Theorems.SizedPromises.{widening_sized}
use Rattle.widening.proofs.calls.widen.Goals as goal

pub returns-then-work-words : goal.returns-then-work-words
returns-then-work-words c =
    widening_sized c.limits_of-limits.ensures.limits
    (laws.widening_unanswered c.limits_of-limits.result c.args.classes.now (kind_of c.args.kind) c.args.source c.args.old.now c.args.addition.now c.args.out.now c.args.work.now c.if-work-words.true)

pub deliver-requires : goal.deliver-requires
deliver-requires c =
    (c.draft_widened-made.auto.draft, drafts.fits (widened_from (limits_of c.limits_of-limits.result) c.args.classes.now c.args.source (kind_of c.args.kind) c.args.old.now c.args.addition.now) _ c.draft_widened-made.result c.draft_widened-made.ensures)

pub returns : goal.returns
returns c =
    widening_sized c.limits_of-limits.ensures.limits
    (laws.widening_answered c.limits_of-limits.result c.args.classes.now (kind_of c.args.kind) c.args.source c.args.old.now c.args.addition.now c.args.out.now c.args.work.now c.if-work-words.false c.deliver.result _ _
    (c.deliver.ensures (widened_from (limits_of c.limits_of-limits.result) c.args.classes.now c.args.source (kind_of c.args.kind) c.args.old.now c.args.addition.now) c.draft_widened-made.ensures)
    ((c.clear_work.ensures (limits_of c.limits_of-limits.result) refl) ∙ lent_cleared (limits_of c.limits_of-limits.result) c.args.work.now c.draft_widened-made.new.words (c.limits_of-limits.result.words - 0) (omega arith) c.if-work-words.false c.draft_widened-made.auto.words))
