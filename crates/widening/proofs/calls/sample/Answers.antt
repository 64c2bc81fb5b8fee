-- `calls::sample` meets its contract: too few words, or the sample made in a draft and handed over.
use mathlib.Core.Path.{refl}
use Rattle.drafting.specs.Drafting.{sampled_from}
use Rattle.widening.proofs.CallLaws as laws
use Rattle.drafting.proofs.DraftLaws as drafts
use Rattle.grammar.specs.LimitSets.{limits_of}
use Rattle.theory.proofs.Theorems.SizedPromises.{sampling_sized}
use Rattle.widening.proofs.calls.sample.Goals as goal

pub returns-then-work-limits : goal.returns-then-work-limits
returns-then-work-limits c =
    sampling_sized c.limits_of-limits.ensures.limits (laws.sample_unanswered c.limits_of-limits.result c.args.classes.now c.args.format c.args.document.now c.args.out.now c.args.work.now c.if-work-limits.true)

pub deliver-requires : goal.deliver-requires
deliver-requires c =
    (c.draft_sample-made.auto.draft, drafts.fits (sampled_from (limits_of c.limits_of-limits.result) c.args.classes.now c.args.format c.args.document.now) _ c.draft_sample-made.result c.draft_sample-made.ensures)

pub returns : goal.returns
returns c =
    sampling_sized c.limits_of-limits.ensures.limits
    (laws.sample_answered c.limits_of-limits.result c.args.classes.now c.args.format c.args.document.now c.args.out.now c.args.work.now c.if-work-limits.false c.deliver.result _ _
    (c.deliver.ensures (sampled_from (limits_of c.limits_of-limits.result) c.args.classes.now c.args.format c.args.document.now) c.draft_sample-made.ensures) (c.clear_work.ensures (limits_of c.limits_of-limits.result) refl))
