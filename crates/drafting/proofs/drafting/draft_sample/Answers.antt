-- `draft_sample` meets its contract: the refusal of the classes, else what the document gives.
use Rattle.basis.proofs.LoadedClasses.{does_load, does_not_load}
use Rattle.drafting.proofs.DraftLaws as laws
use Rattle.drafting.proofs.drafting.draft_sample.Goals as goal

pub returns-then-not-classes_load : goal.returns-then-not-classes_load
returns-then-not-classes_load c =
    laws.sampled_unloaded c.args.limits c.args.classes.now (does_not_load c.args.classes.now c.classes_load.ensures c.if-not-classes_load.true-raw) _ c.args.format c.args.document.now

pub read_and_sample-requires : goal.read_and_sample-requires
read_and_sample-requires c =
    record { loads = does_load c.args.classes.now c.classes_load.ensures c.if-not-classes_load.false-raw; within = c.requires }

pub returns : goal.returns
returns c =
    laws.sampled_loaded c.args.limits c.args.classes.now (does_load c.args.classes.now c.classes_load.ensures c.if-not-classes_load.false-raw) c.args.format c.args.document.now _ c.read_and_sample.result c.read_and_sample.ensures
