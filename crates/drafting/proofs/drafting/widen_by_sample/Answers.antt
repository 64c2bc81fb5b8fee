-- `widen_by_sample` meets its contract: the refusal of the document or of its sample, else what widening by the sample made.
use native.Mathlib.Nat.{sub-zero}
use Rattle.results.specs.PlanKind.{kind_of}
use Rattle.drafting.specs.Drafting.{sample_of}
use Rattle.reader.proofs.AnswerLaws.{handed_on}
use Rattle.drafting.proofs.DraftLaws as laws
use Rattle.grammar.specs.LimitSets.{limits_of}
use Rattle.drafting.proofs.drafting.widen_by_sample.Goals as goal

pub slice_bounds-read_and_widen-end : goal.slice_bounds-read_and_widen-end
slice_bounds-read_and_widen-end c =
    laws.made_fits (sample_of (limits_of c.args.limits) c.args.classes.now c.args.format c.args.document.now) _ c.read_and_sample.result c.read_and_sample.ensures _ c.in_ok-n.was

pub returns-in_err-n : goal.returns-in_err-n
returns-in_err-n c =
    λ g held. rw (handed_on c.from_residual.result c.from_residual.ensures) (laws.sample_refuses c.args.limits c.args.classes.now (kind_of c.args.kind) g c.args.format c.args.document.now _ c.read_and_sample.result c.read_and_sample.ensures _ _ c.in_err-n.was)

pub returns : goal.returns
returns c =
    λ g held. laws.by_sample c.args.limits c.args.classes.now (kind_of c.args.kind) g c.args.format c.args.document.now _ c.read_and_sample.result c.read_and_sample.ensures _ _ c.in_ok-n.was _ (sub-zero _) c.read_and_widen.result (c.read_and_widen.ensures g held)
