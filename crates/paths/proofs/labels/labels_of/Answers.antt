-- `labels_of` meets its contract. The loop's invariant is `LabelledTo`.
use native.Mathlib.Omega.{arith}
use mathlib.Core.Path.{refl, ◌∙◌}
use lib.ListN.{length-set}
use Rattle.paths.proofs.TypeLaws.{labelling_start, label_room, labelling_next}
use Rattle.paths.proofs.labels.labels_of.Goals as goal

pub loop-t-init : goal.loop-t-init
loop-t-init c = (refl, labelling_start _ _ _ _ _ _)

pub find-label-requires : goal.find-label-requires
find-label-requires c = label_room c.requires.1 c.requires.2 c.loop-t.invariant.1 c.loop-t-test.true (omega arith)

pub loop-t-preserved : goal.loop-t-preserved
loop-t-preserved c = (
  length-set c.loop-t.of _ _ ∙ c.loop-t.invariant.0,
  labelling_next c.requires.1 c.requires.2 c.loop-t.invariant.1 c.loop-t-test.true c.find-label.result c.find-label.ensures.found (omega arith)
      (omega arith) c.next_count-count.result c.next_count-count.ensures,
)
