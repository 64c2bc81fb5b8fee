-- `labels_of` meets its contract. The loop's invariant is `LabelledTo`.
use mathlib.Core.Path.{◌≡◌}
use lib.ListN.{length}
use Rattle.paths.specs.SampleNodes.{LabelledTo}
use Rattle.paths.proofs.labels.labels_of.Given as goal

abbrev pub invariant-loop-t : goal.invariant-loop-t
invariant-loop-t l = (length l.of ≡ 128) × LabelledTo l.s l.names l.sizes l.nodes l.of l.firsts l.count l.t
