-- `parents_of` meets its contract. The loop's invariant is `Passing`.
use mathlib.Core.Path.{◌≡◌}
use lib.ListN.{length}
use Rattle.paths.specs.SampleNodes.{CountedTree}
use Rattle.paths.proofs.ParentLaws.{Passing}
use Rattle.paths.proofs.parents.parents_of.Given as goal

abbrev pub invariant-loop-i : goal.invariant-loop-i
invariant-loop-i l =
    (length l.parents ≡ 2048) × (length l.pending ≡ 2048) × ((q : CountedTree l.shapes l.nodes) → Passing q.list l.parents l.pending l.top l.i)
