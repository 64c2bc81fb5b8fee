-- `walked_through` meets its contract: the children from here on, walked over the marks of now, are all children walked over the marks of
-- the beginning.
use Prim.Native.Nat.{◌+◌, ◌*◌, ◌-◌}
use mathlib.Core.Bool.{true}
use mathlib.Core.Path.{◌≡◌}
use lib.Dec.{eqb}
use lib.ListN.{length}
use Rattle.walks.specs.TypeSets.{tests_at}
use Rattle.walks.specs.WalkAt.{walks_at}
use Rattle.walks.proofs.matching.walked_through.Given as goal

abbrev pub invariant-loop-i : goal.invariant-loop-i
invariant-loop-i l =
    (length l.marks ≡ length l.initial.marks)
    × (walks_at l.content l.marks (eqb l.i 0) (tests_at l.words (l.top + 4 * l.i) (l.count - l.i)) ≡ walks_at l.content l.initial.marks true (tests_at l.words l.top l.count))
