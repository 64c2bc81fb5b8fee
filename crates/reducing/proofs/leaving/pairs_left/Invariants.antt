-- `pairs_left` meets its contract. The loop's invariant: the pairs seen are left, and the starts are among them. The measure is the
-- pairs still outside.
use Prim.Native.Nat.{◌-◌}
use mathlib.Core.Path.{◌≡◌}
use lib.ListN.{length}
use Rattle.grammar.specs.Table.{Table}
use Rattle.sets.specs.Sets.{member, size}
use Rattle.union.specs.View.{Views}
use Rattle.union.specs.PairNumbers.{fruitful_of, is_start}
use Rattle.union.specs.TypeLists.{ListsOf}
use Rattle.reducing.proofs.LeavingLaws.{SeenPairs}
use Rattle.reducing.proofs.leaving.pairs_left.Given as goal

abbrev pub invariant-loop-v : goal.invariant-loop-v
invariant-loop-v l =
    ((u : Table) → Views l.old l.add l.v u → ListsOf (fruitful_of u) l.lists → member l.initial.seen.words 0 ≡ is_start u
    → SeenPairs u (member l.seen.words 0))
    × (length l.seen.words ≡ 8)

abbrev pub decreases-loop-v : goal.decreases-loop-v
decreases-loop-v l = 256 - size (member l.seen.words 0) 256
