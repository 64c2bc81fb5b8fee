-- `fruitful_pairs` meets its contract. The loop's invariant: the known pairs are fruitful. The measure is the pairs still outside.
use Prim.Native.Nat.{ℕ, ◌-◌}
use mathlib.Core.Bool.{true}
use mathlib.Core.Path.{◌≡◌}
use lib.ListN.{length}
use Rattle.grammar.specs.Lists.{is_in}
use Rattle.grammar.specs.Table.{Table}
use Rattle.grammar.specs.Normalise.{normalise}
use Rattle.grammar.specs.Reduce.{fruitful}
use Rattle.sets.specs.Sets.{member, size}
use Rattle.union.specs.View.{Views}
use Rattle.union.proofs.fruitful.fruitful_pairs.Given as goal

abbrev pub invariant-loop-v : goal.invariant-loop-v
invariant-loop-v l =
    ((u : Table) → Views l.old l.add l.v u → (p : ℕ) → member l.known.words 0 p ≡ true → is_in p (fruitful (normalise u)) ≡ true)
    × (length l.known.words ≡ 8)

abbrev pub decreases-loop-v : goal.decreases-loop-v
decreases-loop-v l = 256 - size (member l.known.words 0) 256
