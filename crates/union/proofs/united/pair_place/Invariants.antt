-- `pair_place` meets its contract. The loop's invariant: no rule before `i` is of the pair.
use Prim.Native.Nat.{ℕ, ◌<◌}
use mathlib.Core.Bool.{false, ◌&&◌}
use mathlib.Core.Path.{◌≡◌}
use lib.ListN.{get_or}
use lib.Dec.{eqb}
use Rattle.union.proofs.united.pair_place.Given as goal

abbrev pub invariant-loop-i : goal.invariant-loop-i
invariant-loop-i l = (k : ℕ) → k < l.i → (eqb l.ty (get_or l.v.types k 0) && eqb l.label (get_or l.v.labels k 0)) ≡ false
