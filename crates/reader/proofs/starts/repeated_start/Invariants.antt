-- `starts::repeated_start` meets its contract. The loop's invariant: no start before `i` is of the type.
use Prim.Native.Nat.{ℕ, ◌<◌}
use mathlib.Core.Bool.{false}
use mathlib.Core.Path.{◌≡◌}
use lib.Dec.{eqb}
use Rattle.reader.specs.TableIndex.{start_type}
use Rattle.reader.proofs.starts.repeated_start.Given as goal

abbrev pub invariant-loop-i : goal.invariant-loop-i
invariant-loop-i l = (k : ℕ) → k < l.i → eqb l.ty (start_type l.index k) ≡ false
