-- `labels::name_place` meets its contract. The loop's invariant: no name before `i` is the same.
use Prim.Native.Nat.{ℕ, ◌+◌, ◌<◌}
use mathlib.Core.Bool.{false}
use mathlib.Core.Path.{◌≡◌}
use lib.ListN.{get_or}
use Rattle.grammar.specs.Names.{same_name}
use Rattle.reader.specs.TableIndex.{part}
use Rattle.reader.proofs.labels.name_place.Given as goal

abbrev pub invariant-loop-i : goal.invariant-loop-i
invariant-loop-i l = (k : ℕ) → k < l.i → same_name l.name (part l.s (get_or l.places k 0) (get_or l.places (128 + k) 0)) ≡ false
