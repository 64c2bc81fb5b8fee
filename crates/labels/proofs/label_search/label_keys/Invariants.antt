-- The loop's invariant: the keys of the names before `i` are put down.
use Prim.Native.Nat.{ℕ, ◌<◌}
use mathlib.Core.Path.{◌≡◌}
use lib.ListN.{length, get_or}
use Rattle.labels.specs.LabelKeys.{label_key}
use Rattle.labels.proofs.label_search.label_keys.Given as goal

abbrev pub invariant-loop-i : goal.invariant-loop-i
invariant-loop-i l = ((j : ℕ) → j < l.i → get_or l.keys j 0 ≡ label_key l.table l.index j) × (length l.keys ≡ 128)
