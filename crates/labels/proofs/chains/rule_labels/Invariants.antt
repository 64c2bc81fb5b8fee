-- The loop's invariant: the labels of the rules before `i` are put down.
use Prim.Native.Nat.{ℕ, ◌<◌}
use mathlib.Core.Path.{◌≡◌}
use lib.ListN.{length, get_or}
use Rattle.reader.specs.TableIndex.{rule_label}
use Rattle.labels.proofs.chains.rule_labels.Given as goal

abbrev pub invariant-loop-i : goal.invariant-loop-i
invariant-loop-i l = ((j : ℕ) → j < l.i → get_or l.labels j 0 ≡ rule_label l.index j) × (length l.labels ≡ 128)
