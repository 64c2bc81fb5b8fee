-- `set_label` meets its contract. The loop's invariant: no pair before `p` is in the set.
use Prim.Native.Nat.{ℕ, ◌<◌}
use mathlib.Core.Bool.{false}
use mathlib.Core.Path.{◌≡◌}
use Rattle.sets.specs.Sets.{member}
use Rattle.forms.proofs.label_sets.set_label.Given as goal

abbrev pub invariant-loop-p : goal.invariant-loop-p
invariant-loop-p l = (q : ℕ) → q < l.p → member l.set.words 0 q ≡ false
