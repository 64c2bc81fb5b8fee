-- `set_number` meets its contract. The loop's invariant: no set before `i` is the same.
use Prim.Native.Nat.{ℕ, ◌<◌}
use mathlib.Core.Path.{◌≡◌}
use Rattle.sets.specs.Sets.{member}
use Rattle.forms.specs.SetWords.{set_in}
use Rattle.forms.proofs.set_words.set_number.Given as goal

abbrev pub invariant-loop-i : goal.invariant-loop-i
invariant-loop-i l = (j : ℕ) → j < l.i → set_in l.words j ≡ member l.set.words 0 → ⊥
