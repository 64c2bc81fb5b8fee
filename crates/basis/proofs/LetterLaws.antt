-- Capitals, and the small letters that they become.
use Prim.Native.Nat.{ℕ, ◌%◌}
use native.Mathlib.Omega.{arith}
use mathlib.Core.Bool.{Bool, true, false}
use mathlib.Core.Path.{◌≡◌, refl, sym, ◌∙◌, ap}
use lib.Dec.{eqb}
use borrow.Author.Tests.{ne_eqb}
use Rattle.grammar.specs.Names.{is_capital, small_letter}

-- a letter has one remainder as a capital and as a small letter
pub small_remainder : (b : ℕ) → small_letter b % 32 ≡ b % 32
unfolding small_letter
small_remainder b = go (is_capital b) refl
  where
    go : (t : Bool) → is_capital b ≡ t → small_letter b % 32 ≡ b % 32
    go true e = rw (small_letter, e) (omega arith)
    go false e = rw (small_letter, e) refl

pub letters_apart : (a b : ℕ) → (a % 32 ≡ b % 32 → ⊥) → false ≡ eqb (small_letter a) (small_letter b)
letters_apart a b h =
    sym
    (ne_eqb (small_letter a) (small_letter b)
    (λ e. h (sym (small_remainder a) ∙ ap (λ (n : ℕ). n % 32) e ∙ small_remainder b)))
