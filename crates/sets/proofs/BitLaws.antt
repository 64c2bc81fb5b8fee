-- Bits of numbers. Main statements: `bit_or_lem` (a bit of x | y), `bit_one` (a bit of 1 << j), `bit_zero` (of 0), and `bits_differ`
-- (two different numbers below 2 ^ n have a bit below n in which they differ).
use Prim.Native.Nat.{ℕ, zero, suc, ◌*◌, ◌/◌, ◌%◌, ◌^◌, ◌<◌, suc-le-suc}
use mathlib.Core.Bool.{Bool, true, false, ◌||◌, true≢false}
use mathlib.Core.Path.{◌≡◌, refl, sym, ap, ◌∙◌}
use native.Mathlib.Nat.{div-one, zero-div, mod-lt, pow-suc, one-mul, zero-lt-suc, suc-add, zero-add, le_refl}
use native.Mathlib.Omega.{arith}
use lib.Arith.{lt-one}
use lib.Bits.{bit_or, or_shr, or_mod, shifted_half, shifted_even}
use lib.Dec.{eqb, eqb-zero-suc, eqb-suc-zero, eqb-suc-suc}
use lib.Pow.{shr-shr, shl_exact}
use borrow.Author.Tests.{eqb-true, eqb-false}
use Rattle.sets.specs.Sets.{bit_of}

digit_or : (x y : ℕ) → x < 2 → y < 2 → eqb (bit_or x y) 1 ≡ (eqb x 1 || eqb y 1)
digit_or zero zero hx hy = refl
digit_or zero (suc zero) hx hy = refl
digit_or zero (suc (suc y)) hx hy = refl
digit_or (suc zero) zero hx hy = refl
digit_or (suc zero) (suc zero) hx hy = refl
digit_or (suc zero) (suc (suc y)) hx hy = absurd (omega arith)
digit_or (suc (suc x)) y hx hy = absurd (omega arith)

-- a bit of x | y
pub bit_or_lem : (x y k : ℕ) → bit_of (bit_or x y) k ≡ (bit_of x k || bit_of y k)
unfolding bit_of
bit_or_lem x y k =
    ap (λ (n : ℕ). eqb (n % 2) 1) (or_shr x y k) ∙ ap (λ (n : ℕ). eqb n 1) (or_mod (x / 2 ^ k) (y / 2 ^ k) 1)
    ∙ digit_or (x / 2 ^ k % 2) (y / 2 ^ k % 2) (mod-lt (x / 2 ^ k) (zero-lt-suc 1)) (mod-lt (y / 2 ^ k) (zero-lt-suc 1))

-- 0 has no bit
pub bit_zero : (k : ℕ) → bit_of 0 k ≡ false
unfolding bit_of
bit_zero k = ap (λ (n : ℕ). eqb (n % 2) 1) (zero-div (2 ^ k))

-- the lowest bit, and the others
pub bit_first : (x : ℕ) → bit_of x 0 ≡ eqb (x % 2) 1
unfolding bit_of
bit_first x = ap (λ (n : ℕ). eqb (n % 2) 1) (div-one x)

pub bit_next : (x k : ℕ) → bit_of x (suc k) ≡ bit_of (x / 2) k
unfolding bit_of
bit_next x k =
    ap (λ (n : ℕ). eqb (x / 2 ^ n % 2) 1) (sym (suc-add 0 k ∙ ap suc (zero-add k)))
    ∙ ap (λ (n : ℕ). eqb (n % 2) 1) (sym (shr-shr x 1 k))

half_power : (j : ℕ) → 2 ^ suc j / 2 ≡ 2 ^ j
half_power j = ap (λ (n : ℕ). n / 2) (sym (one-mul (2 ^ suc j))) ∙ shifted_half 1 j ∙ one-mul (2 ^ j)

even_power : (j : ℕ) → 2 ^ suc j % 2 ≡ 0
even_power j = ap (λ (n : ℕ). n % 2) (sym (one-mul (2 ^ suc j))) ∙ shifted_even 1 j

-- 1 << j has bit j alone
pub bit_one : (j k : ℕ) → bit_of (2 ^ j) k ≡ eqb k j
bit_one zero zero = bit_first 1
bit_one zero (suc k) = bit_next 1 k ∙ bit_zero k ∙ sym (eqb-suc-zero k)
bit_one (suc j) zero = bit_first (2 ^ suc j) ∙ ap (λ (n : ℕ). eqb n 1) (even_power j) ∙ sym (eqb-zero-suc j)
bit_one (suc j) (suc k) =
    bit_next (2 ^ suc j) k ∙ ap (λ (n : ℕ). bit_of n k) (half_power j) ∙ bit_one j k ∙ sym (eqb-suc-suc k j)

-- what the code's 1 << k computes
pub one_shifted : (k : ℕ) → k < 32 → 1 * 2 ^ k % 2 ^ 32 ≡ 2 ^ k
one_shifted k h = shl_exact {a = 1} 1 k 32 (suc-le-suc (le_refl 1)) (omega arith) ∙ one-mul (2 ^ k)

same_digit : (x y : ℕ) → x < 2 → y < 2 → eqb x 1 ≡ eqb y 1 → x ≡ y
same_digit zero zero hx hy e = refl
same_digit zero (suc zero) hx hy e = absurd (true≢false (sym e))
same_digit zero (suc (suc y)) hx hy e = absurd (omega arith)
same_digit (suc zero) zero hx hy e = absurd (true≢false e)
same_digit (suc zero) (suc zero) hx hy e = refl
same_digit (suc zero) (suc (suc y)) hx hy e = absurd (omega arith)
same_digit (suc (suc x)) y hx hy e = absurd (omega arith)

half_below : (n x : ℕ) → x < 2 ^ suc n → x / 2 < 2 ^ n
half_below n x h = let e : 2 ^ suc n ≡ 2 ^ n * 2 = pow-suc 2 n in omega arith

-- two different numbers below 2 ^ n differ in a bit below n
pub bits_differ : (n x y : ℕ) → x < 2 ^ n → y < 2 ^ n → (x ≡ y → ⊥) → (k : ℕ) × (k < n) × (bit_of x k ≡ bit_of y k → ⊥)
bits_differ zero x y hx hy d = absurd (d (lt-one hx ∙ sym (lt-one hy)))
bits_differ (suc n) x y hx hy d = go (eqb (x % 2) (y % 2)) refl (bits_differ n (x / 2) (y / 2) (half_below n x hx) (half_below n y hy))
  where
    go : (b : Bool) → eqb (x % 2) (y % 2) ≡ b
        → ((x / 2 ≡ y / 2 → ⊥) → (k : ℕ) × (k < n) × (bit_of (x / 2) k ≡ bit_of (y / 2) k → ⊥))
        → (k : ℕ) × (k < suc n) × (bit_of x k ≡ bit_of y k → ⊥)
    go false e later = (
      0,
      zero-lt-suc n,
      λ q. eqb-false (x % 2) (y % 2) e
          (same_digit (x % 2) (y % 2) (mod-lt x (zero-lt-suc 1)) (mod-lt y (zero-lt-suc 1)) (sym (bit_first x) ∙ q ∙ bit_first y)),
    )
    go true e later =
        let low : x % 2 ≡ y % 2 = eqb-true (x % 2) (y % 2) e in
        let (k, below, apart) = later (λ h. d (omega arith)) in
        (suc k, omega arith, λ q. apart (sym (bit_next x k) ∙ q ∙ bit_next y k))
