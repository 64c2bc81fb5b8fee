-- Sets with the keys of the numbers that are on: one number more (`puts_next`), what is in them (`puts_was`, `puts_has`,
-- `puts_keeps`).
use Prim.Native.Nat.{ℕ, zero, suc, ◌+◌, ◌-◌, ◌*◌, ◌<◌}
use native.Mathlib.Omega.{arith}
use native.Mathlib.Numerals.{add-one}
use mathlib.Core.Bool.{Bool, true, false, ◌||◌}
use mathlib.Core.List.{List}
use mathlib.Core.Logic.{◌⊎◌, inl, inr, ⊎_elim}
use mathlib.Core.Path.{◌≡◌, refl, sym, ◌∙◌, ap, ap₂, subst}
use lib.ListN.{length}
use lib.Dec.{eqb}
use borrow.Author.Tests.{eqb-true, eq-eqb, eqb-false}
use Rattle.theory.proofs.Lists.BoolLaws.{passes_or_fails, or_cases, or_left, or_right}
use Rattle.sets.specs.Sets.{member, put_at, add, size, Compares}
use Rattle.sets.proofs.SizeLaws.{size_le, size_compares}
use Rattle.sets.proofs.SetLaws.{member_put, length_put}
use Rattle.union.specs.Rounds.{put_if, puts}

module _ (on : ℕ → Bool) (key : ℕ → ℕ) (base : ℕ → Bool) where
  next_on : (n : ℕ) → on n ≡ true → puts on key base (suc n) ≡ add (key n) (puts on key base n)
  unfolding puts
  next_on n e = ap (λ (b : Bool). put_if b (key n) (puts on key base n)) e

  next_off : (n : ℕ) → on n ≡ false → puts on key base (suc n) ≡ puts on key base n
  unfolding puts
  next_off n e = ap (λ (b : Bool). put_if b (key n) (puts on key base n)) e

  pub puts_next : (n : ℕ) → puts on key base (n + 1) ≡ put_if (on n) (key n) (puts on key base n)
  unfolding puts
  puts_next n = ap (puts on key base) (add-one n)

  pub puts_none : puts on key base 0 ≡ base
  unfolding puts
  puts_none = refl

  -- a number with this key is on
  pub record WasPut (n p : ℕ) : Type 0 where
    pub number : ℕ
    pub below : number < n
    pub is_on : on number ≡ true
    pub keyed : key number ≡ p

  later : {n p : ℕ} → WasPut n p → WasPut (suc n) p
  later q = record { number = q.number; below = omega arith; is_on = q.is_on; keyed = q.keyed }

  pub puts_was : (n p : ℕ) → puts on key base n p ≡ true → (base p ≡ true) ⊎ WasPut n p
  unfolding puts
  puts_was zero p e = inl e
  puts_was (suc n) p e = go (passes_or_fails (on n)) (λ h. puts_was n p h)
    where
      go : (on n ≡ true) ⊎ (on n ≡ false) → (puts on key base n p ≡ true → (base p ≡ true) ⊎ WasPut n p)
          → (base p ≡ true) ⊎ WasPut (suc n) p
      go (inl t) ih =
          let f : (eqb p (key n) || puts on key base n p) ≡ true = ap (λ (s : ℕ → Bool). s p) (sym (next_on n t)) ∙ e in
          ⊎_elim
          (λ h. inr (record { number = n; below = omega arith; is_on = t; keyed = sym (eqb-true p (key n) h) }))
          (λ h. ⊎_elim (λ b. inl b) (λ q. inr (later q)) (ih h))
          (or_cases (eqb p (key n)) (puts on key base n p) f)
      go (inr t) ih = ⊎_elim (λ b. inl b) (λ q. inr (later q)) (ih (ap (λ (s : ℕ → Bool). s p) (sym (next_off n t)) ∙ e))

  grows : (n p : ℕ) → puts on key base n p ≡ true → puts on key base (suc n) p ≡ true
  grows n p h = go (passes_or_fails (on n))
    where
      go : (on n ≡ true) ⊎ (on n ≡ false) → puts on key base (suc n) p ≡ true
      go (inl t) = ap (λ (s : ℕ → Bool). s p) (next_on n t) ∙ or_right (eqb p (key n)) (puts on key base n p) h
      go (inr t) = ap (λ (s : ℕ → Bool). s p) (next_off n t) ∙ h

  pub puts_keeps : (n p : ℕ) → base p ≡ true → puts on key base n p ≡ true
  unfolding puts
  puts_keeps zero p h = h
  puts_keeps (suc n) p h = grows n p (puts_keeps n p h)

  pub puts_has : (n i : ℕ) → i < n → on i ≡ true → puts on key base n (key i) ≡ true
  puts_has zero i h e = absurd (omega arith)
  puts_has (suc n) i h e = go (passes_or_fails (eqb i n)) (λ k. puts_has n i k e)
    where
      go : (eqb i n ≡ true) ⊎ (eqb i n ≡ false) → (i < n → puts on key base n (key i) ≡ true) → puts on key base (suc n) (key i) ≡ true
      go (inl t) ih =
          let q : i ≡ n = eqb-true i n t in
          ap (λ (s : ℕ → Bool). s (key i)) (next_on n (ap on (sym q) ∙ e))
          ∙ or_left (eqb (key i) (key n)) (puts on key base n (key i)) (eq-eqb (key i) (key n) (ap key q))
      go (inr t) ih = let d = eqb-false i n t in grows n (key i) (ih (omega arith))

-- one number put into a set of words, or not
pub put_in : (on : Bool) (words more : List ℕ) (k : ℕ) → on ≡ true → more ≡ put_at words 0 k → k < 256 → length words ≡ 8
    → (member more 0 ≡ put_if on k (member words 0)) × (length more ≡ 8)
unfolding put_if
put_in on words more k e m small l = (
  ap (λ (w : List ℕ). member w 0) m
      ∙ member_put words 0 k (omega arith)
      ∙ sym (ap (λ (b : Bool). put_if b k (member words 0)) e),
  ap length m ∙ length_put words 0 k ∙ l,
)

pub put_out : (on : Bool) (words : List ℕ) (k : ℕ) → on ≡ false → member words 0 ≡ put_if on k (member words 0)
unfolding put_if
put_out on words k e = sym (ap (λ (b : Bool). put_if b k (member words 0)) e)

-- a loop that puts keys into a set of words
module _ (on : ℕ → Bool) (key : ℕ → ℕ) (base : ℕ → Bool) where
  pub puts_start : (words : List ℕ) → member words 0 ≡ base → member words 0 ≡ puts on key base 0
  puts_start words e = e ∙ sym (puts_none on key base)

  pub puts_step : (i : ℕ) (words more : List ℕ) (b : Bool) (k : ℕ) → member words 0 ≡ puts on key base i
      → member more 0 ≡ put_if b k (member words 0)
      → b ≡ on i
      → k ≡ key i
      → member more 0 ≡ puts on key base (i + 1)
  puts_step i words more b k e f p q =
      f
      ∙ ap (put_if b k) e
      ∙ ap₂ (λ (c : Bool) (j : ℕ). put_if c j (puts on key base i)) p q
      ∙ sym (puts_next on key base i)

-- a larger set leaves fewer outside
pub fewer_outside : (a b : List ℕ) (r : Bool) → Compares a b r → ((j : ℕ) → member a 0 j ≡ true → member b 0 j ≡ true) → r ≡ false
    → length a ≡ 8
    → 256 - size (member b 0) 256 < 256 - size (member a 0) 256
fewer_outside a b r c h e l =
    let n : 32 * length a ≡ 256 = omega arith in
    let g = subst (λ (m : ℕ). size (member a 0) m < size (member b 0) m) n (size_compares c h e) in
    let s = size_le (member b 0) 256 in
    omega arith
