-- The tests of grammar's lists as std has them.
use Rattle.std.proofs.Common.{ℕ, zero, suc, ◌+◌, ◌≤◌, Bool, ◌&&◌, ◌||◌, List, [], ◌∷◌, ◌≡◌, refl, ◌∙◌, ap, ap₂, arith, length, get_or, take}
use Rattle.std.specs.List.{list_any, list_all}
use Rattle.grammar.specs.Lists.{any_pass, all_pass, numbers_from, numbers_below}

module _ {A : Type 0} (test : A → Bool) where
  pub any_listed : (l : List A) → list_any test l ≡ any_pass test l
  unfolding any_pass
  any_listed [] = refl
  any_listed (x ∷ l) = ap (λ (t : Bool). test x || t) (any_listed l)

  pub all_listed : (l : List A) → list_all test l ≡ all_pass test l
  unfolding all_pass
  all_listed [] = refl
  all_listed (x ∷ l) = ap (λ (t : Bool). test x && t) (all_listed l)

-- a test of the elements before a place, and of the places
pub all_below : (test : ℕ → Bool) (l : List ℕ) (n : ℕ) → n ≤ length l
    → list_all test (take n l) ≡ all_pass (λ i. test (get_or l i 0)) (numbers_below n)
unfolding all_pass numbers_below numbers_from
all_below test l n h = from l 0 n (λ k. ap (λ (i : ℕ). get_or l i 0) (omega arith)) h
  where
    from : (rest : List ℕ) (i n : ℕ) → ((k : ℕ) → get_or rest k 0 ≡ get_or l (i + k) 0) → n ≤ length rest
        → list_all test (take n rest) ≡ all_pass (λ i. test (get_or l i 0)) (numbers_from i n)
    from rest i zero e h = refl
    from [] i (suc n) e h = absurd (omega arith)
    from (x ∷ rest) i (suc n) e h =
        ap₂ (λ (s t : Bool). s && t) (ap test (e 0 ∙ ap (λ (n : ℕ). get_or l n 0) (omega arith))) (from rest (suc i) n (λ k. e (suc k) ∙ ap (λ (n : ℕ). get_or l n 0) (omega arith)) (omega arith))
