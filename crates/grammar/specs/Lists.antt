-- Words for lists that the other definitions use. Each goes from front to back.
use Rattle.std.specs.Prelude.{ℕ, zero, suc, ◌+◌, Bool, false, ◌&&◌, ◌||◌, eqb}
use Rattle.std.proofs.Math.Bool.{true, not}
use mathlib.Core.List.{List, [], ◌∷◌, ◌++◌}

module _ {A : Type 0} where
  -- some element passes the test
  unfoldable pub any_pass : (A → Bool) → List A → Bool
  any_pass test [] = false
  any_pass test (x ∷ xs) = test x || any_pass test xs

  -- every element passes the test
  unfoldable pub all_pass : (A → Bool) → List A → Bool
  all_pass test [] = true
  all_pass test (x ∷ xs) = test x && all_pass test xs

  -- the elements that pass the test, in order
  unfoldable pub keep : (A → Bool) → List A → List A
  keep test [] = []
  keep test (x ∷ xs) = elim (test x) [ true ↦ x ∷ keep test xs | false ↦ keep test xs ]

  -- of elements that are the same, the first
  unfoldable pub distinct : (A → A → Bool) → List A → List A
  unfolding keep
  distinct same [] = []
  distinct same (x ∷ xs) = x ∷ keep (λ y. not (same x y)) (distinct same xs)

  -- no two elements are the same
  unfoldable pub all_distinct : (A → A → Bool) → List A → Bool
  unfolding any_pass
  all_distinct same [] = true
  all_distinct same (x ∷ xs) = not (any_pass (same x) xs) && all_distinct same xs

  -- the position of the first element that is the same; the length where there is none
  unfoldable pub place : (A → A → Bool) → A → List A → ℕ
  place same x [] = zero
  place same x (y ∷ ys) = elim (same x y) [ true ↦ zero | false ↦ suc (place same x ys) ]

module _ {A B : Type 0} where
  -- the lists that the elements give, joined in order
  unfoldable pub joined_of : (A → List B) → List A → List B
  joined_of f [] = []
  joined_of f (x ∷ xs) = f x ++ joined_of f xs

-- a number among numbers
unfoldable pub is_in : ℕ → List ℕ → Bool
unfolding any_pass
is_in n = any_pass (eqb n)

-- equal lists of numbers
unfoldable pub same_numbers : List ℕ → List ℕ → Bool
same_numbers [] [] = true
same_numbers [] (n ∷ ns) = false
same_numbers (m ∷ ms) [] = false
same_numbers (m ∷ ms) (n ∷ ns) = eqb m n && same_numbers ms ns

-- n numbers from `from` upwards
unfoldable pub numbers_from : ℕ → ℕ → List ℕ
numbers_from from zero = []
numbers_from from (suc n) = from ∷ numbers_from (suc from) n

-- the numbers below n, ascending
unfoldable pub numbers_below : ℕ → List ℕ
unfolding numbers_from
numbers_below n = numbers_from zero n
