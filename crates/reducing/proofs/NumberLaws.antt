-- Lists over the numbers below a bound, one number more at a time, and sets with the numbers of a list.
use Prim.Native.Nat.{ℕ, ◌+◌, ◌<◌}
use native.Mathlib.Omega.{arith}
use mathlib.Core.Bool.{Bool, true, false, ◌||◌, or-false as or_nothing}
use mathlib.Core.List.{List, [], ◌∷◌, ◌++◌}
use mathlib.Core.Path.{◌≡◌, refl, sym, ◌∙◌, ap, ap₂, fun_ext}
use lib.ListN.{length}
use lib.Dec.{eqb}
use Rattle.grammar.specs.Lists.{keep, joined_of, is_in, numbers_below}
use Rattle.theory.specs.Alternatives.{only_if}
use Rattle.theory.proofs.Lists.BoolLaws.{or_turn}
use Rattle.theory.proofs.Lists.ListLaws.{keep_yes, keep_no, in_append, numbers_end}
use Rattle.theory.proofs.Lists.DistinctLaws.{keep_append}
use Rattle.sets.specs.Sets.{member, put_at, in_either}
use Rattle.sets.proofs.SetLaws.{member_put, length_put}

-- the lists of the elements that pass, joined
pub joined_only : {A B : Type 0} (test : A → Bool) (f : A → List B) (xs : List A)
    → joined_of (λ x. only_if (test x) (f x)) xs ≡ joined_of f (keep test xs)
unfolding joined_of keep only_if
joined_only test f [] = refl
joined_only {B = B} test f (x ∷ xs) = go (test x) refl (joined_only test f xs)
  where
    go : (b : Bool) → test x ≡ b → joined_of (λ y. only_if (test y) (f y)) xs ≡ joined_of f (keep test xs)
        → joined_of (λ y. only_if (test y) (f y)) (x ∷ xs) ≡ joined_of f (keep test (x ∷ xs))
    go true e ih =
        ap (λ (c : Bool). only_if c (f x) ++ joined_of (λ y. only_if (test y) (f y)) xs) e
        ∙ ap (λ (l : List B). f x ++ l) ih
        ∙ sym (ap (joined_of f) (keep_yes test x xs e))
    go false e ih =
        ap (λ (c : Bool). only_if c (f x) ++ joined_of (λ y. only_if (test y) (f y)) xs) e
        ∙ ih
        ∙ sym (ap (joined_of f) (keep_no test x xs e))

-- one number more
keep_one : (test : ℕ → Bool) (n : ℕ) → keep test (n ∷ []) ≡ only_if (test n) (n ∷ [])
unfolding keep only_if
keep_one test n = go (test n) refl
  where
    go : (b : Bool) → test n ≡ b → keep test (n ∷ []) ≡ only_if (test n) (n ∷ [])
    go true e = keep_yes test n [] e ∙ sym (ap (λ (c : Bool). only_if c (n ∷ [])) e)
    go false e = keep_no test n [] e ∙ sym (ap (λ (c : Bool). only_if c (n ∷ [])) e)

pub keep_next : (test : ℕ → Bool) (n : ℕ)
    → keep test (numbers_below (n + 1)) ≡ keep test (numbers_below n) ++ only_if (test n) (n ∷ [])
keep_next test n =
    ap (keep test) (numbers_end n)
    ∙ keep_append test (numbers_below n) (n ∷ [])
    ∙ ap (λ (l : List ℕ). keep test (numbers_below n) ++ l) (keep_one test n)

pub keep_start : (test : ℕ → Bool) → keep test (numbers_below 0) ≡ []
unfolding keep numbers_below
keep_start test = refl

pub joined_start : {B : Type 0} (f : ℕ → List B) → joined_of f (numbers_below 0) ≡ []
unfolding joined_of numbers_below
joined_start f = refl

-- sets with the numbers of a list
pub both_next : (xs ys : List ℕ) (base : ℕ → Bool)
    → in_either (λ p. is_in p ys) (in_either (λ p. is_in p xs) base) ≡ in_either (λ p. is_in p (xs ++ ys)) base
both_next xs ys base =
    fun_ext (λ p. or_turn (is_in p ys) (is_in p xs) (base p) ∙ ap (λ (b : Bool). b || base p) (sym (in_append p xs ys)))

pub both_start : (base : ℕ → Bool) (xs : List ℕ) → xs ≡ [] → base ≡ in_either (λ p. is_in p xs) base
unfolding is_in
both_start base xs e = ap (λ (l : List ℕ). in_either (λ p. is_in p l) base) (sym e)

pub both_nothing : (test : ℕ → Bool) → in_either test (λ j. false) ≡ test
both_nothing test = fun_ext (λ p. or_nothing (test p))

-- one number of a list put into a set of words
pub put_next : (words more xs : List ℕ) (k : ℕ) (base : ℕ → Bool) → more ≡ put_at words 0 k → k < 256 → length words ≡ 8
    → member words 0 ≡ in_either (λ p. is_in p xs) base
    → (member more 0 ≡ in_either (λ p. is_in p (xs ++ (k ∷ []))) base) × (length more ≡ 8)
unfolding is_in
put_next words more xs k base m small l e = (
  ap (λ (w : List ℕ). member w 0) m
      ∙ member_put words 0 k (omega arith)
      ∙ fun_ext (λ p. ap₂ ◌||◌ (sym (or_nothing (eqb p k))) (ap (λ set. set p) e))
      ∙ both_next xs (k ∷ []) base,
  ap length m ∙ length_put words 0 k ∙ l,
)
