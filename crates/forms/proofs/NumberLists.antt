-- Ascending lists of numbers as sets:
--   keep_below      tests that agree below n keep the same of the numbers below n
--   kept_within     what is kept of the numbers below n is below n and passes the test
--   same_ascending  ascending lists with the same members are the same
--   first_kept      the first that is kept is the least that passes the test
--   puts_kept       a loop that puts each number that is on gives the set of those kept
--   puts_off        such a loop leaves out a number that is not on
use Prim.Native.Nat.{ℕ, zero, suc, ◌+◌, ◌≤◌, ◌<◌}
use native.Mathlib.Omega.{arith}
use mathlib.Core.Bool.{Bool, true, false, false≢true}
use mathlib.Core.List.{List, ◌∷◌}
use mathlib.Core.Logic.{⊎_elim}
use mathlib.Core.Path.{◌≡◌, refl, sym, ◌∙◌, ap, subst, fun_ext}
use lib.ListN.{get_or}
use lib.Dec.{eqb}
use borrow.Author.Tests.{eqb-true, eqb-false}
use Rattle.grammar.specs.Lists.{keep, is_in, numbers_from, numbers_below}
use Rattle.theory.proofs.Lists.BoolLaws.{same_test}
use Rattle.theory.proofs.Lists.ListLaws.{keep_yes, keep_no, kept, keep_mem, in_mem, mem_in, numbers_below_lem, keep_on}
use Rattle.sets.specs.Sets.{member, nothing}
use Rattle.union.specs.Rounds.{puts}
use Rattle.union.proofs.PutsLaws.{puts_was, puts_has, puts_step, put_out}

pub keep_below : (p q : ℕ → Bool) (n : ℕ) → ((i : ℕ) → i < n → p i ≡ q i) → keep p (numbers_below n) ≡ keep q (numbers_below n)
keep_below p q n h = keep_on p q (numbers_below n) (λ i m. h i ((numbers_below_lem n i).0 m))

pub kept_within : (test : ℕ → Bool) (n p : ℕ) → is_in p (keep test (numbers_below n)) ≡ true → (p < n) × (test p ≡ true)
kept_within test n p e =
    let k = kept test (numbers_below n) (in_mem p (keep test (numbers_below n)) e) in
    ((numbers_below_lem n p).0 k.0, k.1)

pub same_ascending : (s t : List ℕ) (n : ℕ) → keep (λ p. is_in p s) (numbers_below n) ≡ s → keep (λ p. is_in p t) (numbers_below n) ≡ t
    → ◌≡◌ {A = ℕ → Bool} (λ p. is_in p s) (λ p. is_in p t)
    → s ≡ t
same_ascending s t n a b e = sym a ∙ ap (λ (test : ℕ → Bool). keep test (numbers_below n)) e ∙ b

module _ (test : ℕ → Bool) (p : ℕ) (e : test p ≡ true) where
  first_from : (from n : ℕ) → from ≤ p → p < from + n → ((q : ℕ) → from ≤ q → q < p → test q ≡ false)
      → get_or (keep test (numbers_from from n)) 0 0 ≡ p
  unfolding numbers_from
  first_from from zero a b h = absurd (omega arith)
  first_from from (suc n) a b h = go (eqb from p) refl (first_from (suc from) n)
    where
      go : (c : Bool) → eqb from p ≡ c
          → (suc from ≤ p → p < suc from + n → ((q : ℕ) → suc from ≤ q → q < p → test q ≡ false)
          → get_or (keep test (numbers_from (suc from) n)) 0 0 ≡ p)
          → get_or (keep test (from ∷ numbers_from (suc from) n)) 0 0 ≡ p
      go true c ih =
          let z = eqb-true from p c in
          ap (λ (l : List ℕ). get_or l 0 0) (keep_yes test from (numbers_from (suc from) n) (ap test z ∙ e)) ∙ z
      go false c ih =
          let z = eqb-false from p c in
          let l : suc from ≤ p = omega arith in
          ap (λ (l : List ℕ). get_or l 0 0) (keep_no test from (numbers_from (suc from) n) (h from (omega arith) l))
          ∙ ih l (omega arith) (λ q i j. h q (omega arith) j)

  pub first_kept : (n : ℕ) → p < n → ((q : ℕ) → q < p → test q ≡ false) → get_or (keep test (numbers_below n)) 0 0 ≡ p
  unfolding numbers_below
  first_kept n b h = first_from zero n (omega arith) (omega arith) (λ q i j. h q j)

pub puts_off : (on : ℕ → Bool) (key : ℕ → ℕ) (base : ℕ → Bool) (i : ℕ) (words : List ℕ) → member words 0 ≡ puts on key base i
    → on i ≡ false → member words 0 ≡ puts on key base (i + 1)
puts_off on key base i words before e = puts_step on key base i words words false (key i) before (put_out false words (key i) refl) (sym e) refl

pub puts_kept : (on : ℕ → Bool) (n : ℕ) → puts on (λ j. j) nothing n ≡ (λ p. is_in p (keep on (numbers_below n)))
puts_kept on n =
    fun_ext (λ p.
    same_test (puts on (λ j. j) nothing n p) (is_in p (keep on (numbers_below n))) (
      λ e.
          ⊎_elim (λ f. absurd (false≢true f))
          (λ q.
          subst (λ (k : ℕ). is_in k (keep on (numbers_below n)) ≡ true) q.keyed
          (mem_in (keep_mem on ((numbers_below_lem n q.number).1 q.below) q.is_on)))
          (puts_was on (λ j. j) nothing n p e),
      λ e. let k = kept_within on n p e in puts_has on (λ j. j) nothing n p k.0 k.1,
    ))
