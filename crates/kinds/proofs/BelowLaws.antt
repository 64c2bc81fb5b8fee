-- Whether some number below n passes a test: one that does (`one_below`, `below_found`), or none (`none_below`); and that this is what
-- `any` over `0..n` answers (`any_below_ran`).
use Prim.Native.Nat.{ℕ, zero, suc, ◌+◌, ◌<◌}
use native.Mathlib.Omega.{arith}
use mathlib.Core.Bool.{Bool, true, false, ◌||◌, or-false, or_assoc, or_comm, false≢true}
use mathlib.Core.Logic.{⊎_elim}
use mathlib.Core.List.{List}
use mathlib.Core.Path.{◌≡◌, refl, sym, ◌∙◌, ap, ap₂}
use denote.Param.Members.{Mut}
use lib.Dec.{eqb}
use Rattle.std.proofs.lemmas.Iterator.{YieldsList-from_range}
use Rattle.std.proofs.lemmas.Iterator.Search.{any_from_yields_List}
use Rattle.std.proofs.iter.Yields.{nat_range_steps}
use Rattle.std.specs.declared.option.Option.{Option}
use Rattle.std.specs.Fn.{Called}
use Rattle.std.specs.Iterator.{YieldsThen}
use Rattle.std.specs.List.{FoldsTo, list_any, range_with_len}
use Rattle.std.specs.Option.{MatchOption}
use borrow.Author.Tests.{eqb-true, eqb-false}
use Rattle.theory.proofs.Lists.BoolLaws.{or_cases, or_left, or_right, false_of, not_both, passes_or_fails}
use Rattle.kinds.specs.RulesAt.{any_below}

module _ (test : ℕ → Bool) where
  pub one_below : (n i : ℕ) → i < n → test i ≡ true → any_below test n ≡ true
  unfolding any_below
  one_below zero i h e = absurd (omega arith)
  one_below (suc n) i h e =
      ⊎_elim
      (λ q. or_left (test n) (any_below test n) (ap test (sym (eqb-true i n q)) ∙ e))
      (λ q. let d = eqb-false i n q in or_right (test n) (any_below test n) (one_below n i (omega (arith, d)) e))
      (passes_or_fails (eqb i n))

  pub below_found : (n : ℕ) → any_below test n ≡ true → (i : ℕ) × (i < n) × (test i ≡ true)
  unfolding any_below
  below_found zero e = absurd (false≢true e)
  below_found (suc n) e =
      ⊎_elim
      (λ q. (n, omega arith, q))
      (λ q. let r = below_found n q in (r.0, omega arith, r.2))
      (or_cases (test n) (any_below test n) e)

  pub none_below : (n : ℕ) → ((i : ℕ) → i < n → test i ≡ false) → any_below test n ≡ false
  none_below n h =
      false_of (any_below test n) (λ e. let r = below_found n e in not_both r.2 (h r.0 r.1))

  any_last : (a n : ℕ) → list_any test (range_with_len a (suc n)) ≡ (list_any test (range_with_len a n) || test (a + n))
  any_last a zero = or-false (test a) ∙ ap test (omega arith)
  any_last a (suc n) =
      let e : a + 1 + n ≡ a + suc n = omega arith in
      ap (λ b. test a || b) (any_last (a + 1) n ∙ ap (λ m. list_any test (range_with_len (a + 1) n) || test m) e)
      ∙ sym (or_assoc (test a) (list_any test (range_with_len (a + 1) n)) (test (a + suc n)))

  any_in_range : (n : ℕ) → list_any test (range_with_len 0 n) ≡ any_below test n
  unfolding any_below
  any_in_range zero = refl
  any_in_range (suc n) =
      any_last 0 n ∙ or_comm (list_any test (range_with_len 0 n)) (test (0 + n)) ∙ ap₂ ◌||◌ (ap test (omega arith)) (any_in_range n)

  pub any_below_ran : {F : Type 0} {g : Mut F (ℕ × Unit {0}) Bool} {s : _} (n : ℕ) (u : _) (f : F) (r : Bool)
      → (xs : List ℕ) × (o : Option ℕ) × (j : F) × YieldsThen nat_range_steps s xs o u × FoldsTo (λ p x q. Called g p (x, tt) false q) f xs j
      × MatchOption o (r ≡ false) (λ x. (r ≡ true) × ((h : F) × Called g j (x, tt) true h))
      → s ≡ record { start = 0; end = n } → ((x : ℕ) (b : Bool) (q : F) → Called g f (x, tt) b q → (q ≡ f) × (b ≡ test x))
      → r ≡ any_below test n
  any_below_ran n u f r ran from calls =
      any_from_yields_List test u f r ran (YieldsList-from_range 0 n n from (omega arith)) calls ∙ any_in_range n
