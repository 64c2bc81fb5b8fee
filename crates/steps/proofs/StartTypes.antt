-- The start types of a result as a set of numbers:
--   local_starts_lem   local: the numbers of the sets of the start pairs
--   first_starts   single-type: the numbers of the first sets
--   start_key      the number of the set of a start pair, by its label
use Prim.Native.Nat.{ℕ, ◌≤◌, ◌<◌}
use mathlib.Core.Bool.{Bool, true, true≢false}
use mathlib.Core.List.{List}
use mathlib.Core.Logic.{⊎_elim}
use mathlib.Core.Path.{◌≡◌, refl, sym, ◌∙◌, ap, fun_ext, subst}
use lib.Dec.{eqb}
use lib.ListN.{length, get_or}
use borrow.Author.Tests.{eqb-true, eq-eqb}
use Rattle.grammar.specs.Limits.{Limits}
use Rattle.grammar.specs.Lists.{any_pass, keep, place, is_in, same_numbers, numbers_below}
use Rattle.grammar.specs.Table.{Table}
use Rattle.grammar.specs.Normalise.{normalise}
use Rattle.grammar.specs.Reduce.{without_unfruitful}
use Rattle.theory.proofs.Lists.BoolLaws.{same_test}
use Rattle.theory.proofs.Lists.ListLaws.{any_of, any_found, in_mem, mem_in, keep_all, keep_on, numbers_below_lem, at_or_else, at_mem}
use Rattle.sets.specs.Sets.{nothing}
use Rattle.union.specs.declared.united.United.{United}
use Rattle.union.specs.View.{Views, label_in}
use Rattle.union.specs.Rounds.{puts}
use Rattle.union.specs.PairNumbers.{rule_numbered, is_left, is_start}
use Rattle.union.proofs.PutsLaws.{puts_was, puts_has}
use Rattle.forms.specs.SetForms.{pairs_labelled, set_number, local_sets, local_starts}
use Rattle.forms.proofs.KeptLists.{kept_below}
use Rattle.forms.proofs.StandingPairs.{left_pair, left_label}
use Rattle.forms.proofs.SetsFound.{start_left, label_of_left}
use Rattle.forms.proofs.UnionFit.{UnionFit}

-- a set of keys, of those numbers below n that are on
puts_any : (on : ℕ → Bool) (key : ℕ → ℕ) (n t : ℕ) → puts on key nothing n t ≡ true
    → (p : ℕ) × (p < n) × (on p ≡ true) × (key p ≡ t)
puts_any on key n t e =
    ⊎_elim (λ f. absurd (true≢false (sym f))) (λ q. (q.number, q.below, q.is_on, q.keyed)) (puts_was on key nothing n t e)

module _ (u : Table) where
  start_below : (p : ℕ) → is_start u p ≡ true → is_left u p ≡ true × p < length u.rules
  start_below p e =
      let l = start_left u p (in_mem p (without_unfruitful (normalise u)).starts e) in
      (l, (left_pair u p l).below)

  pub local_starts_lem : (key : ℕ → ℕ) → ((p : ℕ) → is_start u p ≡ true → key p ≡ set_number u (local_sets u) (is_left u) p)
      → keep (puts (is_start u) key nothing (length u.rules)) (numbers_below (length (local_sets u))) ≡ local_starts u
  unfolding local_starts
  local_starts_lem key h =
      keep_on (puts (is_start u) key nothing (length u.rules))
      (λ t. any_pass (λ p. eqb (set_number u (local_sets u) (is_left u) p) t) (without_unfruitful (normalise u)).starts)
      (numbers_below (length (local_sets u)))
      (λ t m. same_test _ _ (has t, was t))
    where
      has : (t : ℕ) → puts (is_start u) key nothing (length u.rules) t ≡ true
          → any_pass (λ p. eqb (set_number u (local_sets u) (is_left u) p) t) (without_unfruitful (normalise u)).starts ≡ true
      has t e =
          let q = puts_any (is_start u) key (length u.rules) t e in
          any_of (λ p. eqb (set_number u (local_sets u) (is_left u) p) t)
          (in_mem q.0 (without_unfruitful (normalise u)).starts q.2)
          (eq-eqb _ _ (sym (h q.0 q.2) ∙ q.3))

      was : (t : ℕ) → any_pass (λ p. eqb (set_number u (local_sets u) (is_left u) p) t) (without_unfruitful (normalise u)).starts ≡ true
          → puts (is_start u) key nothing (length u.rules) t ≡ true
      was t e =
          let q = any_found (λ p. eqb (set_number u (local_sets u) (is_left u) p) t) (without_unfruitful (normalise u)).starts e in
          let s : is_start u q.0 ≡ true = mem_in q.1 in
          let f : key q.0 ≡ t = h q.0 s ∙ eqb-true _ _ q.2 in
          subst (λ (x : ℕ). puts (is_start u) key nothing (length u.rules) x ≡ true) f
          (puts_has (is_start u) key nothing (length u.rules) q.0 (start_below q.0 s).1 s)

  pub start_key : {lim : Limits} {old add : List ℕ} {v : United} → Views old add v u → UnionFit lim u → (of : List ℕ)
      → ((l : ℕ) → l < length u.labels → get_or of l 0 ≡ place same_numbers (pairs_labelled u (is_left u) l) (local_sets u))
      → (p : ℕ) → is_start u p ≡ true → get_or of (label_in v p) 0 ≡ set_number u (local_sets u) (is_left u) p
  unfolding set_number
  start_key views fit of numbers p e =
      let (l, b) = start_below p e in
      let at = at_or_else u.rules p _ b in
      let seen = (views.rule p (rule_numbered u p) at).label in
      let small = fit.labelled (rule_numbered u p) (at_mem u.rules p at) in
      ap (λ (k : ℕ). get_or of k 0) seen ∙ numbers (rule_numbered u p).label small
      ∙ ap (λ (k : ℕ). place same_numbers (pairs_labelled u (is_left u) k) (local_sets u)) (sym (label_of_left u p l) ∙ left_label u p)

-- the numbers below n
all_below : (n t : ℕ) → puts (λ s. true) (λ s. s) nothing n t ≡ is_in t (keep (λ s. true) (numbers_below n))
all_below n t =
    same_test _ _ (
      λ e.
          let q = puts_any (λ s. true) (λ s. s) n t e in
          subst (λ (l : List ℕ). is_in t l ≡ true) (sym (keep_all (λ s. true) (numbers_below n) (λ x m. refl)))
          (mem_in ((numbers_below_lem n t).1 (subst (λ (x : ℕ). x < n) q.3 q.1))),
      λ e.
          let m = in_mem t (numbers_below n) (subst (λ (l : List ℕ). is_in t l ≡ true) (keep_all (λ s. true) (numbers_below n) (λ x m. refl)) e) in
          puts_has (λ s. true) (λ s. s) nothing n t ((numbers_below_lem n t).0 m) refl,
    )

pub first_starts : (n m : ℕ) → n ≤ m → keep (puts (λ s. true) (λ s. s) nothing n) (numbers_below m) ≡ numbers_below n
first_starts n m h =
    ap (λ (test : ℕ → Bool). keep test (numbers_below m)) (fun_ext (all_below n))
    ∙ kept_below (λ s. true) n m h
    ∙ keep_all (λ s. true) (numbers_below n) (λ x m. refl)
