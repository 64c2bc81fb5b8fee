-- The labels used, and fields that are written if they are on.
--   place_among  : the place of a number among those kept is how many kept ones come before it
--   kept_in, kept_out : one number more
--   used_are     : the keys of some sets are the labels used
--   put_on, put_off : a field is written if it is on
use Prim.Native.Nat.{ℕ, ◌+◌, ◌≤◌, ◌<◌}
use native.Mathlib.Omega.{arith}
use mathlib.Core.Bool.{Bool, true, false, false≢true}
use mathlib.Core.List.{List, [], ◌∷◌, ◌++◌, append-nil}
use mathlib.Core.Logic.{⊎_elim}
use mathlib.Core.Path.{◌≡◌, refl, sym, ◌∙◌, ap, subst, fun_ext}
use lib.Dec.{eqb}
use lib.ListN.{length, length-append, get_or}
use borrow.Author.Tests.{eqb-true, eq-eqb}
use Rattle.std.specs.Prelude.{Ok, Result}
use Rattle.grammar.specs.Limits.{input_limit}
use Rattle.grammar.specs.Lists.{any_pass, keep, place, numbers_below}
use Rattle.grammar.specs.Table.{Table}
use Rattle.grammar.specs.SingleTypeForm.{TypeSet}
use Rattle.grammar.specs.declared.TooLarge.{TooLarge}
use Rattle.theory.specs.Alternatives.{only_if}
use Rattle.theory.proofs.Lists.BoolLaws.{false_of, same_test}
use Rattle.theory.proofs.Lists.PlaceLaws.{place_yes, place_past}
use Rattle.theory.proofs.Lists.ListLaws.{any_found, any_of, keep_yes, kept, at_mem, mem_at, at_below, at_else, at_or_else, numbers_below_lem, numbers_split}
use Rattle.theory.proofs.Lists.DistinctLaws.{keep_append}
use Rattle.sets.specs.Sets.{nothing}
use Rattle.union.specs.Rounds.{puts}
use Rattle.union.proofs.PutsLaws.{puts_was, puts_has}
use Rattle.union.proofs.UnitedLabelsLaws.{place_back}
use Rattle.writer.specs.Writing.{Puts}
use Rattle.writer.proofs.PutLaws.{put_none}
use Rattle.reducing.proofs.NumberLaws.{keep_next, keep_start}
use Rattle.forms.specs.SetForms.{set_label}
use Rattle.results.specs.Results.{is_used}

module _ (on : ℕ → Bool) where
  not_before : (l : ℕ) → any_pass (eqb l) (keep on (numbers_below l)) ≡ false
  not_before l =
      false_of (any_pass (eqb l) (keep on (numbers_below l)))
      (λ e.
      let (x, m, s) = any_found (eqb l) (keep on (numbers_below l)) e in
      let h = (numbers_below_lem l x).0 (kept on (numbers_below l) m).0 in
      let z = eqb-true l x s in
      omega arith)

  pub place_among : (l n : ℕ) → l < n → on l ≡ true → length (keep on (numbers_below l)) ≡ place eqb l (keep on (numbers_below n))
  place_among l n h e =
      let (later, split) = numbers_split n l h in
      let before = keep on (numbers_below l) in
      let past = place_past eqb l before (not_before l) in
      let here : place eqb l (l ∷ keep on later) ≡ 0 = place_yes eqb l l (keep on later) (eq-eqb l l refl) in
      let back = place_back eqb l before (l ∷ keep on later) (omega arith) in
      let all : keep on (numbers_below n) ≡ before ++ (l ∷ keep on later) =
      ap (keep on) split ∙ keep_append on (numbers_below l) (l ∷ later) ∙ ap (λ (x : List ℕ). before ++ x) (keep_yes on l later e) in
      let same = ap (place eqb l) all in
      omega arith

  pub kept_in : (l : ℕ) → on l ≡ true → length (keep on (numbers_below (l + 1))) ≡ length (keep on (numbers_below l)) + 1
  unfolding only_if
  kept_in l e =
      ap length (keep_next on l ∙ ap (λ (b : Bool). keep on (numbers_below l) ++ only_if b (l ∷ [])) e)
      ∙ length-append (keep on (numbers_below l)) (l ∷ [])

  pub kept_out : (l : ℕ) → on l ≡ false → length (keep on (numbers_below (l + 1))) ≡ length (keep on (numbers_below l))
  unfolding only_if
  kept_out l e =
      ap length
      (keep_next on l ∙ ap (λ (b : Bool). keep on (numbers_below l) ++ only_if b (l ∷ [])) e ∙ append-nil (keep on (numbers_below l)))

  pub kept_none : length (keep on (numbers_below 0)) ≡ 0
  kept_none = ap length (keep_start on)

module _ (u : Table) (sets : List TypeSet) where
  abbrev pub label_at : ℕ → ℕ
  label_at i = set_label u (get_or sets i [])

  pub used_are : puts (λ i. true) label_at nothing (length sets) ≡ is_used u sets
  used_are = fun_ext (λ l. same_test (puts (λ i. true) label_at nothing (length sets) l) (is_used u sets l) (to l, from l))
    where
      to : (l : ℕ) → puts (λ i. true) label_at nothing (length sets) l ≡ true → is_used u sets l ≡ true
      to l e =
          ⊎_elim
          (λ z. absurd (false≢true z))
          (λ p.
          any_of (λ s. eqb (set_label u s) l) (at_mem sets p.number (at_or_else sets p.number [] p.below))
          (eq-eqb (label_at p.number) l p.keyed))
          (puts_was (λ i. true) label_at nothing (length sets) l e)

      from : (l : ℕ) → is_used u sets l ≡ true → puts (λ i. true) label_at nothing (length sets) l ≡ true
      from l e =
          let (s, m, t) = any_found (λ s. eqb (set_label u s) l) sets e in
          let (i, at) = mem_at m in
          let key : label_at i ≡ l = ap (set_label u) (at_else sets i [] at) ∙ eqb-true (set_label u s) l t in
          ap (puts (λ j. true) label_at nothing (length sets)) (sym key)
          ∙ puts_has (λ j. true) label_at nothing (length sets) i (at_below sets i at) refl

module _ (before : List ℕ) (at : ℕ) (bytes : List ℕ) (on : Bool) where
  pub put_on : (after : List ℕ) (r : Result ℕ TooLarge) → on ≡ true → Puts before at bytes after r → Puts before at (only_if on bytes) after r
  unfolding only_if
  put_on after r e p = subst (λ (b : Bool). Puts before at (only_if b bytes) after r) (sym e) p

  pub put_off : on ≡ false → at ≤ input_limit → at ≤ length before → Puts before at (only_if on bytes) before (Ok at)
  unfolding only_if
  put_off e h k = subst (λ (b : Bool). Puts before at (only_if b bytes) before (Ok at)) (sym e) (put_none before at k, h)
