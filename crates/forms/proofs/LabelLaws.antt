-- The pairs of a label by the view of a union:
--   label_at, labelled_is     the label of a pair; those of some pairs that have a label
--   few_rules                 the rules are few
--   label_first, label_none   the label of a set is that of its first pair
--   up_none, up_more, up_many, up_whole   the sets of the labels up to one
use Prim.Native.Nat.{ℕ, zero, suc, ◌+◌, ◌-◌, ◌≤◌, ◌<◌}
use native.Mathlib.Omega.{arith}
use mathlib.Core.Bool.{Bool, true, false, not, ◌&&◌}
use mathlib.Core.List.Memᴰ
use mathlib.Core.List.{List, [], ◌∷◌, ◌++◌, map, map-append}
use mathlib.Core.Path.{◌≡◌, refl, sym, ◌∙◌, ap, subst}
use lib.ListN.{length, get_or, length-append, get_or-eq_default}
use lib.Dec.{eqb, ltb}
use borrow.Author.Tests.{ltb-true, ltb-false}
use Rattle.grammar.specs.Lists.{keep, is_in, numbers_below}
use Rattle.grammar.specs.ReadTable.{is_empty}
use Rattle.grammar.specs.Table.{Rule, Table}
use Rattle.grammar.specs.SingleTypeForm.{TypeSet}
use Rattle.theory.proofs.Lists.BoolLaws.{not_both}
use Rattle.theory.proofs.Lists.ListLaws.{at_else, mem_in, numbers_end}
use Rattle.theory.proofs.Lists.DistinctLaws.{keep_append}
use Rattle.union.specs.declared.united.United.{United}
use Rattle.union.specs.View.{Views, label_in}
use Rattle.union.specs.PairNumbers.{rule_numbered, no_rule}
use Rattle.union.proofs.ViewLaws.{seen}
use Rattle.std.specs.Prelude.{Option, Some, None}
use Rattle.forms.specs.SetWords.{Ascending, SetsCounted}
use Rattle.forms.specs.SetForms.{pairs_labelled, label_sets, set_label}
use Rattle.forms.proofs.NumberLists.{keep_below, first_kept}

module _ {old add : List ℕ} {v : United} {u : Table} (x : Views old add v u) where
  pub label_at : (i : ℕ) → i < v.rules → label_in v i ≡ (rule_numbered u i).label
  label_at i h =
      let s = seen x i h in
      s.2.label ∙ ap (λ (r : Rule). r.label) (sym (at_else u.rules i no_rule s.1))

  pub labelled_is : (pairs : ℕ → Bool) (l : ℕ)
      → keep (λ p. pairs p && eqb (label_in v p) l) (numbers_below v.rules) ≡ pairs_labelled u pairs l
  unfolding pairs_labelled
  labelled_is pairs l =
      keep_below (λ p. pairs p && eqb (label_in v p) l) (λ p. pairs p && eqb (rule_numbered u p).label l) v.rules
      (λ p h. ap (λ (k : ℕ). pairs p && eqb k l) (label_at p h))
      ∙ ap (λ (n : ℕ). keep (λ p. pairs p && eqb (rule_numbered u p).label l) (numbers_below n)) x.rules

  pub few_rules : length u.rules ≤ 256
  few_rules = omega (arith, x.rules, x.few)

  -- the label of a set
  module _ {s : TypeSet} (a : Ascending s) where
    pub label_first : (p : ℕ) → p < v.rules → is_in p s ≡ true → ((q : ℕ) → q < p → is_in q s ≡ false) → label_in v p ≡ set_label u s
    unfolding set_label
    label_first p h e before =
        let first : get_or s 0 0 ≡ p =
        ap (λ (l : List ℕ). get_or l 0 0) (sym a) ∙ first_kept (λ q. is_in q s) p e 256 (omega (arith, x.few)) before in
        label_at p h ∙ ap (λ (q : ℕ). (rule_numbered u q).label) (sym first)

  pub label_none : (s : TypeSet) → is_empty s ≡ false → ((q : ℕ) → q < v.rules → is_in q s ≡ false) → 0 ≡ set_label u s
  unfolding set_label
  label_none [] e h = let z : ◌≡◌ {A = ℕ} 0 1 = cc in absurd (omega arith)
  label_none (y ∷ s) e h =
      let past : length u.rules ≤ y = go (ltb y v.rules) refl in
      ap (λ (r : Rule). r.label) (sym (get_or-eq_default u.rules no_rule past))
    where
      go : (b : Bool) → ltb y v.rules ≡ b → length u.rules ≤ y
      go true b = absurd (not_both (mem_in (Memᴰ.head {xs = s} refl)) (h y (ltb-true y v.rules b)))
      go false b = omega (arith, x.rules, ltb-false y v.rules b)

-- the sets of the labels up to one
module _ (u : Table) (pairs : ℕ → Bool) where
  abbrev pub sets_up : ℕ → List TypeSet
  sets_up n = keep (λ s. not (is_empty s)) (map (pairs_labelled u pairs) (numbers_below n))

  pub up_none : sets_up 0 ≡ []
  unfolding numbers_below keep
  up_none = refl

  pub up_next : (n : ℕ) → sets_up (n + 1) ≡ sets_up n ++ keep (λ s. not (is_empty s)) (pairs_labelled u pairs n ∷ [])
  up_next n =
      ap (λ (l : List ℕ). keep (λ s. not (is_empty s)) (map (pairs_labelled u pairs) l)) (numbers_end n)
      ∙ ap (keep (λ s. not (is_empty s))) (map-append (pairs_labelled u pairs) (numbers_below n) (n ∷ []))
      ∙ keep_append (λ s. not (is_empty s)) (map (pairs_labelled u pairs) (numbers_below n)) (pairs_labelled u pairs n ∷ [])

  longer : (n d : ℕ) → length (sets_up n) ≤ length (sets_up (n + d))
  longer n zero = let z : n + 0 ≡ n = omega arith in let e = ap (λ (m : ℕ). length (sets_up m)) z in omega arith
  longer n (suc d) =
      let z : n + suc d ≡ n + d + 1 = omega arith in
      let e =
      ap (λ (m : ℕ). length (sets_up m)) z
      ∙ ap length (up_next (n + d))
      ∙ length-append (sets_up (n + d)) (keep (λ s. not (is_empty s)) (pairs_labelled u pairs (n + d) ∷ [])) in
      let ih = longer n d in
      omega arith

  pub up_longer : (n m : ℕ) → n ≤ m → length (sets_up n) ≤ length (sets_up m)
  up_longer n m h = let z : n + (m - n) ≡ m = omega arith in subst (λ (k : ℕ). length (sets_up n) ≤ length (sets_up k)) z (longer n (m - n))

  pub up_whole : (n : ℕ) → n ≡ length u.labels → sets_up n ≡ label_sets u pairs
  unfolding label_sets
  up_whole n e = ap sets_up e

  -- one label more, as the program finds it
  module _ (most n : ℕ) (words : List ℕ) (r : Option ℕ)
      (put : SetsCounted most words (sets_up n ++ keep (λ s. not (is_empty s)) (pairs_labelled u pairs n ∷ [])) r) where
    pub up_more : (count : ℕ) → r ≡ Some count → SetsCounted most words (sets_up (n + 1)) (Some count)
    up_more count e =
        subst (λ (l : List TypeSet). SetsCounted most words l (Some count)) (sym (up_next n))
        (subst (SetsCounted most words (sets_up n ++ keep (λ s. not (is_empty s)) (pairs_labelled u pairs n ∷ []))) e put)

    pub up_many : r ≡ None → (labels : ℕ) → n < labels → labels ≡ length u.labels → most < length (label_sets u pairs)
    up_many e labels h f =
        let many : most < length (sets_up n ++ keep (λ s. not (is_empty s)) (pairs_labelled u pairs n ∷ [])) =
        subst (SetsCounted most words (sets_up n ++ keep (λ s. not (is_empty s)) (pairs_labelled u pairs n ∷ []))) e put in
        let a = ap length (up_next n) in
        let b = up_longer (n + 1) labels (omega arith) in
        let c = ap length (up_whole labels f) in
        omega arith
