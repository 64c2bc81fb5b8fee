-- The sets of the single-type form as a program finds them, by pairs' numbers:
--   start_sets_lem     the start sets are those of the start pairs, one a label; of all sets they come first, start_sets_first
--   sets_met_lem       the sets met in a set of left pairs
--   SetFound          the sets found when those below a number have been looked into
--   found_start    to begin with, the start sets
--   found_next     the next is looked into: each set of a pair met in it is added unless it is there
--   found_all      when all have been looked into, they are all sets
--   found_many     more than the limit on types on the way are more in the end
use Prim.Native.Nat.{ℕ, zero, suc, ◌+◌, ◌-◌, ◌≤◌, ◌<◌}
use native.Mathlib.Omega.{arith}
use mathlib.Core.Bool.{Bool, true, not, ◌&&◌}
use mathlib.Core.List.Memᴰ
use mathlib.Core.List.{
  List,
  [],
  ◌++◌,
  append_assoc,
  append-nil,
  map,
  map-map,
  Memᴰ,
}
use mathlib.Core.Logic.{◌↔◌, ⊎_elim}
use mathlib.Core.Option.{Option, none as nothing, some as just}
use mathlib.Core.Path.{◌≡◌, refl, sym, ◌∙◌, ap, ap₂, subst, fun_ext}
use lib.ListN.{length, length-append, get_elem?, get_or}
use lib.Dec.{eqb}
use borrow.Author.Tests.{eqb-true, eq-eqb}
use Rattle.grammar.specs.Lists.{any_pass, keep, distinct, is_in, same_numbers, numbers_below}
use Rattle.grammar.specs.Limits.{Limits}
use Rattle.grammar.specs.Table.{Table}
use Rattle.grammar.specs.ReadTable.{is_empty}
use Rattle.grammar.specs.Normalise.{normalise}
use Rattle.grammar.specs.Reduce.{without_unfruitful, without_unreached, reduce}
use Rattle.grammar.specs.LocalForm.{label_of}
use Rattle.grammar.specs.SingleTypeForm.{TypeSet, of_label, start_sets, sets_met, more_sets, all_sets}
use Rattle.theory.proofs.Lists.BoolLaws.{and_left, and_right, and_intro, same_test}
use Rattle.theory.proofs.Lists.ListLaws.{
  kept,
  keep_mem,
  keep-map,
  at_mem,
  distinct_was,
  distinct-map,
  in_mem,
  mem_in,
  numbers_below_lem,
  numbers_differ,
  numbers_decide,
  eqb_decides,
  map_on,
  some_mem,
}
use Rattle.theory.proofs.Steps.Reached.{start_reached}
use Rattle.theory.proofs.Steps.SetsClosed.{starts_first, new_sets, more_end, more_next}
use Rattle.theory.proofs.Steps.SingleTypeMerge.{first_member}
use Rattle.theory.proofs.Lists.DistinctLaws.{keep-distinct, distinct_again, distinct_on}
use Rattle.union.specs.PairNumbers.{rule_numbered, is_left, is_start, met_in}
use Rattle.forms.specs.SetWords.{Ascending}
use Rattle.forms.specs.Worklist.{sets_within}
use Rattle.forms.specs.SetForms.{pairs_labelled, label_sets, label_left, set_label, single_type_sets, met_within}
use Rattle.forms.proofs.KeptLists.{
  past_nothing,
  distinct_append,
  distinct_all,
  distinct_image,
  distinct_longer,
  kept_below,
}
use Rattle.forms.proofs.UnionFit.{UnionFit}
use Rattle.forms.proofs.StandingPairs.{AllLeft, left_pair, left_label, label_set, types_met_lem, met_left}

-- what is added later takes nothing away
pub part_many : (xs ys zs : List TypeSet)
    → length (distinct same_numbers (xs ++ ys)) ≤ length (distinct same_numbers (xs ++ (ys ++ zs)))
part_many = distinct_longer same_numbers numbers_decide

-- a pair of a label among some
pub record HasLabel (u : Table) (pairs : ℕ → Bool) (l p : ℕ) : Type 0 where
  pub below : p < length u.rules
  pub listed : pairs p ≡ true
  pub label : (rule_numbered u p).label ≡ l

module _ (u : Table) (pairs : ℕ → Bool) where
  pub labelled_pair : (l p : ℕ) → Memᴰ p (pairs_labelled u pairs l) ↔ HasLabel u pairs l p
  unfolding pairs_labelled
  labelled_pair l p =
      let test : (ℕ → Bool) = λ q. pairs q && eqb (rule_numbered u q).label l in (
        λ m.
            let (n, e) = kept test (numbers_below (length u.rules)) m in
            record {
              below = (numbers_below_lem (length u.rules) p).0 n;
              listed = and_left (pairs p) (eqb (rule_numbered u p).label l) e;
              label = eqb-true (rule_numbered u p).label l (and_right (pairs p) (eqb (rule_numbered u p).label l) e);
            },
        λ h.
            keep_mem test ((numbers_below_lem (length u.rules) p).1 h.below)
            (and_intro (pairs p) (eqb (rule_numbered u p).label l) h.listed (eq-eqb (rule_numbered u p).label l h.label)),
      )

  pub labelled_ascending : length u.rules ≤ 256 → (l : ℕ) → Ascending (pairs_labelled u pairs l)
  unfolding pairs_labelled
  labelled_ascending few l = kept_below (λ p. pairs p && eqb (rule_numbered u p).label l) (length u.rules) 256 few

  -- a set with a member is told by its label
  pub label_told : (x y p : ℕ) → Memᴰ p (pairs_labelled u pairs x) → pairs_labelled u pairs x ≡ pairs_labelled u pairs y → x ≡ y
  label_told x y p m e =
      sym ((labelled_pair x p).0 m).label ∙ ((labelled_pair y p).0 (subst (λ (s : TypeSet). Memᴰ p s) e m)).label

  -- so of sets of which one has a member, the labels are equal just where the sets are
  pub same_label_lem : (x y p : ℕ) → Memᴰ p (pairs_labelled u pairs y)
      → same_numbers (pairs_labelled u pairs x) (pairs_labelled u pairs y) ≡ eqb x y
  same_label_lem x y p m =
      same_test (same_numbers (pairs_labelled u pairs x) (pairs_labelled u pairs y)) (eqb x y) (
        λ e. eq-eqb x y (sym (label_told y x p m (sym ((numbers_decide (pairs_labelled u pairs x) (pairs_labelled u pairs y)).0 e)))),
        λ e. (numbers_decide (pairs_labelled u pairs x) (pairs_labelled u pairs y)).1 (ap (pairs_labelled u pairs) (eqb-true x y e)),
      )

  -- the labels that have a set, and the sets, one a label
  abbrev has_set : ℕ → Bool
  has_set l = not (is_empty (pairs_labelled u pairs l))

  abbrev pub labels_with_set : List ℕ
  labels_with_set = keep (λ l. not (is_empty (pairs_labelled u pairs l))) (numbers_below (length u.labels))

  pub label_sets_are : label_sets u pairs ≡ map (pairs_labelled u pairs) labels_with_set
  unfolding label_sets
  label_sets_are = keep-map (pairs_labelled u pairs) (λ s. not (is_empty s)) (numbers_below (length u.labels))

  pub label_sets_once : distinct same_numbers (label_sets u pairs) ≡ label_sets u pairs
  label_sets_once =
      ap (distinct same_numbers) label_sets_are
      ∙ distinct-map (pairs_labelled u pairs) same_numbers labels_with_set
      ∙ ap (map (pairs_labelled u pairs))
      (distinct_on (λ x y. same_numbers (pairs_labelled u pairs x) (pairs_labelled u pairs y)) eqb labels_with_set
      (λ x y m n.
      let (p, o) = some_mem (pairs_labelled u pairs y) (kept has_set (numbers_below (length u.labels)) n).1 in
      same_label_lem x y p o)
      ∙ sym (keep-distinct eqb has_set (λ x y e. ap has_set (eqb-true x y e)) (numbers_below (length u.labels)))
      ∙ ap (keep has_set) (distinct_all eqb (numbers_below (length u.labels)) (numbers_differ (length u.labels))))
      ∙ sym label_sets_are

-- some left pairs of one label
pub record SetOfLabel (u : Table) (s : TypeSet) : Type 0 where
  pub first : Memᴰ (get_or s 0 0) s
  pub left : AllLeft u s
  pub alike : (p : ℕ) → Memᴰ p s → (rule_numbered u p).label ≡ set_label u s
  pub among : set_label u s < length u.labels
  pub ascending : Ascending s

pub label_of_set : (u : Table) (pairs : ℕ → Bool) (l : ℕ) {p : ℕ} → Memᴰ p (pairs_labelled u pairs l)
    → set_label u (pairs_labelled u pairs l) ≡ l
unfolding set_label
label_of_set u pairs l m =
    let s = pairs_labelled u pairs l in
    ((labelled_pair u pairs l (get_or s 0 0)).0 (first_member s m)).label

pub set_of_label : {lim : Limits} (u : Table) → UnionFit lim u → (pairs : ℕ → Bool)
    → ((p : ℕ) → pairs p ≡ true → is_left u p ≡ true) → (l : ℕ)
    → {p : ℕ} → Memᴰ p (pairs_labelled u pairs l) → SetOfLabel u (pairs_labelled u pairs l)
unfolding set_label
set_of_label u fit pairs left l m =
    let s = pairs_labelled u pairs l in
    let first = first_member s m in
    let among = left (get_or s 0 0) ((labelled_pair u pairs l (get_or s 0 0)).0 first).listed in
    record {
      first = first;
      left = λ p n. left p ((labelled_pair u pairs l p).0 n).listed;
      alike = λ p n. ((labelled_pair u pairs l p).0 n).label ∙ sym (label_of_set u pairs l m);
      among = fit.labelled (rule_numbered u (get_or s 0 0)) (left_pair u (get_or s 0 0) among).there;
      ascending = labelled_ascending u pairs fit.few l;
    }

-- the worklist
module _ (g : Table) where
  -- sets are only added
  more_grow : (n next : ℕ) (sets : List TypeSet) → (rest : List TypeSet) × (more_sets g n next sets ≡ sets ++ rest)
  unfolding more_sets
  more_grow zero next sets = ([], sym (append-nil sets))
  more_grow (suc n) next sets =
      go (get_elem? sets next) refl (λ s. more_grow n (suc next) (sets ++ new_sets g sets s))
    where
      go : (o : Option TypeSet) → get_elem? sets next ≡ o
          → ((s : TypeSet) → (rest : List TypeSet)
          × (more_sets g n (suc next) (sets ++ new_sets g sets s) ≡ (sets ++ new_sets g sets s) ++ rest))
          → (rest : List TypeSet) × (more_sets g (suc n) next sets ≡ sets ++ rest)
      go nothing e ih = ([], more_end g (suc n) next sets e ∙ sym (append-nil sets))
      go (just s) e ih =
          let (rest, f) = ih s in
          (new_sets g sets s ++ rest, more_next g n next sets e ∙ f ∙ append_assoc sets (new_sets g sets s) rest)

-- These sets are found, and those below `next` have been looked into: what is left to do, done from here, gives all sets.
pub record SetFound (lim : Limits) (u : Table) (next : ℕ) (sets : List TypeSet) : Type 0 where
  pub once : distinct same_numbers sets ≡ sets
  pub left : (s : TypeSet) → Memᴰ s sets → AllLeft u s
  pub whole : more_sets (reduce (normalise u)) (lim.types - next) next sets ≡ single_type_sets lim u

module _ (u : Table) where
  pub start_left : AllLeft u (without_unfruitful (normalise u)).starts
  start_left p m = mem_in (start_reached (without_unfruitful (normalise u)) p m)

  pub start_sets_lem : start_sets (reduce (normalise u)) ≡ label_sets u (is_start u)
  unfolding start_sets label_sets reduce without_unreached without_unfruitful normalise
  start_sets_lem =
      ap (λ (f : ℕ → TypeSet). keep (λ s. not (is_empty s)) (map f (numbers_below (length u.labels))))
      (fun_ext (label_set u (without_unfruitful (normalise u)).starts start_left))

  pub start_sets_first : (lim : Limits) → (rest : List TypeSet) × (single_type_sets lim u ≡ label_sets u (is_start u) ++ rest)
  start_sets_first lim =
      let (rest, e) = starts_first lim (reduce (normalise u)) in
      (rest, e ∙ ap (λ (sets : List TypeSet). sets ++ rest) start_sets_lem)

  -- the label of a left pair
  pub label_of_left : (p : ℕ) → is_left u p ≡ true → label_of (reduce (normalise u)) p ≡ (rule_numbered u p).label
  unfolding label_left
  label_of_left p e = left_label u p ∙ rw (e, label_left)

  pub sets_met_lem : (s : TypeSet) → AllLeft u s
      → sets_met (reduce (normalise u)) s
      ≡ map (pairs_labelled u (met_within u s)) (distinct eqb (map (λ p. (rule_numbered u p).label) (met_in u (λ q. is_in q s))))
  unfolding sets_met
  sets_met_lem s left =
      let met = met_in u (λ q. is_in q s) in
      let g = reduce (normalise u) in
      ap (λ (ks : List ℕ). map (of_label g ks) (distinct eqb (map (label_of g) ks))) (types_met_lem u s left)
      ∙ ap₂ (λ (f : ℕ → TypeSet) (ls : List ℕ). map f (distinct eqb ls)) (fun_ext (label_set u met (met_left u s left)))
      (map_on (label_of g) (λ p. (rule_numbered u p).label) met (λ p m. label_of_left p (met_left u s left p m)))

  module _ (s : TypeSet) (left : AllLeft u s) where
    abbrev met : List ℕ
    met = met_in u (λ q. is_in q s)

    abbrev labels : List ℕ
    labels = map (λ p. (rule_numbered u p).label) met

    -- the sets of the pairs met are the sets met
    sets_of_met : distinct same_numbers (sets_within u s) ≡ sets_met (reduce (normalise u)) s
    sets_of_met =
        let set = pairs_labelled u (met_within u s) in
        distinct_image eqb eqb_decides same_numbers numbers_decide (λ p. set (rule_numbered u p).label) met
        ∙ ap (distinct same_numbers) (sym (map-map set (λ p. (rule_numbered u p).label) met))
        ∙ distinct-map set same_numbers labels
        ∙ ap (map set)
        (distinct_on (λ x y. same_numbers (set x) (set y)) eqb labels
        (λ x y m n.
        let (p, o, e) = Memᴰ.of_map (λ p. (rule_numbered u p).label) met n in
        same_label_lem u (met_within u s) x y p
        ((labelled_pair u (met_within u s) y p).1
        (record { below = (left_pair u p (met_left u s left p o)).below; listed = mem_in o; label = e }))))
        ∙ sym (sets_met_lem s left)

    sets_added : (sets : List TypeSet) → distinct same_numbers sets ≡ sets
        → distinct same_numbers (sets ++ sets_within u s)
        ≡ sets ++ keep (λ t. not (any_pass (same_numbers t) sets)) (sets_met (reduce (normalise u)) s)
    sets_added sets once =
        distinct_append same_numbers numbers_decide sets (sets_within u s)
        ∙ ap₂ ◌++◌ once (ap (keep (λ t. not (any_pass (same_numbers t) sets))) sets_of_met)

  pub found_start : (lim : Limits) → SetFound lim u 0 (label_sets u (is_start u))
  unfolding all_sets label_sets
  found_start lim =
      record {
        once = label_sets_once u (is_start u);
        left =
            λ s m p n.
            let (o, e) = kept (λ t. not (is_empty t)) (map (pairs_labelled u (is_start u)) (numbers_below (length u.labels))) m in
            let (l, q, f) = Memᴰ.of_map (pairs_labelled u (is_start u)) (numbers_below (length u.labels)) o in
            let h = (labelled_pair u (is_start u) l p).0 (subst (λ (t : TypeSet). Memᴰ p t) (sym f) n) in
            start_left p (in_mem p (without_unfruitful (normalise u)).starts h.listed);
        whole =
            let all : lim.types - 0 ≡ lim.types = omega arith in
            ap₂ (λ (n : ℕ) (sets : List TypeSet). more_sets (reduce (normalise u)) n 0 sets) all (sym start_sets_lem);
      }

  pub found_next : {lim : Limits} (next : ℕ) (sets : List TypeSet) (s : TypeSet) → SetFound lim u next sets → get_elem? sets next ≡ just s
      → next < lim.types
      → SetFound lim u (next + 1) (distinct same_numbers (sets ++ sets_within u s))
  found_next {lim} next sets s f e h =
      let left = f.left s (at_mem sets next e) in
      let fuel : lim.types - next ≡ suc (lim.types - (next + 1)) = omega arith in
      let one : suc next ≡ next + 1 = omega arith in
      let g = reduce (normalise u) in
      record {
        once = distinct_again same_numbers numbers_decide (sets ++ sets_within u s);
        left =
            λ t m.
            ⊎_elim (f.left t) (met_set_left s left t)
            (Memᴰ.append_cases sets (distinct_was same_numbers (sets ++ sets_within u s) m));
        whole =
            ap (more_sets g (lim.types - (next + 1)) (next + 1)) (sets_added s left sets f.once)
            ∙ ap (λ (n : ℕ). more_sets g (lim.types - (next + 1)) n (sets ++ new_sets g sets s)) (sym one)
            ∙ sym (more_next g (lim.types - (next + 1)) next sets e)
            ∙ ap (λ (n : ℕ). more_sets g n next sets) (sym fuel)
            ∙ f.whole;
      }
    where
      met_set_left : (s : TypeSet) → AllLeft u s → (t : TypeSet) → Memᴰ t (sets_within u s) → AllLeft u t
      met_set_left s left t m p n =
          let (q, o, f) = Memᴰ.of_map (λ p. pairs_labelled u (met_within u s) (rule_numbered u p).label) (distinct eqb (met s left)) m in
          let h =
          (labelled_pair u (met_within u s) (rule_numbered u q).label p).0 (subst (λ (t : TypeSet). Memᴰ p t) (sym f) n)
          in
          met_left u s left p (in_mem p (met s left) h.listed)

  pub found_all : {lim : Limits} (next : ℕ) (sets : List TypeSet) → SetFound lim u next sets → length sets ≤ next
      → sets ≡ single_type_sets lim u
  found_all {lim} next sets f h =
      sym (more_end (reduce (normalise u)) (lim.types - next) next sets (past_nothing sets next h)) ∙ f.whole

  pub found_many : {lim : Limits} (next : ℕ) (sets : List TypeSet) → SetFound lim u next sets → lim.types < length sets
      → lim.types < length (single_type_sets lim u)
  found_many {lim} next sets f h =
      let (rest, e) = more_grow (reduce (normalise u)) (lim.types - next) next sets in
      let n = ap length (sym f.whole ∙ e) ∙ length-append sets rest in
      omega arith
