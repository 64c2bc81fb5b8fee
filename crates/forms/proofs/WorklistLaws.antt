-- The worklist as the program goes through it:
--   set_given                           the set that a pair met gives
--   up_none, up_more, up_many, up_all   the sets of the pairs met up to one are added
--   look_more, look_many, look_all      one set more is looked into
use Prim.Native.Nat.{ℕ, ◌+◌, ◌≤◌, ◌<◌}
use native.Mathlib.Omega.{arith}
use native.Mathlib.Numerals.{add-one}
use mathlib.Core.Bool.{Bool}
use mathlib.Core.List.{List, [], ◌∷◌, ◌++◌, append-nil, append_assoc, Memᴰ}
use mathlib.Core.Option.{some as just}
use mathlib.Core.Path.{◌≡◌, sym, ◌∙◌, ap, ap₂, subst}
use lib.ListN.{length, get_or, get_elem?, take, drop, take-append-drop, length-map, get_or-map}
use lib.Seq.{take-suc, take_all, get_or-take, length-take-le}
use lib.Dec.{eqb}
use Rattle.grammar.specs.Limits.{Limits}
use Rattle.grammar.specs.Lists.{distinct, is_in, same_numbers}
use Rattle.grammar.specs.SingleTypeForm.{TypeSet}
use Rattle.grammar.specs.Table.{Table}
use Rattle.theory.specs.Alternatives.{pairs_met}
use Rattle.theory.proofs.Lists.ListLaws.{distinct_was, joined_from, below_at, numbers_decide, taken_mem}
use Rattle.theory.proofs.Lists.DistinctLaws.{distinct_left, distinct_again}
use Rattle.sets.specs.Sets.{member}
use Rattle.union.specs.declared.united.United.{United}
use Rattle.union.specs.View.{Views, label_in}
use Rattle.union.specs.PairNumbers.{rule_numbered, fruitful_of, contents_in, met_in}
use Rattle.union.proofs.MetLaws.{met_hold}
use Rattle.reducing.proofs.MeetingLaws.{distinct_in}
use Rattle.std.specs.Prelude.{Option, Some, None}
use Rattle.forms.specs.SetWords.{set_in, SetsHeld, SetsCounted}
use Rattle.forms.specs.Worklist.{sets_within}
use Rattle.forms.specs.SetForms.{pairs_labelled, met_within, single_type_sets}
use Rattle.forms.proofs.LabelLaws.{label_at}
use Rattle.forms.proofs.ResultLaws.{fruitful_below}
use Rattle.forms.proofs.SetsFound.{SetFound, part_many, found_next, found_all, found_many}

met_below : (u : Table) (set : ℕ → Bool) (p : ℕ) → Memᴰ p (met_in u set) → p < length u.rules
unfolding met_in
met_below u set p m =
    let c = joined_from (pairs_met (fruitful_of u)) (contents_in u set) m in
    met_hold (fruitful_of u) (λ q. q < length u.rules) (fruitful_below u) c.0 p c.2

-- some of the sets that are to be added
pub up_none : (sets more : List TypeSet) → distinct same_numbers sets ≡ sets → distinct same_numbers (sets ++ take 0 more) ≡ sets
up_none sets more once = ap (distinct same_numbers) (append-nil sets) ∙ once

pub up_once : (sets more : List TypeSet) (i : ℕ)
    → distinct same_numbers (distinct same_numbers (sets ++ take i more)) ≡ distinct same_numbers (sets ++ take i more)
up_once sets more i = distinct_again same_numbers numbers_decide (sets ++ take i more)

-- the pairs met in a set, as they stand in a list of numbers
module _ {old add : List ℕ} {v : United} {u : Table} (x : Views old add v u) (s : TypeSet) (numbers : List ℕ) (count : ℕ)
    (met : take count numbers ≡ distinct eqb (met_in u (λ q. is_in q s))) (held : count ≤ length numbers) where
  abbrev given : ℕ → TypeSet
  given p = pairs_labelled u (met_within u s) (rule_numbered u p).label

  many : length (sets_within u s) ≡ count
  many = length-map (distinct eqb (met_in u (λ q. is_in q s))) given ∙ ap length (sym met) ∙ length-take-le count numbers held

  pub set_given : (all : List ℕ) → member all 0 ≡ (λ p. is_in p (take count numbers)) → (i : ℕ) → i < count
      → pairs_labelled u (member all 0) (label_in v (get_or numbers i 0)) ≡ given (get_or numbers i 0)
  set_given all e i h =
      let here = subst (λ (l : List ℕ). Memᴰ (get_or numbers i 0) l) met (taken_mem numbers i count h (omega arith)) in
      let below = met_below u (λ q. is_in q s) (get_or numbers i 0) (distinct_was eqb (met_in u (λ q. is_in q s)) here) in
      ap₂ (pairs_labelled u)
      (e ∙ ap (λ (l : List ℕ). λ (p : ℕ). is_in p l) met ∙ distinct_in (met_in u (λ q. is_in q s)))
      (label_at x (get_or numbers i 0) (omega (arith, x.rules)))

  part_next : (i : ℕ) → i < count → take (i + 1) (sets_within u s) ≡ take i (sets_within u s) ++ (given (get_or numbers i 0) ∷ [])
  part_next i h =
      let xs = distinct eqb (met_in u (λ q. is_in q s)) in
      let at : get_or (sets_within u s) i (given 0) ≡ given (get_or numbers i 0) =
      get_or-map given xs i 0 ∙ ap (λ (l : List ℕ). given (get_or l i 0)) (sym met) ∙ ap given (get_or-take count numbers i 0 h) in
      ap (λ (n : ℕ). take n (sets_within u s)) (add-one i)
      ∙ take-suc (sets_within u s) i (given 0) (omega (arith, many))
      ∙ ap (λ (t : TypeSet). take i (sets_within u s) ++ (t ∷ [])) at

  abbrev pub up_to : List TypeSet → ℕ → List TypeSet
  up_to sets i = distinct same_numbers (sets ++ take i (sets_within u s))

  -- one pair met more
  up_next : (sets : List TypeSet) (i : ℕ) → i < count
      → distinct same_numbers (up_to sets i ++ (given (get_or numbers i 0) ∷ [])) ≡ up_to sets (i + 1)
  up_next sets i h =
      distinct_left same_numbers numbers_decide (sets ++ take i (sets_within u s)) (given (get_or numbers i 0) ∷ [])
      ∙ ap (distinct same_numbers)
      (append_assoc sets (take i (sets_within u s)) (given (get_or numbers i 0) ∷ [])
      ∙ ap (λ (l : List TypeSet). sets ++ l) (sym (part_next i h)))

  pub up_all : (sets : List TypeSet) (i : ℕ) → count ≤ i → up_to sets i ≡ distinct same_numbers (sets ++ sets_within u s)
  up_all sets i h =
      ap (λ (l : List TypeSet). distinct same_numbers (sets ++ l)) (take_all i (sets_within u s) (omega (arith, many)))

  module _ (most : ℕ) (sets : List TypeSet) (i : ℕ) (h : i < count) (words : List ℕ) (r : Option ℕ) (t : TypeSet)
      (is : t ≡ given (get_or numbers i 0)) (put : SetsCounted most words (distinct same_numbers (up_to sets i ++ (t ∷ []))) r) where
    put_next : SetsCounted most words (up_to sets (i + 1)) r
    put_next =
        subst (λ (l : List TypeSet). SetsCounted most words l r)
        (ap (λ (w : TypeSet). distinct same_numbers (up_to sets i ++ (w ∷ []))) is ∙ up_next sets i h)
        put

    pub up_more : (n : ℕ) → r ≡ Some n → SetsCounted most words (up_to sets (i + 1)) (Some n)
    up_more n e = subst (SetsCounted most words (up_to sets (i + 1))) e put_next

    pub up_many : r ≡ None → most < length (distinct same_numbers (sets ++ sets_within u s))
    up_many e =
        let a : most < length (up_to sets (i + 1)) = subst (SetsCounted most words (up_to sets (i + 1))) e put_next in
        let b = part_many sets (take (i + 1) (sets_within u s)) (drop (i + 1) (sets_within u s)) in
        let c = ap (λ (l : List TypeSet). length (distinct same_numbers (sets ++ l))) (take-append-drop (i + 1) (sets_within u s)) in
        omega arith

-- The sets that stand in the words are found.
pub record Standing (lim : Limits) (u : Table) (next : ℕ) (words : List ℕ) (count : ℕ) : Type 0 where
  pub sets : List TypeSet
  pub found : SetFound lim u next sets
  pub counted : count ≡ length sets
  pub held : SetsHeld words sets

module _ {lim : Limits} {u : Table} {next : ℕ} {words : List ℕ} {count : ℕ} (x : Standing lim u next words count) (h : next < count) where
  -- the set that is looked into next
  pub next_set : TypeSet
  next_set = (below_at x.sets next (omega (arith, x.counted))).0

  next_at : get_elem? x.sets next ≡ just next_set
  unfolding next_set
  next_at = (below_at x.sets next (omega (arith, x.counted))).1

  pub next_met : (set numbers : List ℕ) → member set 0 ≡ set_in words next → numbers ≡ distinct eqb (met_in u (member set 0))
      → numbers ≡ distinct eqb (met_in u (λ q. is_in q next_set))
  next_met set numbers e met =
      met ∙ ap (λ (f : ℕ → Bool). distinct eqb (met_in u f)) (e ∙ x.held.set next next_set next_at)

  module _ (most : ℕ) (types : most ≡ lim.types) (few : count ≤ most) (after : List ℕ) (r : Option ℕ)
      (put : SetsCounted most after (distinct same_numbers (x.sets ++ sets_within u next_set)) r) where
    pub look_more : (n : ℕ) → r ≡ Some n → Standing lim u (next + 1) after n
    look_more n e =
        let p = subst (SetsCounted most after (distinct same_numbers (x.sets ++ sets_within u next_set))) e put in
        record {
          sets = distinct same_numbers (x.sets ++ sets_within u next_set);
          found = found_next u next x.sets next_set x.found next_at (omega arith);
          counted = p.0;
          held = p.2;
        }

    pub look_many : r ≡ None → most < length (single_type_sets lim u)
    look_many e =
        let sets = distinct same_numbers (x.sets ++ sets_within u next_set) in
        let many : most < length sets = subst (SetsCounted most after sets) e put in
        let all = found_many u (next + 1) sets (found_next u next x.sets next_set x.found next_at (omega arith)) (omega arith) in
        omega arith

pub look_all : {lim : Limits} {u : Table} {next : ℕ} {words : List ℕ} {count : ℕ} → Standing lim u next words count → count ≤ next
    → (most : ℕ) → count ≤ most
    → SetsCounted most words (single_type_sets lim u) (Some count)
look_all {lim} {u} {next} {words} {count} x h most few =
    subst (λ (l : List TypeSet). SetsCounted most words l (Some count))
    (found_all u next x.sets x.found (omega (arith, x.counted)))
    (x.counted, few, x.held)
