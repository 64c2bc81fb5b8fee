-- Sets of pairs that stand in words:
--   number_here, number_nowhere   the number of a set among them
--   sets_put, sets_full           one set more after them
--   some_put, none_put            unless it is empty
--   new_put, old_put              unless it is there
--   no_sets                       none yet
--   sets_stay                     where the words stay, they stay
--   few_put, few_many             how many they are then
use Prim.Native.Nat.{ℕ, zero, suc, ◌+◌, ◌*◌, ◌≤◌, ◌<◌}
use native.Mathlib.Omega.{arith}
use mathlib.Core.Bool.{Bool, true, false, not}
use mathlib.Core.List.Memᴰ
use mathlib.Core.List.{List, [], ◌∷◌, ◌++◌, append-nil, Memᴰ}
use mathlib.Core.Logic.{⊎_elim}
use mathlib.Core.Option.{some as just}
use mathlib.Core.Path.{◌≡◌, refl, sym, ◌∙◌, ap, subst}
use lib.ListN.{length, get_elem?, take, length-append}
use lib.Dec.{ltb}
use borrow.Author.Tests.{ltb-true, ltb-false}
use Rattle.grammar.specs.Lists.{any_pass, keep, distinct, place, is_in, same_numbers, numbers_below}
use Rattle.grammar.specs.ReadTable.{is_empty}
use Rattle.grammar.specs.SingleTypeForm.{TypeSet}
use Rattle.theory.proofs.Lists.BoolLaws.{false_of}
use Rattle.theory.proofs.Lists.ListLaws.{
  at_below,
  below_at,
  at_joined,
  at_mem,
  just_eq,
  same_numbers_lem,
  same_numbers_refl,
  numbers_decide,
  keep_yes,
  decided_sym,
  mem_some,
  in_mem,
}
use Rattle.theory.proofs.Lists.PlaceLaws.{place_found, place_some}
use Rattle.theory.proofs.Lists.DistinctLaws.{one_more_new, one_more_old}
use Rattle.sets.specs.Sets.{member, store_at, Empties}
use Rattle.sets.proofs.SetLaws.{words_store, store_before, length_store, words_before}
use Rattle.reader.proofs.LabelSearch.{place_first, place_nowhere}
use Rattle.std.specs.Prelude.{Some, None}
use Rattle.forms.specs.SetWords.{set_in, Ascending, SetsHeld, SetsCounted}
use Rattle.forms.specs.Worklist.{Few}
use Rattle.forms.proofs.KeptLists.{keep_nothing}
use Rattle.forms.proofs.NumberLists.{same_ascending}

-- a set of words that is this ascending list
pub record SetOf (words : List ℕ) (s : TypeSet) : Type 0 where
  pub is : member words 0 ≡ (λ p. is_in p s)
  pub ascending : Ascending s

last_at : {A : Type 0} (xs : List A) (x : A) (i : ℕ) {y : A} → length xs ≤ i
    → get_elem? (xs ++ (x ∷ [])) i ≡ just y → (i ≡ length xs) × (y ≡ x)
last_at [] x zero h e = (refl, just_eq e)
last_at [] x (suc i) h e = let z : ◌≡◌ {A = ℕ} 0 1 = cc in absurd (omega arith)
last_at (z ∷ xs) x zero h e = absurd (omega arith)
last_at (z ∷ xs) x (suc i) h e = let r = last_at xs x i (omega arith) e in (ap suc r.0, r.1)

module _ {words : List ℕ} {sets : List TypeSet} (held : SetsHeld words sets) (count : ℕ) (counted : count ≡ length sets)
    (set : List ℕ) {s : TypeSet} (x : SetOf set s) where
  -- whether the set of a number is this one
  same_there : (i : ℕ) (t : TypeSet) → get_elem? sets i ≡ just t → set_in words i ≡ member set 0 → same_numbers s t ≡ true
  same_there i t e q =
      let f = same_ascending s t 256 x.ascending (held.ascending t (at_mem sets i e)) (sym x.is ∙ sym q ∙ held.set i t e) in
      subst (λ (r : TypeSet). same_numbers s r ≡ true) f (same_numbers_refl s)

  other_there : (i : ℕ) (t : TypeSet) → get_elem? sets i ≡ just t → (set_in words i ≡ member set 0 → ⊥) → same_numbers s t ≡ false
  other_there i t e d =
      false_of (same_numbers s t)
      (λ q. d (held.set i t e ∙ ap (λ (r : TypeSet). λ (p : ℕ). is_in p r) (sym (same_numbers_lem s t q)) ∙ sym x.is))

  pub number_here : (i : ℕ) → i < count → set_in words i ≡ member set 0 → ((j : ℕ) → j < i → set_in words j ≡ member set 0 → ⊥)
      → i ≡ place same_numbers s sets
  number_here i h q before =
      let p = below_at sets i (omega arith) in
      sym (place_first same_numbers s sets i p.1 (same_there i p.0 p.1 q) (λ j t k e. other_there j t e (before j k)))

  pub number_nowhere : (i : ℕ) → count ≤ i → i ≤ count → ((j : ℕ) → j < i → set_in words j ≡ member set 0 → ⊥) → i ≡ place same_numbers s sets
  number_nowhere i a b h =
      let e : i ≡ length sets = omega arith in
      e ∙ sym (place_nowhere same_numbers s sets (λ j t f. let l = at_below sets j f in other_there j t f (h j (omega arith))))

  -- one set more after them
  pub sets_put : length set ≡ 8 → (most : ℕ) → count < most → most ≤ 128 → (after : List ℕ) → after ≡ store_at words (8 * count) set
      → SetsCounted most after (sets ++ (s ∷ [])) (Some (count + 1))
  sets_put eight most few room after e =
      subst (λ (w : List ℕ). SetsCounted most w (sets ++ (s ∷ [])) (Some (count + 1))) (sym e) (
        omega (arith, longer),
        omega arith,
        record {
          few = omega (arith, longer);
          room = rw (length_store words (8 * count) set fits) held.room;
          set = each;
          ascending = up;
        },
      )
    where
      fits : 8 * count + length set ≤ length words
      fits = let r = held.room in omega arith

      longer : length (sets ++ (s ∷ [])) ≡ length sets + 1
      longer = length-append sets (s ∷ [])

      each : (i : ℕ) (t : TypeSet) → get_elem? (sets ++ (s ∷ [])) i ≡ just t → set_in (store_at words (8 * count) set) i ≡ (λ p. is_in p t)
      each i t f = go (ltb i (length sets)) refl
        where
          go : (b : Bool) → ltb i (length sets) ≡ b → set_in (store_at words (8 * count) set) i ≡ (λ p. is_in p t)
          go true b =
              let h = ltb-true i (length sets) b in
              ap (λ (w : List ℕ). member w 0) (store_before words (8 * count) set (8 * i) 8 fits (omega arith))
              ∙ held.set i t (sym (at_joined sets (s ∷ []) i h) ∙ f)
          go false b =
              let l = last_at sets s i (ltb-false i (length sets) b) f in
              ap (λ (j : ℕ). set_in (store_at words (8 * count) set) j) (l.0 ∙ sym counted)
              ∙ ap (λ (w : List ℕ). member w 0) (words_store words (8 * count) set 8 fits eight)
              ∙ x.is
              ∙ ap (λ (r : TypeSet). λ (p : ℕ). is_in p r) (sym l.1)

      up : (t : TypeSet) → Memᴰ t (sets ++ (s ∷ [])) → Ascending t
      up t m =
          ⊎_elim (held.ascending t) (λ l. subst Ascending (sym (Memᴰ.eq_of_singleton l)) x.ascending)
          (Memᴰ.append_cases sets m)

  pub sets_full : (most : ℕ) → count ≡ most → most < length (sets ++ (s ∷ []))
  sets_full most e = let l = length-append sets (s ∷ []) in omega arith

  -- a set that is empty, or not
  pub none_put : (most : ℕ) → count ≤ most → (r : Bool) → r ≡ true → Empties set r
      → SetsCounted most words (sets ++ keep (λ t. not (is_empty t)) (s ∷ [])) (Some count)
  unfolding keep
  none_put most few r is empties =
      let e : s ≡ [] =
      sym x.ascending
      ∙ keep_nothing (λ p. is_in p s) (numbers_below 256)
      (λ p m. sym (ap (λ (f : ℕ → Bool). f p) x.is) ∙ ap (λ (f : ℕ → Bool). f p) (empties.none is)) in
      let same : sets ++ keep (λ t. not (is_empty t)) (s ∷ []) ≡ sets =
      ap (λ (r : TypeSet). sets ++ keep (λ t. not (is_empty t)) (r ∷ [])) e ∙ append-nil sets in
      subst (λ (l : List TypeSet). SetsCounted most words l (Some count)) (sym same) (counted, few, held)

  pub some_put : (r : Bool) → r ≡ false → Empties set r → sets ++ (s ∷ []) ≡ sets ++ keep (λ t. not (is_empty t)) (s ∷ [])
  unfolding is_in keep
  some_put r is empties =
      let k = empties.one is in
      ap (λ (l : List TypeSet). sets ++ l)
      (sym
      (keep_yes (λ t. not (is_empty t)) s []
      (mem_some (in_mem k.0 s (sym (ap (λ (f : ℕ → Bool). f k.0) x.is) ∙ k.2)))))

  -- a set that is there, or not
  module _ (once : distinct same_numbers sets ≡ sets) where
    pub old_put : (most : ℕ) → count ≤ most → (r : ℕ) → r ≡ place same_numbers s sets → r < count
        → SetsCounted most words (distinct same_numbers (sets ++ (s ∷ []))) (Some count)
    old_put most few r e h =
        let same =
        one_more_old same_numbers (decided_sym same_numbers numbers_decide) sets s (place_some same_numbers s sets (omega arith)) ∙ once in
        subst (λ (l : List TypeSet). SetsCounted most words l (Some count)) (sym same) (counted, few, held)

    pub new_put : (r : ℕ) → r ≡ place same_numbers s sets → count ≤ r → sets ++ (s ∷ []) ≡ distinct same_numbers (sets ++ (s ∷ []))
    new_put r e h =
        let none : any_pass (same_numbers s) sets ≡ false =
        false_of (any_pass (same_numbers s) sets)
        (λ t. let f = place_found same_numbers s sets t in let l = at_below sets (place same_numbers s sets) f.1 in omega arith) in
        sym (one_more_new same_numbers (decided_sym same_numbers numbers_decide) sets s none ∙ ap (λ (l : List TypeSet). l ++ (s ∷ [])) once)

pub no_sets : (most : ℕ) (words : List ℕ) → 1024 ≤ length words → SetsCounted most words [] (Some 0)
no_sets most words room = (
  refl,
  omega arith,
  record {
    few = omega arith;
    room = room;
    set = λ i s e. let z : ◌≡◌ {A = ℕ} 0 1 = cc in absurd (omega arith);
    ascending = λ s m. elim m [ ];
  },
)

pub sets_stay : (before after : List ℕ) (n : ℕ) {sets : List TypeSet} → take n after ≡ take n before → 1024 ≤ n → 1024 ≤ length after
    → SetsHeld before sets → SetsHeld after sets
sets_stay before after n {sets} e long room held =
    record {
      few = held.few;
      room = room;
      set =
          λ i s at.
          let b = at_below sets i at in
          let few = held.few in
          ap (λ (w : List ℕ). member w 0) (words_before before after n (8 * i) 8 e (omega arith)) ∙ held.set i s at;
      ascending = held.ascending;
    }

pub few_put : (most n : ℕ) → n ≤ most → Few most (Some n)
few_put most n h m e = let same : n ≡ m = cc in omega arith

pub few_many : (most : ℕ) → Few most None
few_many most m e = let z : ◌≡◌ {A = ℕ} 0 1 = cc in absurd (omega arith)
