-- Tidying keeps the words of a content, and neither adds nor loses types:
--     tidy_words    Word (tidy c) w ↔ Word c w
--     tidy_types    a type stands in tidy c just where it stands in c
use Prim.Native.Nat.{ℕ}
use mathlib.Core.List.Memᴰ
use mathlib.Core.List.{
  List,
  [],
  ◌∷◌,
  ◌++◌,
  Memᴰ,
}
use mathlib.Core.Logic.Iff
use mathlib.Core.Logic.{◌↔◌, ⊎_elim}
use mathlib.Core.Path.{◌≡◌, refl, ap, subst}
use Rattle.grammar.specs.Lists.{distinct, joined_of}
use Rattle.grammar.specs.Content.{
  Content,
  none,
  empty,
  type,
  sequence,
  choice,
  any_number,
  one_or_more,
  optional,
  Contents,
  []ᶜ,
  ◌∷ᶜ◌,
  Word,
  InTurn,
  OfOne,
  operands,
  choice_of,
  types_in,
  types_in_all,
}
use Rattle.grammar.specs.ReadContent.{same_content}
use Rattle.grammar.specs.Tidy.{list_of, alternatives, tidy, tidy_all}
use Rattle.theory.proofs.Lists.ListLaws.{distinct_was, joined_from, joined_mem, distinct_mem}
use Rattle.theory.proofs.Contents.SameWords.{SameWords, same_joined, same_repeated, same_either}
use Rattle.theory.proofs.Contents.ContentBytes.{same_content_lem}
use Rattle.theory.proofs.Contents.WordLaws.{HoldsOfOne, choice_words, operands_words}
use Rattle.theory.proofs.Contents.Standing.{StandsIn, operands_type, choice_type}

pub operands_listed : (cs : Contents) → operands (list_of cs) ≡ cs
unfolding operands list_of
operands_listed []ᶜ = refl
operands_listed (c ∷ᶜ cs) = ap (λ (ds : Contents). c ∷ᶜ ds) (operands_listed cs)

same_append : {k : ℕ} {u u' v v' : List ℕ} → Memᴰ k u ↔ Memᴰ k u' → Memᴰ k v ↔ Memᴰ k v'
    → Memᴰ k (u ++ v) ↔ Memᴰ k (u' ++ v')
same_append {k} {u} {u'} {v} {v'} p q = (
  λ m. ⊎_elim (λ n. Memᴰ.append_left v' (p.0 n)) (λ n. Memᴰ.append_right u' (q.0 n)) (Memᴰ.append_cases u m),
  λ m. ⊎_elim (λ n. Memᴰ.append_left v (p.1 n)) (λ n. Memᴰ.append_right u (q.1 n)) (Memᴰ.append_cases u' m),
)

-- a property that a choice has where one of its operands has it
module _ (P : Content → Type 0) (choice_has : (cs : List Content) → P (choice_of cs) ↔ HoldsOfOne P cs)
    (operands_have : (cs : List Content) → P (choice (operands cs)) ↔ HoldsOfOne P cs) where
  alone : (c : Content) → HoldsOfOne P (c ∷ []) ↔ P c
  alone c = (λ h. subst P (Memᴰ.eq_of_singleton h.1) h.2, λ p. (c, Memᴰ.head refl, p))

  pub alternatives_have : (c : Content) → HoldsOfOne P (alternatives c) ↔ P c
  unfolding alternatives
  alternatives_have none = alone none
  alternatives_have empty = alone empty
  alternatives_have (type k) = alone (type k)
  alternatives_have (sequence cs) = alone (sequence cs)
  alternatives_have (choice cs) = (
    λ h. subst (λ (ds : Contents). P (choice ds)) (operands_listed cs) ((operands_have (list_of cs)).1 h),
    λ p. (operands_have (list_of cs)).0 (rw (operands_listed cs) p),
  )
  alternatives_have (any_number c) = alone (any_number c)
  alternatives_have (one_or_more c) = alone (one_or_more c)
  alternatives_have (optional c) = alone (optional c)

  pub tidy_choice_has : (cs : List Content)
      → P (choice_of (distinct same_content (joined_of alternatives cs))) ↔ P (choice (operands cs))
  tidy_choice_has cs = (λ p. (operands_have cs).1 (there p), λ p. back ((operands_have cs).0 p))
    where
      there : P (choice_of (distinct same_content (joined_of alternatives cs))) → HoldsOfOne P cs
      there p =
          let h = (choice_has (distinct same_content (joined_of alternatives cs))).0 p in
          let j = joined_from alternatives cs (distinct_was same_content (joined_of alternatives cs) h.1) in
          (j.0, j.1, (alternatives_have j.0).0 (h.0, j.2, h.2))

      back : HoldsOfOne P cs → P (choice_of (distinct same_content (joined_of alternatives cs)))
      back h =
          let a = (alternatives_have h.0).1 h.2 in
          (choice_has (distinct same_content (joined_of alternatives cs))).1
          (a.0, distinct_mem same_content same_content_lem (joined_mem alternatives h.1 a.1), a.2)

mutual
  unfolding tidy tidy_all operands

  pub tidy_words : (c : Content) → SameWords (Word (tidy c)) (Word c)
  tidy_words none = λ w. Iff.rfl
  tidy_words empty = λ w. Iff.rfl
  tidy_words (type k) = λ w. Iff.rfl
  tidy_words (sequence cs) = λ w. tidy_in_turn cs w
  tidy_words (choice cs) =
      λ w. Iff.trans (tidy_choice_has (λ c. Word c w) (λ cs. choice_words cs w) (λ cs. operands_words cs w) (tidy_all cs)) (tidy_of_one cs w)
  tidy_words (any_number c) = same_repeated (λ w. tidy_words c w)
  tidy_words (one_or_more c) = same_joined (λ w. tidy_words c w) (same_repeated (λ w. tidy_words c w))
  tidy_words (optional c) = same_either (λ w. Iff.rfl) (λ w. tidy_words c w)

  tidy_in_turn : (cs : Contents) → SameWords (InTurn (operands (tidy_all cs))) (InTurn cs)
  tidy_in_turn []ᶜ = λ w. Iff.rfl
  tidy_in_turn (c ∷ᶜ cs) = same_joined (λ w. tidy_words c w) (λ w. tidy_in_turn cs w)

  tidy_of_one : (cs : Contents) → SameWords (OfOne (operands (tidy_all cs))) (OfOne cs)
  tidy_of_one []ᶜ = λ w. Iff.rfl
  tidy_of_one (c ∷ᶜ cs) = same_either (λ w. tidy_words c w) (λ w. tidy_of_one cs w)

module _ (k : ℕ) where
  mutual
    unfolding tidy tidy_all operands types_in types_in_all

    pub tidy_types : (c : Content) → StandsIn k (tidy c) ↔ StandsIn k c
    tidy_types none = Iff.rfl
    tidy_types empty = Iff.rfl
    tidy_types (type l) = Iff.rfl
    tidy_types (sequence cs) = tidy_all_types cs
    tidy_types (choice cs) =
        Iff.trans (tidy_choice_has (StandsIn k) (choice_type k) (operands_type k) (tidy_all cs)) (tidy_all_types cs)
    tidy_types (any_number c) = tidy_types c
    tidy_types (one_or_more c) = tidy_types c
    tidy_types (optional c) = tidy_types c

    tidy_all_types : (cs : Contents) → Memᴰ k (types_in_all (operands (tidy_all cs))) ↔ Memᴰ k (types_in_all cs)
    tidy_all_types []ᶜ = Iff.rfl
    tidy_all_types (c ∷ᶜ cs) = same_append (tidy_types c) (tidy_all_types cs)
