-- Laws of contents with marks (Marked of specs/):
--   nullable_word : (nullable c ≡ true) ↔ Word c []
--   plain-unmarked : plain (unmarked c) ≡ c        plain-shift : plain (shift m b has) ≡ plain m
--
-- MarkedWords says what the marks mean, MarkedRun that shifting child by child is matching, MarkedPass computes shift in one walk
-- and says how bytes carry the marks.
use Prim.Native.Nat.{ℕ}
use mathlib.Core.Bool.{Bool, true, false, ◌&&◌, ◌||◌, false≢true}
use mathlib.Core.List.{List, [], ◌∷◌, ◌++◌, nil≢cons}
use mathlib.Core.Logic.{◌↔◌, ◌⊎◌, inl}
use mathlib.Core.Path.{◌≡◌, refl, ap, ap₂}
use Rattle.grammar.specs.Content.{
  Content,
  none,
  empty,
  type,
  sequence,
  choice,
  any_number,
  one_or_more,
  optional,
  Contents,
  []ᶜ,
  ◌∷ᶜ◌,
  Language,
  Joined,
  RepeatedWords,
  no_more,
  Word,
  InTurn,
  OfOne,
}
use Rattle.theory.specs.Marked.{
  MContent,
  MContents,
  noneᵐ,
  emptyᵐ,
  typeᵐ,
  sequenceᵐ,
  choiceᵐ,
  any_numberᵐ,
  one_or_moreᵐ,
  optionalᵐ,
  []ᵐ,
  ◌∷ᵐ◌,
  plain,
  plain_all,
  unmarked,
  unmarked_all,
  nullable,
  nullable_all,
  nullable_one,
  final,
  shift,
  shift_in_turn,
  shift_each,
}
use Rattle.theory.proofs.Lists.BoolLaws.{and_decides, or_decides}

mutual
  unfolding unmarked

  pub plain-unmarked : (c : Content) → plain (unmarked c) ≡ c
  plain-unmarked none = refl
  plain-unmarked empty = refl
  plain-unmarked (type k) = refl
  plain-unmarked (sequence cs) = ap sequence (plain_all-unmarked_all cs)
  plain-unmarked (choice cs) = ap choice (plain_all-unmarked_all cs)
  plain-unmarked (any_number c) = ap any_number (plain-unmarked c)
  plain-unmarked (one_or_more c) = ap one_or_more (plain-unmarked c)
  plain-unmarked (optional c) = ap optional (plain-unmarked c)

  pub plain_all-unmarked_all : (cs : Contents) → plain_all (unmarked_all cs) ≡ cs
  plain_all-unmarked_all []ᶜ = refl
  plain_all-unmarked_all (c ∷ᶜ cs) = ap₂ ◌∷ᶜ◌ (plain-unmarked c) (plain_all-unmarked_all cs)

mutual
  unfolding shift

  pub plain-shift : (m : MContent) (b : Bool) (has : ℕ → Bool) → plain (shift m b has) ≡ plain m
  plain-shift noneᵐ b has = refl
  plain-shift emptyᵐ b has = refl
  plain-shift (typeᵐ mark k) b has = refl
  plain-shift (sequenceᵐ ms) b has = ap sequence (plain_all-shift_in_turn ms b has)
  plain-shift (choiceᵐ ms) b has = ap choice (plain_all-shift_each ms b has)
  plain-shift (any_numberᵐ m) b has = ap any_number (plain-shift m (b || final m) has)
  plain-shift (one_or_moreᵐ m) b has = ap one_or_more (plain-shift m (b || final m) has)
  plain-shift (optionalᵐ m) b has = ap optional (plain-shift m b has)

  pub plain_all-shift_in_turn : (ms : MContents) (b : Bool) (has : ℕ → Bool) → plain_all (shift_in_turn ms b has) ≡ plain_all ms
  plain_all-shift_in_turn []ᵐ b has = refl
  plain_all-shift_in_turn (m ∷ᵐ ms) b has =
      ap₂ ◌∷ᶜ◌ (plain-shift m b has) (plain_all-shift_in_turn ms ((b && nullable (plain m)) || final m) has)

  pub plain_all-shift_each : (ms : MContents) (b : Bool) (has : ℕ → Bool) → plain_all (shift_each ms b has) ≡ plain_all ms
  plain_all-shift_each []ᵐ b has = refl
  plain_all-shift_each (m ∷ᵐ ms) b has = ap₂ ◌∷ᶜ◌ (plain-shift m b has) (plain_all-shift_each ms b has)

-- a test of the word of no types, one law an operator
abbrev pub HasNoTypes : Bool → Language → Type 0
HasNoTypes a L = (a ≡ true) ↔ L []

pub none_without : HasNoTypes false (λ w. ⊥)
none_without = (λ e. false≢true e, λ v. absurd v)

empty_without : HasNoTypes true (λ w. w ≡ [])
empty_without = (λ e. refl, λ v. refl)

type_without : (k : ℕ) → HasNoTypes false (λ w. w ≡ k ∷ [])
type_without k = (λ e. absurd (false≢true e), λ v. absurd (nil≢cons v))

pub joined_without : (L M : Language) → Joined L M [] ↔ (L [] × M [])
joined_without L M = (
  λ j. parts j.front j.back j.joined j.front_in j.back_in,
  λ p. record { front = []; back = []; joined = refl; front_in = p.0; back_in = p.1 },
)
  where
    parts : (u v : List ℕ) → [] ≡ u ++ v → L u → M v → L [] × M []
    parts [] [] e l m = (l, m)
    parts [] (k ∷ v) e l m = absurd (nil≢cons e)
    parts (k ∷ u) v e l m = absurd (nil≢cons e)

pub sequence_without : (a b : Bool) (L M : Language) → HasNoTypes a L → HasNoTypes b M → HasNoTypes (a && b) (Joined L M)
sequence_without a b L M p q =
    let r = and_decides a b p q in
    (λ e. (joined_without L M).1 (r.0 e), λ j. r.1 ((joined_without L M).0 j))

repeated_without : (L : Language) → HasNoTypes true (RepeatedWords L)
repeated_without L = (λ e. no_more, λ r. refl)

optional_without : (L : Language) → HasNoTypes true (λ w. (w ≡ []) ⊎ L w)
optional_without L = (λ e. inl refl, λ v. refl)

pub more_without : (a : Bool) (L M : Language) → HasNoTypes a L → HasNoTypes a (Joined L (RepeatedWords M))
more_without a L M p = (λ e. (joined_without L (RepeatedWords M)).1 (p.0 e, no_more), λ j. p.1 ((joined_without L (RepeatedWords M)).0 j).0)

mutual
  unfolding nullable

  pub nullable_word : (c : Content) → HasNoTypes (nullable c) (Word c)
  nullable_word none = none_without
  nullable_word empty = empty_without
  nullable_word (type k) = type_without k
  nullable_word (sequence cs) = nullable_in_turn cs
  nullable_word (choice cs) = nullable_of_one cs
  nullable_word (any_number c) = repeated_without (Word c)
  nullable_word (one_or_more c) = more_without (nullable c) (Word c) (Word c) (nullable_word c)
  nullable_word (optional c) = optional_without (Word c)

  pub nullable_in_turn : (cs : Contents) → HasNoTypes (nullable_all cs) (InTurn cs)
  nullable_in_turn []ᶜ = empty_without
  nullable_in_turn (c ∷ᶜ cs) =
      sequence_without (nullable c) (nullable_all cs) (Word c) (InTurn cs) (nullable_word c) (nullable_in_turn cs)

  pub nullable_of_one : (cs : Contents) → HasNoTypes (nullable_one cs) (OfOne cs)
  nullable_of_one []ᶜ = none_without
  nullable_of_one (c ∷ᶜ cs) = or_decides (nullable c) (nullable_one cs) (nullable_word c) (nullable_of_one cs)
