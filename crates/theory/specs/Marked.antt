-- Contents with a mark at each type: "the last child was matched here".
-- (After "A Play on Regular Expressions" by Fischer, Huch and Wilke.)
--
--   plain : MContent → Content          forgets the marks
--   unmarked : Content → MContent       has no mark
--   nullable : Content → Bool           has the word of no types
--   final : MContent → Bool             some mark can end the expression
--   shift : MContent → Bool → (ℕ → Bool) → MContent
--       the marks after one more child; the Bool says whether the child may begin the expression, the test which types it has
--   run : Content → List (ℕ → Bool) → Bool      no children: nullable; else final, after shifting; only the first child may begin
use Rattle.std.specs.Prelude.{ℕ, Bool, true, false, ◌&&◌, ◌||◌, List, [], ◌∷◌}
use Rattle.grammar.specs.Content.{Content, none, empty, type, sequence, choice, any_number, one_or_more, optional, Contents, []ᶜ, ◌∷ᶜ◌}
use Rattle.grammar.specs.Lists.{is_in}

infixr 40 ◌∷ᵐ◌
mutual
  pub data MContent : Type 0 where
    noneᵐ : MContent
    emptyᵐ : MContent
    -- with its mark
    typeᵐ : Bool → ℕ → MContent
    sequenceᵐ : MContents → MContent
    choiceᵐ : MContents → MContent
    any_numberᵐ : MContent → MContent
    one_or_moreᵐ : MContent → MContent
    optionalᵐ : MContent → MContent

  pub data MContents : Type 0 where
    []ᵐ : MContents
    ◌∷ᵐ◌ : MContent → MContents → MContents

abbrev mutual
  pub plain : MContent → Content
  plain noneᵐ = none
  plain emptyᵐ = empty
  plain (typeᵐ mark k) = type k
  plain (sequenceᵐ ms) = sequence (plain_all ms)
  plain (choiceᵐ ms) = choice (plain_all ms)
  plain (any_numberᵐ m) = any_number (plain m)
  plain (one_or_moreᵐ m) = one_or_more (plain m)
  plain (optionalᵐ m) = optional (plain m)

  pub plain_all : MContents → Contents
  plain_all []ᵐ = []ᶜ
  plain_all (m ∷ᵐ ms) = plain m ∷ᶜ plain_all ms

unfoldable mutual
  pub unmarked : Content → MContent
  unmarked none = noneᵐ
  unmarked empty = emptyᵐ
  unmarked (type k) = typeᵐ false k
  unmarked (sequence cs) = sequenceᵐ (unmarked_all cs)
  unmarked (choice cs) = choiceᵐ (unmarked_all cs)
  unmarked (any_number c) = any_numberᵐ (unmarked c)
  unmarked (one_or_more c) = one_or_moreᵐ (unmarked c)
  unmarked (optional c) = optionalᵐ (unmarked c)

  pub unmarked_all : Contents → MContents
  unmarked_all []ᶜ = []ᵐ
  unmarked_all (c ∷ᶜ cs) = unmarked c ∷ᵐ unmarked_all cs

-- has the word of no types
unfoldable mutual
  pub nullable : Content → Bool
  nullable none = false
  nullable empty = true
  nullable (type k) = false
  nullable (sequence cs) = nullable_all cs
  nullable (choice cs) = nullable_one cs
  nullable (any_number c) = true
  nullable (one_or_more c) = nullable c
  nullable (optional c) = true

  pub nullable_all : Contents → Bool
  nullable_all []ᶜ = true
  nullable_all (c ∷ᶜ cs) = nullable c && nullable_all cs

  pub nullable_one : Contents → Bool
  nullable_one []ᶜ = false
  nullable_one (c ∷ᶜ cs) = nullable c || nullable_one cs

-- some mark can end the expression
unfoldable mutual
  unfolding nullable nullable_all

  pub final : MContent → Bool
  final noneᵐ = false
  final emptyᵐ = false
  final (typeᵐ mark k) = mark
  final (sequenceᵐ ms) = final_in_turn ms
  final (choiceᵐ ms) = final_of_one ms
  final (any_numberᵐ m) = final m
  final (one_or_moreᵐ m) = final m
  final (optionalᵐ m) = final m

  pub final_in_turn : MContents → Bool
  final_in_turn []ᵐ = false
  final_in_turn (m ∷ᵐ ms) = (final m && nullable_all (plain_all ms)) || final_in_turn ms

  pub final_of_one : MContents → Bool
  final_of_one []ᵐ = false
  final_of_one (m ∷ᵐ ms) = final m || final_of_one ms

-- One more child. It is matched at a type where it may begin there and has the type. It may begin an operand of a sequence where it
-- may begin the operand before and that operand has the word of no types, or where an old mark can end the operand before; and it
-- may begin what is repeated where it may begin the whole or an old mark can end what is repeated.
unfoldable mutual
  unfolding nullable final

  pub shift : MContent → Bool → (ℕ → Bool) → MContent
  shift noneᵐ b has = noneᵐ
  shift emptyᵐ b has = emptyᵐ
  shift (typeᵐ mark k) b has = typeᵐ (b && has k) k
  shift (sequenceᵐ ms) b has = sequenceᵐ (shift_in_turn ms b has)
  shift (choiceᵐ ms) b has = choiceᵐ (shift_each ms b has)
  shift (any_numberᵐ m) b has = any_numberᵐ (shift m (b || final m) has)
  shift (one_or_moreᵐ m) b has = one_or_moreᵐ (shift m (b || final m) has)
  shift (optionalᵐ m) b has = optionalᵐ (shift m b has)

  pub shift_in_turn : MContents → Bool → (ℕ → Bool) → MContents
  shift_in_turn []ᵐ b has = []ᵐ
  shift_in_turn (m ∷ᵐ ms) b has = shift m b has ∷ᵐ shift_in_turn ms ((b && nullable (plain m)) || final m) has

  pub shift_each : MContents → Bool → (ℕ → Bool) → MContents
  shift_each []ᵐ b has = []ᵐ
  shift_each (m ∷ᵐ ms) b has = shift m b has ∷ᵐ shift_each ms b has

-- the marks after some children; the Bool says whether the next child may begin the content
unfoldable pub shifts : MContent → Bool → List (ℕ → Bool) → MContent
unfolding shift
shifts m b [] = m
shifts m b (has ∷ children) = shifts (shift m b has) false children

unfoldable pub run : Content → List (ℕ → Bool) → Bool
unfolding nullable final unmarked shifts
run c [] = nullable c
run c (has ∷ children) = final (shifts (unmarked c) true (has ∷ children))

-- children given by lists of types
abbrev pub holds : List ℕ → ℕ → Bool
holds types k = is_in k types
