-- Contents, the types that stand in them, and their words.
use Rattle.std.specs.Prelude.{ℕ, zero, suc, max, List, [], ◌∷◌, ◌++◌, ◌≡◌, ◌⊎◌}

infixr 40 ◌∷ᶜ◌
-- A content of any length, count and nesting.
mutual
  pub data Content : Type 0 where
    none : Content
    empty : Content
    type : ℕ → Content
    sequence : Contents → Content
    choice : Contents → Content
    any_number : Content → Content
    one_or_more : Content → Content
    optional : Content → Content

  pub data Contents : Type 0 where
    []ᶜ : Contents
    ◌∷ᶜ◌ : Content → Contents → Contents

-- The words of a content are lists of types.
abbrev pub Language : Type 1
Language = List ℕ → Type 0

-- one word of each of two languages, joined in order
pub record Joined (L M : Language) (w : List ℕ) : Type 0 where
  pub front : List ℕ
  pub back : List ℕ
  pub joined : w ≡ front ++ back
  pub front_in : L front
  pub back_in : M back

-- every joining of zero or more words of a language
pub data RepeatedWords (L : Language) : List ℕ → Type 0 where
  no_more : RepeatedWords L []
  one_more : {u v : List ℕ} → L u → RepeatedWords L v → RepeatedWords L (u ++ v)

-- None has no word, empty only the word of no types, a type only the word of that one type. A sequence has the words made of
-- one word of each operand, joined in order; a choice has the words of all its operands. Then: any number of, one or more of, optional.
abbrev mutual
  pub Word : Content → Language
  Word none = λ w. ⊥
  Word empty = λ w. w ≡ []
  Word (type k) = λ w. w ≡ k ∷ []
  Word (sequence cs) = λ w. InTurn cs w
  Word (choice cs) = λ w. OfOne cs w
  Word (any_number c) = λ w. RepeatedWords (Word c) w
  Word (one_or_more c) = λ w. Joined (Word c) (RepeatedWords (Word c)) w
  Word (optional c) = λ w. (w ≡ []) ⊎ Word c w

  pub InTurn : Contents → Language
  InTurn []ᶜ = λ w. w ≡ []
  InTurn (c ∷ᶜ cs) = λ w. Joined (Word c) (InTurn cs) w

  pub OfOne : Contents → Language
  OfOne []ᶜ = λ w. ⊥
  OfOne (c ∷ᶜ cs) = λ w. Word c w ⊎ OfOne cs w

-- the types that stand in a content, left to right
unfoldable mutual
  pub types_in : Content → List ℕ
  types_in none = []
  types_in empty = []
  types_in (type k) = k ∷ []
  types_in (sequence cs) = types_in_all cs
  types_in (choice cs) = types_in_all cs
  types_in (any_number c) = types_in c
  types_in (one_or_more c) = types_in c
  types_in (optional c) = types_in c

  pub types_in_all : Contents → List ℕ
  types_in_all []ᶜ = []
  types_in_all (c ∷ᶜ cs) = types_in c ++ types_in_all cs

-- Nesting: none, empty and a type count 1, another operator 1 more than its deepest operand.
unfoldable mutual
  pub nesting : Content → ℕ
  nesting none = 1
  nesting empty = 1
  nesting (type k) = 1
  nesting (sequence cs) = suc (deepest cs)
  nesting (choice cs) = suc (deepest cs)
  nesting (any_number c) = suc (nesting c)
  nesting (one_or_more c) = suc (nesting c)
  nesting (optional c) = suc (nesting c)

  pub deepest : Contents → ℕ
  deepest []ᶜ = zero
  deepest (c ∷ᶜ cs) = max (nesting c) (deepest cs)

-- how many operands
unfoldable pub operand_count : Contents → ℕ
operand_count []ᶜ = zero
operand_count (c ∷ᶜ cs) = suc (operand_count cs)

-- operands from a list
unfoldable pub operands : List Content → Contents
operands [] = []ᶜ
operands (c ∷ cs) = c ∷ᶜ operands cs

-- the choice of some contents: none of none, one stands alone
unfoldable pub choice_of : List Content → Content
unfolding operands
choice_of [] = none
choice_of (c ∷ []) = c
choice_of (c ∷ d ∷ ds) = choice (c ∷ᶜ (d ∷ᶜ operands ds))

-- a content with another content in place of each type
unfoldable mutual
  pub replace : Content → (ℕ → Content) → Content
  replace none f = none
  replace empty f = empty
  replace (type k) f = f k
  replace (sequence cs) f = sequence (replace_all cs f)
  replace (choice cs) f = choice (replace_all cs f)
  replace (any_number c) f = any_number (replace c f)
  replace (one_or_more c) f = one_or_more (replace c f)
  replace (optional c) f = optional (replace c f)

  pub replace_all : Contents → (ℕ → Content) → Contents
  replace_all []ᶜ f = []ᶜ
  replace_all (c ∷ᶜ cs) f = replace c f ∷ᶜ replace_all cs f
