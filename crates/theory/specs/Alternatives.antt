-- What a content of a source table gives to a content of the result, read off the source content alone: no table between the two.
--   alts        the alternatives that it gives to a choice, each tidied, equal ones not yet dropped
--   one_content  the one content that some alternatives make
--   has_alts     whether it has alternatives
--   pairs_met    the pairs that stand in it once it is in normal form and reduced, left to right
--   gathered    alternatives after some operands, equal ones once: `one_content xs` is the choice of what is gathered into an empty list
-- They are over what a source type gives: `results` its result types, `has` whether it has any, `left` its fruitful pairs.
-- EmittedContent says that this is tidying after replacing after reducing after normalising; MetPairs says so of the pairs.
use Rattle.std.specs.Prelude.{ℕ, Bool, true, false, not, ◌&&◌, ◌||◌, List, [], ◌∷◌, ◌++◌, map, ◌≡◌}
use Rattle.grammar.specs.Lists.{any_pass, keep, distinct, joined_of, is_in}
use Rattle.grammar.specs.Content.{
  Content,
  none,
  empty,
  type,
  sequence,
  choice,
  any_number,
  one_or_more,
  optional,
  Contents,
  []ᶜ,
  ◌∷ᶜ◌,
  operands,
  choice_of,
}
use Rattle.grammar.specs.ReadContent.{same_content}
use Rattle.grammar.specs.ReadTable.{is_empty}

-- equal alternatives once; one stands alone, several are a choice
unfoldable pub one_content : List Content → Content
unfolding choice_of distinct same_content
one_content xs = choice_of (distinct same_content xs)

-- an operator around one operand that has these alternatives; where it has none, others
unfoldable pub around : (Content → Content) → List Content → List Content → List Content
unfolding one_content
around f others [] = others
around f others (x ∷ xs) = f (one_content (x ∷ xs)) ∷ []

-- a sequence of operands that have these alternatives; nothing where some operand has none
unfoldable pub in_sequence : List (List Content) → List Content
unfolding any_pass operands one_content
in_sequence xss = elim (any_pass is_empty xss) [ true ↦ [] | false ↦ sequence (operands (map one_content xss)) ∷ [] ]

unfoldable mutual
  unfolding around in_sequence joined_of

  pub alts : (ℕ → List ℕ) → Content → List Content
  alts results none = []
  alts results empty = empty ∷ []
  alts results (type k) = map type (results k)
  alts results (sequence cs) = in_sequence (alts_of_each results cs)
  alts results (choice cs) = joined_of (λ xs. xs) (alts_of_each results cs)
  alts results (any_number c) = around any_number (empty ∷ []) (alts results c)
  alts results (one_or_more c) = around one_or_more [] (alts results c)
  alts results (optional c) = around optional (empty ∷ []) (alts results c)

  pub alts_of_each : (ℕ → List ℕ) → Contents → List (List Content)
  alts_of_each results []ᶜ = []
  alts_of_each results (c ∷ᶜ cs) = alts results c ∷ alts_of_each results cs

unfoldable mutual
  pub has_alts : (ℕ → Bool) → Content → Bool
  has_alts has none = false
  has_alts has empty = true
  has_alts has (type k) = has k
  has_alts has (sequence cs) = all_have_alts has cs
  has_alts has (choice cs) = one_has_alts has cs
  has_alts has (any_number c) = true
  has_alts has (one_or_more c) = has_alts has c
  has_alts has (optional c) = true

  pub all_have_alts : (ℕ → Bool) → Contents → Bool
  all_have_alts has []ᶜ = true
  all_have_alts has (c ∷ᶜ cs) = has_alts has c && all_have_alts has cs

  pub one_has_alts : (ℕ → Bool) → Contents → Bool
  one_has_alts has []ᶜ = false
  one_has_alts has (c ∷ᶜ cs) = has_alts has c || one_has_alts has cs

-- a list, or nothing
unfoldable pub only_if : {A : Type 0} → Bool → List A → List A
only_if true xs = xs
only_if false xs = []

-- whether any is left
unfoldable pub some_left : (ℕ → List ℕ) → ℕ → Bool
some_left left k = not (is_empty (left k))

-- a source type's fruitful pairs, whether it has any, and their result types
abbrev pub pairs_left : (ℕ → List ℕ) → List ℕ → ℕ → List ℕ
pairs_left pairs known k = keep (λ p. is_in p known) (pairs k)

abbrev pub has_left : (ℕ → List ℕ) → List ℕ → ℕ → Bool
has_left pairs known k = any_pass (λ p. is_in p known) (pairs k)

abbrev pub results_of : (ℕ → List ℕ) → List ℕ → (ℕ → ℕ) → ℕ → List ℕ
results_of pairs known target k = map target (pairs_left pairs known k)

-- A sequence with an operand that has no alternatives has no pairs; elsewhere such a part has none of itself.
unfoldable mutual
  unfolding all_have_alts some_left only_if

  pub pairs_met : (ℕ → List ℕ) → Content → List ℕ
  pairs_met left none = []
  pairs_met left empty = []
  pairs_met left (type k) = left k
  pairs_met left (sequence cs) = only_if (all_have_alts (some_left left) cs) (pairs_met_all left cs)
  pairs_met left (choice cs) = pairs_met_all left cs
  pairs_met left (any_number c) = pairs_met left c
  pairs_met left (one_or_more c) = pairs_met left c
  pairs_met left (optional c) = pairs_met left c

  pub pairs_met_all : (ℕ → List ℕ) → Contents → List ℕ
  pairs_met_all left []ᶜ = []
  pairs_met_all left (c ∷ᶜ cs) = pairs_met left c ++ pairs_met_all left cs

-- alternatives after some operands, equal ones once
unfoldable pub gathered : List Content → List Content → List Content
unfolding distinct same_content
gathered ds xs = distinct same_content (ds ++ xs)

-- operands that are gathered: no two are equal
abbrev pub Gathered : List Content → Type 0
Gathered ds = distinct same_content ds ≡ ds
