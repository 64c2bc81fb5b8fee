-- Deciding whether a table lets in a document. (crates/theory proves that this is LetsIn.)
use Rattle.std.specs.Prelude.{ℕ, zero, suc, Bool, true, false, ◌&&◌, ◌||◌, not, List, [], ◌∷◌, map, length}
use Rattle.std.proofs.Math.Option.{none as nothing, some as just}
use Rattle.std.proofs.Math.ListN.{get_elem?}
use Rattle.grammar.specs.Lists.{any_pass, keep, is_in}
use Rattle.grammar.specs.Names.{Name, same_name}
use Rattle.grammar.specs.Content.{
  Content,
  none,
  empty,
  type,
  sequence,
  choice,
  any_number,
  one_or_more,
  optional,
  Contents,
  []ᶜ,
  ◌∷ᶜ◌,
}
use Rattle.grammar.specs.Tree.{Head, Tree, node, Forest, []ᵗ, ◌∷ᵗ◌}
use Rattle.grammar.specs.Table.{Rule, Table}

-- A test of children, each given by the types that derive it.
abbrev pub Test : Type 0
Test = List (List ℕ) → Bool

unfoldable pub no_children : Test
no_children [] = true
no_children (c ∷ cs) = false

unfoldable pub one_child : ℕ → Test
unfolding is_in
one_child k [] = false
one_child k (c ∷ []) = is_in k c
one_child k (c ∷ d ∷ ds) = false

-- some front passes the first test and the rest the second
unfoldable pub in_turn : List (List ℕ) → Test → Test → Bool
in_turn [] first second = first [] && second []
in_turn (c ∷ cs) first second =
    elim (first []) [ true ↦ second (c ∷ cs) || in_turn cs (λ u. first (c ∷ u)) second | false ↦ in_turn cs (λ u. first (c ∷ u)) second ]

-- zero or more parts, none of them empty, each pass the test; `n` bounds the number of parts
unfoldable pub repeated_within : ℕ → Test → Test
unfolding in_turn
repeated_within zero test [] = true
repeated_within zero test (c ∷ cs) = false
repeated_within (suc n) test [] = true
repeated_within (suc n) test (c ∷ cs) = in_turn cs (λ u. test (c ∷ u)) (repeated_within n test)

unfoldable pub repeated : Test → Test
unfolding repeated_within
repeated test cs = repeated_within (length cs) test cs

-- the children, in order, are derived by the types of some word of the content
unfoldable mutual
  unfolding no_children one_child in_turn repeated

  pub matches : Content → Test
  matches none = λ u. false
  matches empty = λ u. no_children u
  matches (type k) = λ u. one_child k u
  matches (sequence cs) = λ u. matches_in_turn cs u
  matches (choice cs) = λ u. matches_one cs u
  matches (any_number c) = λ u. repeated (matches c) u
  matches (one_or_more c) = λ u. in_turn u (matches c) (repeated (matches c))
  matches (optional c) = λ u. no_children u || matches c u

  pub matches_in_turn : Contents → Test
  matches_in_turn []ᶜ = λ u. no_children u
  matches_in_turn (c ∷ᶜ cs) = λ u. in_turn u (matches c) (matches_in_turn cs)

  pub matches_one : Contents → Test
  matches_one []ᶜ = λ u. false
  matches_one (c ∷ᶜ cs) = λ u. matches c u || matches_one cs u

-- the label of this number has a name equal to n
unfoldable pub is_named : Table → ℕ → Name → Bool
unfolding same_name
is_named g label n = elim (get_elem? g.labels label) [ nothing ↦ false | just m ↦ same_name m n ]

-- a rule 12 takes only nodes without text, a rule 13 nodes with and without
unfoldable pub takes_text : Rule → Head → Bool
takes_text r h = not h.text || r.text

-- the types that derive a tree, with the children's types found first
unfoldable mutual
  unfolding keep is_named takes_text matches

  pub types_of : Table → Tree → List ℕ
  types_of g (node h ts) =
      let children : List (List ℕ) = types_of_all g ts in
      map (λ (r : Rule). r.type)
      (keep (λ (r : Rule). is_named g r.label h.name && takes_text r h && matches r.content children) g.rules)

  pub types_of_all : Table → Forest → List (List ℕ)
  types_of_all g []ᵗ = []
  types_of_all g (t ∷ᵗ ts) = types_of g t ∷ types_of_all g ts

-- a start type derives the root
unfoldable pub lets_in : Table → Tree → Bool
unfolding any_pass is_in types_of
lets_in g d = let types : List ℕ = types_of g d in any_pass (λ k. is_in k types) g.starts
