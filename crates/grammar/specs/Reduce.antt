-- Reduce: unfruitful types go, and after that the types that are not reached.
use Rattle.std.specs.Prelude.{ℕ, zero, suc, Bool, true, false, ◌&&◌, ◌||◌, not, List, [], ◌∷◌, ◌++◌, map, length, eqb}
use Rattle.grammar.specs.Lists.{any_pass, keep, distinct, joined_of, is_in}
use Rattle.grammar.specs.Content.{
  Content,
  none,
  empty,
  type,
  sequence,
  choice,
  any_number,
  one_or_more,
  optional,
  Contents,
  []ᶜ,
  ◌∷ᶜ◌,
  operands,
  choice_of,
  replace,
  types_in,
}
use Rattle.grammar.specs.Table.{Rule, Table}

-- Rounds are made until one adds nothing; `n` bounds their number.
unfoldable pub rounds : ℕ → (List ℕ → List ℕ) → List ℕ → List ℕ
rounds zero newly known = known
rounds (suc n) newly known = elim (newly known) [ [] ↦ known | k ∷ ks ↦ rounds n newly (known ++ (k ∷ ks)) ]

-- the content has a word of known types
unfoldable mutual
  unfolding is_in

  pub has_word : List ℕ → Content → Bool
  has_word known none = false
  has_word known empty = true
  has_word known (type k) = is_in k known
  has_word known (sequence cs) = have_words known cs
  has_word known (choice cs) = one_has_word known cs
  has_word known (any_number c) = true
  has_word known (one_or_more c) = has_word known c
  has_word known (optional c) = true

  pub have_words : List ℕ → Contents → Bool
  have_words known []ᶜ = true
  have_words known (c ∷ᶜ cs) = has_word known c && have_words known cs

  pub one_has_word : List ℕ → Contents → Bool
  one_has_word known []ᶜ = false
  one_has_word known (c ∷ᶜ cs) = has_word known c || one_has_word known cs

-- types not yet known, once each
unfoldable pub not_known : List ℕ → List ℕ → List ℕ
unfolding distinct keep is_in
not_known known types = distinct eqb (keep (λ k. not (is_in k known)) types)

-- A type is fruitful if it derives some document: the types that a round finds
unfoldable pub newly_fruitful : Table → List ℕ → List ℕ
unfolding not_known keep has_word
newly_fruitful g known =
    not_known known (map (λ (r : Rule). r.type) (keep (λ (r : Rule). has_word known r.content) g.rules))

unfoldable pub fruitful : Table → List ℕ
unfolding rounds newly_fruitful
fruitful g = rounds (length g.rules) (newly_fruitful g) []

unfoldable pub is_none : Content → Bool
is_none none = true
is_none empty = false
is_none (type k) = false
is_none (sequence cs) = false
is_none (choice cs) = false
is_none (any_number c) = false
is_none (one_or_more c) = false
is_none (optional c) = false

-- A sequence holding none is none; a choice drops it, and is none with nothing left; any number of none, and optional none, are
-- empty; one or more of none is none. Innermost first.
unfoldable mutual
  unfolding any_pass keep is_none operands choice_of

  pub simplify : Content → Content
  simplify none = none
  simplify empty = empty
  simplify (type k) = type k
  simplify (sequence cs) =
      let ds : List Content = simplify_all cs in
      elim (any_pass is_none ds) [ true ↦ none | false ↦ sequence (operands ds) ]
  simplify (choice cs) = choice_of (keep (λ c. not (is_none c)) (simplify_all cs))
  simplify (any_number c) =
      let d : Content = simplify c in
      elim (is_none d) [ true ↦ empty | false ↦ any_number d ]
  simplify (one_or_more c) =
      let d : Content = simplify c in
      elim (is_none d) [ true ↦ none | false ↦ one_or_more d ]
  simplify (optional c) =
      let d : Content = simplify c in
      elim (is_none d) [ true ↦ empty | false ↦ optional d ]

  pub simplify_all : Contents → List Content
  simplify_all []ᶜ = []
  simplify_all (c ∷ᶜ cs) = simplify c ∷ simplify_all cs

-- Unfruitful types become none.
unfoldable pub prune : List ℕ → Content → Content
unfolding simplify replace is_in
prune known c = simplify (replace c (λ k. elim (is_in k known) [ true ↦ type k | false ↦ none ]))

-- their rules and starts go
unfoldable pub without_unfruitful : Table → Table
unfolding keep is_in fruitful prune
without_unfruitful g =
    let known : List ℕ = fruitful g in
    record {
      labels = g.labels;
      starts = keep (λ k. is_in k known) g.starts;
      rules =
          map (λ (r : Rule). record { type = r.type; label = r.label; content = prune known r.content; text = r.text })
          (keep (λ (r : Rule). is_in r.type known) g.rules);
    }

-- types reached from a start through the remaining contents: those that a round finds
unfoldable pub newly_reached : Table → List ℕ → List ℕ
unfolding not_known joined_of keep is_in types_in
newly_reached g known =
    not_known known (joined_of (λ (r : Rule). types_in r.content) (keep (λ (r : Rule). is_in r.type known) g.rules))

unfoldable pub reached : Table → List ℕ
unfolding rounds newly_reached
reached g = rounds (length g.rules) (newly_reached g) g.starts

unfoldable pub without_unreached : Table → Table
unfolding keep is_in reached
without_unreached g =
    let known : List ℕ = reached g in
    record { labels = g.labels; starts = g.starts; rules = keep (λ (r : Rule). is_in r.type known) g.rules }

unfoldable pub reduce : Table → Table
unfolding without_unfruitful without_unreached
reduce g = without_unreached (without_unfruitful g)
