-- A round of finding fruitful pairs, on sets as tests.
use Rattle.std.specs.Prelude.{ℕ, zero, suc, Bool, true, false}
use Rattle.std.proofs.Math.Option.{none as nowhere, some as just}
use Rattle.std.proofs.Math.ListN.{get_elem?}
use Rattle.grammar.specs.Content.{Content, none}
use Rattle.grammar.specs.Table.{Table}
use Rattle.theory.specs.Alternatives.{has_alts}
use Rattle.sets.specs.Sets.{nothing, add}
use Rattle.union.specs.declared.united.United.{United}
use Rattle.union.specs.View.{type_in, first_in}

-- a set with one number more, or as it is
unfoldable pub put_if : Bool → ℕ → (ℕ → Bool) → (ℕ → Bool)
put_if true k set = add k set
put_if false k set = set

-- a set with the key of each number below n that is on
unfoldable pub puts : (on : ℕ → Bool) (key : ℕ → ℕ) (base : ℕ → Bool) → ℕ → (ℕ → Bool)
unfolding put_if
puts on key base zero = base
puts on key base (suc n) = put_if (on n) (key n) (puts on key base n)

-- the content of a rule by its number
unfoldable pub content_of_rule : Table → ℕ → Content
content_of_rule u i = elim (get_elem? u.rules i) [ nowhere ↦ none | just r ↦ r.content ]

-- the types that have a known pair
unfoldable pub types_with : United → (ℕ → Bool) → (ℕ → Bool)
unfolding puts
types_with v known = puts (λ i. known (first_in v i)) (type_in v) nothing v.rules

-- the known pairs, and those of the rules whose contents have alternatives over them
unfoldable pub after_round : Table → United → (ℕ → Bool) → (ℕ → Bool)
unfolding puts types_with content_of_rule
after_round u v known = puts (λ i. has_alts (types_with v known) (content_of_rule u i)) (first_in v) known v.rules
