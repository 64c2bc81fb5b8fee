-- The rules and pairs of a union by number. The number of a pair is that of its first rule.
use Rattle.std.specs.Prelude.{ℕ, Bool, false, ◌&&◌, List, map, length, get_or, eqb}
use Rattle.grammar.specs.Lists.{any_pass, keep, joined_of, is_in, numbers_below}
use Rattle.grammar.specs.Content.{Content, none}
use Rattle.grammar.specs.Table.{Rule, Table}
use Rattle.grammar.specs.Normalise.{pair_of, pairs_of, normalise}
use Rattle.grammar.specs.Reduce.{fruitful, without_unfruitful, reached}
use Rattle.theory.specs.Alternatives.{has_alts, has_left, pairs_met, pairs_left}
use Rattle.union.specs.Rounds.{content_of_rule}

-- what stands where there is no rule
abbrev pub no_rule : Rule
no_rule = record { type = 0; label = 0; content = none; text = false }

-- the rule of a number
abbrev pub rule_numbered : Table → ℕ → Rule
rule_numbered u i = get_or u.rules i no_rule

-- the fruitful pairs of a type
abbrev pub fruitful_of : Table → ℕ → List ℕ
fruitful_of u = pairs_left (pairs_of u) (fruitful (normalise u))

-- the pairs that reducing leaves, and those of the start types
abbrev pub is_left : Table → ℕ → Bool
is_left u p = is_in p (reached (without_unfruitful (normalise u)))

abbrev pub is_start : Table → ℕ → Bool
is_start u p = is_in p (without_unfruitful (normalise u)).starts

-- a rule for text whose content has alternatives over the fruitful pairs, and the pairs with such a rule
unfoldable pub is_marking : Table → Rule → Bool
unfolding has_alts
is_marking u r = r.text && has_alts (has_left (pairs_of u) (fruitful (normalise u))) r.content

unfoldable pub is_text : Table → ℕ → Bool
unfolding any_pass is_marking
is_text u p = any_pass (λ (r : Rule). eqb (pair_of u r) p && is_marking u r) u.rules

-- the contents of a pair, in rule order
unfoldable pub contents_of_pair : Table → ℕ → List Content
unfolding keep numbers_below content_of_rule
contents_of_pair u p = map (content_of_rule u) (keep (λ i. eqb (pair_of u (rule_numbered u i)) p) (numbers_below (length u.rules)))

-- the contents of the pairs of a set
unfoldable pub contents_in : Table → (ℕ → Bool) → List Content
unfolding joined_of contents_of_pair keep numbers_below
contents_in u set = joined_of (contents_of_pair u) (keep set (numbers_below (length u.rules)))

-- the pairs met in them, left to right
unfoldable pub met_in : Table → (ℕ → Bool) → List ℕ
unfolding joined_of contents_in pairs_met
met_in u set = joined_of (pairs_met (fruitful_of u)) (contents_in u set)
