-- Normalise: each pair of type and label becomes one type.
use Rattle.std.specs.Prelude.{ℕ, Bool, ◌&&◌, not, List, map, eqb}
use Rattle.grammar.specs.Lists.{any_pass, keep, distinct, place, joined_of}
use Rattle.grammar.specs.Content.{Content, type, choice_of, replace}
use Rattle.grammar.specs.Table.{Rule, Table}
use Rattle.grammar.specs.KindTests.{same_pair}
use Rattle.grammar.specs.Reduce.{is_none, fruitful, prune}

-- A pair is numbered by its first rule, which orders the pairs.
unfoldable pub pair_of : Table → Rule → ℕ
unfolding place same_pair
pair_of g r = place same_pair r g.rules

-- the pairs of a type, in order
unfoldable pub pairs_of : Table → ℕ → List ℕ
unfolding pair_of keep distinct same_pair
pairs_of g k = map (pair_of g) (keep (λ (r : Rule). eqb r.type k) (distinct same_pair g.rules))

-- A type in a content becomes the choice of its pairs, or none.
unfoldable pub in_pairs : Table → Content → Content
unfolding replace choice_of pairs_of
in_pairs g c = replace c (λ k. choice_of (map type (pairs_of g k)))

-- A rule 13 makes its pair's rule 13 if its own content, reduced, is not none.
unfoldable pub marks : Table → Rule → Bool
unfolding is_none prune fruitful
marks g r = r.text && not (is_none (prune (fruitful g) r.content))

-- Contents of the same pair join by choice.
unfoldable pub rule_of_pair : Table → Rule → Rule
unfolding pair_of in_pairs choice_of keep same_pair any_pass marks
rule_of_pair g r =
    record {
      type = pair_of g r;
      label = r.label;
      content = choice_of (map (λ (s : Rule). in_pairs g s.content) (keep (same_pair r) g.rules));
      text = any_pass (marks g) (keep (same_pair r) g.rules);
    }

-- The pairs of a start type are all starts.
unfoldable pub normalise : Table → Table
unfolding joined_of pairs_of rule_of_pair distinct same_pair
normalise g =
    record {
      labels = g.labels;
      starts = joined_of (pairs_of g) g.starts;
      rules = map (rule_of_pair g) (distinct same_pair g.rules);
    }
