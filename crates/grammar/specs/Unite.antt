-- Unite: two tables as one.
use Rattle.std.specs.Prelude.{ℕ, ◌+◌, not, List, [], ◌++◌, map, get_or}
use Rattle.grammar.specs.Lists.{any_pass, keep, place}
use Rattle.grammar.specs.Limits.{Limits}
use Rattle.grammar.specs.Names.{Name, same_name}
use Rattle.grammar.specs.Content.{type, replace}
use Rattle.grammar.specs.Table.{Rule, Table}

-- Labels are the old ones, then the addition's new names.
unfoldable pub united_labels : Table → Table → List Name
unfolding keep any_pass same_name
united_labels old addition = old.labels ++ keep (λ n. not (any_pass (same_name n) old.labels)) addition.labels

-- The addition's types are made distinct from the old, which are below the limit.
unfoldable pub shifted : Limits → ℕ → ℕ
shifted lim k = lim.types + k

-- a rule of the addition in the united table
unfoldable pub added : Limits → Table → Table → Rule → Rule
unfolding united_labels shifted place same_name replace
added lim old addition r =
    record {
      type = shifted lim r.type;
      label = place same_name (get_or addition.labels r.label []) (united_labels old addition);
      content = replace r.content (λ k. type (shifted lim k));
      text = r.text;
    }

-- Rules keep their order, old first.
unfoldable pub unite : Limits → Table → Table → Table
unfolding united_labels shifted added
unite lim old addition =
    record {
      labels = united_labels old addition;
      starts = old.starts ++ map (shifted lim) addition.starts;
      rules = old.rules ++ map (added lim old addition) addition.rules;
    }
