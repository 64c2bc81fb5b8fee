-- Local: one type for each label left, numbered in label order.
use Rattle.std.specs.Prelude.{ℕ, zero, [], ◌∷◌, map, length, eqb}
use Rattle.grammar.specs.Lists.{any_pass, keep, place, numbers_below}
use Rattle.grammar.specs.Content.{type, choice_of, replace}
use Rattle.grammar.specs.Table.{Rule, Table}
use Rattle.grammar.specs.UsedLabels.{used_labels}

-- the label of a type of a normalised table: that of its one rule
unfoldable pub label_of : Table → ℕ → ℕ
unfolding keep
label_of g k = elim (keep (λ (r : Rule). eqb r.type k) g.rules) [ [] ↦ zero | r ∷ rs ↦ r.label ]

-- the label's type
unfoldable pub type_of_label : Table → ℕ → ℕ
unfolding place used_labels
type_of_label g l = place eqb l (used_labels g)

-- The content of a label is the choice of all contents of that label, in rule order, each type replaced by its label's type. One rule for
-- text makes it a rule for text; after Reduce no content is none.
unfoldable pub rule_of_label : Table → ℕ → Rule
unfolding type_of_label choice_of replace label_of keep any_pass
rule_of_label g l =
    record {
      type = type_of_label g l;
      label = l;
      content =
          choice_of
          (map (λ (r : Rule). replace r.content (λ k. type (type_of_label g (label_of g k))))
          (keep (λ (r : Rule). eqb r.label l) g.rules));
      text = any_pass (λ (r : Rule). r.text) (keep (λ (r : Rule). eqb r.label l) g.rules);
    }

-- Starts are replaced too, and ascend.
unfoldable pub local_form : Table → Table
unfolding keep any_pass numbers_below used_labels type_of_label label_of rule_of_label
local_form g =
    record {
      labels = g.labels;
      starts =
          keep (λ t. any_pass (λ k. eqb (type_of_label g (label_of g k)) t) g.starts) (numbers_below (length (used_labels g)));
      rules = map (rule_of_label g) (used_labels g);
    }
