-- The bytes of a table.
use Rattle.std.specs.Prelude.{ℕ, List, [], ◌∷◌, ◌++◌}
use Rattle.grammar.specs.Lists.{joined_of}
use Rattle.grammar.specs.Table.{Rule, Table}
use Rattle.grammar.specs.Fields.{field_bytes}
use Rattle.grammar.specs.ReadContent.{content_bytes}
use Rattle.grammar.specs.ReadTable.{label_tag, start_tag, rule_tag, table_end_tag}

unfoldable pub rule_bytes : Rule → List ℕ
unfolding content_bytes
rule_bytes r = r.type ∷ r.label ∷ content_bytes r.content

unfoldable pub rule_field : Rule → List ℕ
unfolding field_bytes rule_bytes
rule_field r = field_bytes (rule_tag r.text) (rule_bytes r)

unfoldable pub table_bytes : Table → List ℕ
unfolding joined_of field_bytes rule_field
table_bytes g =
    joined_of (field_bytes label_tag) g.labels
    ++ joined_of (λ k. field_bytes start_tag (k ∷ [])) g.starts
    ++ joined_of rule_field g.rules
    ++ field_bytes table_end_tag []
