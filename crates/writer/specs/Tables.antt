-- Rules and tables written into a draft, by number.
use Rattle.std.specs.Prelude.{ℕ, ◌+◌, ◌≤◌, ◌<◌, true, false, List, [], ◌++◌, ◌⊎◌, ◌≡◌, length, Err, Ok, Result}
use Rattle.grammar.specs.Lists.{joined_of, numbers_below}
use Rattle.grammar.specs.Limits.{large, input_limit}
use Rattle.grammar.specs.Table.{Rule}
use Rattle.grammar.specs.Fields.{field_bytes}
use Rattle.grammar.specs.ReadTable.{table_end_tag}
use Rattle.grammar.specs.WriteTable.{rule_field}
use Rattle.grammar.specs.Size.{content_too_large}
use Rattle.grammar.specs.declared.TooLarge.{TooLarge}
use Rattle.writer.specs.Writing.{Put}

-- a rule is written; or its content, or the whole, is too large
abbrev pub RulePuts : List ℕ → ℕ → Rule → List ℕ → Result ℕ TooLarge → Type 0
RulePuts before at r after (Ok n) =
    Put before at (rule_field r) after n × (n ≤ input_limit) × (content_too_large large r.content ≡ false)
RulePuts before at r after (Err over) =
    (content_too_large large r.content ≡ true) ⊎ (input_limit < at + length (rule_field r))

-- the field of a rule, by number
abbrev pub numbered_field : (ℕ → Rule) → ℕ → List ℕ
numbered_field rule t = rule_field (rule t)

-- these bytes are written, and the rules' contents are not too large; or one of them, or the whole, is
abbrev pub TablePut : List ℕ → ℕ → (ℕ → Rule) → ℕ → List ℕ → List ℕ → Result ℕ TooLarge → Type 0
TablePut before at rule count bytes after (Ok n) =
    Put before at bytes after n × (n ≤ input_limit) × ((t : ℕ) → t < count → content_too_large large (rule t).content ≡ false)
TablePut before at rule count bytes after (Err over) =
    ((t : ℕ) × (t < count) × (content_too_large large (rule t).content ≡ true)) ⊎ (input_limit < at + length bytes)

abbrev pub rules_bytes : (ℕ → Rule) → ℕ → List ℕ
rules_bytes rule count = joined_of (numbered_field rule) (numbers_below count)

abbrev pub RulesPut : List ℕ → ℕ → (ℕ → Rule) → ℕ → List ℕ → Result ℕ TooLarge → Type 0
RulesPut before at rule count after r = TablePut before at rule count (rules_bytes rule count) after r

-- the rules and the end
abbrev pub rest_bytes : (ℕ → Rule) → ℕ → List ℕ
rest_bytes rule count = rules_bytes rule count ++ field_bytes table_end_tag []
