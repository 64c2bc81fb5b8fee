-- Tidy, innermost first: a choice takes in the operands of its choices, drops operands byte-equal to earlier ones, and one operand
-- left stands alone.
use Rattle.std.specs.Prelude.{List, [], ◌∷◌, map}
use Rattle.grammar.specs.Lists.{distinct, joined_of}
use Rattle.grammar.specs.Content.{
  Content,
  none,
  empty,
  type,
  sequence,
  choice,
  any_number,
  one_or_more,
  optional,
  Contents,
  []ᶜ,
  ◌∷ᶜ◌,
  operands,
  choice_of,
}
use Rattle.grammar.specs.Table.{Rule, Table}
use Rattle.grammar.specs.ReadContent.{same_content}

unfoldable pub list_of : Contents → List Content
list_of []ᶜ = []
list_of (c ∷ᶜ cs) = c ∷ list_of cs

-- what an operand of a choice gives to it: a choice its operands, another content itself
unfoldable pub alternatives : Content → List Content
unfolding list_of
alternatives none = none ∷ []
alternatives empty = empty ∷ []
alternatives (type k) = type k ∷ []
alternatives (sequence cs) = sequence cs ∷ []
alternatives (choice cs) = list_of cs
alternatives (any_number c) = any_number c ∷ []
alternatives (one_or_more c) = one_or_more c ∷ []
alternatives (optional c) = optional c ∷ []

unfoldable mutual
  unfolding operands choice_of distinct same_content joined_of alternatives

  pub tidy : Content → Content
  tidy none = none
  tidy empty = empty
  tidy (type k) = type k
  tidy (sequence cs) = sequence (operands (tidy_all cs))
  tidy (choice cs) = choice_of (distinct same_content (joined_of alternatives (tidy_all cs)))
  tidy (any_number c) = any_number (tidy c)
  tidy (one_or_more c) = one_or_more (tidy c)
  tidy (optional c) = optional (tidy c)

  pub tidy_all : Contents → List Content
  tidy_all []ᶜ = []
  tidy_all (c ∷ᶜ cs) = tidy c ∷ tidy_all cs

unfoldable pub tidy_table : Table → Table
unfolding tidy
tidy_table g =
    record {
      labels = g.labels;
      starts = g.starts;
      rules =
          map
          (λ (r : Rule). record { type = r.type; label = r.label; content = tidy r.content; text = r.text })
          g.rules;
    }
