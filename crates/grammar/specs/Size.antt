-- When a sample or a result is too large for a table file.
use Rattle.std.specs.Prelude.{ℕ, zero, max, Bool, ◌||◌, length, ltb}
use Rattle.grammar.specs.Lists.{any_pass}
use Rattle.grammar.specs.Limits.{Limits}
use Rattle.grammar.specs.Content.{
  Content,
  none,
  empty,
  type,
  sequence,
  choice,
  any_number,
  one_or_more,
  optional,
  Contents,
  []ᶜ,
  ◌∷ᶜ◌,
  operand_count,
  nesting,
}
use Rattle.grammar.specs.Table.{Rule, Table}
use Rattle.grammar.specs.ReadContent.{content_bytes}
use Rattle.grammar.specs.WriteTable.{table_bytes}

-- the operands of the widest choice
unfoldable mutual
  unfolding operand_count

  pub widest_choice : Content → ℕ
  widest_choice none = zero
  widest_choice empty = zero
  widest_choice (type k) = zero
  widest_choice (sequence cs) = widest_of cs
  widest_choice (choice cs) = max (operand_count cs) (widest_of cs)
  widest_choice (any_number c) = widest_choice c
  widest_choice (one_or_more c) = widest_choice c
  widest_choice (optional c) = widest_choice c

  pub widest_of : Contents → ℕ
  widest_of []ᶜ = zero
  widest_of (c ∷ᶜ cs) = max (widest_choice c) (widest_of cs)

-- too many bytes, too deep a nesting or too wide a choice
unfoldable pub content_too_large : Limits → Content → Bool
unfolding content_bytes nesting widest_choice
content_too_large lim c =
    ltb lim.content (length (content_bytes c)) || ltb lim.nesting (nesting c) || ltb lim.operands (widest_choice c)

-- too many types, of which each has one rule; a content too large; or too many bytes in all
unfoldable pub too_large : Limits → Table → Bool
unfolding any_pass content_too_large table_bytes
too_large lim g =
    ltb lim.types (length g.rules)
    || any_pass (λ (r : Rule). content_too_large lim r.content) g.rules
    || ltb lim.input (length (table_bytes g))
