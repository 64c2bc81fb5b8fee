-- Conditions on contents and tables that contracts ask.
--   Counted     every sequence has from 2 operands to as many as the limit allows, and every choice at least 2
--   Regular     proper but for the width of its choices
--   Labelled    each rule's label is a label of the table
--   all_letters  the classes under which every byte may stand anywhere in a name
use Rattle.std.specs.Prelude.{◌≤◌, ℕ, ◌<◌, length, replicate}
use mathlib.Core.List.{Memᴰ}
use Rattle.grammar.specs.Limits.{Limits, large}
use Rattle.grammar.specs.Names.{Classes}
use Rattle.grammar.specs.Content.{
  Content,
  none,
  empty,
  type,
  sequence,
  choice,
  any_number,
  one_or_more,
  optional,
  Contents,
  []ᶜ,
  ◌∷ᶜ◌,
  operand_count,
  types_in,
}
use Rattle.grammar.specs.Table.{Rule, Table}

abbrev mutual
  pub Counted : Limits → Content → Type 0
  Counted lim none = Unit {0}
  Counted lim empty = Unit {0}
  Counted lim (type k) = Unit {0}
  Counted lim (sequence cs) = (2 ≤ operand_count cs) × (operand_count cs ≤ lim.operands) × AllCounted lim cs
  Counted lim (choice cs) = (2 ≤ operand_count cs) × AllCounted lim cs
  Counted lim (any_number c) = Counted lim c
  Counted lim (one_or_more c) = Counted lim c
  Counted lim (optional c) = Counted lim c

  pub AllCounted : Limits → Contents → Type 0
  AllCounted lim []ᶜ = Unit {0}
  AllCounted lim (c ∷ᶜ cs) = Counted lim c × AllCounted lim cs

-- proper but for the width of its choices
pub record Regular (c : Content) : Type 0 where
  pub counted : Counted large c
  pub below : (k : ℕ) → Memᴰ k (types_in c) → k < 128

-- each rule's label is a label of the table
abbrev pub Labelled : Table → Type 0
Labelled g = (r : Rule) → Memᴰ r g.rules → r.label < length g.labels

-- the classes under which every byte may stand anywhere in a name: all that is a name under a landlord's 256 classes is one under these
unfoldable pub all_letters : Classes
all_letters = replicate 256 2
