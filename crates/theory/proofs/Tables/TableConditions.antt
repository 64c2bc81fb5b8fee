-- Conditions that the steps of widening ask of tables and keep. Every table within the limits meets these:
--     TypesBelow       within_below       every type is below the limit
--     Labelled         within_labelled    each rule's label is among the labels
--     DistinctNames    within_names       no two labels have equal names
-- A table in normal form meets these: OneRuleEach, no type has two rules; AllRuled, each type that stands in a content has a rule.
-- Of one type of a table: HasRule, it has a rule; SomeTree, it derives some tree; Reaches, it is reached from a start.
use Prim.Native.Nat.{ℕ, ◌<◌}
use mathlib.Core.List.{Memᴰ, List}
use mathlib.Core.Path.{◌≡◌}
use Rattle.grammar.specs.Limits.{Limits}
use Rattle.grammar.specs.Names.{same_name, Classes}
use Rattle.grammar.specs.Content.{types_in}
use Rattle.grammar.specs.Table.{Rule, Table, DistinctNames}
use Rattle.grammar.specs.WithinLimits.{TableWithin}
use Rattle.grammar.specs.Kinds.{NoTwoRules}
use Rattle.grammar.specs.Tree.{Head, Tree}
use Rattle.grammar.specs.Derivation.{Fits, Derives, derives}
use Rattle.theory.specs.Conditions.{Labelled}
use Rattle.theory.proofs.Lists.ListLaws.{differ_at}
use Rattle.theory.proofs.Trees.NameLaws.{name_sym}
use Rattle.theory.proofs.Contents.ProperContents.{proper_below}

pub record TypesBelow (lim : Limits) (g : Table) : Type 0 where
  pub starts : (k : ℕ) → Memᴰ k g.starts → k < lim.types
  pub rules : (r : Rule) → Memᴰ r g.rules → r.type < lim.types
  pub contents : (r : Rule) → Memᴰ r g.rules → (k : ℕ) → Memᴰ k (types_in r.content) → k < lim.types

-- no type has two rules
abbrev pub OneRuleEach : Table → Type 0
OneRuleEach g = NoTwoRules g (λ r s. r.type ≡ s.type)

-- the type has a rule
pub record HasRule (g : Table) (k : ℕ) : Type 0 where
  pub rule : Rule
  pub of_table : Memᴰ rule g.rules
  pub of_type : rule.type ≡ k

-- each type that stands in a content has a rule
abbrev pub AllRuled : Table → Type 0
AllRuled g = (r : Rule) → Memᴰ r g.rules → (k : ℕ) → Memᴰ k (types_in r.content) → HasRule g k

abbrev pub rule_that_fits : {g : Table} {k : ℕ} {h : Head} {w : List ℕ} → Fits g k h w → HasRule g k
rule_that_fits f = record { rule = f.rule; of_table = f.of_table; of_type = f.of_type }

pub derived_rule : {g : Table} {k : ℕ} {t : Tree} → Derives g k t → HasRule g k
derived_rule (derives f all) = rule_that_fits f

-- the type derives some tree
abbrev pub SomeTree : Table → ℕ → Type 0
SomeTree g k = (t : Tree) × Derives g k t

-- the type is reached from a start through the types that stand in contents
pub data Reaches (g : Table) : ℕ → Type 0 where
  from_start : {k : ℕ} → Memᴰ k g.starts → Reaches g k
  through : {r : Rule} {k : ℕ} → Memᴰ r g.rules → Reaches g r.type → Memᴰ k (types_in r.content) → Reaches g k

module _ (lim : Limits) (classes : Classes) (g : Table) (within : TableWithin lim classes g) where
  pub within_below : TypesBelow lim g
  within_below =
      record {
        starts = within.start_types;
        rules = λ r m. (within.each_rule r m).type;
        contents = λ r m. proper_below r.content lim (within.each_rule r m).content.proper;
      }

  pub within_labelled : Labelled g
  within_labelled r m = (within.each_rule r m).label

  pub within_names : DistinctNames g
  within_names i j m n p q e = differ_at same_name name_sym g.labels i j m n within.labels_differ p q e
