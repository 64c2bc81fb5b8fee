-- What reducing a normalised table leaves: each type has one rule, derives some document and is reached from a start, and every type
-- that stands in a content stands in some word of it.
use Prim.Native.Nat.{ℕ}
use mathlib.Core.List.{Memᴰ}
use Rattle.grammar.specs.Content.{types_in, Word}
use Rattle.grammar.specs.Table.{Rule, Table, DistinctNames}
use Rattle.theory.specs.Conditions.{Labelled}
use Rattle.theory.proofs.Tables.TableConditions.{OneRuleEach, HasRule, Reaches, SomeTree, AllRuled}
use Rattle.theory.proofs.Contents.Standing.{WordWith}

pub record ReducedTable (g : Table) : Type 0 where
  pub one_rule_each : OneRuleEach g
  pub labelled : Labelled g
  pub names : DistinctNames g
  pub start_rules : (k : ℕ) → Memᴰ k g.starts → HasRule g k
  pub content_rules : AllRuled g
  pub content_words : (r : Rule) → Memᴰ r g.rules → (k : ℕ) → Memᴰ k (types_in r.content) → WordWith k (Word r.content)
  pub derives_some : (r : Rule) → Memᴰ r g.rules → SomeTree g r.type
  pub reaches : (r : Rule) → Memᴰ r g.rules → Reaches g r.type
