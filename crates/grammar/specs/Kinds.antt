-- The kinds of tables, local and single-type. Normal form is no condition.
use Rattle.std.specs.Prelude.{ℕ, ◌≡◌}
use mathlib.Core.List.{List, Memᴰ}
use Rattle.std.proofs.Math.Option.{some}
use Rattle.std.proofs.Math.ListN.{get_elem?}
use Rattle.grammar.specs.Content.{types_in}
use Rattle.grammar.specs.Table.{Rule, Table}

-- no two rules are alike
abbrev pub NoTwoRules : Table → (Rule → Rule → Type 0) → Type 0
NoTwoRules g Alike = (i j : ℕ) (r s : Rule) → get_elem? g.rules i ≡ some r → get_elem? g.rules j ≡ some s → Alike r s → i ≡ j

-- Local: no two rules have one label.
abbrev pub Local : Table → Type 0
Local g = NoTwoRules g (λ r s. r.label ≡ s.label)

-- two types have rules with one label
pub record Competing (g : Table) (k l : ℕ) : Type 0 where
  pub rule₁ : Rule
  pub rule₂ : Rule
  pub of_table₁ : Memᴰ rule₁ g.rules
  pub of_table₂ : Memᴰ rule₂ g.rules
  pub of_type₁ : rule₁.type ≡ k
  pub of_type₂ : rule₂.type ≡ l
  pub one_label : rule₁.label ≡ rule₂.label

-- among these types no two different ones have rules with one label
abbrev pub NoneCompete : Table → List ℕ → Type 0
NoneCompete g types = (k l : ℕ) → Memᴰ k types → Memᴰ l types → Competing g k l → k ≡ l

-- Single-type: no two rules share both type and label, and neither among the starts nor within any one content do two different
-- types have rules with one label.
pub record SingleType (g : Table) : Type 0 where
  pub rules : NoTwoRules g (λ r s. (r.type ≡ s.type) × (r.label ≡ s.label))
  pub starts : NoneCompete g g.starts
  pub contents : (r : Rule) → Memᴰ r g.rules → NoneCompete g (types_in r.content)

-- the two kinds, each with its tables
pub data Kind : Type 0 where
  local single_type : Kind

abbrev pub OfKind : Kind → Table → Type 0
OfKind local = Local
OfKind single_type = SingleType
