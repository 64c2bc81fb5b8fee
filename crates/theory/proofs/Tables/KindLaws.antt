-- What the kinds of tables say of rules and types, without positions.
--     one_rule             where no two rules are alike, rules that are alike are equal
--     one_fitting          where no two rules share type and label, a type has one rule of a name
--     local_compete        in a local table, types that have rules with one label are equal
--     local_single_type    so a local table is single-type
use Prim.Native.Nat.{ℕ}
use mathlib.Core.List.{List, Memᴰ}
use mathlib.Core.Option.{some as just}
use mathlib.Core.Path.{◌≡◌, sym, ◌∙◌, ap, subst}
use lib.ListN.{get_elem?}
use Rattle.grammar.specs.Names.{SameName}
use Rattle.grammar.specs.Tree.{Head}
use Rattle.grammar.specs.Table.{Rule, Table, DistinctNames}
use Rattle.grammar.specs.Derivation.{Fits}
use Rattle.grammar.specs.Kinds.{NoTwoRules, Local, Competing, SingleType}
use Rattle.theory.proofs.Lists.ListLaws.{mem_at, just_eq}
use Rattle.theory.proofs.Tables.NamedLabels.{one_label}

pub one_rule : (g : Table) (Alike : Rule → Rule → Type 0) → NoTwoRules g Alike → (r s : Rule) → Memᴰ r g.rules
    → Memᴰ s g.rules → Alike r s → r ≡ s
one_rule g Alike no_two r s m n alike =
    let p = mem_at m in
    let q = mem_at n in
    let e = no_two p.0 q.0 r s p.1 q.1 alike in
    just_eq (sym q.1 ∙ subst (λ (i : ℕ). get_elem? g.rules i ≡ just r) e p.1)

-- no two rules share both type and label
abbrev pub OneRuleAPair : Table → Type 0
OneRuleAPair g = NoTwoRules g (λ r s. (r.type ≡ s.type) × (r.label ≡ s.label))

pub one_fitting : (g : Table) → DistinctNames g → OneRuleAPair g → {k : ℕ} {h i : Head} {v w : List ℕ} (f : Fits g k h v)
    (f' : Fits g k i w) → SameName h.name i.name → f.rule ≡ f'.rule
one_fitting g names one_each f f' e =
    one_rule g (λ r s. (r.type ≡ s.type) × (r.label ≡ s.label)) one_each f.rule f'.rule f.of_table f'.of_table
    (f.of_type ∙ sym f'.of_type, one_label g names f.of_name f'.of_name e)

pub local_compete : (g : Table) → Local g → (k l : ℕ) → Competing g k l → k ≡ l
local_compete g local k l c =
    sym c.of_type₁
    ∙ ap (λ (r : Rule). r.type)
    (one_rule g (λ r s. r.label ≡ s.label) local c.rule₁ c.rule₂ c.of_table₁ c.of_table₂ c.one_label)
    ∙ c.of_type₂

pub local_single_type : (g : Table) → Local g → SingleType g
local_single_type g local =
    record {
      rules = λ i j r s p q e. local i j r s p q e.1;
      starts = λ k l m n. local_compete g local k l;
      contents = λ r m k l p q. local_compete g local k l;
    }
