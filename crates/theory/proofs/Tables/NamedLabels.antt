-- The names of a table's labels:
--     label_named          a label has the name that is listed
--     same_named           and every name that is equal to one of its names
--     one_name             names of one label are equal
--     one_label            labels with equal names are equal, where no two labels have equal names
--     same_labels_named    tables of the same labels have the same names
use Prim.Native.Nat.{ℕ}
use mathlib.Core.List.{List}
use mathlib.Core.Option.{some}
use mathlib.Core.Path.{◌≡◌, sym, ◌∙◌, subst}
use lib.ListN.{get_elem?}
use Rattle.grammar.specs.Names.{Name, SameName}
use Rattle.grammar.specs.Table.{Table, Named, DistinctNames}
use Rattle.theory.proofs.Lists.ListLaws.{just_eq}
use Rattle.theory.proofs.Trees.NameLaws.{name_refl, name_sym, name_trans}

module _ {g : Table} where
  pub label_named : {l : ℕ} {n : Name} → get_elem? g.labels l ≡ some n → Named g l n
  label_named {n = n} e = record { name = n; listed = e; same = name_refl n }

  pub same_named : {l : ℕ} {m n : Name} → Named g l m → SameName m n → Named g l n
  same_named {m = m} {n = n} p e =
      record { name = p.name; listed = p.listed; same = name_trans p.name m n p.same e }

  pub one_name : {l : ℕ} {m n : Name} → Named g l m → Named g l n → SameName m n
  one_name {m = m} {n = n} p q =
      name_trans m q.name n
      (name_sym q.name m (subst (λ (x : Name). SameName x m) (just_eq (sym q.listed ∙ p.listed)) p.same))
      q.same

  pub same_labels_named : {h : Table} {l : ℕ} {n : Name} → g.labels ≡ h.labels → Named g l n → Named h l n
  same_labels_named {l = l} e p =
      record { name = p.name; listed = subst (λ (ns : List Name). get_elem? ns l ≡ some p.name) e p.listed; same = p.same }

pub one_label : (g : Table) → DistinctNames g → {i j : ℕ} {m n : Name} → Named g i m → Named g j n → SameName m n → i ≡ j
one_label g names {i} {j} {m} {n} p q e =
    names i j p.name q.name p.listed q.listed
    (name_trans p.name n q.name (name_trans p.name m n p.same e) (name_sym q.name n q.same))
