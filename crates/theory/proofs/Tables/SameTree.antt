-- Trees that are the same up to letter case, an equivalence:
--     same_derives    a type that derives a tree derives every tree that is the same
--     same_let_in     so a table that lets in a document lets in every document that is the same
--     let_in_alike    and letting in does not tell such documents apart
use Prim.Native.Nat.{ℕ}
use mathlib.Core.List.{List}
use mathlib.Core.Logic.{◌↔◌}
use mathlib.Core.Path.{◌≡◌, refl, sym, ◌∙◌}
use Rattle.grammar.specs.Names.{SameName}
use Rattle.grammar.specs.Tree.{
  Head,
  Tree,
  node,
  Forest,
  []ᵗ,
  ◌∷ᵗ◌,
  SameTree,
  same_node,
  SameForest,
  same_none,
  same_next,
}
use Rattle.grammar.specs.Table.{Table}
use Rattle.grammar.specs.Derivation.{Fits, Derives, derives, DerivesAll, derives_none, derives_next, LetsIn}
use Rattle.theory.proofs.Trees.NameLaws.{name_refl, name_sym, name_trans}
use Rattle.theory.proofs.Tables.NamedLabels.{same_named}

mutual
  pub same_refl : (t : Tree) → SameTree t t
  same_refl (node h ts) = same_node (name_refl h.name) refl (same_all_refl ts)

  pub same_all_refl : (ts : Forest) → SameForest ts ts
  same_all_refl []ᵗ = same_none
  same_all_refl (t ∷ᵗ ts) = same_next (same_refl t) (same_all_refl ts)

mutual
  pub same_sym : {t u : Tree} → SameTree t u → SameTree u t
  same_sym (same_node {h = h} {i = i} e q all) = same_node (name_sym h.name i.name e) (sym q) (same_all_sym all)

  pub same_all_sym : {ts us : Forest} → SameForest ts us → SameForest us ts
  same_all_sym same_none = same_none
  same_all_sym (same_next e all) = same_next (same_sym e) (same_all_sym all)

mutual
  pub same_trans : {t u v : Tree} → SameTree t u → SameTree u v → SameTree t v
  same_trans (same_node {h = h} {i = i} e q all) (same_node {i = j} e' q' all') =
      same_node (name_trans h.name i.name j.name e e') (q ∙ q') (same_all_trans all all')

  pub same_all_trans : {ts us vs : Forest} → SameForest ts us → SameForest us vs → SameForest ts vs
  same_all_trans same_none same_none = same_none
  same_all_trans (same_next e all) (same_next e' all') = same_next (same_trans e e') (same_all_trans all all')

module _ {g : Table} where
  -- a rule is of every name equal to one of its names
  pub same_fits : {k : ℕ} {h i : Head} {w : List ℕ} → Fits g k h w → SameName h.name i.name → h.text ≡ i.text → Fits g k i w
  same_fits f e q =
      record {
        rule = f.rule;
        of_table = f.of_table;
        of_type = f.of_type;
        of_name = same_named f.of_name e;
        of_text = λ p. f.of_text (q ∙ p);
        word = f.word;
      }

  mutual
    pub same_derives : {k : ℕ} {t u : Tree} → Derives g k t → SameTree t u → Derives g k u
    same_derives (derives f all) (same_node e q same) = derives (same_fits f e q) (same_derives_all all same)

    pub same_derives_all : {w : List ℕ} {ts us : Forest} → DerivesAll g w ts → SameForest ts us → DerivesAll g w us
    same_derives_all derives_none same_none = derives_none
    same_derives_all (derives_next d all) (same_next e same) = derives_next (same_derives d e) (same_derives_all all same)

  pub same_let_in : {d e : Tree} → LetsIn g d → SameTree d e → LetsIn g e
  same_let_in l e = record { start = l.start; of_table = l.of_table; derived = same_derives l.derived e }

  pub let_in_alike : {d e : Tree} → SameTree d e → LetsIn g d ↔ LetsIn g e
  let_in_alike same = (λ l. same_let_in l same, λ l. same_let_in l (same_sym same))
