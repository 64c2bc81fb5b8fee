-- Two tables whose starts are the same and whose rules agree one by one: in type, in label up to a renumbering of labels, in the text
-- mark, and in the content's words and types.
--     same_documents      they let in the same documents
--     same_local          one is local if the other is
--     same_single_type    one is single-type if the other is
--     same_one_rule       each type has at most one rule if it has so in the other
--     same_labelled       the rules' labels are among the labels if those of the other are
--     same_turn           all of this holds the other way round
use Prim.Native.Nat.{ℕ}
use mathlib.Core.List.{List, Memᴰ, Forall₂}
use mathlib.Core.Logic.{◌↔◌}
use mathlib.Core.Path.{◌≡◌, sym, ◌∙◌, subst}
use lib.ListN.{get_elem?}
use Rattle.grammar.specs.Content.{Word, types_in}
use Rattle.grammar.specs.Tree.{Head, Tree}
use Rattle.grammar.specs.Table.{Rule, Table}
use Rattle.grammar.specs.Derivation.{Fits, LetsIn}
use Rattle.grammar.specs.Kinds.{NoTwoRules, Local, Competing, NoneCompete, SingleType}
use Rattle.grammar.specs.Least.{LetsInAll}
use Rattle.theory.specs.Conditions.{Labelled}
use Rattle.theory.proofs.Lists.ListLaws.{at_below, below_at, related_turn, related_at, related_mem}
use Rattle.theory.proofs.Tables.TableConditions.{OneRuleEach}
use Rattle.theory.proofs.Tables.CarryDerivations.{carry_tree}

-- Label l m: the number l of a label in the one table is m in the other
pub record SameRule (Label : ℕ → ℕ → Type 0) (r s : Rule) : Type 0 where
  pub type : r.type ≡ s.type
  pub label : Label r.label s.label
  pub words : (w : List ℕ) → Word r.content w ↔ Word s.content w
  pub types : (k : ℕ) → Memᴰ k (types_in r.content) ↔ Memᴰ k (types_in s.content)
  pub text : r.text ≡ s.text

pub record SameRules (Label : ℕ → ℕ → Type 0) (g h : Table) : Type 0 where
  pub names : (l m : ℕ) → Label l m → get_elem? g.labels l ≡ get_elem? h.labels m
  pub one_label : (l m l' m' : ℕ) → Label l m → Label l' m' → (l ≡ l') ↔ (m ≡ m')
  pub starts : g.starts ≡ h.starts
  pub rules : Forall₂ (SameRule Label) g.rules h.rules

module _ {Label : ℕ → ℕ → Type 0} where
  rule_turn : (r s : Rule) → SameRule Label r s → SameRule (λ m l. Label l m) s r
  rule_turn r s a =
      record {
        type = sym a.type;
        label = a.label;
        words = λ w. ((a.words w).1, (a.words w).0);
        types = λ k. ((a.types k).1, (a.types k).0);
        text = sym a.text;
      }

  pub same_turn : {g h : Table} → SameRules Label g h → SameRules (λ m l. Label l m) h g
  same_turn same =
      record {
        names = λ m l p. sym (same.names l m p);
        one_label = λ m l m' l' p q. let e = same.one_label l m l' m' p q in (e.1, e.0);
        starts = sym same.starts;
        rules = related_turn rule_turn same.rules;
      }

module _ {Label : ℕ → ℕ → Type 0} {g h : Table} (same : SameRules Label g h) where
  -- what fits in the one table fits in the other
  same_fits : {k : ℕ} {i : Head} {w : List ℕ} → Fits h k i w → Fits g k i w
  same_fits {k} {i} {w} f =
      let r = related_mem same.rules f.of_table in
      let a = r.2 in
      record {
        rule = r.0;
        of_table = r.1;
        of_type = a.type ∙ f.of_type;
        of_name =
            record {
              name = f.of_name.name;
              listed = same.names r.0.label f.rule.label a.label ∙ f.of_name.listed;
              same = f.of_name.same;
            };
        of_text = λ p. a.text ∙ f.of_text p;
        word = (a.words w).1 f.word;
      }

  pub same_let_in : LetsInAll g (LetsIn h)
  same_let_in d l =
      record {
        start = l.start;
        of_table = subst (λ (ks : List ℕ). Memᴰ l.start ks) (sym same.starts) l.of_table;
        derived = carry_tree h g (λ k. Unit {0}) (λ k n w ts p f a. (same_fits f, λ j m. tt)) l.derived tt;
      }

  no_two_kept : {Alike : Rule → Rule → Type 0}
      → ((r r' s s' : Rule) → SameRule Label r s → SameRule Label r' s' → Alike s s' → Alike r r') → NoTwoRules g Alike
      → NoTwoRules h Alike
  no_two_kept alike no_two i j s s' p q e =
      let a = related_at same.rules i p in
      let b = related_at same.rules j q in
      no_two i j a.0 b.0 a.1 b.1 (alike a.0 b.0 s s' a.2 b.2 e)

  labels_kept : (r r' s s' : Rule) → SameRule Label r s → SameRule Label r' s' → s.label ≡ s'.label → r.label ≡ r'.label
  labels_kept r r' s s' a b = (same.one_label r.label s.label r'.label s'.label a.label b.label).1

  types_kept : (r r' s s' : Rule) → SameRule Label r s → SameRule Label r' s' → s.type ≡ s'.type → r.type ≡ r'.type
  types_kept r r' s s' a b e = a.type ∙ e ∙ sym b.type

  competing_kept : {k l : ℕ} → Competing h k l → Competing g k l
  competing_kept c =
      let a = related_mem same.rules c.of_table₁ in
      let b = related_mem same.rules c.of_table₂ in
      record {
        rule₁ = a.0;
        rule₂ = b.0;
        of_table₁ = a.1;
        of_table₂ = b.1;
        of_type₁ = a.2.type ∙ c.of_type₁;
        of_type₂ = b.2.type ∙ c.of_type₂;
        one_label = labels_kept a.0 b.0 c.rule₁ c.rule₂ a.2 b.2 c.one_label;
      }

  none_compete_kept : {ks ls : List ℕ} → ((k : ℕ) → Memᴰ k ls → Memᴰ k ks) → NoneCompete g ks → NoneCompete h ls
  none_compete_kept within none k l m n c = none k l (within k m) (within l n) (competing_kept c)

  pub same_local : Local g → Local h
  same_local = no_two_kept labels_kept

  pub same_one_rule : OneRuleEach g → OneRuleEach h
  same_one_rule = no_two_kept types_kept

  pub same_single_type : SingleType g → SingleType h
  same_single_type single =
      record {
        rules =
            no_two_kept
            (λ r r' s s' a b e. (types_kept r r' s s' a b e.0, labels_kept r r' s s' a b e.1))
            single.rules;
        starts =
            none_compete_kept (λ k m. subst (λ (l : List ℕ). Memᴰ k l) (sym same.starts) m) single.starts;
        contents =
            λ s m.
            let a = related_mem same.rules m in
            none_compete_kept (λ k n. (a.2.types k).1 n) (single.contents a.0 a.1);
      }

  pub same_labelled : Labelled g → Labelled h
  same_labelled labelled s m =
      let a = related_mem same.rules m in
      let at = below_at g.labels a.0.label (labelled a.0 a.1) in
      at_below h.labels s.label (sym (same.names a.0.label s.label a.2.label) ∙ at.1)

pub same_documents : {Label : ℕ → ℕ → Type 0} {g h : Table} → SameRules Label g h → (d : Tree) → LetsIn h d ↔ LetsIn g d
same_documents same d = (same_let_in same d, same_let_in (same_turn same) d)
