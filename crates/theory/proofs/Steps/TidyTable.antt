-- Tidying the contents of a table:
--     tidy_same_rules     its rules are those of the table, up to equal words and types (SameRules), and so:
--     tidy_documents      the tidied table lets in what the table lets in
--     tidy_local          it is local, tidy_single_type single-type, if the table is
--     tidy_one_rule       each type has at most one rule if it has so in the table
--     tidy_labels         it has the same labels, tidy_starts the same starts
--     tidy_names          no two labels have equal names if so in the table
--     tidy_labelled       the rules' labels are among the labels if so in the table
use Prim.Native.Nat.{ℕ}
use mathlib.Core.Logic.{◌↔◌}
use mathlib.Core.Path.{◌≡◌, refl, sym, ◌∙◌, ap}
use lib.ListN.{get_elem?}
use Rattle.grammar.specs.Tree.{Tree}
use Rattle.grammar.specs.Table.{Table, DistinctNames}
use Rattle.grammar.specs.Derivation.{LetsIn}
use Rattle.grammar.specs.Kinds.{Local, SingleType}
use Rattle.grammar.specs.Tidy.{tidy_table}
use Rattle.theory.specs.Conditions.{Labelled}
use Rattle.theory.proofs.Lists.ListLaws.{related_map}
use Rattle.theory.proofs.Tables.SameRules.{
  SameRules,
  same_documents,
  same_local,
  same_single_type,
  same_one_rule,
  same_labelled,
}
use Rattle.theory.proofs.Tables.TableConditions.{OneRuleEach}
use Rattle.theory.proofs.Contents.TidyWords.{tidy_words, tidy_types}

module _ (g : Table) where
  pub tidy_labels : (tidy_table g).labels ≡ g.labels
  unfolding tidy_table
  tidy_labels = refl

  pub tidy_starts : (tidy_table g).starts ≡ g.starts
  unfolding tidy_table
  tidy_starts = refl

  pub tidy_names : DistinctNames g → DistinctNames (tidy_table g)
  unfolding tidy_table
  tidy_names names = names

  pub tidy_same_rules : SameRules (λ l m. l ≡ m) g (tidy_table g)
  unfolding tidy_table
  tidy_same_rules =
      record {
        names = λ l m e. ap (λ (i : ℕ). get_elem? g.labels i) e;
        one_label = λ l m l' m' p q. (λ e. sym p ∙ e ∙ q, λ e. p ∙ e ∙ sym q);
        starts = refl;
        rules =
            related_map _ g.rules
            (λ r m.
            record {
              type = refl;
              label = refl;
              words = λ w. let e = tidy_words r.content w in (e.1, e.0);
              types = λ k. let e = tidy_types k r.content in (e.1, e.0);
              text = refl;
            });
      }

  pub tidy_documents : (d : Tree) → LetsIn (tidy_table g) d ↔ LetsIn g d
  tidy_documents = same_documents tidy_same_rules

  pub tidy_local : Local g → Local (tidy_table g)
  tidy_local = same_local tidy_same_rules

  pub tidy_single_type : SingleType g → SingleType (tidy_table g)
  tidy_single_type = same_single_type tidy_same_rules

  pub tidy_one_rule : OneRuleEach g → OneRuleEach (tidy_table g)
  tidy_one_rule = same_one_rule tidy_same_rules

  pub tidy_labelled : Labelled g → Labelled (tidy_table g)
  tidy_labelled = same_labelled tidy_same_rules
