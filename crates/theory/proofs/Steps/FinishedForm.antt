-- A form of a table that is least of its kind stays so when only its used labels are kept and its contents are tidied.
--     finished_least : LeastForm kind g form → LeastForm kind g (finished form)
use mathlib.Core.Logic.Iff
use mathlib.Core.Logic.{◌↔◌}
use Rattle.grammar.specs.Tree.{Tree}
use Rattle.grammar.specs.Table.{Table}
use Rattle.grammar.specs.Derivation.{LetsIn}
use Rattle.grammar.specs.Kinds.{Kind, local, single_type, OfKind}
use Rattle.grammar.specs.Least.{Least}
use Rattle.grammar.specs.UsedLabels.{with_used_labels}
use Rattle.grammar.specs.Tidy.{tidy_table}
use Rattle.theory.specs.Conditions.{Labelled}
use Rattle.theory.proofs.Steps.TidyTable.{tidy_documents, tidy_local, tidy_single_type, tidy_labelled}
use Rattle.theory.proofs.Steps.UsedLabelsDocuments.{
  used_labels_documents,
  used_labels_local,
  used_labels_single_type,
  used_labels_labelled,
}

-- a labelled table, the least of the kind over the documents of g
pub record LeastForm (kind : Kind) (g form : Table) : Type 0 where
  pub labelled : Labelled form
  pub least : Least kind (LetsIn g) form

abbrev pub finished : Table → Table
finished g = tidy_table (with_used_labels g)

module _ (kind : Kind) (g form : Table) (f : LeastForm kind g form) where
  finished_documents : (d : Tree) → LetsIn (finished form) d ↔ LetsIn form d
  finished_documents d =
      Iff.trans (tidy_documents (with_used_labels form) d) (used_labels_documents form f.labelled d)

  finished_kind : (k : Kind) → OfKind k form → OfKind k (finished form)
  finished_kind local o = tidy_local (with_used_labels form) (used_labels_local form f.labelled o)
  finished_kind single_type o =
      tidy_single_type (with_used_labels form) (used_labels_single_type form f.labelled o)

  pub finished_least : LeastForm kind g (finished form)
  finished_least =
      record {
        labelled = tidy_labelled (with_used_labels form) (used_labels_labelled form f.labelled);
        least =
            record {
              of_kind = finished_kind kind f.least.of_kind;
              keeps = λ d l. (finished_documents d).1 (f.least.keeps d l);
              least = λ rival r d l. f.least.least rival r d ((finished_documents d).0 l);
            };
      }
