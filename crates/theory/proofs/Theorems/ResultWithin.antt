-- What a widening gives is a table that a file can hold, so that reading its written bytes gives it back, and these are bytes:
--   result_within       TableWithin lim classes old → TableWithin lim classes addition
--                           → widen_by_table lim kind old addition ≡ given result → TableWithin lim classes result
--   result_read_back    and then read_table lim classes (table_bytes result) ≡ given result
--   result_bytes        and AreBytes (table_bytes result)
-- for limits that agree. So too of a widening by a document within the limits: document_result_within, -read-back, -bytes,
-- and of its sample: sample_read_back, sample_bytes.
use mathlib.Core.List.{Memᴰ}
use mathlib.Core.Logic.{⊎_elim}
use mathlib.Core.Path.{◌≡◌, sym, subst}
use Rattle.grammar.specs.Limits.{Limits, LimitsAgree}
use Rattle.grammar.specs.Names.{Name, Classes}
use Rattle.grammar.specs.Tree.{Tree}
use Rattle.grammar.specs.Table.{Table}
use Rattle.grammar.specs.Kinds.{Kind}
use Rattle.grammar.specs.Least.{by_document}
use Rattle.std.specs.Prelude.{Ok}
use Rattle.grammar.specs.ReadTable.{read_table}
use Rattle.grammar.specs.WriteTable.{table_bytes}
use Rattle.grammar.specs.WithinLimits.{NameWithin, TableWithin, TreeWithin}
use Rattle.grammar.specs.Widen.{form, reduced_union, widen_by_table, sample_table, widen}
use Rattle.theory.proofs.Bytes.OutcomeLaws.{was_given}
use Rattle.theory.proofs.Bytes.FieldBytes.{AreBytes}
use Rattle.theory.proofs.Bytes.TableBytes.{table_read_back}
use Rattle.theory.proofs.Steps.ReducedUnion.{reduced_union_lem}
use Rattle.theory.proofs.Theorems.WidenLeast.{unsized, widened}
use Rattle.theory.proofs.Bytes.CountedTables.{within_counted, union_counted, union_name}
use Rattle.theory.proofs.Bytes.NumberedTable.{numbered_within, finished_numbered, finished_labels}
use Rattle.theory.proofs.Bytes.FormsNumbered.{form_numbered}
use Rattle.theory.proofs.Bytes.SampleWithin.{sample_within}
use Rattle.theory.proofs.Bytes.WrittenBytes.{BytesAgree, table_bytes_small}

module _ (lim : Limits) (classes : Classes) (agree : LimitsAgree lim) where
  module _ (kind : Kind) (old addition : Table) (old_within : TableWithin lim classes old)
      (addition_within : TableWithin lim classes addition) where
    abbrev reduced : Table
    reduced = reduced_union lim old addition

    -- the names of the reduced union are within the limits
    union_named : (n : Name) → Memᴰ n reduced.labels → NameWithin lim classes n
    union_named n m = ⊎_elim (old_within.names n) (addition_within.names n) (union_name lim old addition n m)

    module _ (result : Table) (e : widen_by_table lim kind old addition ≡ Ok result) where
      pub result_within : TableWithin lim classes result
      result_within =
          let w = widened lim kind old addition result e in
          subst (TableWithin lim classes) (sym w.made)
          (numbered_within lim classes agree (unsized lim kind old addition)
          (finished_numbered lim classes (form lim kind reduced)
          (form_numbered reduced (reduced_union_lem lim classes old addition old_within addition_within) lim classes union_named
          (union_counted lim old addition (within_counted lim classes old old_within)
          (within_counted lim classes addition addition_within))
          kind
          w.few))
          (finished_labels (form lim kind reduced))
          w.small)

      pub result_read_back : read_table lim classes (table_bytes result) ≡ Ok result
      result_read_back = table_read_back lim classes result result_within

      pub result_bytes : BytesAgree lim classes → AreBytes (table_bytes result)
      result_bytes bytes = table_bytes_small lim classes bytes result result_within

  -- a document's sample, and a widening by a document
  module _ (d : Tree) (document : TreeWithin lim classes d) where
    module _ (g : Table) (e : sample_table lim d ≡ Ok g) where
      pub sample_read_back : read_table lim classes (table_bytes g) ≡ Ok g
      sample_read_back = table_read_back lim classes g (sample_within lim classes agree d document g e)

      pub sample_bytes : BytesAgree lim classes → AreBytes (table_bytes g)
      sample_bytes bytes = table_bytes_small lim classes bytes g (sample_within lim classes agree d document g e)

    module _ (kind : Kind) (old : Table) (old_within : TableWithin lim classes old) (result : Table)
        (e : widen lim kind old (by_document d) ≡ Ok result) where
      pub document_result_within : TableWithin lim classes result
      unfolding widen
      document_result_within =
          let (g, p, q) = was_given (sample_table lim d) (λ g. widen_by_table lim kind old g) result e in
          result_within kind old g old_within (sample_within lim classes agree d document g p) result q

      pub document_result_read_back : read_table lim classes (table_bytes result) ≡ Ok result
      document_result_read_back = table_read_back lim classes result document_result_within

      pub document_result_bytes : BytesAgree lim classes → AreBytes (table_bytes result)
      document_result_bytes bytes = table_bytes_small lim classes bytes result document_result_within
