-- The eight cases that the paper marks P, as instances of the written meaning, under one theorem: `paper_theorem`.
-- The tables and documents stand in grammar's PaperTables, what is computed of them in its PaperCases.
use Prim.Native.Nat.{ℕ, ◌≤◌}
use mathlib.Core.List.{List, []}
use mathlib.Core.Path.{◌≡◌, ◌∙◌, ap}
use lib.ListN.{length}
use Rattle.grammar.specs.Limits.{standard}
use Rattle.grammar.specs.Names.{ascii_classes}
use Rattle.grammar.specs.Table.{Table, empty_table}
use Rattle.grammar.specs.Derivation.{LetsIn}
use Rattle.grammar.specs.Kinds.{Kind, local, single_type}
use Rattle.grammar.specs.Least.{by_table}
use Rattle.std.specs.Prelude.{Ok}
use Rattle.grammar.specs.Answers.{number_after}
use Rattle.grammar.specs.ReadTable.{read_table}
use Rattle.grammar.specs.ReadDocument.{read_document_file}
use Rattle.grammar.specs.Widen.{widen}
use Rattle.grammar.specs.Calls.{widened}
use Rattle.grammar.specs.declared.Source.TheVariants.{Table as a_table}
use Rattle.grammar.proofs.PaperTables.{
  p1_bytes,
  p1_table,
  p2_bytes,
  p2_document,
  e_bytes,
  p5_table,
  p5_local,
  p5_document,
  p6_table,
  p6_local,
  p7_table,
  p7_result,
  p8_table,
  p8_result,
}
use Rattle.grammar.proofs.PaperCases as computed
use Rattle.grammar.proofs.ClassRules.{ascii_load}
use Rattle.theory.proofs.Matching.Membership.{is_let_in, not_let_in}
use Rattle.theory.proofs.Theorems.CallPromises.{widened_lent}

-- the table that widening g by E to a kind gives
pub record WidenedByE (kind : Kind) (g result : Table) : Type 0 where
  pub gives : widen standard kind g (by_table empty_table) ≡ Ok result

pub record PaperTheorem : Type 0 where
  pub p1_length : length p1_bytes ≡ 17
  pub p1_reads : read_table standard ascii_classes p1_bytes ≡ Ok p1_table
  pub p2_reads : read_document_file standard ascii_classes p2_bytes ≡ Ok p2_document
  pub p2_let_in : LetsIn p1_table p2_document
  pub p3_table : number_after (read_table standard ascii_classes []) ≡ 3
  pub p3_document : number_after (read_document_file standard ascii_classes []) ≡ 3
  pub p4 : (kind : Kind) (out work : List ℕ) → 16384 ≤ length work
      → number_after (widened standard ascii_classes kind a_table e_bytes e_bytes out work) ≡ 13
  pub p5_local : (result : Table) × WidenedByE local p5_table result × LetsIn result p5_document
  pub p5_single_type : (result : Table) × WidenedByE single_type p5_table result × (LetsIn result p5_document → ⊥)
  pub p6 : WidenedByE local p6_table p6_local
  pub p7 : (kind : Kind) → WidenedByE kind p7_table p7_result
  pub p8 : (kind : Kind) → WidenedByE kind p8_table p8_result

-- E by E, with enough working memory
e_by_e_lem : (kind : Kind) (out work : List ℕ) → 16384 ≤ length work
    → number_after (widened standard ascii_classes kind a_table e_bytes e_bytes out work) ≡ 13
unfolding standard
e_by_e_lem kind out work h = ap number_after (widened_lent standard ascii_classes kind a_table e_bytes e_bytes out work h ascii_load) ∙ both kind
  where
    both : (kind : Kind) → number_after (computed.e_by_e kind out) ≡ 13
    both local = computed.p4_local out
    both single_type = computed.p4_single_type out

pub paper_theorem : PaperTheorem
paper_theorem =
    record {
      p1_length = computed.p1_length;
      p1_reads = computed.p1_reads;
      p2_reads = computed.p2_reads;
      p2_let_in = is_let_in p1_table p2_document computed.p2_let_in;
      p3_table = computed.p3;
      p3_document = computed.p3_document;
      p4 = e_by_e_lem;
      p5_local = (p5_local, record { gives = computed.p5_local_lem }, is_let_in p5_local p5_document computed.p5_local_lets_in);
      p5_single_type =
          (p5_table, record { gives = computed.p5_single_type }, not_let_in p5_table p5_document computed.p5_single_type_keeps_out);
      p6 = record { gives = computed.p6 };
      p7 = elim [ local ↦ record { gives = computed.p7_local } | single_type ↦ record { gives = computed.p7_single_type } ];
      p8 = elim [ local ↦ record { gives = computed.p8_local } | single_type ↦ record { gives = computed.p8_single_type } ];
    }
