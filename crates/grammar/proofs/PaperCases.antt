-- The paper's cases P1 to P8, computed. (crates/theory states them as instances of the written meaning.)
use Prim.Native.Nat.{ℕ}
use mathlib.Core.Bool.{true, false}
use mathlib.Core.List.{List, [], ◌++◌}
use mathlib.Core.Path.{◌≡◌, refl}
use lib.ListN.{length}
use Rattle.grammar.specs.Limits.{standard}
use Rattle.grammar.specs.Names.{ascii_classes}
use Rattle.grammar.specs.Table.{Table, empty_table}
use Rattle.grammar.specs.Kinds.{Kind, local, single_type}
use Rattle.grammar.specs.Least.{by_table}
use Rattle.std.specs.Prelude.{Result, Ok}
use Rattle.grammar.specs.Outcome.{◌>>=◌}
use Rattle.grammar.specs.declared.Refusal.{Refusal}
use Rattle.grammar.specs.ReadTable.{read_table}
use Rattle.grammar.specs.ReadDocument.{read_document_file}
use Rattle.grammar.specs.WriteDocument.{document_bytes}
use Rattle.grammar.specs.Membership.{lets_in}
use Rattle.grammar.specs.Widen.{widen}
use Rattle.grammar.specs.Answers.{number_after}
use Rattle.grammar.specs.Calls.{written_to, read_addition}
use Rattle.grammar.specs.declared.Source.TheVariants.{Table as a_table}
use Rattle.grammar.proofs.Builders.{node_field, end_of_document}
use Rattle.grammar.proofs.PaperTables.{
  p1_bytes,
  p1_table,
  p2_bytes,
  p2_document,
  e_bytes,
  p5_table,
  p5_local,
  p5_document,
  p6_table,
  p6_local,
  p7_table,
  p7_result,
  p8_table,
  p8_result,
}

pub p1_length : length p1_bytes ≡ 17
unfolding p1_bytes
p1_length = refl

pub p1_reads : read_table standard ascii_classes p1_bytes ≡ Ok p1_table
unfolding read_table standard ascii_classes p1_bytes p1_table
p1_reads = refl

pub p2_reads : read_document_file standard ascii_classes p2_bytes ≡ Ok p2_document
unfolding read_document_file standard ascii_classes p2_bytes p2_document
p2_reads = refl

pub p2_bytes_lem : document_bytes p2_document ≡ p2_bytes
unfolding document_bytes p2_document p2_bytes
p2_bytes_lem = refl

pub p2_let_in : lets_in p1_table p2_document ≡ true
unfolding lets_in p1_table p2_document
p2_let_in = refl

pub p3 : number_after (read_table standard ascii_classes []) ≡ 3
unfolding read_table standard number_after
p3 = refl

pub p3_document : number_after (read_document_file standard ascii_classes []) ≡ 3
unfolding read_document_file standard number_after
p3_document = refl

-- E widened by E, from their bytes
abbrev pub e_by_e : Kind → List ℕ → Result (List ℕ) Refusal
e_by_e kind out =
    read_table standard ascii_classes e_bytes
    >>= λ g. (read_addition standard ascii_classes a_table e_bytes >>= λ a. (widen standard kind g a >>= λ r. written_to out r))

pub p4_local : (out : List ℕ) → number_after (e_by_e local out) ≡ 13
unfolding read_table read_addition widen standard e_bytes number_after
p4_local out = refl

pub p4_single_type : (out : List ℕ) → number_after (e_by_e single_type out) ≡ 13
unfolding read_table read_addition widen standard e_bytes number_after
p4_single_type out = refl

-- widened by E
abbrev pub alone : Kind → Table → Result Table Refusal
alone kind g = widen standard kind g (by_table empty_table)

pub p5_local_lem : alone local p5_table ≡ Ok p5_local
unfolding widen standard p5_table p5_local
p5_local_lem = refl

pub p5_local_lets_in : lets_in p5_local p5_document ≡ true
unfolding lets_in p5_local p5_document
p5_local_lets_in = refl

-- the single-type widening is the table itself: its doors never meet within one content
pub p5_single_type : alone single_type p5_table ≡ Ok p5_table
unfolding widen standard p5_table
p5_single_type = refl

pub p5_single_type_keeps_out : lets_in p5_table p5_document ≡ false
unfolding lets_in p5_table p5_document
p5_single_type_keeps_out = refl

-- each child's own children before the next child
pub p5_bytes :
    document_bytes p5_document
    ≡ node_field "block" 2
    ++ node_field "floor" 1
    ++ node_field "door" 1
    ++ node_field "code" 0
    ++ node_field "lift" 1
    ++ node_field "door" 1
    ++ node_field "time" 0
    ++ end_of_document
unfolding document_bytes p5_document node_field end_of_document
p5_bytes = refl

pub p6 : alone local p6_table ≡ Ok p6_local
unfolding widen standard p6_table p6_local
p6 = refl

pub p7_local : alone local p7_table ≡ Ok p7_result
unfolding widen standard p7_table p7_result
p7_local = refl

pub p7_single_type : alone single_type p7_table ≡ Ok p7_result
unfolding widen standard p7_table p7_result
p7_single_type = refl

pub p8_local : alone local p8_table ≡ Ok p8_result
unfolding widen standard p8_table p8_result
p8_local = refl

pub p8_single_type : alone single_type p8_table ≡ Ok p8_result
unfolding widen standard p8_table p8_result
p8_single_type = refl
