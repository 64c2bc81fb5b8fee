-- The law of a wider old table does not hold the other way round: E and P1's table, widened by P1's table, let in the same documents, and E
-- lets in none.
--     not_exchanged    results of which one lets in all of the other's do not tell this of their old tables
use Prim.Native.Nat.{ℕ}
use native.Mathlib.Omega.{arith}
use mathlib.Core.List.{List}
use mathlib.Core.Path.{◌≡◌, refl, ◌∙◌}
use lib.ListN.{length, replicate, length-replicate}
use Rattle.grammar.specs.Limits.{LimitsAgree, standard}
use Rattle.grammar.specs.Names.{ascii_classes}
use Rattle.grammar.specs.Derivation.{LetsIn}
use Rattle.grammar.specs.Kinds.{Kind, local, single_type}
use Rattle.std.specs.Prelude.{Result, Ok}
use Rattle.grammar.specs.declared.Refusal.{Refusal}
use Rattle.grammar.specs.ReadTable.{read_table}
use Rattle.grammar.specs.Widen.{widen}
use Rattle.grammar.specs.Calls.{read_addition, widened, written_to}
use Rattle.grammar.specs.Stages.{Input, table_input, empty_input, LetsInAllOf, Widens}
use Rattle.grammar.specs.declared.Source.TheVariants.{Table as a_table}
use Rattle.grammar.proofs.PaperTables.{p1_bytes, p1_table, p2_document}
use Rattle.grammar.proofs.PaperCases.{p1_reads, p2_let_in}
use Rattle.grammar.proofs.ClassRules.{ascii_load}
use Rattle.theory.proofs.Bytes.OutcomeLaws.{gives_this}
use Rattle.theory.proofs.Matching.Membership.{is_let_in}
use Rattle.theory.proofs.Theorems.CallPromises.{from_bytes, widened_lent}
use Rattle.theory.proofs.Theorems.WidenedBytes.{table_adds, empty_adds_none, widens_given}

-- enough working memory
work : List ℕ
work = replicate 16384 0

-- a table's bytes widened by P1's table, into room for it
abbrev by_p1 : Kind → List ℕ → Result (List ℕ) Refusal
by_p1 kind old = from_bytes standard ascii_classes kind a_table old p1_bytes p1_bytes

agree : LimitsAgree standard
unfolding standard
agree = record { labels = omega arith; starts = omega arith; rules = omega arith; children = omega arith }

widens : (kind : Kind) (old : List ℕ) → by_p1 kind old ≡ Ok p1_bytes → Widens standard ascii_classes kind old (table_input p1_bytes) p1_bytes
unfolding standard work
widens kind old e =
    widens_given standard ascii_classes kind agree old (table_input p1_bytes) p1_bytes work p1_bytes
    (widened_lent standard ascii_classes kind a_table old p1_bytes p1_bytes work
    (let n = length-replicate {A = ℕ} 16384 0 in omega arith)
    ascii_load
    ∙ e)

p1_by_p1 : (kind : Kind) → by_p1 kind p1_bytes ≡ Ok p1_bytes
unfolding read_table read_addition widen standard ascii_classes p1_bytes written_to
p1_by_p1 local = refl
p1_by_p1 single_type = refl

e_by_p1 : (kind : Kind) → by_p1 kind empty_input.bytes ≡ Ok p1_bytes
unfolding read_table read_addition widen standard ascii_classes p1_bytes written_to
e_by_p1 local = refl
e_by_p1 single_type = refl

pub not_exchanged : (kind : Kind)
    → ((old result wider result' : List ℕ) (A : Input) → Widens standard ascii_classes kind old A result
    → Widens standard ascii_classes kind wider A result' → LetsInAllOf standard ascii_classes result' result
    → LetsInAllOf standard ascii_classes wider old)
    → ⊥
not_exchanged kind exchanged =
    let e_lets_in =
    exchanged p1_bytes p1_bytes empty_input.bytes p1_bytes (table_input p1_bytes) (widens kind p1_bytes (p1_by_p1 kind))
    (widens kind empty_input.bytes (e_by_p1 kind))
    (λ d l. l)
    p2_document
    ((gives_this (λ g. LetsIn g p2_document) p1_reads).1 (is_let_in p1_table p2_document p2_let_in)) in
    empty_adds_none standard ascii_classes p2_document ((table_adds standard ascii_classes empty_input.bytes p2_document).1 e_lets_in)
