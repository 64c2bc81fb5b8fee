-- Widening by stages: the stages don't matter. Laws of one kind, under some limits and classes, about the bytes that calls write. Their
-- premise is that every widening in the comparison gave a table (`Widens`); what is added, A or B, is a table or a document. They speak of
-- the documents let in and not of bytes, since type numbers may differ.
use Rattle.std.specs.Prelude.{ℕ, ◌↔◌, ◌⊎◌}
use mathlib.Core.List.{List, Memᴰ}
use Rattle.grammar.specs.Limits.{Limits}
use Rattle.grammar.specs.Names.{Classes}
use Rattle.grammar.specs.Tree.{Tree}
use Rattle.grammar.specs.Kinds.{Kind}
use Rattle.grammar.specs.Stages.{
  Input,
  table_input,
  empty_input,
  document_input,
  LetInBy,
  SameDocuments,
  LetsInAllOf,
  AddedBy,
  DocumentOf,
  Widens,
  Samples,
  Stages,
  OpeningOrAdded,
  ReadsLeast,
}
use Rattle.grammar.specs.declared.Format.{Format}

pub record StageLaws (lim : Limits) (classes : Classes) (kind : Kind) : Type 0 where
  -- Widening by A, then by B, lets in the same documents as by B, then by A,
  pub either_order : {old after_a after_ab after_b after_ba : List ℕ} {A B : Input}
      → Widens lim classes kind old A after_a → Widens lim classes kind after_a B after_ab
      → Widens lim classes kind old B after_b → Widens lim classes kind after_b A after_ba
      → SameDocuments lim classes after_ab after_ba
  -- and as by one table that lets in just what A or B does.
  pub at_once : {old after_a after_ab C after_c : List ℕ} {A B : Input}
      → Widens lim classes kind old A after_a → Widens lim classes kind after_a B after_ab
      → Widens lim classes kind old (table_input C) after_c
      → ((d : Tree) → LetInBy lim classes C d ↔ (AddedBy lim classes A d ⊎ AddedBy lim classes B d))
      → SameDocuments lim classes after_ab after_c
  -- Widening a result by the empty table E changes no document let in.
  pub by_empty_table : {old result after : List ℕ} {A : Input}
      → Widens lim classes kind old A result → Widens lim classes kind result empty_input after
      → SameDocuments lim classes result after
  -- An old table that lets in all of another's gives, by the same addition, a result that does so too.
  pub wider_old : {old result wider result' : List ℕ} {A : Input}
      → Widens lim classes kind old A result → Widens lim classes kind wider A result'
      → LetsInAllOf lim classes wider old → LetsInAllOf lim classes result' result
  -- A table adds what it lets in, and a document what the table lets in that is written as its sample:
  pub table_adds : (table : List ℕ) (d : Tree) → AddedBy lim classes (table_input table) d ↔ LetInBy lim classes table d
  pub document_adds : {format : Format} {document sample : List ℕ} → Samples lim classes format document sample
      → (d : Tree) → AddedBy lim classes (document_input format document) d ↔ LetInBy lim classes sample d
  -- widening by a document lets in the same documents as by its sample.
  pub as_its_sample : {format : Format} {document sample old result result' : List ℕ}
      → Samples lim classes format document sample → Widens lim classes kind old (document_input format document) result
      → Widens lim classes kind old (table_input sample) result'
      → SameDocuments lim classes result result'
  -- After any number of stages the last table is the least over the opening table and all additions,
  pub any_number : {opening last : List ℕ} {inputs : List Input} → Stages lim classes kind opening inputs last
      → ReadsLeast lim classes kind (OpeningOrAdded lim classes opening inputs) last
  -- and lets in each added document itself;
  pub documents_kept : {opening last : List ℕ} {inputs : List Input} → Stages lim classes kind opening inputs last
      → (input : Input) → Memᴰ input inputs → (d : Tree) → DocumentOf lim classes input d → LetInBy lim classes last d
  -- so in whatever order and number the additions came, nothing but their documents matters.
  pub same_stages : {opening last opening' last' : List ℕ} {inputs inputs' : List Input}
      → Stages lim classes kind opening inputs last → Stages lim classes kind opening' inputs' last'
      → ((d : Tree) → OpeningOrAdded lim classes opening inputs d ↔ OpeningOrAdded lim classes opening' inputs' d)
      → SameDocuments lim classes last last'
