-- Widening by stages: table after table, each by a call that is handed the bytes which the call before it wrote.
use Rattle.std.specs.Prelude.{ℕ, ◌↔◌, ◌⊎◌, ◌≡◌, take, Result}
use mathlib.Core.List.{List, [], ◌∷◌, ◌++◌, Memᴰ}
use Rattle.grammar.specs.Limits.{Limits}
use Rattle.grammar.specs.Names.{Classes}
use Rattle.grammar.specs.Tree.{Tree}
use Rattle.grammar.specs.Derivation.{LetsIn}
use Rattle.grammar.specs.Kinds.{Kind}
use Rattle.grammar.specs.Least.{Addition, Added, AddedItself, Least}
use Rattle.grammar.specs.Outcome.{Gives}
use Rattle.grammar.specs.declared.Refusal.{Refusal}
use Rattle.grammar.specs.ReadTable.{read_table}
use Rattle.grammar.specs.Answers.{Numbers}
use Rattle.grammar.specs.Calls.{After, read_addition}
use Rattle.grammar.specs.Promises.{Sampling, Widening}
use Rattle.grammar.specs.declared.Format.{Format}
use Rattle.grammar.specs.declared.Source.{Source}
use Rattle.grammar.specs.declared.Source.TheVariants.{Table as a_table, Document as a_document}

-- what a call is handed to add: the bytes of a table or of a document
pub record Input : Type 0 where
  pub source : Source
  pub bytes : List ℕ

abbrev pub table_input : List ℕ → Input
table_input bytes = record { source = a_table; bytes = bytes }

-- E is the table 1F 00 00, used as addition.
abbrev pub empty_input : Input
empty_input = table_input (0x1F ∷ 0x00 ∷ 0x00 ∷ [])

abbrev pub document_input : Format → List ℕ → Input
document_input format bytes = record { source = a_document format; bytes = bytes }

-- A call gave a table, and these are its bytes.
pub record WroteTable (left : After Numbers) (bytes : List ℕ) : Type 0 where
  pub not_refused : left.answer.refusal ≡ 0
  pub wrote : take left.answer.value left.out ≡ bytes

module _ (lim : Limits) (classes : Classes) where
  -- the table that these bytes read as lets in the document
  abbrev pub LetInBy : List ℕ → Tree → Type 0
  LetInBy table d = Gives (read_table lim classes table) (λ g. LetsIn g d)

  -- Equality is of documents, since type numbers may differ.
  abbrev pub SameDocuments : List ℕ → List ℕ → Type 0
  SameDocuments table table' = (d : Tree) → LetInBy table d ↔ LetInBy table' d

  -- the first table lets in all of the second's
  abbrev pub LetsInAllOf : List ℕ → List ℕ → Type 0
  LetsInAllOf table table' = (d : Tree) → LetInBy table' d → LetInBy table d

  -- what an input reads as
  abbrev pub read_input : Input → Result Addition Refusal
  read_input input = read_addition lim classes input.source input.bytes

  -- the input adds the document: a table all that it lets in, a document all that its sample lets in
  abbrev pub AddedBy : Input → Tree → Type 0
  AddedBy input d = Gives (read_input input) (λ a. Added a d)

  -- the input is the document itself, up to letter case
  abbrev pub DocumentOf : Input → Tree → Type 0
  DocumentOf input d = Gives (read_input input) (λ a. AddedItself a d)

  -- A widening gave a table: by what its call promises, and left.
  pub record Widens (kind : Kind) (old : List ℕ) (input : Input) (result : List ℕ) : Type 0 where
    pub out : List ℕ
    pub work : List ℕ
    pub left : After Numbers
    pub call : Widening lim classes kind input.source old input.bytes out work left
    pub gave : WroteTable left result

  -- and so did making a sample
  pub record Samples (format : Format) (document result : List ℕ) : Type 0 where
    pub out : List ℕ
    pub work : List ℕ
    pub left : After Numbers
    pub call : Sampling lim classes format document out work left
    pub gave : WroteTable left result

  -- From the opening table by one input after the other, every widening gave a table, the last one this.
  pub data Stages (kind : Kind) (opening : List ℕ) : List Input → List ℕ → Type 0 where
    first : {input : Input} {result : List ℕ} → Widens kind opening input result → Stages kind opening (input ∷ []) result
    next : {inputs : List Input} {input : Input} {before result : List ℕ}
        → Stages kind opening inputs before → Widens kind before input result → Stages kind opening (inputs ++ input ∷ []) result

  -- the documents of stages: those of the opening table, and those that any of the inputs adds
  abbrev pub OpeningOrAdded : List ℕ → List Input → Tree → Type 0
  OpeningOrAdded opening inputs d = LetInBy opening d ⊎ ((input : Input) × Memᴰ input inputs × AddedBy input d)

  -- the table that these bytes read as is the least of the kind over the documents
  abbrev pub ReadsLeast : Kind → (Tree → Type 0) → List ℕ → Type 0
  ReadsLeast kind Documents table = Gives (read_table lim classes table) (Least kind Documents)
