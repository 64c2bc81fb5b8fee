-- What each public call promises, of what it leaves: for every input the answer and each lent slice, equal to what a definition
-- gives (`settled`), and the demand itself.
use Rattle.std.specs.Prelude.{ℕ, ◌+◌, ◌*◌, ◌≤◌, List, map, ◌↔◌, ◌⊎◌, ◌≡◌, length, take, Result, Ok}
use Rattle.grammar.specs.Limits.{Limits}
use Rattle.grammar.specs.Names.{Classes, Loads}
use Rattle.grammar.specs.Tree.{Tree}
use Rattle.grammar.specs.Table.{Table}
use Rattle.grammar.specs.Derivation.{LetsIn}
use Rattle.grammar.specs.Kinds.{Kind, OfKind}
use Rattle.grammar.specs.Least.{Addition, Added}
use Rattle.grammar.specs.declared.Refusal.{Refusal}
use Rattle.grammar.specs.ReadTable.{read_table}
use Rattle.grammar.specs.Documents.{read_document}
use Rattle.grammar.specs.Sample.{sample}
use Rattle.grammar.specs.Claim.{WritesLeast}
use Rattle.grammar.specs.Listing.{rule_text}
use Rattle.grammar.specs.Pages.{page_layout}
use Rattle.grammar.specs.ReadPages.{texts_shown}
use Rattle.grammar.specs.Answers.{Numbers, refused_by, says_yes, says_no, bit}
use Rattle.grammar.specs.Calls.{
  Part,
  NamePart,
  part_from,
  After,
  answered,
  wrote,
  named,
  table_reads,
  document_reads,
  label_name,
  table_lets_in,
  table_is_of_kind,
  table_pages,
  document_sample,
  read_addition,
  widened,
}
use Rattle.grammar.specs.declared.Format.{Format}
use Rattle.grammar.specs.declared.Source.{Source}
use Rattle.grammar.specs.declared.Refusal.TheVariants.{NoDocument}

-- the answer is yes exactly if the fact holds, and no exactly if it does not
pub record Decides (answer : Numbers) (Fact : Type 0) : Type 0 where
  pub yes : (answer ≡ says_yes) ↔ Fact
  pub no : (answer ≡ says_no) ↔ (Fact → ⊥)

-- A place in memory is a block and an offset. A part stands in the block of its input, as many bytes on as it begins there.
pub record PartOf (input : ℕ × ℕ) (o : Result Part Refusal) (part : ℕ × ℕ) : Type 0 where
  pub block : part.0 ≡ input.0
  pub offset : part.1 ≡ input.1 + part_from o

-- the value by which a part is told in one number
abbrev pub place_value : Part → ℕ
place_value p = p.from * 65536 + p.size

module _ (lim : Limits) (classes : Classes) where
  -- `table_reads`
  pub record TableReading (table work : List ℕ) (left : After Numbers) : Type 0 where
    pub settled : left ≡ answered lim (λ g. 1) (table_reads lim classes table work) work

  -- `document_reads`
  pub record DocumentReading (format : Format) (document work : List ℕ) (left : After Numbers) : Type 0 where
    pub settled : left ≡ answered lim (λ d. 1) (document_reads lim classes format document work) work

  -- `label_name`
  pub record Naming (table : List ℕ) (label : ℕ) (work : List ℕ) (left : After NamePart) : Type 0 where
    pub settled : left ≡ named lim (label_name lim classes table label work) table work

  -- the same as one number
  pub record NamePlace (table : List ℕ) (label : ℕ) (work : List ℕ) (left : After Numbers) : Type 0 where
    pub settled : left ≡ answered lim place_value (label_name lim classes table label work) work

  -- `lets_in`. Demand 2: A document is let in exactly if the table derives it.
  pub record Membership (table : List ℕ) (format : Format) (document work : List ℕ) (left : After Numbers) : Type 0 where
    pub settled : left ≡ answered lim bit (table_lets_in lim classes table format document work) work
    pub decides : (g : Table) (d : Tree) → read_table lim classes table ≡ Ok g → read_document lim classes format document ≡ Ok d
        → lim.words ≤ length work → Loads classes → Decides left.answer (LetsIn g d)

  -- `is_local`, `is_single_type`. Demand 2: exactly by definition.
  pub record KindTest (kind : Kind) (table work : List ℕ) (left : After Numbers) : Type 0 where
    pub settled : left ≡ answered lim bit (table_is_of_kind lim classes kind table work) work
    pub decides : (g : Table) → read_table lim classes table ≡ Ok g → lim.words ≤ length work → Loads classes
        → Decides left.answer (OfKind kind g)

  -- `pages`: from the bytes written the lister's text of each rule comes back.
  pub record Paging (table out work : List ℕ) (left : After Numbers) : Type 0 where
    pub settled : left ≡ wrote lim (table_pages lim classes table out work) out work
    pub comes_back : left.answer.refusal ≡ 0 → (g : Table) → read_table lim classes table ≡ Ok g
        → texts_shown page_layout (take left.answer.value left.out) ≡ map (rule_text g) g.rules

  -- `sample`: the bytes written read as the sample, which lets in the document.
  pub record Sampling (format : Format) (document out work : List ℕ) (left : After Numbers) : Type 0 where
    pub settled : left ≡ wrote lim (document_sample lim classes format document out work) out work
    pub reads : left.answer.refusal ≡ 0 → (d : Tree) → read_document lim classes format document ≡ Ok d
        → read_table lim classes (take left.answer.value left.out) ≡ Ok (sample d)
    pub lets_in : (d : Tree) → read_document lim classes format document ≡ Ok d → LetsIn (sample d) d

  -- The four widening calls. Demand 3: the bytes written read as the least table of the kind that lets in the old and the added; and 13 is
  -- given exactly where neither the old table nor the addition has a document.
  pub record Widening (kind : Kind) (source : Source) (old addition out work : List ℕ) (left : After Numbers) : Type 0 where
    pub settled : left ≡ wrote lim (widened lim classes kind source old addition out work) out work
    pub least : left.answer.refusal ≡ 0 → (g : Table) (a : Addition) → read_table lim classes old ≡ Ok g
        → read_addition lim classes source addition ≡ Ok a
        → WritesLeast lim classes kind g a (take left.answer.value left.out)
    pub no_document : (g : Table) (a : Addition) → read_table lim classes old ≡ Ok g
        → read_addition lim classes source addition ≡ Ok a → lim.words ≤ length work → Loads classes
        → (left.answer ≡ refused_by NoDocument) ↔ ((d : Tree) → LetsIn g d ⊎ Added a d → ⊥)
