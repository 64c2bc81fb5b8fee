-- The whole outcome of every public call, and what it leaves in each lent slice.
use Rattle.std.specs.Prelude.{
  ℕ,
  ◌+◌,
  Bool,
  true,
  false,
  not,
  List,
  [],
  ◌++◌,
  length,
  take,
  drop,
  replicate,
  get_or,
  leb,
  ltb,
  Result,
  Ok,
  Err,
}
use Rattle.grammar.specs.Lists.{joined_of}
use Rattle.grammar.specs.Limits.{Limits}
use Rattle.grammar.specs.Names.{Name, Classes, loads}
use Rattle.grammar.specs.Tree.{Tree}
use Rattle.grammar.specs.Table.{Table}
use Rattle.grammar.specs.Kinds.{Kind}
use Rattle.grammar.specs.Least.{Addition, by_table, by_document}
use Rattle.grammar.specs.Outcome.{◌>>=◌, ◌>>◌, turn_back}
use Rattle.grammar.specs.declared.Refusal.{Refusal}
use Rattle.grammar.specs.Fields.{field_bytes}
use Rattle.grammar.specs.ReadTable.{label_tag, read_table}
use Rattle.grammar.specs.Documents.{read_document}
use Rattle.grammar.specs.WriteTable.{table_bytes}
use Rattle.grammar.specs.Membership.{lets_in}
use Rattle.grammar.specs.KindTests.{is_of_kind}
use Rattle.grammar.specs.Widen.{widen, sample_table}
use Rattle.grammar.specs.Pages.{page_layout, pages}
use Rattle.grammar.specs.Answers.{Numbers, numbers_of, number_after}
use Rattle.grammar.specs.declared.Format.{Format}
use Rattle.grammar.specs.declared.Source.{Source}
use Rattle.grammar.specs.declared.Source.TheVariants.{Table as a_table, Document as a_document}
use Rattle.grammar.specs.declared.Refusal.TheVariants.{WorkTooShort, BadClasses, OutOfRange, OutputTooShort}

-- Working memory is lent to every call.
unfoldable pub work_too_short : Limits → List ℕ → Bool
work_too_short lim work = ltb (length work) lim.words

-- Its first words are zero after every call but refusal 1, which changes none; words beyond are never changed.
unfoldable pub work_after : Limits → List ℕ → List ℕ
unfolding work_too_short
work_after lim work =
    elim (work_too_short lim work) [ true ↦ work | false ↦ replicate lim.words 0 ++ drop lim.words work ]

-- A result takes the first bytes of the output; bytes past it, and all bytes on a refusal, stay as they came.
unfoldable pub out_after : Result (List ℕ) Refusal → List ℕ → List ℕ
out_after (Err r) out = out
out_after (Ok bytes) out = bytes ++ drop (length bytes) out

-- a result, if the output has room
unfoldable pub room_for : List ℕ → List ℕ → Result (List ℕ) Refusal
room_for out bytes = do
  turn_back (ltb (length out) (length bytes)) OutputTooShort
  Ok bytes

-- the finished table's bytes
unfoldable pub written_to : List ℕ → Table → Result (List ℕ) Refusal
unfolding room_for table_bytes
written_to out g = room_for out (table_bytes g)

-- a part of an input's own bytes
pub record Part : Type 0 where
  pub from : ℕ
  pub size : ℕ

-- where a part begins, and its bytes; a refusal gives an empty part
unfoldable pub part_from : Result Part Refusal → ℕ
part_from (Err r) = 0
part_from (Ok p) = p.from

unfoldable pub part_bytes : Result Part Refusal → List ℕ → List ℕ
part_bytes (Err r) bytes = []
part_bytes (Ok p) bytes = take p.size (drop p.from bytes)

-- where the name of a label stands in its table: behind the fields of the labels before it, and its own tag and length
unfoldable pub part_of_label : List Name → ℕ → Part
unfolding joined_of field_bytes
part_of_label labels label =
    record { from = length (joined_of (field_bytes label_tag) (take label labels)) + 3; size = length (get_or labels label []) }

module _ (lim : Limits) (classes : Classes) where
  -- The working memory is tried first, then the classes, then an input.
  unfoldable pub table_reads : List ℕ → List ℕ → Result Table Refusal
  unfolding work_too_short loads read_table
  table_reads table work = do
    turn_back (work_too_short lim work) WorkTooShort
    turn_back (not (loads classes)) BadClasses
    read_table lim classes table

  unfoldable pub document_reads : Format → List ℕ → List ℕ → Result Tree Refusal
  unfolding work_too_short loads read_document
  document_reads format document work = do
    turn_back (work_too_short lim work) WorkTooShort
    turn_back (not (loads classes)) BadClasses
    read_document lim classes format document

  -- A caller's label number is tried after its table.
  unfoldable pub label_name : List ℕ → ℕ → List ℕ → Result Part Refusal
  unfolding table_reads part_of_label
  label_name table label work = do
    g ← table_reads table work
    turn_back (leb (length g.labels) label) OutOfRange
    Ok (part_of_label g.labels label)

  -- Inputs are read one after the other. An unknown name means no.
  unfoldable pub table_lets_in : List ℕ → Format → List ℕ → List ℕ → Result Bool Refusal
  unfolding table_reads read_document lets_in
  table_lets_in table format document work = do
    g ← table_reads table work
    d ← read_document lim classes format document
    Ok (lets_in g d)

  unfoldable pub table_is_of_kind : Kind → List ℕ → List ℕ → Result Bool Refusal
  unfolding table_reads is_of_kind
  table_is_of_kind kind table work = do
    g ← table_reads table work
    Ok (is_of_kind kind g)

  -- any readable table as it was read
  unfoldable pub table_pages : List ℕ → List ℕ → List ℕ → Result (List ℕ) Refusal
  unfolding table_reads pages page_layout room_for
  table_pages table out work = do
    g ← table_reads table work
    room_for out (pages page_layout g)

  unfoldable pub document_sample : Format → List ℕ → List ℕ → List ℕ → Result (List ℕ) Refusal
  unfolding document_reads sample_table written_to
  document_sample format document out work = do
    d ← document_reads format document work
    g ← sample_table lim d
    written_to out g

  -- what the bytes of an addition read as
  unfoldable pub read_addition : Source → List ℕ → Result Addition Refusal
  unfolding read_table read_document
  read_addition a_table bytes = read_table lim classes bytes >>= λ g. Ok (by_table g)
  read_addition (a_document format) bytes = read_document lim classes format bytes >>= λ d. Ok (by_document d)

  -- the old table first
  unfoldable pub widened : Kind → Source → List ℕ → List ℕ → List ℕ → List ℕ → Result (List ℕ) Refusal
  unfolding table_reads read_addition widen written_to
  widened kind source old addition out work = do
    g ← table_reads old work
    a ← read_addition source addition
    result ← widen lim kind g a
    written_to out result

-- What a call leaves: its answer, the output and the working memory. A call that is lent no output leaves no bytes there.
pub record After (Answer : Type 0) : Type 0 where
  pub answer : Answer
  pub out : List ℕ
  pub work : List ℕ

abbrev pub after : {Answer : Type 0} → Answer → List ℕ → List ℕ → After Answer
after answer out work = record { answer = answer; out = out; work = work }

-- by its outcome: a call that reads or decides, a call that writes a table or pages
unfoldable pub answered : {A : Type 0} → Limits → (A → ℕ) → Result A Refusal → List ℕ → After Numbers
unfolding numbers_of work_after
answered lim value o work = after (numbers_of value o) [] (work_after lim work)

unfoldable pub wrote : Limits → Result (List ℕ) Refusal → List ℕ → List ℕ → After Numbers
unfolding numbers_of out_after work_after
wrote lim o out work = after (numbers_of length o) (out_after o out) (work_after lim work)

-- the part of a table that is a name, and the lent number
pub record NamePart : Type 0 where
  pub bytes : List ℕ
  pub refusal : ℕ

-- and a call that gives a part of its table
unfoldable pub named : Limits → Result Part Refusal → List ℕ → List ℕ → After NamePart
unfolding part_bytes number_after work_after
named lim o table work = after (record { bytes = part_bytes o table; refusal = number_after o }) [] (work_after lim work)
