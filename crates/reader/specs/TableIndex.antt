-- Where the labels, starts and rules of a table stand in its bytes: an index of seven rows of 128 numbers, and then how many labels,
-- starts and rules there are.
use Rattle.std.specs.Prelude.{ℕ, ◌+◌, ◌-◌, ◌≤◌, not, List, ◌≡◌, length, get_or, set, take, drop, Result, Ok}
use Rattle.std.proofs.Math.Option.{some as just}
use Rattle.std.proofs.Math.ListN.{get_elem?}
use Rattle.grammar.specs.Limits.{input_limit}
use Rattle.grammar.specs.Names.{Name}
use Rattle.grammar.specs.Table.{Rule, Table}
use Rattle.grammar.specs.Outcome.{◌>>◌, turn_back}
use Rattle.grammar.specs.declared.Refusal.{Refusal}
use Rattle.grammar.specs.Fields.{Fields}
use Rattle.grammar.specs.ReadTable.{is_empty, bytes_left, rule_tag}
use Rattle.grammar.specs.declared.Refusal.TheVariants.{BadField, BytesAfterEnd}
use Rattle.grammar.specs.Answers.{reading}
use Rattle.grammar.specs.ReadContent.{content_bytes}
use Rattle.reader.specs.FieldAt.{TagBefore}
use Rattle.reader.specs.declared.index.TableIndex.{TableIndex}

-- what the index says of the label, start or rule of a number
abbrev pub label_from : TableIndex → ℕ → ℕ
label_from index i = get_or index.names i 0

abbrev pub label_to : TableIndex → ℕ → ℕ
label_to index i = get_or index.names (128 + i) 0

abbrev pub start_type : TableIndex → ℕ → ℕ
start_type index i = get_or index.start_types i 0

abbrev pub rule_type : TableIndex → ℕ → ℕ
rule_type index i = get_or index.rule_types i 0

abbrev pub rule_label : TableIndex → ℕ → ℕ
rule_label index i = get_or index.rule_labels i 0

abbrev pub content_from : TableIndex → ℕ → ℕ
content_from index i = get_or index.contents_from i 0

abbrev pub content_to : TableIndex → ℕ → ℕ
content_to index i = get_or index.contents_to i 0

-- how many there are
abbrev pub label_count : TableIndex → ℕ
label_count index = index.labels

abbrev pub start_count : TableIndex → ℕ
start_count index = index.starts

abbrev pub rule_count : TableIndex → ℕ
rule_count index = index.rules

-- all of its rows are there
pub record HasRows (index : TableIndex) : Type 0 where
  pub names : length index.names ≡ 256
  pub start_types : length index.start_types ≡ 128
  pub rule_types : length index.rule_types ≡ 128
  pub rule_labels : length index.rule_labels ≡ 128
  pub contents_from : length index.contents_from ≡ 128
  pub contents_to : length index.contents_to ≡ 128

-- a new one
pub record FreshIndex (index : TableIndex) : Type 0 where
  pub labels : label_count index ≡ 0
  pub starts : start_count index ≡ 0
  pub rules : rule_count index ≡ 0

-- the index with no labels, starts or rules, and with one of them more
abbrev pub with_none : TableIndex → TableIndex
with_none index = record index { labels = 0; starts = 0; rules = 0 }

abbrev pub with_label_at : TableIndex → (from to : ℕ) → TableIndex
with_label_at index from to =
    record index { names = set (set index.names index.labels from) (128 + index.labels) to; labels = index.labels + 1 }

abbrev pub with_start_of : TableIndex → ℕ → TableIndex
with_start_of index k = record index { start_types = set index.start_types index.starts k; starts = index.starts + 1 }

abbrev pub with_rule_at : TableIndex → (k l from to : ℕ) → TableIndex
with_rule_at index k l from to =
    record index {
      rule_types = set index.rule_types index.rules k;
      rule_labels = set index.rule_labels index.rules l;
      contents_from = set index.contents_from index.rules from;
      contents_to = set index.contents_to index.rules to;
      rules = index.rules + 1;
    }

-- the bytes from a place up to another
abbrev pub part : List ℕ → (from to : ℕ) → List ℕ
part s from to = take (to - from) (drop from s)

-- these places are the ends of a part
pub record Inside (s : List ℕ) (from to : ℕ) : Type 0 where
  pub order : from ≤ to
  pub within : to ≤ length s

-- the part has these bytes
pub record BytesStand (s : List ℕ) (from to : ℕ) (bytes : List ℕ) : Type 0 where
  pub inside : Inside s from to
  pub bytes_are : part s from to ≡ bytes

pub record RuleAt (s : List ℕ) (index : TableIndex) (i : ℕ) (r : Rule) : Type 0 where
  pub type : rule_type index i ≡ r.type
  pub label : rule_label index i ≡ r.label
  pub content : BytesStand s (content_from index i) (content_to index i) (content_bytes r.content)
  pub tag : TagBefore s (content_from index i - 2) (rule_tag r.text)  -- type and label stand before the content

-- The index says where the labels, starts and rules of this table stand. There is room for 128 of each.
pub record Indexes (s : List ℕ) (index : TableIndex) (g : Table) : Type 0 where
  pub labels : label_count index ≡ length g.labels
  pub few_labels : label_count index ≤ 128
  pub label : (i : ℕ) (n : Name) → get_elem? g.labels i ≡ just n
      → BytesStand s (label_from index i) (label_to index i) n
  pub starts : start_count index ≡ length g.starts
  pub few_starts : start_count index ≤ 128
  pub start : (i k : ℕ) → get_elem? g.starts i ≡ just k → start_type index i ≡ k
  pub rules : rule_count index ≡ length g.rules
  pub few_rules : rule_count index ≤ 128
  pub rule : (i : ℕ) (r : Rule) → get_elem? g.rules i ≡ just r → RuleAt s index i r
  pub room : HasRows index

-- Some table is read so far.
pub record TableIndexed (s : List ℕ) (index : TableIndex) : Type 0 where
  pub table : Table
  pub indexes : Indexes s index table

-- A field's value lies here, in an input that is not too long, and some table is read so far.
pub record ValueAt (s : List ℕ) (from to : ℕ) (index : TableIndex) : Type 0 where
  pub short : length s ≤ input_limit
  pub inside : Inside s from to
  pub indexed : TableIndexed s index

-- The answer is that of the outcome, and the index is that of the table that is given.
pub record Reads (s : List ℕ) (o : Result Table Refusal) (r : Result (Unit {0}) Refusal) (index : TableIndex) : Type 0 where
  pub answer : r ≡ reading o
  pub index_of : (g : Table) → o ≡ Ok g → Indexes s index g

-- the answer to one step more, after any table that the index is of
abbrev pub AnswersFor : (s : List ℕ) (index : TableIndex) → (Table → Result Table Refusal) → Result (Unit {0}) Refusal → Type 0
AnswersFor s index step r = (g : Table) → Indexes s index g → r ≡ reading (step g)

-- the answer, and the index after it
abbrev pub ReadsFor : (s : List ℕ) (index : TableIndex) → (Table → Result Table Refusal) → Result (Unit {0}) Refusal → TableIndex → Type 0
ReadsFor s index step r index' = (g : Table) → Indexes s index g → Reads s (step g) r index'

-- what an end field says of the table read so far
abbrev pub end_outcome : Table → (value : List ℕ) (rest : Fields) → Result Table Refusal
end_outcome g value rest = turn_back (not (is_empty value)) BadField >> (turn_back (bytes_left rest) BytesAfterEnd >> Ok g)
