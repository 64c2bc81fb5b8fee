-- Table files: labels (10), starts (11), rules (12, or 13 for text), end (1F), in this order; and which refusal comes first.
use Rattle.std.specs.Prelude.{ℕ, Bool, true, false, ◌&&◌, ◌||◌, not, List, [], ◌∷◌, ◌++◌, length, eqb, leb, ltb, Result, Ok, Err}
use Rattle.grammar.specs.Lists.{any_pass, is_in}
use Rattle.grammar.specs.Limits.{Limits}
use Rattle.grammar.specs.Names.{Name, same_name, Classes, is_name}
use Rattle.grammar.specs.Table.{Rule, Table, empty_table}
use Rattle.grammar.specs.Outcome.{◌>>=◌, ◌>>◌, turn_back}
use Rattle.grammar.specs.declared.Refusal.{Refusal}
use Rattle.grammar.specs.Fields.{Field, Fields, no_bytes, past_end, ◌then◌, fields_of}
use Rattle.grammar.specs.ReadContent.{read_content}
use Rattle.grammar.specs.declared.Refusal.TheVariants.{
  InputTooLong,
  FieldPastEnd,
  BadField,
  BadName,
  Repeated,
  TooMany,
  OutOfRange,
  BytesAfterEnd,
}

abbrev pub label_tag : ℕ
label_tag = 0x10

abbrev pub start_tag : ℕ
start_tag = 0x11

-- a rule whose nodes hold no text, and one whose nodes may
abbrev pub rule_tag : Bool → ℕ
rule_tag false = 0x12
rule_tag true = 0x13

abbrev pub table_end_tag : ℕ
table_end_tag = 0x1F

abbrev pub is_empty : {A : Type 0} → List A → Bool
is_empty [] = true
is_empty (x ∷ xs) = false

-- the table read so far with one label, start or rule more
abbrev pub with_label : Table → Name → Table
with_label g name = record { labels = g.labels ++ (name ∷ []); starts = g.starts; rules = g.rules }

abbrev pub with_start : Table → ℕ → Table
with_start g k = record { labels = g.labels; starts = g.starts ++ (k ∷ []); rules = g.rules }

abbrev pub with_rule : Table → Rule → Table
with_rule g r = record { labels = g.labels; starts = g.starts; rules = g.rules ++ (r ∷ []) }

-- A label: a name of at least one byte. It comes before all starts and rules.
unfoldable pub read_label : Limits → Classes → Table → List ℕ → Result Table Refusal
unfolding is_name any_pass same_name
read_label lim classes g value = do
  turn_back (not (is_empty g.starts && is_empty g.rules && leb 1 (length value) && leb (length value) lim.name)) BadField
  turn_back (not (is_name classes value)) BadName
  turn_back (any_pass (same_name value) g.labels) Repeated
  turn_back (leb lim.labels (length g.labels)) TooMany
  Ok (with_label g value)

-- A start: one type byte. It comes before all rules.
unfoldable pub read_start : Limits → Table → List ℕ → Result Table Refusal
unfolding is_in
read_start lim g [] = Err BadField
read_start lim g (k ∷ []) = do
  turn_back (not (is_empty g.rules)) BadField
  turn_back (is_in k g.starts) Repeated
  turn_back (leb lim.starts (length g.starts)) TooMany
  turn_back (leb lim.types k) OutOfRange
  Ok (with_start g k)
read_start lim g (k ∷ b ∷ rest) = Err BadField

-- A rule: type byte, label byte, content of at least one byte.
unfoldable pub read_rule : Limits → Table → Bool → List ℕ → Result Table Refusal
unfolding read_content
read_rule lim g text [] = Err BadField
read_rule lim g text (k ∷ []) = Err BadField
read_rule lim g text (k ∷ l ∷ content) = do
  turn_back (not (leb 1 (length content) && leb (length content) lim.content)) BadField
  turn_back (leb lim.rules (length g.rules)) TooMany
  turn_back (leb lim.types k || leb (length g.labels) l) OutOfRange
  c ← read_content lim content
  Ok (with_rule g (record { type = k; label = l; content = c; text = text }))

unfoldable pub read_table_field : Limits → Classes → Table → Field → Result Table Refusal
unfolding read_label read_start read_rule
read_table_field lim classes g f =
    elim (eqb f.tag label_tag) [
      | true ↦ read_label lim classes g f.value
      | false ↦
          elim (eqb f.tag start_tag) [
            | true ↦ read_start lim g f.value
            | false ↦
                elim (eqb f.tag (rule_tag false)) [
                  | true ↦ read_rule lim g false f.value
                  | false ↦ elim (eqb f.tag (rule_tag true)) [ true ↦ read_rule lim g true f.value | false ↦ Err BadField ]
                ]
          ]
    ]

-- bytes follow the end field
abbrev pub bytes_left : Fields → Bool
bytes_left no_bytes = false
bytes_left past_end = true
bytes_left (f then rest) = true

-- the rest of a table, of which `g` is read
unfoldable pub read_table_fields : Limits → Classes → Table → Fields → Result Table Refusal
unfolding read_table_field
read_table_fields lim classes g no_bytes = Err FieldPastEnd
read_table_fields lim classes g past_end = Err FieldPastEnd
read_table_fields lim classes g (f then rest) =
    elim (eqb f.tag table_end_tag) [
      | true ↦ do
        turn_back (not (is_empty f.value)) BadField
        turn_back (bytes_left rest) BytesAfterEnd
        Ok g
      | false ↦ read_table_field lim classes g f >>= λ more. read_table_fields lim classes more rest
    ]

unfoldable pub read_table : Limits → Classes → List ℕ → Result Table Refusal
unfolding read_table_fields fields_of
read_table lim classes bytes = do
  turn_back (ltb lim.input (length bytes)) InputTooLong
  read_table_fields lim classes empty_table (fields_of bytes)
