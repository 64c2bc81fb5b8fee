-- Reading a table field by field: how far reading came, and where each field leads.
use Rattle.reader.specs.declared.index.TableIndex.{TableIndex}
use Prim.Native.Nat.{ℕ, ◌≤◌, ◌<◌, ◌-◌}
use native.Mathlib.Omega.{arith}
use mathlib.Core.Bool.{true, not, Bool, false}
use mathlib.Core.List.{List}
use mathlib.Core.Logic.{◌⊎◌, ⊎_elim}
use mathlib.Core.Path.{◌≡◌, refl, sym, ◌∙◌, ap, subst}
use lib.Dec.{ltb}
use lib.ListN.{length, drop, length-drop, drop_of_length-le, get_or}
use borrow.Author.Tests.{eq-eqb, ne_eqb, lt-ltb, le-ltb}
use Rattle.grammar.specs.Limits.{input_limit}
use Rattle.grammar.specs.LimitSets.{limits_of}
use Rattle.grammar.specs.Names.{Classes}
use Rattle.grammar.specs.Table.{Table, empty_table}
use Rattle.std.specs.Prelude.{Result, Err, Ok}
use Rattle.grammar.specs.Outcome.{◌>>=◌, ◌>>◌, turn_back}
use Rattle.grammar.specs.Answers.{reading}
use Rattle.grammar.specs.Fields.{Field, Fields, no_bytes, past_end, ◌then◌, fields_of}
use Rattle.grammar.specs.ReadTable.{label_tag, start_tag, rule_tag, table_end_tag, is_empty, bytes_left, read_label, read_start, read_rule, read_table_field, read_table_fields, read_table}
use Rattle.grammar.specs.declared.SizeLimits.{SizeLimits}
use Rattle.grammar.specs.declared.Refusal.{Refusal}
use Rattle.grammar.specs.declared.Refusal.TheVariants.{InputTooLong, FieldPastEnd, BadField, BytesAfterEnd}
use Rattle.theory.proofs.Bytes.OutcomeLaws.{given_then, no_fault, had_no_fault, given_eq}
use Rattle.theory.proofs.Bytes.FieldBytes.{fields_empty, fields_none}
use Rattle.theory.proofs.Bytes.ReadSteps.{rule_field_lem as rule_by_tag, end_field, next_field}
use Rattle.reader.specs.declared.fields.FieldAt.TheVariants.{NoBytes, PastEnd}
use Rattle.reader.specs.FieldAt.{field_at, TagBefore}
use Rattle.reader.specs.TableIndex.{part, Inside, Indexes, TableIndexed, Reads, end_outcome}
use Rattle.reader.proofs.AnswerLaws.{fault, readable, unreadable, was_readable, was_unreadable, never_given}
use Rattle.reader.proofs.FieldReading.{FoundField, field_none, field_past}
use Rattle.reader.proofs.TableFaults.{is_empty_lem, is_some, part_size, part_slice}
use Rattle.reader.proofs.TableSteps.{refused_reads}

-- which of the three a field is, by its tag
module _ (limits : SizeLimits) (classes : Classes) (g : Table) (tag : ℕ) (value : List ℕ) where
  pub label_field : tag ≡ label_tag → read_table_field (limits_of limits) classes g (record { tag = tag; value = value }) ≡ read_label (limits_of limits) classes g value
  unfolding read_table_field
  label_field e = rw (eq-eqb tag label_tag e, read_table_field)

  pub start_field : (tag ≡ label_tag → ⊥) → tag ≡ start_tag
      → read_table_field (limits_of limits) classes g (record { tag = tag; value = value }) ≡ read_start (limits_of limits) g value
  unfolding read_table_field
  start_field n e = rw (ne_eqb tag label_tag n, eq-eqb tag start_tag e, read_table_field)

  pub rule_field_lem : (text : Bool) → tag ≡ rule_tag text
      → read_table_field (limits_of limits) classes g (record { tag = tag; value = value }) ≡ read_rule (limits_of limits) g text value
  rule_field_lem text e =
      ap (λ (t : ℕ). read_table_field (limits_of limits) classes g (record { tag = t; value = value })) e
      ∙ rule_by_tag (limits_of limits) classes g text value

  pub foreign_field : (tag ≡ label_tag → ⊥) → (tag ≡ start_tag → ⊥) → (tag ≡ rule_tag false → ⊥) → (tag ≡ rule_tag true → ⊥)
      → read_table_field (limits_of limits) classes g (record { tag = tag; value = value }) ≡ Err BadField
  unfolding read_table_field
  foreign_field n m k l =
      rw (
        ne_eqb tag label_tag n,
        ne_eqb tag start_tag m,
        ne_eqb tag (rule_tag false) k,
        ne_eqb tag (rule_tag true) l,
        read_table_field,
      )

-- the table's fields as a whole
abbrev pub whole_table : SizeLimits → Classes → List ℕ → Result Table Refusal
whole_table limits classes s = read_table_fields (limits_of limits) classes empty_table (fields_of s)

-- Up to this place a table is read, which the index indexes; the whole reads as the rest does after that table.
pub record TableReached (limits : SizeLimits) (classes : Classes) (s : List ℕ) (at : ℕ) (index : TableIndex) : Type 0 where
  pub table : Table
  pub indexes : Indexes s index table
  pub inside : at ≤ length s
  pub rest : whole_table limits classes s ≡ read_table_fields (limits_of limits) classes table (fields_of (drop at s))

pub reached_none : (limits : SizeLimits) (classes : Classes) (s : List ℕ) (index : TableIndex) → Indexes s index empty_table → TableReached limits classes s 0 index
reached_none limits classes s index x = record { table = empty_table; indexes = x; inside = omega arith; rest = refl }

pub found_tag : {s : List ℕ} {at tag from to : ℕ} → FoundField s at tag from to → TagBefore s from tag
found_tag {s} {at} {tag} {from} {to} w =
    let begins = w.begins in
    let place : from - 3 ≡ at = omega arith in
    record { behind = omega arith; tagged = ap (λ (i : ℕ). get_or s i 0) place ∙ sym w.tagged }

pub found_inside : {s : List ℕ} {at tag from to : ℕ} → FoundField s at tag from to → Inside s from to
found_inside w = record { order = w.order; within = w.within }

module _ {limits : SizeLimits} {classes : Classes} {s : List ℕ} {at : ℕ} {index : TableIndex} (r : TableReached limits classes s at index) where
  pub indexed : TableIndexed s index
  indexed = record { table = r.table; indexes = r.indexes }

  pub ends_early : (field_at s at ≡ NoBytes) ⊎ (field_at s at ≡ PastEnd)
      → Reads s (whole_table limits classes s) (Err FieldPastEnd) index
  unfolding read_table_fields
  ends_early e =
      refused_reads s (whole_table limits classes s) FieldPastEnd index (unreadable (whole_table limits classes s) FieldPastEnd (⊎_elim none past e))
    where
      none : field_at s at ≡ NoBytes → whole_table limits classes s ≡ Err FieldPastEnd
      none p = r.rest ∙ ap (read_table_fields (limits_of limits) classes r.table) (field_none s at p).1

      past : field_at s at ≡ PastEnd → whole_table limits classes s ≡ Err FieldPastEnd
      past p = r.rest ∙ ap (read_table_fields (limits_of limits) classes r.table) (field_past s at p).1

  module _ {tag from to : ℕ} (w : FoundField s at tag from to) where
    here : Field
    here = record { tag = tag; value = part s from to }

    fields_here : fields_of (drop at s) ≡ (here then fields_of (drop to s))
    unfolding here
    fields_here =
        w.fields
        ∙ ap (λ (v : List ℕ). record { tag = tag; value = v } then fields_of (drop to s)) (part_slice s from to (found_inside w))

    pub ends_here : tag ≡ table_end_tag → (answer : Result (Unit {0}) Refusal) → answer ≡ reading (end_outcome r.table (part s from to) (fields_of (drop to s)))
        → Reads s (whole_table limits classes s) answer index
    unfolding here
    ends_here e answer a =
        let so : whole_table limits classes s ≡ end_outcome r.table (part s from to) (fields_of (drop to s)) =
        r.rest
        ∙ ap (read_table_fields (limits_of limits) classes r.table) fields_here
        ∙ end_field (limits_of limits) classes r.table here (fields_of (drop to s)) (eq-eqb tag table_end_tag e) in
        record {
          answer = a ∙ ap reading (sym so);
          index_of =
              λ g q.
              let b = had_no_fault (not (is_empty (part s from to))) BadField _ g (sym so ∙ q) in
              let d = had_no_fault (bytes_left (fields_of (drop to s))) BytesAfterEnd _ g b.1 in
              subst (Indexes s index) (given_eq d.1) r.indexes;
        }

    module _ (other : tag ≡ table_end_tag → ⊥) (read : Result (Unit {0}) Refusal) (index' : TableIndex)
        (so : Reads s (read_table_field (limits_of limits) classes r.table (record { tag = tag; value = part s from to })) read index') where
      goes_on : whole_table limits classes s
          ≡ (read_table_field (limits_of limits) classes r.table here >>= (λ more. read_table_fields (limits_of limits) classes more (fields_of (drop to s))))
      unfolding here
      goes_on =
          r.rest
          ∙ ap (read_table_fields (limits_of limits) classes r.table) fields_here
          ∙ next_field (limits_of limits) classes r.table here (fields_of (drop to s)) (ne_eqb tag table_end_tag other)

      pub stops_here : (q : Refusal) → read ≡ Err q → Reads s (whole_table limits classes s) (Err q) index'
      unfolding here
      stops_here q e =
          let f = was_unreadable (read_table_field (limits_of limits) classes r.table here) q (sym so.answer ∙ e) in
          let whole : whole_table limits classes s ≡ Err q =
          goes_on
          ∙ ap (λ (o : Result Table Refusal). o >>= (λ more. read_table_fields (limits_of limits) classes more (fields_of (drop to s)))) f in
          record {
            answer = sym (unreadable (whole_table limits classes s) q whole);
            index_of = λ g p. absurd (never_given (whole_table limits classes s) q g whole p);
          }

      pub reached_next : read ≡ Ok tt → TableReached limits classes s to index'
      unfolding here
      reached_next e =
          let f = was_readable (read_table_field (limits_of limits) classes r.table here) (sym so.answer ∙ e) in
          record {
            table = f.0;
            indexes = so.index_of f.0 f.1;
            inside = w.within;
            rest = goes_on ∙ given_then (read_table_field (limits_of limits) classes r.table here) f.0 _ f.1;
          }

-- what an end field says
module _ (s : List ℕ) (from to : ℕ) (h : Inside s from to) (g : Table) where
  ending : Result Table Refusal
  ending = end_outcome g (part s from to) (fields_of (drop to s))

  pub end_with_value : (from ≡ to → ⊥) → reading (end_outcome g (part s from to) (fields_of (drop to s))) ≡ Err BadField
  unfolding ending
  end_with_value n =
      unreadable ending BadField (fault _ BadField _ (ap not (is_some (part s from to) (let size = part_size s from to h in let order = h.order in omega arith))))

  module _ (e : from ≡ to) where
    no_value : {B : Type 0} (next : Result B Refusal) → (turn_back (not (is_empty (part s from to))) BadField >> next) ≡ next
    no_value next = no_fault _ BadField next (ap not (is_empty_lem (part s from to) (let size = part_size s from to h in omega arith)))

    pub end_with_more : (to ≡ length s → ⊥) → reading (end_outcome g (part s from to) (fields_of (drop to s))) ≡ Err BytesAfterEnd
    unfolding ending
    end_with_more n = unreadable ending BytesAfterEnd (no_value _ ∙ fault _ BytesAfterEnd _ (left (fields_of (drop to s)) refl))
      where
        left : (fs : Fields) → fields_of (drop to s) ≡ fs → bytes_left fs ≡ true
        left no_bytes p =
            let l = sym (length-drop to s) ∙ ap length (fields_none (drop to s) p) in
            let w = h.within in
            absurd (n (omega arith))
        left past_end p = refl
        left (f then fs) p = refl

    pub end_reads : to ≡ length s → reading (end_outcome g (part s from to) (fields_of (drop to s))) ≡ Ok tt
    unfolding ending
    end_reads p =
        readable
        ending
        g
        (no_value _ ∙ no_fault _ BytesAfterEnd _ (ap bytes_left (ap fields_of (drop_of_length-le s {i = to} (omega arith)) ∙ fields_empty)))

-- an input that is too long, and any other
module _ (limits : SizeLimits) (classes : Classes) (s : List ℕ) where
  pub table_too_long : input_limit < length s → read_table (limits_of limits) classes s ≡ Err InputTooLong
  unfolding read_table
  table_too_long h = fault (ltb input_limit (length s)) InputTooLong _ (lt-ltb input_limit (length s) h)

  pub table_by_fields : length s ≤ input_limit → read_table (limits_of limits) classes s ≡ whole_table limits classes s
  unfolding read_table
  table_by_fields h = no_fault (ltb input_limit (length s)) InputTooLong _ (le-ltb input_limit (length s) h)
