-- The public calls of the reader, case by case.
use Rattle.reader.specs.declared.index.TableIndex.{TableIndex}
use Prim.Native.Nat.{ℕ, ◌+◌, ◌-◌, ◌≤◌, ◌<◌}
use native.Mathlib.Omega.{arith}
use mathlib.Core.Bool.{false}
use mathlib.Core.List.{List, []}
use mathlib.Core.Path.{◌≡◌, refl, sym, ◌∙◌, ap, subst, ap₂}
use lib.Dec.{leb}
use lib.ListN.{length, get_or}
use Rattle.grammar.specs.Limits.{Limits, NoneAbove, large}
use Rattle.grammar.specs.Names.{Classes, loads, Loads}
use Rattle.grammar.specs.Table.{Table}
use Rattle.std.specs.Prelude.{Result, Ok, Err}
use Rattle.grammar.specs.Outcome.{◌>>=◌, ◌>>◌, turn_back, number}
use Rattle.grammar.specs.Answers.{Numbers, refused_by, reading_numbers, numbers_of, reading, number_after}
use Rattle.grammar.specs.ReadTable.{read_table}
use Rattle.grammar.specs.Calls.{
  Part,
  work_after,
  part_from,
  part_bytes,
  part_of_label,
  after,
  answered,
  named,
  table_reads,
  label_name,
}
use Rattle.grammar.specs.Promises.{TableReading, Naming, PartOf}
use Rattle.grammar.specs.declared.Refusal.{Refusal}
use Rattle.grammar.specs.declared.Refusal.TheVariants.{WorkTooShort, BadClasses, OutOfRange}
use Rattle.theory.proofs.Theorems.AnswerNumbers.{reading_numbers_lem}
use Rattle.theory.proofs.Theorems.CallPromises.{lent_short, lent_enough, loaded, loaded_is, loaded_then, unloaded_is}
use Rattle.reader.specs.TableIndex.{part, label_from, label_to, label_count, Inside, Reads}
use Rattle.reader.specs.Held.{SomeHeld}
use Rattle.reader.specs.LabelPlaces.{LabelSought, label_part, name_begins}
use Rattle.reader.proofs.AnswerLaws.{was_unreadable}
use Rattle.reader.proofs.LabelParts.{are_bytes, label_unloaded, label_unread, label_past}
use Rattle.reader.proofs.LabelPlaceLaws.{place_found}
use Rattle.basis.proofs.WorkLaws.{work_kept}
use Rattle.reader.proofs.TableFoundLaws.{table_found, some_roomier}

-- What a call leaves, by its outcome
module _ {A : Type 0} (lim : Limits) (value : A → ℕ) (o : Result A Refusal) (work : List ℕ) where
  pub left_as : (numbers : Numbers) (left : List ℕ) → numbers ≡ numbers_of value o → left ≡ work_after lim work
      → after numbers [] left ≡ answered lim value o work
  unfolding answered
  left_as numbers left e w = ap (λ (n : Numbers). after n [] left) e ∙ ap (λ (l : List ℕ). after (numbers_of value o) [] l) w

  -- one that was lent too few words
  pub left_short : length work < lim.words → o ≡ Err WorkTooShort → after (refused_by WorkTooShort) [] work ≡ answered lim value o work
  unfolding numbers_of
  left_short h e = left_as (refused_by WorkTooShort) work (sym (ap (numbers_of value) e)) (work_kept lim work h)

module _ (lim : Limits) (classes : Classes) (table work : List ℕ) where
  pub table_unanswered : length work < lim.words
      → TableReading lim classes table work (after (reading_numbers (Err WorkTooShort)) [] work)
  unfolding table_reads reading_numbers
  table_unanswered h =
      record { settled = left_short lim (λ g. 1) _ work h (lent_short lim work (loaded classes (read_table lim classes table)) h) }

  module _ (h : lim.words ≤ length work) (left : List ℕ) (w : left ≡ work_after lim work) where
    table_told : (o : Result Table Refusal) → loaded classes (read_table lim classes table) ≡ o → (answer : Result (Unit {0}) Refusal) → answer ≡ reading o
        → TableReading lim classes table work (after (reading_numbers answer) [] left)
    unfolding table_reads
    table_told o e answer a =
        record {
          settled =
              left_as lim (λ g. 1) _ work (reading_numbers answer) left
              (ap reading_numbers a
              ∙ reading_numbers_lem o
              ∙ ap (numbers_of (λ g. 1)) (sym (lent_enough lim work (loaded classes (read_table lim classes table)) h ∙ e)))
              w;
        }

    pub table_unloaded : loads classes ≡ false
        → TableReading lim classes table work (after (reading_numbers (Err BadClasses)) [] left)
    unfolding reading
    table_unloaded e = table_told (Err BadClasses) (unloaded_is classes _ e) (Err BadClasses) refl

    pub table_answered : Loads classes → (answer : Result (Unit {0}) Refusal) → answer ≡ reading (read_table lim classes table)
        → TableReading lim classes table work (after (reading_numbers answer) [] left)
    table_answered load = table_told (read_table lim classes table) (loaded_is classes _ load)

-- looking for a label
module _ (s : List ℕ) (o : Result Part Refusal) where
  sought_none : (q : Refusal) → o ≡ Err q → LabelSought s o (Err q)
  sought_none q e =
      record {
        found = λ from to p. let z : ◌≡◌ {A = ℕ} 0 1 = cc in absurd (omega arith);
        unfound = λ r p. e ∙ ap Err (same p);
      }
    where
      same : {r : Refusal} → ◌≡◌ {A = Result (ℕ × ℕ) Refusal} (Err q) (Err r) → q ≡ r
      same p = cc

  sought_at : (from to : ℕ) → Inside s from to → o ≡ Ok (record { from = from; size = to - from }) → LabelSought s o (Ok (from, to))
  sought_at from to h e =
      record {
        found = λ f t q. subst (λ (p : ℕ × ℕ). Inside s p.0 p.1 × (o ≡ Ok (record { from = p.0; size = p.1 - p.0 }))) (same q) (h, e);
        unfound = λ r q. let z : ◌≡◌ {A = ℕ} 0 1 = cc in absurd (omega arith);
      }
    where
      same : {p : ℕ × ℕ} → ◌≡◌ {A = Result (ℕ × ℕ) Refusal} (Ok (from, to)) (Ok p) → ◌≡◌ {A = ℕ × ℕ} (from, to) p
      same q = cc

-- under classes that do not load
pub find_unloaded : (lim : Limits) (classes : Classes) (s : List ℕ) (label : ℕ) → loads classes ≡ false
    → LabelSought s (label_part lim classes s label) (Err BadClasses)
find_unloaded lim classes s label e = sought_none s (label_part lim classes s label) BadClasses (label_unloaded lim classes s label e)

module _ {lim : Limits} (none_above : NoneAbove lim large) (classes : Classes) (load : Loads classes) (s : List ℕ) (label : ℕ)
    (r : Result (Unit {0}) Refusal) (index : TableIndex) (so : Reads s (read_table lim classes s) r index) where
  pub find_unread : (q : Refusal) → r ≡ Err q → LabelSought s (label_part lim classes s label) (Err q)
  find_unread q e =
      let unread = was_unreadable (read_table lim classes s) q (sym so.answer ∙ e) in
      sought_none s (label_part lim classes s label) q (label_unread lim classes s label load q unread)

  module _ (e : r ≡ Ok tt) where
    pub table_there : SomeHeld large s index
    table_there = some_roomier none_above (table_found lim classes s r index so load e).some

    pub find_past : label_count index ≤ label → LabelSought s (label_part lim classes s label) (Err OutOfRange)
    find_past h =
        let f = table_found lim classes s r index so load e in
        let past = label_past lim classes s label load f.some.table f.read (omega (arith, f.some.held.indexes.labels)) in
        sought_none s (label_part lim classes s label) OutOfRange past

    pub find_at : label < label_count index → ((i : ℕ) → get_or s i 0 < 256) → (from : ℕ)
        → ((f : SomeHeld large s index) → from ≡ name_begins f.table.labels label)
        → (to : ℕ) → to ≡ label_to index label → (begins : ℕ) → begins ≡ label_from index label
        → LabelSought s (label_part lim classes s label) (Ok (from, from + (to - begins)))
    find_at h small from first to is_to begins is_from =
        let f = table_found lim classes s r index so load e in
        let p = place_found none_above load f (are_bytes s small) label h from (first (some_roomier none_above f.some)) in
        subst
        (λ (n : ℕ). LabelSought s (label_part lim classes s label) (Ok (from, from + n)))
        (sym (ap₂ (λ (a b : ℕ). a - b) is_to is_from))
        (sought_at s (label_part lim classes s label) from _ p.0 p.1)

module _ (lim : Limits) (classes : Classes) (table : List ℕ) (label : ℕ) (work : List ℕ) where
  pub label_name_short : length work < lim.words → label_name lim classes table label work ≡ Err WorkTooShort
  unfolding label_name table_reads
  label_name_short h =
      ap
      (λ (o : Result Table Refusal). o >>= (λ g. turn_back (leb (length g.labels) label) OutOfRange >> Ok (part_of_label g.labels label)))
      (lent_short lim work (loaded classes (read_table lim classes table)) h)

  pub label_name_enough : lim.words ≤ length work → label_name lim classes table label work ≡ label_part lim classes table label
  unfolding label_name table_reads label_part
  label_name_enough h =
      ap
      (λ (o : Result Table Refusal). o >>= (λ g. turn_back (leb (length g.labels) label) OutOfRange >> Ok (part_of_label g.labels label)))
      (lent_enough lim work (loaded classes (read_table lim classes table)) h)
      ∙ loaded_then classes (read_table lim classes table) _

  -- what is told of a part at a place in memory
  abbrev Told : List ℕ → ℕ × ℕ → ℕ → List ℕ → ℕ × ℕ → Type 0
  Told left input n bytes at =
      Naming lim classes table label work (after (record { bytes = bytes; refusal = n }) [] left)
      × PartOf input (label_name lim classes table label work) at

  -- a refusal, and a name that was found
  module _ (left : List ℕ) (w : left ≡ work_after lim work) (input at : ℕ × ℕ) (block : at.0 ≡ input.0) where
    refused_so : at.1 ≡ input.1 + 0 → (r : Refusal) → label_name lim classes table label work ≡ Err r
        → Told left input (number r) [] at
    unfolding named part_bytes part_from number_after
    refused_so offset r e = (
      record {
        settled =
            ap (λ (l : List ℕ). after (record { bytes = []; refusal = number r }) [] l) w
            ∙ sym (ap (λ (o : Result Part Refusal). named lim o table work) e);
      },
      record { block = block; offset = offset ∙ ap (λ (o : Result Part Refusal). input.1 + part_from o) (sym e) },
    )

    pub label_unanswered : at.1 ≡ input.1 + 0 → length work < lim.words → Told left input 1 [] at
    unfolding number
    label_unanswered offset h = refused_so offset WorkTooShort (label_name_short h)

    module _ (h : lim.words ≤ length work) (found : Result (ℕ × ℕ) Refusal) (so : LabelSought table (label_part lim classes table label) found) where
      pub label_refused : at.1 ≡ input.1 + 0 → (r : Refusal) → found ≡ Err r → (n : ℕ) → n ≡ number r → Told left input n [] at
      label_refused offset r e n m =
          subst (λ (k : ℕ). Told left input k [] at) (sym m) (refused_so offset r (label_name_enough h ∙ so.unfound r e))

      pub label_given : (from to : ℕ) → at.1 ≡ input.1 + from → found ≡ Ok (from, to) → Told left input 0 (part table from to) at
      unfolding named part_bytes part_from number_after
      label_given from to offset e =
          let o : label_name lim classes table label work ≡ Ok (record { from = from; size = to - from }) =
          label_name_enough h ∙ (so.found from to e).1 in (
            record {
              settled =
                  ap (λ (l : List ℕ). after (record { bytes = part table from to; refusal = 0 }) [] l) w
                  ∙ sym (ap (λ (x : Result Part Refusal). named lim x table work) o);
            },
            record { block = block; offset = offset ∙ ap (λ (x : Result Part Refusal). input.1 + part_from x) (sym o) },
          )
