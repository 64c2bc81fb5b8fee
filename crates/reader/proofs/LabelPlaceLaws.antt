-- Where a label's name stands: the sum that the code makes is where it begins, and it lies within the table.
--   begins_at : the sum is where the name of a label begins
--   place_found : the place of a label that there is
--   name_bounds : names begin early and are short
use Rattle.reader.specs.declared.index.TableIndex.{TableIndex}
use Prim.Native.Nat.{ℕ, zero, suc, ◌+◌, ◌*◌, ◌-◌, ◌≤◌, ◌<◌}
use native.Mathlib.Omega.{arith}
use native.Mathlib.Numerals.{add-one}
use mathlib.Core.Bool.{not}
use mathlib.Core.List.{List, [], ◌∷◌, ◌++◌, Memᴰ}
use mathlib.Core.Option.{some as just}
use mathlib.Core.Path.{◌≡◌, refl, sym, ◌∙◌, ap}
use lib.ListN.{length, get_or, get_elem?, take, length-append}
use lib.Seq.{take-suc}
use borrow.Author.Tests.{leb-false}
use Rattle.grammar.specs.Lists.{joined_of}
use Rattle.grammar.specs.Limits.{Limits, NoneAbove, large}
use Rattle.grammar.specs.Names.{Name, Classes, loads, Loads}
use Rattle.grammar.specs.Table.{Table}
use Rattle.grammar.specs.Fields.{field_bytes}
use Rattle.std.specs.Prelude.{Ok}
use Rattle.grammar.specs.ReadTable.{label_tag, read_table}
use Rattle.grammar.specs.Calls.{Part, part_of_label}
use Rattle.grammar.specs.declared.Refusal.TheVariants.{BadClasses, OutOfRange}
use Rattle.theory.proofs.Bytes.FieldBytes.{AreBytes}
use Rattle.theory.proofs.Lists.ListLaws.{below_at, at_below, at_mem, at_else, joined_end}
use Rattle.theory.proofs.Bytes.OutcomeLaws.{was_given, had_no_fault, given_eq}
use Rattle.theory.proofs.Bytes.ReadWithin.{read_within}
use Rattle.theory.proofs.Tables.RoomierLimits.{table_roomier}
use Rattle.reader.specs.TableIndex.{label_from, label_to, label_count, Inside}
use Rattle.reader.specs.Held.{SomeHeld}
use Rattle.reader.specs.LabelPlaces.{label_part, name_begins}
use Rattle.reader.proofs.FieldReading.{field_length}
use Rattle.reader.proofs.LabelParts.{label_inside, label_found}
use Rattle.reader.proofs.TableFaults.{part_size}
use Rattle.reader.proofs.TableFoundLaws.{TableFound, some_roomier, label_found_at}

-- three bytes, and three more and the name for each label before
unfoldable pub summed : TableIndex → ℕ → ℕ
summed index zero = 3
summed index (suc i) = summed index i + (3 + (label_to index i - label_from index i))

pub summed_next : (index : TableIndex) (i : ℕ) → summed index (i + 1) ≡ summed index i + (3 + (label_to index i - label_from index i))
unfolding summed
summed_next index i = ap (summed index) (add-one i)

-- one element more
joined_next : {A B : Type 0} (f : A → List B) (xs : List A) (i : ℕ) (x : A) → get_elem? xs i ≡ just x
    → length (joined_of f (take (suc i) xs)) ≡ length (joined_of f (take i xs)) + length (f x)
joined_next {A} f xs i x e =
    let more = take-suc xs i x (at_below xs i e) ∙ ap (λ (y : A). take i xs ++ (y ∷ [])) (at_else xs i x e) in
    ap length (ap (joined_of f) more ∙ joined_end f (take i xs) x) ∙ length-append (joined_of f (take i xs)) (f x)

begins_next : (labels : List Name) (i : ℕ) (n : Name) → get_elem? labels i ≡ just n
    → name_begins labels (suc i) ≡ name_begins labels i + (3 + length n)
unfolding name_begins part_of_label
begins_next labels i n e = let j = joined_next (field_bytes label_tag) labels i n e in let l = field_length label_tag n in omega arith

module _ {s : List ℕ} {index : TableIndex} (f : SomeHeld large s index) where
  label_size : (i : ℕ) → i < label_count index
      → (n : Name) × (get_elem? f.table.labels i ≡ just n) × (label_to index i - label_from index i ≡ length n) × (length n ≤ 63)
  unfolding large
  label_size i h =
      let p = label_found_at f.held.indexes f.held.within i h in
      let w = p.3.size in
      (p.0, p.1, sym (part_size s (label_from index i) (label_to index i) p.2.inside) ∙ ap length p.2.bytes_are, omega arith)

  pub label_short : (i : ℕ) → i < label_count index → (label_from index i ≤ label_to index i) × (label_to index i - label_from index i ≤ 63)
  label_short i h =
      let p = label_size i h in
      let q = label_found_at f.held.indexes f.held.within i h in
      let e = p.2 in
      let w = p.3 in
      (q.2.inside.order, omega arith)

  pub begins_at : (i : ℕ) → i ≤ label_count index
      → summed index i ≡ name_begins f.table.labels i
  unfolding summed name_begins part_of_label joined_of
  begins_at zero h = refl
  begins_at (suc i) h =
      let p = label_size i (omega arith) in
      let e = p.2 in
      let before = begins_at i (omega arith) in
      let next = begins_next f.table.labels i p.0 p.1 in
      omega arith

-- so many labels take at most 66 bytes each
joined_short : (labels : List Name) → ((n : Name) → Memᴰ n labels → length n ≤ 63) → (i : ℕ)
    → length (joined_of (field_bytes label_tag) (take i labels)) ≤ 66 * i
unfolding joined_of
joined_short [] h zero = omega arith
joined_short [] h (suc i) = omega arith
joined_short (n ∷ labels) h zero = omega arith
joined_short (n ∷ labels) h (suc i) =
    let l = length-append (field_bytes label_tag n) (joined_of (field_bytes label_tag) (take i labels)) in
    let f = field_length label_tag n in
    let short = h n (Memᴰ.head refl) in
    let rest = joined_short labels (λ m k. h m (Memᴰ.tail k)) i in
    omega arith

-- the place of a label that there is
module _ {lim : Limits} (none_above : NoneAbove lim large) {classes : Classes} (load : Loads classes) {s : List ℕ} {index : TableIndex}
    (f : TableFound lim classes s index) (small : AreBytes s) (label : ℕ)
    (h : label < label_count index) where
  abbrev size : ℕ
  size = label_to index label - label_from index label

  abbrev g : Table
  g = f.some.table

  pub place_found : (from : ℕ) → from ≡ name_begins g.labels label
      → Inside s from (from + size) × (label_part lim classes s label ≡ Ok (record { from = from; size = (from + size) - from }))
  unfolding name_begins part_of_label
  place_found from e =
      let few = f.some.held.indexes.labels in
      let p = label_size (some_roomier none_above f.some) label h in
      let inside = label_inside lim classes s g small f.read label p.0 p.1 in
      let name : length (get_or g.labels label []) ≡ length p.0 = ap length (at_else g.labels label [] p.1) in
      let long = p.2 in
      let same : length (get_or g.labels label []) ≡ (from + size) - from = omega arith in (
        record { order = omega arith; within = omega arith },
        label_found lim classes s label load g f.read (omega arith)
            ∙ ap (λ (k : ℕ). Ok (record { from = k; size = length (get_or g.labels label []) })) (sym e)
            ∙ ap (λ (k : ℕ). Ok (record { from = from; size = k })) same,
      )

module _ {lim : Limits} (none_above : NoneAbove lim large) (classes : Classes) (s : List ℕ) (label : ℕ) where
  pub name_bounds : (p : Part) → label_part lim classes s label ≡ Ok p → (p.from ≤ 8451) × (p.size ≤ 63)
  unfolding label_part large part_of_label
  name_bounds p e =
      let under = (had_no_fault (not (loads classes)) BadClasses _ p e).1 in
      let a = was_given (read_table lim classes s) _ p under in
      let g : Table = a.0 in
      let b = had_no_fault _ OutOfRange _ p a.2 in
      let among = leb-false (length g.labels) label b.0 in
      let n = below_at g.labels label among in
      let q : part_of_label g.labels label ≡ p = given_eq b.1 in
      let within = table_roomier none_above (read_within lim classes s g a.1) in
      let few = within.labels in
      let begins = joined_short g.labels (λ m k. (within.names m k).size) label in
      let from : p.from ≡ length (joined_of (field_bytes label_tag) (take label g.labels)) + 3 = ap (λ (r : Part). r.from) (sym q) in
      let size : p.size ≡ length n.0 = ap (λ (r : Part). r.size) (sym q) ∙ ap length (at_else g.labels label [] n.1) in
      let short = (within.names n.0 (at_mem g.labels label n.1)).size in
      (omega arith, omega arith)
