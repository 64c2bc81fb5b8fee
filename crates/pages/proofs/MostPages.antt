-- No table takes more pages than so many:
--   rows_most : the rows of a table's rules ; pages_most : the bytes of its pages, by size ; with_most : of what the call answers
-- A rule of a content of n bytes takes at most 3 + 67 (n - 1) / 1012 rows: 3, by its name, for one byte, and 70 for 1,013 bytes.
use Prim.Native.Nat.{ℕ, zero, suc, ◌+◌, ◌*◌, ◌-◌, ◌/◌, ◌≤◌, max}
use native.Mathlib.Omega.{arith}
use mathlib.Core.Bool.{Bool, true, false, not}
use mathlib.Core.List.{List, [], ◌∷◌, ◌++◌, Memᴰ}
use mathlib.Core.Path.{◌≡◌, refl, sym, ap, subst}
use lib.ListN.{length, get_or, length-append}
use lib.Dec.{ltb}
use Rattle.grammar.specs.Lists.{joined_of}
use Rattle.grammar.specs.Limits.{NoneAbove, small, standard, large}
use Rattle.grammar.specs.LimitSets.{size_limits}
use Rattle.grammar.specs.Names.{Classes, loads}
use Rattle.grammar.specs.declared.Size.{Size}
use Rattle.grammar.specs.declared.Size.TheVariants.{Small, Standard, Large}
use Rattle.grammar.specs.Table.{Rule, Table}
use Rattle.grammar.specs.Fields.{field_bytes}
use Rattle.grammar.specs.ReadTable.{label_tag, start_tag, table_end_tag}
use Rattle.grammar.specs.ReadContent.{content_bytes}
use Rattle.grammar.specs.WriteTable.{rule_field, table_bytes}
use Rattle.grammar.specs.WithinLimits.{TableWithin}
use Rattle.grammar.specs.Listing.{type_text, content_text, text_mark}
use Rattle.grammar.specs.Pages.{page_layout, texts_of, rows_of, table_rows, blanks_after, pages}
use Rattle.std.specs.Prelude.{Result, Ok, Err}
use Rattle.grammar.specs.Outcome.{◌>>=◌, ◌>>◌, turn_back}
use Rattle.grammar.specs.declared.Refusal.{Refusal}
use Rattle.grammar.specs.ReadTable.{read_table}
use Rattle.grammar.specs.Answers.{Numbers, refused_by, numbers_of}
use Rattle.grammar.specs.Calls.{work_too_short, room_for, After, wrote, table_reads, table_pages}
use Rattle.grammar.specs.Promises.{Paging}
use Rattle.grammar.specs.declared.Refusal.TheVariants.{WorkTooShort, BadClasses, OutputTooShort}
use Rattle.theory.proofs.Lists.ListLaws.{at_mem, at_or_else}
use Rattle.theory.proofs.Tables.RoomierLimits.{none_above_self, small_below_large, standard_below_large, table_roomier}
use Rattle.theory.proofs.Bytes.OutcomeLaws.{had_no_fault}
use Rattle.theory.proofs.Bytes.ReadWithin.{read_within}
use Rattle.theory.proofs.Contents.ContentBytes.{content_has_bytes}
use Rattle.lister_lines.proofs.DecimalLaws.{type_size}
use Rattle.lister_lines.proofs.RoomLaws.{content_short}
use Rattle.pages.specs.MostBytes.{most_bytes}
use Rattle.pages.proofs.SheetLaws.{rows_of_rule, rule_rows_length, pages_size}

mark_size : (text : Bool) → length (text_mark text) ≤ 1
unfolding text_mark
mark_size true = omega arith
mark_size false = omega arith

-- the lines of three texts of at most so many bytes
lines_most : (kind name content n : ℕ) → kind ≤ 4 → name ≤ 63 → content ≤ 3 * n → 1 ≤ n → n ≤ 1024
    → (1012 * max ((kind + 2) / 3) (max ((name + 22) / 23) ((content + 43) / 44)) ≤ 67 * n + 2969)
    × (max ((kind + 2) / 3) (max ((name + 22) / 23) ((content + 43) / 44)) ≤ 70)
lines_most kind name content n a b c d e =
    let k : (kind + 2) / 3 ≤ 2 = omega arith in
    let m : (name + 22) / 23 ≤ 3 = omega arith in
    let few : (content + 43) / 44 ≤ 70 = omega arith in
    (over ((content + 43) / 44) (omega arith) few, omega arith)
  where
    over : (q : ℕ) → 44 * q ≤ 3 * n + 43 → q ≤ 70
        → 1012 * max ((kind + 2) / 3) (max ((name + 22) / 23) q) ≤ 67 * n + 2969
    over q h few = at (70 - q) refl
      where
        at : (k : ℕ) → 70 - q ≡ k → 1012 * max ((kind + 2) / 3) (max ((name + 22) / 23) q) ≤ 67 * n + 2969
        at zero s = let low : 1013 ≤ n = omega arith in omega arith
        at (suc zero) s = let low : 998 ≤ n = omega arith in omega arith
        at (suc (suc zero)) s = let low : 983 ≤ n = omega arith in omega arith
        at (suc (suc (suc k))) s = let z : q ≤ 67 = omega arith in omega arith

module _ (g : Table) {classes : Classes} (within : TableWithin large classes g) where
  rule_most : (r : Rule) → Memᴰ r g.rules
      → (1012 * rows_of page_layout (texts_of g r) ≤ 67 * length (content_bytes r.content) + 2969) × (rows_of page_layout (texts_of g r) ≤ 70)
  unfolding rows_of page_layout texts_of large
  rule_most r m =
      let w = within.each_rule r m in
      let kind = type_size r.type w.type in
      let label = at_mem g.labels r.label (at_or_else g.labels r.label [] w.label) in
      let name = (within.names (get_or g.labels r.label []) label).size in
      let content = content_short r.content w.content.proper in
      let mark = mark_size r.text in
      let both = length-append (content_text r.content) (text_mark r.text) in
      lines_most (length (type_text r.type)) (length (get_or g.labels r.label []))
      (length (content_text r.content ++ text_mark r.text)) (length (content_bytes r.content)) kind name (omega arith)
      (content_has_bytes r.content) w.content.size

  rules_most : (rs : List Rule) → ((r : Rule) → Memᴰ r rs → Memᴰ r g.rules)
      → (1012 * length (joined_of (rows_of_rule g) rs) ≤ 67 * length (joined_of rule_field rs) + 2634 * length rs)
      × (length (joined_of (rows_of_rule g) rs) ≤ 70 * length rs)
  unfolding joined_of rule_field
  rules_most [] h = (omega arith, omega arith)
  rules_most (r ∷ rs) h =
      let (a, b) = rule_most r (h r (Memᴰ.head refl)) in
      let (c, d) = rules_most rs (λ x m. h x (Memᴰ.tail m)) in
      let e = length-append (rows_of_rule g r) (joined_of (rows_of_rule g) rs) in
      let f = rule_rows_length (texts_of g r) in
      let i = length-append (rule_field r) (joined_of rule_field rs) in
      (omega arith, omega arith)

  pub rows_most : (1012 * length (table_rows page_layout g) ≤ 2195255 + 2634 * length g.rules)
      × (length (table_rows page_layout g) ≤ 70 * length g.rules)
  unfolding table_rows table_bytes large
  rows_most =
      let labels = joined_of (field_bytes label_tag) g.labels in
      let starts = joined_of (λ k. field_bytes start_tag (k ∷ [])) g.starts in
      let rules = joined_of rule_field g.rules in
      let (a, b) = rules_most g.rules (λ r m. m) in
      let c = length-append (labels ++ starts ++ rules) (field_bytes table_end_tag []) in
      let d = length-append (labels ++ starts) rules in
      let size = within.size in
      (omega arith, b)

-- so many rows, and the blank ones behind them
filled : (rows most : ℕ) → rows ≤ 60 * most → (rows + blanks_after 60 rows) * 73 ≤ 4380 * most
unfolding blanks_after
filled rows most h = omega arith

no_size_above : (size : Size) → NoneAbove (size_limits size) large
unfolding size_limits
no_size_above Small = small_below_large
no_size_above Standard = standard_below_large
no_size_above Large = none_above_self large

pub pages_most : (size : Size) {classes : Classes} (g : Table) → TableWithin (size_limits size) classes g
    → length (pages page_layout g) ≤ most_bytes size
unfolding size_limits small standard large
pages_most size g within = go size within.rules
  where
    rows : ℕ
    rows = length (table_rows page_layout g)

    most : (1012 * rows ≤ 2195255 + 2634 * length g.rules) × (rows ≤ 70 * length g.rules)
    most = rows_most g (table_roomier (no_size_above size) within)

    filled_most : (n : ℕ) → rows ≤ 60 * n → length (pages page_layout g) ≤ 4380 * n
    filled_most n h =
        subst (λ (k : ℕ). k ≤ 4380 * n) (sym (pages_size g {rows = rows} {blanks = blanks_after 60 rows} refl refl)) (filled rows n h)

    go : (size : Size) → length g.rules ≤ (size_limits size).rules → length (pages page_layout g) ≤ most_bytes size
    go Small few = filled_most 19 (omega (arith, most.1))
    go Standard few = filled_most 39 (omega (arith, most.0))
    go Large few = filled_most 42 (omega (arith, most.0))

-- what the call answers
room_most : (out bytes : List ℕ) (n : ℕ) → length bytes ≤ n → (numbers_of length (room_for out bytes)).value ≤ n
unfolding room_for numbers_of refused_by
room_most out bytes n h = go (ltb (length out) (length bytes))
  where
    go : (short : Bool) → (numbers_of length (turn_back short OutputTooShort >> Ok bytes)).value ≤ n
    go true = omega arith
    go false = h

read_most : (out : List ℕ) (n : ℕ) (o : Result Table Refusal) → ((g : Table) → o ≡ Ok g → length (pages page_layout g) ≤ n)
    → (numbers_of length (o >>= λ g. room_for out (pages page_layout g))).value ≤ n
unfolding numbers_of refused_by
read_most out n (Err r) h = omega arith
read_most out n (Ok g) h = room_most out (pages page_layout g) n (h g refl)

value_most : (size : Size) (classes : Classes) (table out work : List ℕ) {left : After Numbers}
    → Paging (size_limits size) classes table out work left → left.answer.value ≤ most_bytes size
unfolding wrote table_pages table_reads
value_most size classes table out work p =
    let lim = size_limits size in
    let most =
    read_most out (most_bytes size) (table_reads lim classes table work)
    (λ g e.
    let loaded = (had_no_fault (work_too_short lim work) WorkTooShort (turn_back (not (loads classes)) BadClasses >> read_table lim classes table) g e).1 in
    let read = (had_no_fault (not (loads classes)) BadClasses (read_table lim classes table) g loaded).1 in
    pages_most size g (read_within lim classes table g read)) in
    subst (λ (k : ℕ). k ≤ most_bytes size) (sym (ap (λ (a : After Numbers). a.answer.value) p.settled)) most

-- what the call promises, and this
pub with_most : (size : Size) {classes : Classes} {table out work : List ℕ} {left : After Numbers}
    → Paging (size_limits size) classes table out work left → Paging (size_limits size) classes table out work left × (left.answer.value ≤ most_bytes size)
with_most size {classes} {table} {out} {work} p = (p, value_most size classes table out work p)
