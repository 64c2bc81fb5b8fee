-- Printed pages: joining the columns' texts, less padding, with a space gives the lister's text for that rule. This is proved once for
-- any three widths of at least 1.
--     texts_come_back    three texts, of which none ends in a space, from their rows and any blank rows behind them
--     rule_comes_back    the lister's text of a rule, from its rows
--     pages_full         the last page is filled
--     pages_come_back    the lister's text of each rule, from the pages of a table
use Prim.Native.Nat.{ℕ, zero, suc, ◌+◌, ◌-◌, ◌*◌, ◌≤◌, ◌<◌}
use native.Mathlib.Nat.{zero-mul, one-le-mul, le_trans}
use native.Mathlib.Omega.{arith}
use mathlib.Core.List.Memᴰ
use mathlib.Core.List.{
  List,
  [],
  ◌∷◌,
  ◌++◌,
  append_assoc,
  append-nil,
  map,
  Memᴰ,
}
use mathlib.Core.Path.{◌≡◌, refl, sym, ◌∙◌, ap, ap₂, subst}
use lib.ListN.{length, get_or, drop, replicate, length-append, length-replicate}
use lib.Seq.{drop-nil}
use borrow.Author.Tests.{eq-eqb, ne_eqb}
use Rattle.grammar.specs.Ascii.{ascii}
use Rattle.grammar.specs.Lists.{numbers_from, numbers_below}
use Rattle.grammar.specs.Limits.{Limits}
use Rattle.grammar.specs.Names.{Name, Classes, Loads}
use Rattle.grammar.specs.Table.{Rule, Table}
use Rattle.grammar.specs.WithinLimits.{TableWithin}
use Rattle.grammar.specs.Listing.{Text, type_text, decimal, content_text, text_mark, rule_text}
use Rattle.grammar.specs.Pages.{
  Layout,
  RuleTexts,
  texts_of,
  no_texts,
  space,
  row_of,
  rows_of,
  rule_rows,
  table_rows,
  blank_row,
  blanks_after,
  page_rows,
  pages,
}
use Rattle.grammar.specs.ReadPages.{row_size, rows_in, is_first, rows_by_rule, column_text, text_of_rows, texts_shown}
use Rattle.theory.proofs.Lists.ListLaws.{
  Each,
  each_append,
  each_replicate,
  joined_from,
  at_mem,
  at_or_else,
  numbers_within,
}
use Rattle.theory.proofs.Bytes.ListedTexts.{
  Digit,
  type_is,
  decimal_digits,
  type_spaceless,
  name_spaceless,
  rule_content_spaceless,
}
use Rattle.theory.proofs.Bytes.PageRows.{
  NoSpaceAtEnd,
  spaceless_end,
  column_text_lem,
  row_size_lem,
  type_column,
  name_column,
  content_column,
  row_first,
  lines_enough,
  some_lines,
  type_lines,
  name_lines,
  content_lines,
  rows_behind,
  blanks_fill,
  cut_rows,
  GoesOn,
  OneRule,
  rules_shown,
}

-- three texts, joined with a space
abbrev pub joined_texts : RuleTexts → Text
joined_texts t = t.type ++ ascii " " ++ t.name ++ ascii " " ++ t.content

pub record NoSpaceAtEnds (t : RuleTexts) : Type 0 where
  pub type : NoSpaceAtEnd t.type
  pub name : NoSpaceAtEnd t.name
  pub content : NoSpaceAtEnd t.content

-- the name that a rule gives
abbrev name_of : Table → Rule → Name
name_of g r = get_or g.labels r.label []

rule_texts : (g : Table) (r : Rule) → joined_texts (texts_of g r) ≡ rule_text g r
unfolding texts_of rule_text
rule_texts g r =
    sym
    (append_assoc (type_text r.type ++ ascii " " ++ name_of g r ++ ascii " ") (content_text r.content) (text_mark r.text))

-- no digit is a `t`, and no space
later_byte : (n : ℕ) (digits : Text) → Each Digit digits → get_or (drop n digits) 0 space ≡ 0x74 → ⊥
later_byte zero [] h e = omega arith
later_byte (suc n) [] h e = omega arith
later_byte zero (b ∷ bs) h e = let d = h b (Memᴰ.head refl) in omega arith
later_byte (suc n) (b ∷ bs) h e = later_byte n bs (λ c m. h c (Memᴰ.tail m)) e

behind_t : (n : ℕ) (digits : Text) → 1 ≤ n → Each Digit digits → get_or (drop n (0x74 ∷ digits)) 0 space ≡ 0x74 → ⊥
behind_t zero digits some h e = omega arith
behind_t (suc n) digits some h e = later_byte n digits h e

-- the texts of a rule of a table
module _ {lim : Limits} {classes : Classes} (loaded : Loads classes) (g : Table) (within : TableWithin lim classes g) (r : Rule)
    (m : Memᴰ r g.rules) where
  no_space_at_ends : NoSpaceAtEnds (texts_of g r)
  unfolding texts_of
  no_space_at_ends =
      let label = at_mem g.labels r.label (at_or_else g.labels r.label [] (within.each_rule r m).label) in
      record {
        type = spaceless_end (type_text r.type) (type_spaceless r.type);
        name =
            spaceless_end (name_of g r) (name_spaceless classes loaded (name_of g r) (within.names (name_of g r) label).rule);
        content =
            spaceless_end (content_text r.content ++ text_mark r.text) (rule_content_spaceless r.content r.text);
      }

-- blank rows behind the rows of a table
abbrev blanks_behind : Layout → Table → ℕ
blanks_behind l g = blanks_after l.page (length (table_rows l g))

-- Blank rows, fewer than a page has, fill the last page.
pub pages_full : (l : Layout) → 1 ≤ l.page → (g : Table)
    → (blanks_behind l g < l.page) × (k : ℕ) × (length (page_rows l g) ≡ k * l.page)
unfolding page_rows
pages_full l some g =
    let (few, k, e) = blanks_fill l.page (length (table_rows l g)) some in (
      few,
      k,
      length-append (table_rows l g) (replicate (blanks_behind l g) (blank_row l))
          ∙ ap (λ (n : ℕ). length (table_rows l g) + n) (length-replicate (blanks_behind l g) (blank_row l))
          ∙ e,
    )

module _ (l : Layout) (type_wide : 1 ≤ l.type) (name_wide : 1 ≤ l.name) (content_wide : 1 ≤ l.content) where
  -- the columns of a rule's rows, and of as many more
  columns_come_back : (t : RuleTexts) → NoSpaceAtEnds t → (n : ℕ) → rows_of l t ≤ n
      → text_of_rows l (map (row_of l t) (numbers_below n)) ≡ joined_texts t
  unfolding text_of_rows
  columns_come_back t ends n enough =
      let rows = map (row_of l t) (numbers_below n) in
      let type =
      column_text_lem 0 l.type (row_of l t) t.type n (type_column l t)
      (lines_enough l.type t.type n type_wide (le_trans (type_lines l t) enough)) ends.type in
      let name =
      column_text_lem (l.type + 1) l.name (row_of l t) t.name n (name_column l t)
      (lines_enough l.name t.name n name_wide (le_trans (name_lines l t) enough)) ends.name in
      let content =
      column_text_lem (l.type + 1 + l.name + 1) l.content (row_of l t) t.content n (content_column l t)
      (lines_enough l.content t.content n content_wide (le_trans (content_lines l t) enough)) ends.content in
      ap
      (λ (s : Text). s
      ++ ascii " "
      ++ column_text (l.type + 1) l.name rows
      ++ ascii " "
      ++ column_text (l.type + 1 + l.name + 1) l.content rows)
      type
      ∙ ap₂ (λ (s u : Text). t.type ++ ascii " " ++ s ++ ascii " " ++ u) name content

  pub texts_come_back : (t : RuleTexts) → NoSpaceAtEnds t → (blanks : ℕ)
      → text_of_rows l (rule_rows l t ++ replicate blanks (blank_row l)) ≡ joined_texts t
  texts_come_back t ends blanks =
      ap (text_of_rows l) (sym (rows_behind l t type_wide name_wide content_wide blanks))
      ∙ columns_come_back t ends (rows_of l t + blanks) (omega arith)

  -- which row begins a rule
  one_rule : (t : RuleTexts) (digits : Text) → t.type ≡ 0x74 ∷ digits → Each Digit digits → OneRule (rule_rows l t)
  unfolding rule_rows numbers_below numbers_from is_first
  one_rule t digits e h =
      let size = ap length e in
      let some = some_lines l.type t.type type_wide (omega arith) in
      let more = type_lines l t in
      let count : rows_of l t ≡ suc (rows_of l t - 1) = omega arith in
      record {
        first = row_of l t 0;
        others = map (row_of l t) (numbers_from 1 (rows_of l t - 1));
        whole = ap (λ (n : ℕ). map (row_of l t) (numbers_from 0 n)) count;
        begins =
            eq-eqb (get_or (row_of l t 0) 0 0) 0x74
            (row_first l t 0 type_wide ∙ ap₂ (λ (n : ℕ) (s : Text). get_or (drop n s) 0 space) (zero-mul l.type) e);
        goes_on = λ row m.
            let (i, n, q) = Memᴰ.of_map (row_of l t) (numbers_from 1 (rows_of l t - 1)) m in
            subst GoesOn q
            (ne_eqb (get_or (row_of l t i) 0 0) 0x74
            (λ same.
            behind_t (i * l.type) digits (one-le-mul (numbers_within 1 (rows_of l t - 1) n).0 type_wide) h
            (ap (λ (s : Text). get_or (drop (i * l.type) s) 0 space) (sym e) ∙ sym (row_first l t i type_wide) ∙ same)));
      }

  blank_goes_on : GoesOn (blank_row l)
  unfolding is_first blank_row
  blank_goes_on =
      ne_eqb (get_or (blank_row l) 0 0) 0x74
      (λ same.
      let none =
      row_first l no_texts 0 type_wide
      ∙ ap (λ (s : Text). get_or s 0 space) (drop-nil (0 * l.type)) in
      omega arith)

  -- all rows are as long
  rows_sized : (g : Table) → Each (λ row. length row ≡ row_size l) (page_rows l g)
  unfolding page_rows table_rows rule_rows blank_row
  rows_sized g =
      each_append (λ row. length row ≡ row_size l) (table_rows l g) (replicate (blanks_behind l g) (blank_row l))
      (λ row m.
      let (r, n, i) = joined_from (λ r. rule_rows l (texts_of g r)) g.rules m in
      let (k, j, e) = Memᴰ.of_map (row_of l (texts_of g r)) (numbers_below (rows_of l (texts_of g r))) i in
      ap length (sym e) ∙ row_size_lem l (texts_of g r) k)
      (each_replicate (λ row. length row ≡ row_size l) (blanks_behind l g) (blank_row l)
      (row_size_lem l no_texts 0))

  rows_come_back : (g : Table) → rows_in l (pages l g) ≡ page_rows l g
  unfolding rows_in pages row_size
  rows_come_back g = cut_rows (row_size l) (omega arith) (page_rows l g) (rows_sized g) (length (pages l g)) (omega arith)

  module _ {lim : Limits} {classes : Classes} (loaded : Loads classes) (g : Table) (within : TableWithin lim classes g) where
    rule_and_blanks : (r : Rule) → Memᴰ r g.rules → (blanks : ℕ)
        → text_of_rows l (rule_rows l (texts_of g r) ++ replicate blanks (blank_row l)) ≡ rule_text g r
    rule_and_blanks r m blanks =
        texts_come_back (texts_of g r) (no_space_at_ends loaded g within r m) blanks ∙ rule_texts g r

    pub rule_comes_back : (r : Rule) → Memᴰ r g.rules → text_of_rows l (rule_rows l (texts_of g r)) ≡ rule_text g r
    rule_comes_back r m = ap (text_of_rows l) (sym (append-nil (rule_rows l (texts_of g r)))) ∙ rule_and_blanks r m 0

    pub pages_come_back : texts_shown l (pages l g) ≡ map (rule_text g) g.rules
    unfolding texts_shown page_rows table_rows texts_of
    pages_come_back =
        ap (λ (rows : List Text). map (text_of_rows l) (rows_by_rule rows)) (rows_come_back g)
        ∙ rules_shown (λ r. rule_rows l (texts_of g r)) (blank_row l) (blanks_behind l g) blank_goes_on
        (text_of_rows l) (rule_text g) g.rules
        (λ r m. one_rule (texts_of g r) (decimal r.type) (type_is r.type) (decimal_digits r.type)) rule_and_blanks
