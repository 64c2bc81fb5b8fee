-- The rows of printed pages, and what is read back from them, for any widths of at least 1.
--     NoSpaceAtEnd, spaceless_end, unpadded-text    a text that does not end in a space is what is left of it with spaces behind
--     line_size, column_lines, column_text_lem          the lines of a column are all as wide; joined, they are its text and spaces
--     row_size_lem, row_first                           how long a row is, and the byte that it begins with
--     type_column, name_column, content_column      where its columns stand
--     lines_enough, lines_least, some_lines, type_lines, name_lines, content_lines
--                                                   the rows of a rule hold its texts
--     past_rows, rows_behind                        blank rows are the rows that follow
--     blanks_fill                                   blank rows fill a page, and are fewer than a page
--     cut_rows                                      rows of one size are cut apart again
--     OneRule, rules_shown                          a row that begins with `t` begins a rule
use Prim.Native.Nat.{ℕ, zero, suc, ◌+◌, ◌-◌, ◌*◌, ◌/◌, ◌%◌, ◌≤◌, ◌<◌, max}
use native.Mathlib.Nat.{zero-mul, suc-mul, lt-div-mul-add, mul-le-mul_right, le-max_left, le-max_right, le_trans, le-div_iff_mul-le, div-lt_iff_lt-mul, div-add-mod', mod-lt, mod_self, mod-eq_of_lt}
use native.Mathlib.Omega.{arith}
use mathlib.Core.Bool.{true, false}
use mathlib.Core.List.Memᴰ
use mathlib.Core.List.{
  List,
  [],
  ◌∷◌,
  ◌++◌,
  append_assoc,
  append-nil,
  map,
  map-append,
  Memᴰ,
}
use mathlib.Core.Logic.{⊎_elim}
use mathlib.Core.Path.{◌≡◌, refl, sym, ◌∙◌, ap, ap₂, subst}
use lib.ListN.{
  length,
  get_or,
  take,
  drop,
  replicate,
  length-append,
  length-take,
  length-replicate,
  get_or-replicate,
  replicate-append-replicate,
  take-append-drop,
  drop_of_length-le,
  get_or-append,
}
use lib.Seq.{take_all, take_at, drop_at, drop-nil, drop-drop, length-take-le}
use lib.Dec.{leb}
use borrow.Author.Tests.{leb-true, leb-false, ne_eqb}
use Rattle.grammar.specs.Ascii.{ascii}
use Rattle.grammar.specs.Lists.{joined_of, numbers_from, numbers_below}
use Rattle.grammar.specs.Listing.{Text}
use Rattle.grammar.specs.Pages.{
  Layout,
  RuleTexts,
  space,
  lines_of,
  padded,
  line_of,
  row_of,
  rows_of,
  rule_rows,
  blank_row,
  blanks_after,
}
use Rattle.grammar.specs.ReadPages.{
  cut_within,
  row_size,
  is_first,
  others_of,
  rows_by_rule,
  with_space,
  unpadded,
  column_text,
}
use Rattle.theory.proofs.Lists.BoolLaws.{passes_or_fails}
use Rattle.theory.proofs.Lists.ListLaws.{Each, each_replicate, joined_on, numbers_joined}
use Rattle.theory.proofs.Emission.EmittedContent.{joined_map}
use Rattle.theory.proofs.Bytes.ListedTexts.{Spaceless}

-- taking off the spaces at the end
abbrev pub NoSpaceAtEnd : Text → Type 0
NoSpaceAtEnd text = (front : Text) → text ≡ front ++ (space ∷ []) → ⊥

pub spaceless_end : (text : Text) → Spaceless text → NoSpaceAtEnd text
spaceless_end text h front e =
    h space (subst (λ (s : Text). Memᴰ space s) (sym e) (Memᴰ.append_right front (Memᴰ.head refl))) refl

unpadded_spaces : (k : ℕ) → unpadded (replicate k space) ≡ []
unfolding unpadded with_space
unpadded_spaces zero = refl
unpadded_spaces (suc k) = ap (with_space space) (unpadded_spaces k)

last_stays : (b : ℕ) → NoSpaceAtEnd (b ∷ []) → with_space b [] ≡ b ∷ []
unfolding with_space
last_stays b h = rw (ne_eqb b space (λ e. h [] (ap (λ (x : ℕ). x ∷ []) e)), with_space)

pub unpadded-text : (text : Text) (k : ℕ) → NoSpaceAtEnd text → unpadded (text ++ replicate k space) ≡ text
unfolding unpadded with_space
unpadded-text [] k h = unpadded_spaces k
unpadded-text (b ∷ []) k h = ap (with_space b) (unpadded_spaces k) ∙ last_stays b h
unpadded-text (b ∷ c ∷ cs) k h =
    ap (with_space b) (unpadded-text (c ∷ cs) k (λ front e. h (b ∷ front) (ap (λ (s : Text). b ∷ s) e)))

-- one line of a column
padded_size : (width : ℕ) (piece : Text) → length piece ≤ width → length (padded width piece) ≡ width
unfolding padded
padded_size width piece h =
    let joined = length-append piece (replicate (width - length piece) space) in
    let behind = length-replicate (width - length piece) space in
    omega arith

pub line_size : (width : ℕ) (text : Text) (i : ℕ) → length (line_of width text i) ≡ width
unfolding line_of
line_size width text i =
    padded_size width (take width (drop (i * width) text)) (omega (arith, length-take width (drop (i * width) text)))

-- past the text it is blank
past_line : (width : ℕ) (text : Text) (i : ℕ) → length text ≤ i * width → line_of width text i ≡ line_of width [] 0
unfolding line_of
past_line width text i h =
    ap (λ (rest : Text). padded width (take width rest)) (drop_of_length-le text h ∙ sym (drop-nil (0 * width)))

-- the lines joined
next_line : (width : ℕ) (text : Text) (k : ℕ)
    → (j : ℕ) × (padded width (take width text) ++ (drop width text ++ replicate k space) ≡ text ++ replicate j space)
unfolding padded
next_line width text k =
    ⊎_elim
    (λ e. short (leb-true (length text) width e))
    (λ e. long (leb-false (length text) width e))
    (passes_or_fails (leb (length text) width))
  where
    short : length text ≤ width
        → (j : ℕ) × (padded width (take width text) ++ (drop width text ++ replicate k space) ≡ text ++ replicate j space)
    short h = (
      width - length text + k,
      ap₂ (λ (a b : Text). padded width a ++ (b ++ replicate k space)) (take_all width text h) (drop_of_length-le text h)
          ∙ append_assoc text (replicate (width - length text) space) (replicate k space)
          ∙ ap (λ (s : Text). text ++ s) (replicate-append-replicate (width - length text) k space),
    )

    long : suc width ≤ length text
        → (j : ℕ) × (padded width (take width text) ++ (drop width text ++ replicate k space) ≡ text ++ replicate j space)
    long h =
        let full = length-take-le width text (omega arith) in
        let none : width - length (take width text) ≡ 0 = omega arith in (
          k,
          ap (λ (n : ℕ). take width text ++ replicate n space ++ (drop width text ++ replicate k space)) none
              ∙ ap (λ (s : Text). s ++ (drop width text ++ replicate k space)) (append-nil (take width text))
              ∙ sym (append_assoc (take width text) (drop width text) (replicate k space))
              ∙ ap (λ (s : Text). s ++ replicate k space) (take-append-drop width text),
        )

pub column_lines : (width : ℕ) (text : Text) (from n : ℕ) → length text ≤ from * width + n * width
    → (k : ℕ) × (joined_of (line_of width text) (numbers_from from n) ≡ drop (from * width) text ++ replicate k space)
unfolding joined_of numbers_from line_of
column_lines width text from zero h =
    let none = zero-mul width in
    let past : length text ≤ from * width = omega arith in
    (0, sym (ap (λ (s : Text). s ++ []) (drop_of_length-le text past)))
column_lines width text from (suc n) h = go (column_lines width text (suc from) n (omega (arith, suc-mul from width, suc-mul n width)))
  where
    go : (k : ℕ) × (joined_of (line_of width text) (numbers_from (suc from) n) ≡ drop (suc from * width) text ++ replicate k space)
        → (k : ℕ) × (joined_of (line_of width text) (numbers_from from (suc n)) ≡ drop (from * width) text ++ replicate k space)
    go (k, e) =
        let (j, q) = next_line width (drop (from * width) text) k in
        let on = ap (λ (m : ℕ). drop m text) (suc-mul from width) ∙ sym (drop-drop width (from * width) text) in
        (j, ap (λ (s : Text). line_of width text from ++ s) (e ∙ ap (λ (s : Text). s ++ replicate k space) on) ∙ q)

pub column_text_lem : (from width : ℕ) (row : ℕ → Text) (text : Text) (n : ℕ)
    → ((i : ℕ) → take width (drop from (row i)) ≡ line_of width text i) → length text ≤ n * width → NoSpaceAtEnd text
    → column_text from width (map row (numbers_below n)) ≡ text
unfolding column_text numbers_below
column_text_lem from width row text n lines fits end =
    let none = zero-mul width in
    let (k, e) = column_lines width text 0 n (omega arith) in
    ap unpadded
    (joined_map (λ (r : Text). take width (drop from r)) row (numbers_from 0 n)
    ∙ joined_on (λ i. take width (drop from (row i))) (line_of width text) (numbers_from 0 n) (λ i m. lines i)
    ∙ e
    ∙ ap (λ (m : ℕ). drop m text ++ replicate k space) none)
    ∙ unpadded-text text k end

-- a row of three lines, with something between them and something behind
part_at : (before part behind : Text) (from width : ℕ) → length before ≡ from → length part ≡ width
    → take width (drop from (before ++ (part ++ behind))) ≡ part
part_at before part behind from width e f = ap (take width) (drop_at before (part ++ behind) from e) ∙ take_at part behind width f

module _ (a b c between behind : Text) where
  abbrev three_lines : Text
  three_lines = a ++ between ++ b ++ between ++ c ++ behind

  three_size : length three_lines ≡ length a + length between + length b + length between + length c + length behind
  three_size = simp length-append

  three_first : three_lines ≡ a ++ (between ++ (b ++ (between ++ (c ++ behind))))
  three_first = simp append_assoc

  three_second : three_lines ≡ (a ++ between) ++ (b ++ (between ++ (c ++ behind)))
  three_second = simp append_assoc

  three_third : three_lines ≡ (a ++ between ++ b ++ between) ++ (c ++ behind)
  three_third = append_assoc (a ++ between ++ b ++ between) c behind

  two_size : length (a ++ between) ≡ length a + length between
  two_size = length-append a between

  four_size : length (a ++ between ++ b ++ between) ≡ length a + length between + length b + length between
  four_size = simp length-append

module _ (l : Layout) (t : RuleTexts) (i : ℕ) where
  abbrev type_line : Text
  type_line = line_of l.type t.type i

  abbrev name_line : Text
  name_line = line_of l.name t.name i

  abbrev content_line : Text
  content_line = line_of l.content t.content i

  pub row_size_lem : length (row_of l t i) ≡ row_size l
  unfolding row_of row_size ascii
  row_size_lem =
      let whole = three_size type_line name_line content_line (ascii " ") (ascii "\n") in
      let first = line_size l.type t.type i in
      let second = line_size l.name t.name i in
      let third = line_size l.content t.content i in
      omega arith

  pub type_column : take l.type (drop 0 (row_of l t i)) ≡ type_line
  unfolding row_of ascii
  type_column =
      ap (take l.type) (three_first type_line name_line content_line (ascii " ") (ascii "\n"))
      ∙ take_at type_line _ l.type (line_size l.type t.type i)

  pub name_column : take l.name (drop (l.type + 1) (row_of l t i)) ≡ name_line
  unfolding row_of ascii
  name_column =
      ap (λ (row : Text). take l.name (drop (l.type + 1) row))
      (three_second type_line name_line content_line (ascii " ") (ascii "\n"))
      ∙ part_at (type_line ++ ascii " ") name_line _ (l.type + 1) l.name
      (two_size type_line name_line content_line (ascii " ") (ascii "\n") ∙ ap (λ (n : ℕ). n + 1) (line_size l.type t.type i))
      (line_size l.name t.name i)

  pub content_column : take l.content (drop (l.type + 1 + l.name + 1) (row_of l t i)) ≡ content_line
  unfolding row_of ascii
  content_column =
      ap (λ (row : Text). take l.content (drop (l.type + 1 + l.name + 1) row))
      (three_third type_line name_line content_line (ascii " ") (ascii "\n"))
      ∙ part_at (type_line ++ ascii " " ++ name_line ++ ascii " ") content_line (ascii "\n") (l.type + 1 + l.name + 1) l.content
      (four_size type_line name_line content_line (ascii " ") (ascii "\n")
      ∙ ap₂ (λ (m n : ℕ). m + 1 + n + 1) (line_size l.type t.type i) (line_size l.name t.name i))
      (line_size l.content t.content i)

  -- the byte that it begins with
  pub row_first : 1 ≤ l.type → get_or (row_of l t i) 0 0 ≡ get_or (drop (i * l.type) t.type) 0 space
  unfolding row_of line_of ascii
  row_first wide =
      let size = line_size l.type t.type i in
      ap (λ (row : Text). get_or row 0 0) (three_first type_line name_line content_line (ascii " ") (ascii "\n"))
      ∙ get_or-append type_line _ 0 0 (omega arith)
      ∙ line_first l.type (drop (i * l.type) t.type) wide
    where
      line_first : (width : ℕ) (rest : Text) → 1 ≤ width → get_or (padded width (take width rest)) 0 0 ≡ get_or rest 0 space
      line_first zero rest h = absurd (omega arith)
      line_first (suc w) rest h = first rest
        where
          first : (rest : Text) → get_or (padded (suc w) (take (suc w) rest)) 0 0 ≡ get_or rest 0 space
          first [] = get_or-replicate (suc w - 0) 0 space 0 (omega arith)
          first (b ∷ bs) = refl

-- a text fits on the lines that it takes
pub lines_enough : (width : ℕ) (text : Text) (n : ℕ) → 1 ≤ width → lines_of width text ≤ n → length text ≤ n * width
unfolding lines_of
lines_enough width text n wide h =
    let above = lt-div-mul-add {a = length text + (width - 1)} {b = width} wide in
    let more = mul-le-mul_right width h in
    omega arith

-- and takes no more than hold it
pub lines_least : (width : ℕ) (text : Text) (n : ℕ) → 1 ≤ width → length text ≤ n * width → lines_of width text ≤ n
unfolding lines_of
lines_least width text n wide h =
    let below : length text + (width - 1) < suc n * width = omega (arith, suc-mul n width) in
    let less = (div-lt_iff_lt-mul {k = width} {x = length text + (width - 1)} {y = suc n} wide).1 below in
    omega arith

-- one that is not empty takes some
pub some_lines : (width : ℕ) (text : Text) → 1 ≤ width → 1 ≤ length text → 1 ≤ lines_of width text
unfolding lines_of
some_lines width text wide some =
    let once : 1 * width ≤ length text + (width - 1) = omega arith in
    (le-div_iff_mul-le {k = width} {x = 1} {y = length text + (width - 1)} wide).1 once

module _ (l : Layout) (t : RuleTexts) where
  pub type_lines : lines_of l.type t.type ≤ rows_of l t
  unfolding rows_of
  type_lines = le-max_left (lines_of l.type t.type) _

  other_lines : max (lines_of l.name t.name) (lines_of l.content t.content) ≤ rows_of l t
  unfolding rows_of
  other_lines =
      le-max_right (lines_of l.type t.type) (max (lines_of l.name t.name) (lines_of l.content t.content))

  pub name_lines : lines_of l.name t.name ≤ rows_of l t
  name_lines = le_trans (le-max_left (lines_of l.name t.name) (lines_of l.content t.content)) other_lines

  pub content_lines : lines_of l.content t.content ≤ rows_of l t
  content_lines = le_trans (le-max_right (lines_of l.name t.name) (lines_of l.content t.content)) other_lines

  -- Blank rows are what follows.
  module _ (type_wide : 1 ≤ l.type) (name_wide : 1 ≤ l.name) (content_wide : 1 ≤ l.content) where
    past_row : (i : ℕ) → rows_of l t ≤ i → row_of l t i ≡ blank_row l
    unfolding row_of blank_row ascii
    past_row i h =
        let first = past_line l.type t.type i (lines_enough l.type t.type i type_wide (le_trans type_lines h)) in
        let second = past_line l.name t.name i (lines_enough l.name t.name i name_wide (le_trans name_lines h)) in
        let third =
        past_line l.content t.content i (lines_enough l.content t.content i content_wide (le_trans content_lines h)) in
        ap (λ (s : Text). s ++ ascii " " ++ name_line l t i ++ ascii " " ++ content_line l t i ++ ascii "\n") first
        ∙ ap₂ (λ (s r : Text). line_of l.type [] 0 ++ ascii " " ++ s ++ ascii " " ++ r ++ ascii "\n") second third

    pub past_rows : (from k : ℕ) → rows_of l t ≤ from → map (row_of l t) (numbers_from from k) ≡ replicate k (blank_row l)
    unfolding numbers_from
    past_rows from zero h = refl
    past_rows from (suc k) h = ap₂ ◌∷◌ (past_row from h) (past_rows (suc from) k (omega arith))

    pub rows_behind : (k : ℕ) → map (row_of l t) (numbers_below (rows_of l t + k)) ≡ rule_rows l t ++ replicate k (blank_row l)
    unfolding rule_rows numbers_below
    rows_behind k =
        ap (map (row_of l t)) (numbers_joined 0 (rows_of l t) k)
        ∙ map-append (row_of l t) (numbers_from 0 (rows_of l t)) (numbers_from (0 + rows_of l t) k)
        ∙ ap (λ (rows : List Text). map (row_of l t) (numbers_from 0 (rows_of l t)) ++ rows) (past_rows (0 + rows_of l t) k (omega arith))

-- blank rows fill a page, and are fewer than a page
pub blanks_fill : (page rows : ℕ) → 1 ≤ page → (blanks_after page rows < page) × (k : ℕ) × (rows + blanks_after page rows ≡ k * page)
unfolding blanks_after
blanks_fill page rows some = go (rows % page) refl
  where
    whole : rows / page * page + rows % page ≡ rows
    whole = div-add-mod' rows page

    below : rows % page < page
    below = mod-lt rows some

    go : (m : ℕ) → rows % page ≡ m → ((page - m) % page < page) × (k : ℕ) × (rows + (page - m) % page ≡ k * page)
    go zero e =
        let z : page - zero ≡ page = omega arith in
        let none : (page - zero) % page ≡ 0 = ap (λ (n : ℕ). n % page) z ∙ mod_self page in
        let w = whole in
        (mod-lt (page - zero) some, rows / page, omega arith)
    go (suc m) e =
        let w = whole in
        let b = below in
        let rest = mod-eq_of_lt {n = page - suc m} {m = page} (omega arith) in
        let more = suc-mul (rows / page) page in
        (mod-lt (page - suc m) some, suc (rows / page), omega arith)

-- rows cut apart
cut_none : (n size : ℕ) → cut_within n size [] ≡ []
unfolding cut_within
cut_none zero size = refl
cut_none (suc n) size = refl

cut_next : (n size : ℕ) (row rest : Text) → length row ≡ size → 1 ≤ size
    → cut_within (suc n) size (row ++ rest) ≡ row ∷ cut_within n size rest
unfolding cut_within
cut_next n size [] rest e h = absurd (omega arith)
cut_next n size (b ∷ bs) rest e h =
    ap₂ ◌∷◌ (take_at (b ∷ bs) rest size e) (ap (cut_within n size) (drop_at (b ∷ bs) rest size e))

pub cut_rows : (size : ℕ) → 1 ≤ size → (rows : List Text) → Each (λ row. length row ≡ size) rows → (n : ℕ)
    → length (joined_of (λ row. row) rows) ≤ n → cut_within n size (joined_of (λ row. row) rows) ≡ rows
unfolding joined_of
cut_rows size some [] sized n h = cut_none n size
cut_rows size some (row ∷ rows) sized zero h =
    let whole = length-append row (joined_of (λ row. row) rows) in
    let first = sized row (Memᴰ.head refl) in
    absurd (omega arith)
cut_rows size some (row ∷ rows) sized (suc n) h =
    let whole = length-append row (joined_of (λ row. row) rows) in
    let first = sized row (Memᴰ.head refl) in
    cut_next n size row (joined_of (λ row. row) rows) first some
    ∙ ap (λ (rest : List Text). row ∷ rest) (cut_rows size some rows (λ r m. sized r (Memᴰ.tail m)) n (omega arith))

-- rows by rule
abbrev pub GoesOn : Text → Type 0
GoesOn row = is_first row ≡ false

others_front : (rows rest : List Text) → Each GoesOn rows → others_of (rows ++ rest) ≡ rows ++ others_of rest
unfolding others_of
others_front [] rest h = refl
others_front (row ∷ rows) rest h =
    rw (h row (Memᴰ.head refl), others_of)
    (ap (λ (later : List Text). row ∷ later) (others_front rows rest (λ r m. h r (Memᴰ.tail m))))

rules_past : (rows rest : List Text) → Each GoesOn rows → rows_by_rule (rows ++ rest) ≡ rows_by_rule rest
unfolding rows_by_rule
rules_past [] rest h = refl
rules_past (row ∷ rows) rest h =
    rw (h row (Memᴰ.head refl), rows_by_rule) (rules_past rows rest (λ r m. h r (Memᴰ.tail m)))

-- the first row begins with `t`, and no other
pub record OneRule (rows : List Text) : Type 0 where
  pub first : Text
  pub others : List Text
  pub whole : rows ≡ first ∷ others
  pub begins : is_first first ≡ true
  pub goes_on : Each GoesOn others

others_none : (first : Text) (rest : List Text) → is_first first ≡ true → others_of (first ∷ rest) ≡ []
unfolding others_of
others_none first rest e = rw (e, others_of)

rules_first : (first : Text) (rest : List Text) → is_first first ≡ true
    → rows_by_rule (first ∷ rest) ≡ (first ∷ others_of rest) ∷ rows_by_rule rest
unfolding rows_by_rule
rules_first first rest e = rw (e, rows_by_rule)

module _ (rows rest : List Text) (one : OneRule rows) where
  others_end : others_of (rows ++ rest) ≡ []
  others_end =
      ap (λ (r : List Text). others_of (r ++ rest)) one.whole ∙ others_none one.first (one.others ++ rest) one.begins

  rules_next : rows_by_rule (rows ++ rest) ≡ (rows ++ others_of rest) ∷ rows_by_rule rest
  rules_next =
      ap (λ (r : List Text). rows_by_rule (r ++ rest)) one.whole
      ∙ rules_first one.first (one.others ++ rest) one.begins
      ∙ ap₂ (λ (r : List Text) (rs : List (List Text)). (one.first ∷ r) ∷ rs)
      (others_front one.others rest one.goes_on) (rules_past one.others rest one.goes_on)
      ∙ ap (λ (r : List Text). (r ++ others_of rest) ∷ rows_by_rule rest) (sym one.whole)

-- All rows are those of some rules and then blank: of each rule its own are read, the last with the blank ones behind.
module _ {A : Type 0} (rows : A → List Text) (blank : Text) (blanks : ℕ) (goes_on : GoesOn blank) where
  all_blank : Each GoesOn (replicate blanks blank)
  all_blank = each_replicate GoesOn blanks blank goes_on

  abbrev all_rows : List A → List Text
  all_rows xs = joined_of rows xs ++ replicate blanks blank

  blank_behind : (xs : List A) → ((x : A) → Memᴰ x xs → OneRule (rows x)) → (k : ℕ) × (others_of (all_rows xs) ≡ replicate k blank)
  unfolding joined_of others_of
  blank_behind [] h = (
    blanks,
    ap others_of (sym (append-nil (replicate blanks blank)))
        ∙ others_front (replicate blanks blank) [] all_blank
        ∙ append-nil (replicate blanks blank),
  )
  blank_behind (x ∷ xs) h = (
    0,
    ap others_of (append_assoc (rows x) (joined_of rows xs) (replicate blanks blank))
        ∙ others_end (rows x) (all_rows xs) (h x (Memᴰ.head refl)),
  )

  module _ (show : List Text → Text) (text : A → Text) where
    pub rules_shown : (xs : List A) → ((x : A) → Memᴰ x xs → OneRule (rows x))
        → ((x : A) → Memᴰ x xs → (k : ℕ) → show (rows x ++ replicate k blank) ≡ text x)
        → map show (rows_by_rule (joined_of rows xs ++ replicate blanks blank)) ≡ map text xs
    unfolding joined_of rows_by_rule
    rules_shown [] one shown =
        ap (λ (rs : List Text). map show (rows_by_rule rs)) (sym (append-nil (replicate blanks blank)))
        ∙ ap (map show) (rules_past (replicate blanks blank) [] all_blank)
    rules_shown (x ∷ xs) one shown =
        let (k, e) = blank_behind xs (λ y m. one y (Memᴰ.tail m)) in
        ap (λ (rs : List Text). map show (rows_by_rule rs)) (append_assoc (rows x) (joined_of rows xs) (replicate blanks blank))
        ∙ ap (map show) (rules_next (rows x) (all_rows xs) (one x (Memᴰ.head refl)))
        ∙ ap₂ ◌∷◌
        (ap (λ (behind : List Text). show (rows x ++ behind)) e ∙ shown x (Memᴰ.head refl) k)
        (rules_shown xs (λ y m. one y (Memᴰ.tail m)) (λ y m. shown y (Memᴰ.tail m)))
