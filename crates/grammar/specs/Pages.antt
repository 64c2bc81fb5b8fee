-- A table on printed pages: rows of three columns, type, name and content, and so many rows a page.
use Rattle.std.specs.Prelude.{ℕ, ◌+◌, ◌-◌, ◌*◌, ◌/◌, ◌%◌, max, List, [], ◌++◌, map, length, get_or, take, drop, replicate, Result, Ok, Err}
use Rattle.grammar.specs.Ascii.{ascii}
use Rattle.grammar.specs.Lists.{joined_of, numbers_below}
use Rattle.grammar.specs.Limits.{Limits}
use Rattle.grammar.specs.Names.{Classes}
use Rattle.grammar.specs.Table.{Rule, Table}
use Rattle.grammar.specs.declared.Refusal.{Refusal}
use Rattle.grammar.specs.ReadTable.{read_table}
use Rattle.grammar.specs.Listing.{Text, type_text, content_text, text_mark, refusal_line}

-- the widths of the three columns, and the rows of a page
pub record Layout : Type 0 where
  pub type : ℕ
  pub name : ℕ
  pub content : ℕ
  pub page : ℕ

-- 72 columns wide, 60 lines a page: type in columns 1 to 3, name in 5 to 27, content in 29 to 72
unfoldable pub page_layout : Layout
page_layout = record { type = 3; name = 23; content = 44; page = 60 }

-- the three texts of a rule, as the lister writes them
pub record RuleTexts : Type 0 where
  pub type : Text
  pub name : Text
  pub content : Text

unfoldable pub texts_of : Table → Rule → RuleTexts
unfolding type_text content_text text_mark
texts_of g r =
    record {
      type = type_text r.type;
      name = get_or g.labels r.label [];
      content = content_text r.content ++ text_mark r.text;
    }

-- those of no rule
abbrev pub no_texts : RuleTexts
no_texts = record { type = []; name = []; content = [] }

abbrev pub space : ℕ
space = 0x20

-- A text goes on to further lines of its own column, each line filled first: how many lines it takes.
unfoldable pub lines_of : ℕ → Text → ℕ
lines_of width text = (length text + (width - 1)) / width

-- Line i of a text has its bytes from i times the width on, padded with spaces to the width.
unfoldable pub padded : ℕ → Text → Text
padded width piece = piece ++ replicate (width - length piece) space

unfoldable pub line_of : ℕ → Text → ℕ → Text
unfolding padded
line_of width text i = padded width (take width (drop (i * width) text))

-- Row i of a rule: a line of each column, spaces between them, a line feed.
unfoldable pub row_of : Layout → RuleTexts → ℕ → Text
unfolding line_of ascii
row_of l t i =
    line_of l.type t.type i
    ++ ascii " "
    ++ line_of l.name t.name i
    ++ ascii " "
    ++ line_of l.content t.content i
    ++ ascii "\n"

-- A rule takes as many rows as its longest text, counted in lines of its own column.
unfoldable pub rows_of : Layout → RuleTexts → ℕ
unfolding lines_of
rows_of l t =
    max (lines_of l.type t.type) (max (lines_of l.name t.name) (lines_of l.content t.content))

-- the rows of a rule
unfoldable pub rule_rows : Layout → RuleTexts → List Text
unfolding row_of rows_of numbers_below
rule_rows l t = map (row_of l t) (numbers_below (rows_of l t))

-- the rows of all rules, in rule order
unfoldable pub table_rows : Layout → Table → List Text
unfolding texts_of rule_rows joined_of
table_rows l g = joined_of (λ r. rule_rows l (texts_of g r)) g.rules

-- Blank rows, padded too, fill the last page; no rules print no page.
unfoldable pub blank_row : Layout → Text
unfolding row_of
blank_row l = row_of l no_texts 0

unfoldable pub blanks_after : ℕ → ℕ → ℕ
blanks_after page rows = (page - rows % page) % page

-- all rows, the blank ones behind
unfoldable pub page_rows : Layout → Table → List Text
unfolding table_rows blank_row blanks_after
page_rows l g = table_rows l g ++ replicate (blanks_after l.page (length (table_rows l g))) (blank_row l)

-- the pages: the rows one after the other
unfoldable pub pages : Layout → Table → Text
unfolding page_rows joined_of
pages l g = joined_of (λ row. row) (page_rows l g)

-- What the printer prints for the bytes of `old.tbl`: the pages of the table, or one line for a refusal.
unfoldable pub pages_text : Result Table Refusal → Text
unfolding pages page_layout refusal_line
pages_text (Ok g) = pages page_layout g
pages_text (Err r) = refusal_line r

unfoldable pub printing : Limits → Classes → List ℕ → Text
unfolding pages_text read_table
printing lim classes file = pages_text (read_table lim classes file)
