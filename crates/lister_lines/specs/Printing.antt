-- What the printers ask and what they leave.
use Rattle.reader.specs.declared.index.TableIndex.{TableIndex}
use Rattle.std.specs.Prelude.{ℕ, ◌+◌, ◌≤◌, List, [], ◌∷◌, ◌++◌, ◌≡◌, length, get_or}
use Rattle.grammar.specs.Limits.{large}
use Rattle.grammar.specs.Content.{Contents, []ᶜ, ◌∷ᶜ◌}
use Rattle.grammar.specs.Table.{Table}
use Rattle.grammar.specs.Listing.{Text, content_text, continued}
use Rattle.reader.specs.ContentAt.{ContentAt, ContentsAt}
use Rattle.reader.specs.Held.{SomeHeld}
use Rattle.writer.specs.Writing.{Put}
use Rattle.lister_lines.specs.declared.content_text.Ends.{Ends}

-- the mark of an operator: ',' and '|' between operands; '*', '+' and '?' after one
unfoldable pub mark_of : ℕ → ℕ
mark_of b = get_or (0x20 ∷ 0x20 ∷ 0x20 ∷ 0x2C ∷ 0x7C ∷ 0x2A ∷ 0x2B ∷ 0x3F ∷ []) b 0

-- contents one after the other, with one mark before the first and another before each later one
unfoldable pub row_text : (first mark : ℕ) → Contents → Text
unfolding content_text
row_text first mark []ᶜ = []
row_text first mark (c ∷ᶜ cs) = (first ∷ content_text c) ++ continued (mark ∷ []) cs

-- A proper content stands at a place, and there is room for its text.
pub record Printable (content : List ℕ) (at : ℕ) (text : List ℕ) (end : ℕ) : Type 0 where
  pub there : ContentAt large content at
  pub room : end + length (content_text there.content) ≤ length text

-- the same for so many, one after the other
pub record RowPrintable (content : List ℕ) (at n first mark : ℕ) (text : List ℕ) (end : ℕ) : Type 0 where
  pub there : ContentsAt large content at n
  pub room : end + length (row_text first mark there.contents) ≤ length text

-- These bytes are written, and the walk goes on at the next place.
pub record Printed (before : List ℕ) (at : ℕ) (bytes : Text) (next : ℕ) (after : List ℕ) (r : Ends) : Type 0 where
  pub content : r.content ≡ next
  pub put : Put before at bytes after r.text

-- This text of the table that was read is written, and it is no longer than so much.
pub record TextPut (s : List ℕ) (index : TableIndex) (words : Table → Text) (most : ℕ) (before : List ℕ) (at : ℕ) (after : List ℕ)
    (r : ℕ) : Type 0 where
  pub put : (f : SomeHeld large s index) → Put before at (words f.table) after r
  pub short : r ≤ at + most
