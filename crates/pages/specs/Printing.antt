-- What the printers ask and what they leave.
use Rattle.reader.specs.declared.index.TableIndex.{TableIndex}
use Rattle.std.specs.Prelude.{ℕ, ◌*◌, ◌≤◌, List, ◌≡◌, length, Result}
use Rattle.grammar.specs.Limits.{Limits, large}
use Rattle.grammar.specs.Names.{Classes}
use Rattle.grammar.specs.Outcome.{◌>>=◌}
use Rattle.grammar.specs.declared.Refusal.{Refusal}
use Rattle.grammar.specs.ReadTable.{read_table}
use Rattle.grammar.specs.Pages.{page_layout, RuleTexts, table_rows, pages}
use Rattle.grammar.specs.Answers.{written}
use Rattle.grammar.specs.Calls.{out_after, room_for}
use Rattle.reader.specs.Held.{SomeHeld}
use Rattle.reader.specs.TableIndex.{BytesStand}
use Rattle.pages.specs.declared.texts.TextPlaces.{TextPlaces}

-- the texts of a rule stand one after the other
pub record TextsStand (texts : List ℕ) (p : TextPlaces) (t : RuleTexts) : Type 0 where
  pub type : BytesStand texts 0 p.name t.type
  pub name : BytesStand texts p.name p.content t.name
  pub content : BytesStand texts p.content p.end t.content
  pub short : p.end ≤ 3139

-- some rule's texts do
pub record SomeTexts (texts : List ℕ) (p : TextPlaces) : Type 0 where
  pub texts_are : RuleTexts
  pub stand : TextsStand texts p texts_are

-- Some table is held, and there is room for the rows of its rules.
pub record RowsFit (s : List ℕ) (index : TableIndex) (out : List ℕ) : Type 0 where
  pub held : SomeHeld large s index
  pub room : 73 * length (table_rows page_layout held.table) ≤ length out

-- what an outcome leaves
pub record Leaves (o : Result (List ℕ) Refusal) (before after : List ℕ) (r : Result ℕ Refusal) : Type 0 where
  pub answer : r ≡ written o
  pub out : after ≡ out_after o before

-- these bytes are handed over, if there is room for them
abbrev pub HandedOver : (bytes before after : List ℕ) → Result ℕ Refusal → Type 0
HandedOver bytes before after r = Leaves (room_for before bytes) before after r

-- the pages of the table that some bytes read as
unfoldable pub pages_from : Limits → Classes → (table out : List ℕ) → Result (List ℕ) Refusal
unfolding read_table pages page_layout room_for
pages_from lim classes table out = read_table lim classes table >>= λ g. room_for out (pages page_layout g)
