-- Where the name of a label stands in its table.
use Rattle.std.specs.Prelude.{ℕ, ◌-◌, List, ◌≡◌, not, leb, length, Result, Ok, Err}
use Rattle.grammar.specs.Limits.{Limits}
use Rattle.grammar.specs.Names.{Name, Classes, loads}
use Rattle.grammar.specs.Outcome.{◌>>=◌, ◌>>◌, turn_back}
use Rattle.grammar.specs.Calls.{Part, part_of_label}
use Rattle.grammar.specs.ReadTable.{read_table}
use Rattle.grammar.specs.declared.Refusal.{Refusal}
use Rattle.grammar.specs.declared.Refusal.TheVariants.{BadClasses, OutOfRange}
use Rattle.reader.specs.TableIndex.{Inside}

-- the part of a table that is a label's name, where there is enough working memory
unfoldable pub label_part : Limits → Classes → List ℕ → ℕ → Result Part Refusal
unfolding loads read_table part_of_label
label_part lim classes table label = do
  turn_back (not (loads classes)) BadClasses
  g ← read_table lim classes table
  turn_back (leb (length g.labels) label) OutOfRange
  Ok (part_of_label g.labels label)

-- where the name of a label begins
unfoldable pub name_begins : List Name → ℕ → ℕ
unfolding part_of_label
name_begins labels label = (part_of_label labels label).from

-- where a label's name was found, or why it was not
pub record LabelSought (table : List ℕ) (o : Result Part Refusal) (r : Result (ℕ × ℕ) Refusal) : Type 0 where
  pub found : (from to : ℕ) → r ≡ Ok (from, to) → Inside table from to × (o ≡ Ok (record { from = from; size = to - from }))
  pub unfound : (q : Refusal) → r ≡ Err q → o ≡ Err q
