-- A call's table in a draft, before the output is looked at, where there is enough working memory.
use Rattle.std.specs.Prelude.{ℕ, ◌≤◌, not, List, ◌≡◌, length, take, Result, Ok, Err}
use Rattle.grammar.specs.Limits.{Limits}
use Rattle.grammar.specs.Names.{Classes, loads}
use Rattle.grammar.specs.Table.{Table}
use Rattle.grammar.specs.Kinds.{Kind}
use Rattle.grammar.specs.Outcome.{◌>>=◌, ◌>>◌, turn_back}
use Rattle.grammar.specs.declared.Refusal.{Refusal}
use Rattle.grammar.specs.Answers.{written}
use Rattle.grammar.specs.ReadTable.{read_table}
use Rattle.grammar.specs.Documents.{read_document}
use Rattle.grammar.specs.WriteTable.{table_bytes}
use Rattle.grammar.specs.Widen.{widen, sample_table}
use Rattle.grammar.specs.Calls.{out_after, written_to, read_addition}
use Rattle.grammar.specs.declared.Format.{Format}
use Rattle.grammar.specs.declared.Source.{Source}
use Rattle.grammar.specs.declared.Refusal.TheVariants.{BadClasses}

unfoldable pub sample_of : Limits → Classes → Format → List ℕ → Result Table Refusal
sample_of lim classes format document = do
  d ← read_document lim classes format document
  sample_table lim d

-- a table that was read, widened
unfoldable pub widened_by : Limits → Classes → Source → Kind → Table → List ℕ → Result Table Refusal
widened_by lim classes source kind g addition = do
  a ← read_addition lim classes source addition
  widen lim kind g a

-- The classes are tried before an input.
unfoldable pub sampled_from : Limits → Classes → Format → List ℕ → Result Table Refusal
unfolding loads sample_of
sampled_from lim classes format document = do
  turn_back (not (loads classes)) BadClasses
  sample_of lim classes format document

unfoldable pub widened_from : Limits → Classes → Source → Kind → List ℕ → List ℕ → Result Table Refusal
unfolding loads widened_by
widened_from lim classes source kind old addition = do
  turn_back (not (loads classes)) BadClasses
  g ← read_table lim classes old
  widened_by lim classes source kind g addition

-- the table stands at the front of the draft; or the answer is why there is none
pub record InDraft (o : Result Table Refusal) (draft : List ℕ) (made : Result ℕ Refusal) : Type 0 where
  pub made_is : made ≡ written (o >>= λ g. Ok (table_bytes g))
  pub bytes : (g : Table) → o ≡ Ok g → take (length (table_bytes g)) draft ≡ table_bytes g
  pub room : (g : Table) → o ≡ Ok g → length (table_bytes g) ≤ length draft

-- no more is made than the draft has
abbrev pub FitsDraft : List ℕ → Result ℕ Refusal → Type 0
FitsDraft draft (Ok n) = n ≤ length draft
FitsDraft draft (Err r) = Unit {0}

-- the answer, and the output as it is left
abbrev pub HandedOver : Result Table Refusal → (out left : List ℕ) → Result ℕ Refusal → Type 0
HandedOver o out left answer = (answer ≡ written (o >>= written_to out)) × (left ≡ out_after (o >>= written_to out) out)
