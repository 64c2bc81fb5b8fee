-- The outcomes of the calls that decide, where there is enough working memory.
use Rattle.std.specs.Prelude.{ℕ, Bool, not, List, Result, Ok}
use Rattle.grammar.specs.Limits.{Limits}
use Rattle.grammar.specs.Names.{Classes, loads}
use Rattle.grammar.specs.Kinds.{Kind}
use Rattle.grammar.specs.Outcome.{◌>>=◌, ◌>>◌, turn_back}
use Rattle.grammar.specs.declared.Refusal.{Refusal}
use Rattle.grammar.specs.ReadTable.{read_table}
use Rattle.grammar.specs.Documents.{read_document}
use Rattle.grammar.specs.Membership.{lets_in}
use Rattle.grammar.specs.KindTests.{is_of_kind}
use Rattle.grammar.specs.declared.Format.{Format}
use Rattle.grammar.specs.declared.Refusal.TheVariants.{BadClasses}

unfoldable pub lets_in_of : Limits → Classes → (table : List ℕ) → Format → (document : List ℕ) → Result Bool Refusal
lets_in_of lim classes table format document = do
  turn_back (not (loads classes)) BadClasses
  g ← read_table lim classes table
  d ← read_document lim classes format document
  Ok (lets_in g d)

unfoldable pub is_of_kind_of : Limits → Classes → Kind → List ℕ → Result Bool Refusal
is_of_kind_of lim classes kind table = do
  turn_back (not (loads classes)) BadClasses
  g ← read_table lim classes table
  Ok (is_of_kind kind g)
