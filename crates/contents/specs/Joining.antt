-- What joining the contents of a union's rules is given, and what gathering them answers.
use Rattle.std.specs.Prelude.{ℕ, ◌+◌, ◌*◌, ◌≤◌, ◌<◌, ◌≡◌, length, Ok, Result}
use mathlib.Core.List.{List, Memᴰ}
use Rattle.grammar.specs.Limits.{content_limit, nesting_limit}
use Rattle.grammar.specs.Content.{Content, nesting}
use Rattle.grammar.specs.Table.{Rule, Table}
use Rattle.grammar.specs.declared.TooLarge.{TooLarge}
use Rattle.theory.specs.Alternatives.{some_left}
use Rattle.sets.specs.Sets.{member}
use Rattle.union.specs.declared.united.United.{United}
use Rattle.union.specs.View.{Views}
use Rattle.union.specs.TypeLists.{ListsOf}
use Rattle.operands.specs.declared.drafts.Gathering.{Gathering}
use Rattle.operands.specs.declared.drafts.OperandRow.{OperandRow}
use Rattle.contents.specs.declared.joining.ResultTypes.{ResultTypes}
use Rattle.operands.specs.Drafts.{headed_length, Kept, GathersIn}
use Rattle.operands.specs.Notes.{Registered, register_length}

-- its contents nest no deeper than those of a table that was read
abbrev pub Shallow : Table → Type 0
Shallow u = (r : Rule) → Memᴰ r u.rules → nesting r.content ≤ nesting_limit

-- A union by its view, the result types of each of its types, and the set of its types that have some.
pub record Joining (old add : List ℕ) (v : United) (results : ResultTypes) : Type 0 where
  pub table : Table
  pub views : Views old add v table
  pub shallow : Shallow table
  pub of : ℕ → List ℕ
  pub lists : ListsOf of results.lists
  pub typed : (k : ℕ) → k < 256 → member results.types.words 0 k ≡ some_left of k

-- some operands stand in the draft, registered, and there is room for what any content gives
pub record Ready (draft register : List ℕ) (row : OperandRow) : Type 0 where
  pub kept : Kept draft row.base row.count row.end
  pub registered : Registered register kept.list
  pub fits : row.end ≤ row.limit
  pub small : row.limit ≤ row.base + content_limit
  pub room : row.limit + headed_length * nesting_limit ≤ length draft
  pub deep : register_length ≤ length register

-- no operands yet, of a content that is to stand at the front of a draft
abbrev pub content_row : OperandRow
content_row = record { base = 2; count = 0; end = 2; limit = headed_length }

-- these operands stand there, and they are registered; or they do not fit
pub record GathersRegistered (draft register : List ℕ) (row : OperandRow) (ds : List Content) (r : Result Gathering TooLarge) : Type 0 where
  pub gathers : GathersIn draft row ds r
  pub registered : {g : Gathering} → r ≡ Ok g → Registered register ds
