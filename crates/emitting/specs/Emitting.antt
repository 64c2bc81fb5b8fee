-- What the emitter is given and what it answers.
use Rattle.std.specs.Prelude.{ℕ, ◌+◌, ◌-◌, ◌*◌, ◌≤◌, ◌<◌, List, ◌≡◌, length, take, Ok, Err, Result}
use Rattle.std.proofs.Math.Option.{some as just}
use Rattle.grammar.specs.Limits.{large, content_limit}
use Rattle.grammar.specs.Content.{Contents, nesting, deepest}
use Rattle.grammar.specs.declared.TooLarge.{TooLarge}
use Rattle.theory.specs.Alternatives.{some_left}
use Rattle.sets.specs.Sets.{member}
use Rattle.reader.specs.ExprAt.{◌up_to◌, exprs_at}
use Rattle.reader.specs.ContentAt.{ContentAt, ContentsAt}
use Rattle.union.specs.Walks.{list_of_type}
use Rattle.operands.specs.Drafts.{headed_length, Kept, Unfit}
use Rattle.operands.specs.Notes.{row_words}
use Rattle.operands.specs.declared.drafts.OperandRow.{OperandRow}
use Rattle.emitting.specs.declared.emitter.Emitted.{Emitted}

-- the set of the source types that have result types
pub record Maps (types from results : List ℕ) : Type 0 where
  pub words : 4 ≤ length types
  pub agree : (k : ℕ) → k < 128 → member types 0 k ≡ some_left (list_of_type from results) k

-- some operands stand in the draft, within the limit, and there is room for one more of a few bytes
pub record RoomForMore (draft : List ℕ) (row : OperandRow) : Type 0 where
  pub kept : Kept draft row.base row.count row.end
  pub fits : row.end ≤ row.limit
  pub small : row.limit ≤ row.base + content_limit
  pub room : row.limit + headed_length ≤ length draft

-- A source content, the operands kept so far, and room for what it gives. A draft that is so long for the source's nesting is
-- never too short, and so many words are the registers of all rows in it.
pub record Source (content : List ℕ) (at : ℕ) (types from results draft : List ℕ) (row : OperandRow) (words : ℕ) : Type 0 where
  pub there : ContentAt large content at
  pub maps : Maps types from results
  pub kept : Kept draft row.base row.count row.end
  pub fits : row.end ≤ row.limit
  pub small : row.limit ≤ row.base + content_limit
  pub room : row.limit + headed_length * nesting there.content ≤ length draft
  pub deep : row_words * nesting there.content ≤ words

-- the same of so many source contents, one after the other
pub record Sources (content : List ℕ) (at n : ℕ) (types from results draft : List ℕ) (row : OperandRow) (words : ℕ) : Type 0 where
  pub there : ContentsAt large content at n
  pub maps : Maps types from results
  pub kept : Kept draft row.base row.count row.end
  pub fits : row.end ≤ row.limit
  pub small : row.limit ≤ row.base + content_limit
  pub room : row.limit + headed_length * deepest there.contents ≤ length draft
  pub deep : row_words * deepest there.contents ≤ words

-- source contents that are to be written as operands from a place on, of an expression whose bytes begin at `start`
pub record Operands (content : List ℕ) (at n : ℕ) (types from results draft : List ℕ) (start place words : ℕ) : Type 0 where
  pub there : ContentsAt large content at n
  pub maps : Maps types from results
  pub forward : start < place
  pub fits : place ≤ start + content_limit
  pub room : start + headed_length + headed_length * deepest there.contents ≤ length draft
  pub deep : row_words * deepest there.contents ≤ words

-- these operands stand in the draft from a place on, within the limit, and the bytes before it are kept
pub record Laid (before after : List ℕ) (start place n : ℕ) (cs : Contents) (end : ℕ) : Type 0 where
  pub stand : exprs_at after place n ≡ just (cs up_to end)
  pub forward : place ≤ end
  pub fits : end ≤ start + content_limit
  pub keeps : take place after ≡ take place before

-- the answer: these operands stand there, and the source goes on at `next`; or they do not fit
unfoldable pub Emits : List ℕ → List ℕ → ℕ → ℕ → ℕ → ℕ → Contents → Result Emitted TooLarge → Type 0
Emits before after start place n next cs (Err over) = Unfit (start + content_limit - place) cs
Emits before after start place n next cs (Ok e) = (e.next ≡ next) × Laid before after start place n cs e.end
