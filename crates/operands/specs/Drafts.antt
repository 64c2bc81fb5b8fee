-- The draft in which a content is made. What stands in it is said by reading it back with `expr_at` and `exprs_at`; the records that
-- hold a content or a list are what a caller has to show once, and an answer is stated for each such record.
use Rattle.std.specs.Prelude.{ℕ, ◌+◌, ◌-◌, ◌*◌, ◌≤◌, ◌<◌, List, ◌≡◌, length, take, Err, Ok, Result}
use Rattle.std.proofs.Math.Option.{some as just}
use Rattle.grammar.specs.Limits.{content_limit, operand_limit, nesting_limit}
use Rattle.grammar.specs.Content.{Content, Contents, operands}
use Rattle.grammar.specs.ReadContent.{operand_bytes}
use Rattle.grammar.specs.Size.{widest_of}
use Rattle.grammar.specs.declared.TooLarge.{TooLarge}
use Rattle.theory.specs.Alternatives.{Gathered}
use Rattle.reader.specs.ExprAt.{◌up_to◌, expr_at, exprs_at}
use Rattle.operands.specs.declared.drafts.OperandRow.{OperandRow}
use Rattle.operands.specs.declared.drafts.Gathering.{Gathering}

-- A content, and two bytes before its operands.
abbrev pub headed_length : ℕ
headed_length = 2 + content_limit

-- How long a draft is: so much for each level that contents nest, and once more.
abbrev pub draft_length : ℕ
draft_length = headed_length * (nesting_limit + 1)

-- the same row with so many operands, up to here
abbrev pub reaching : OperandRow → (count end : ℕ) → OperandRow
reaching row count end = record { base = row.base; count = count; end = end; limit = row.limit }

-- from base, so many operands stand up to here, and they are these; no two are equal
pub record Row (draft : List ℕ) (base count : ℕ) (ds : List Content) (end : ℕ) : Type 0 where
  pub stand : exprs_at draft base count ≡ just (operands ds up_to end)
  pub apart : Gathered ds
  pub forward : base ≤ end
  pub inside : end ≤ length draft
  pub few : count ≤ operand_limit

-- some operands stand in the draft
pub record Kept (draft : List ℕ) (base count end : ℕ) : Type 0 where
  pub list : List Content
  pub row : Row draft base count list end

-- and after them one more expression, up to `fresh`
pub record Newest (draft : List ℕ) (row : OperandRow) (fresh : ℕ) : Type 0 where
  pub kept : Kept draft row.base row.count row.end
  pub newest : Content
  pub stands : expr_at draft row.end ≡ just (newest up_to fresh)

-- These do not fit: they have more bytes than there is room, or a choice in them has too many operands.
pub data Unfit (room : ℕ) (cs : Contents) : Type 0 where
  long : room < length (operand_bytes cs) → Unfit room cs
  wide : operand_limit < widest_of cs → Unfit room cs

-- So the choice of these does not: they do not, or there are too many.
pub data TooWide (room : ℕ) (ds : List Content) : Type 0 where
  unfit : Unfit room (operands ds) → TooWide room ds
  many : operand_limit < length ds → TooWide room ds

-- these operands stand in the draft, within the limit, and the bytes that stood before `old` are kept
pub record OperandsAdded (before after : List ℕ) (base old : ℕ) (ds : List Content) (limit count end : ℕ) : Type 0 where
  pub row : Row after base count ds end
  pub fits : end ≤ limit
  pub grows : old ≤ end
  pub keeps : take old after ≡ take old before

-- the answer of a gathering: these operands stand in the draft, and the source goes on at `next`; or they do not fit
unfoldable pub Gathers : List ℕ → List ℕ → ℕ → ℕ → ℕ → ℕ → List Content → Result Gathering TooLarge → Type 0
Gathers before after base old limit next ds (Err over) = TooWide (limit - base) ds
Gathers before after base old limit next ds (Ok g) = (g.next ≡ next) × OperandsAdded before after base old ds limit g.count g.end

-- the same, and where the operands fit, what is noted of them
pub record GathersWith (Holds : List Content → Type 0) (before after : List ℕ) (row : OperandRow) (next : ℕ) (ds : List Content)
    (r : Result Gathering TooLarge) : Type 0 where
  pub gathers : Gathers before after row.base row.end row.limit next ds r
  pub noted : {g : Gathering} → r ≡ Ok g → Holds ds

-- of a whole row: these operands stand in the draft, within the limit; or they do not fit
unfoldable pub GathersIn : List ℕ → OperandRow → List Content → Result Gathering TooLarge → Type 0
GathersIn draft row ds (Err over) = TooWide (row.limit - row.base) ds
GathersIn draft row ds (Ok g) = Row draft row.base g.count ds g.end × (g.end ≤ row.limit)

-- one finished content stands at a place, and the bytes before it are kept
pub record Finished (before after : List ℕ) (start : ℕ) (c : Content) (end : ℕ) : Type 0 where
  pub stands : expr_at after start ≡ just (c up_to end)
  pub keeps : take start after ≡ take start before
