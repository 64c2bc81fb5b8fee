-- What the walk over a content finds: where proper expressions end and how deep they nest. `None` says that no proper expression
-- stands there: either none at all, or one with a wrong count or a type out of range.
use Rattle.std.specs.Prelude.{ℕ, ◌+◌, ◌<◌, max, Bool, true, false, List, length, get_or, ltb, Option, None, Some, Result, Ok, Err}
use Rattle.std.proofs.Math.Option.{Option as Maybe, none as nothing, some as just}
use Rattle.grammar.specs.Limits.{Limits}
use Rattle.grammar.specs.Content.{Content, nesting, deepest}
use Rattle.grammar.specs.ReadContent.{is_proper, are_proper}
use Rattle.grammar.specs.declared.Refusal.{Refusal}
use Rattle.reader.specs.ExprAt.{Placed, expr_at, exprs_at}
use Rattle.reader.specs.declared.expressions.Extent.{Extent}

-- proper expressions that end and nest so
abbrev pub upto : (next deep : ℕ) → Option Extent
upto next deep = Some (record { next = next; nesting = deep })

-- what stands there, where it is proper
abbrev pub extent_by : {A : Type 0} → (A → Bool) → (A → ℕ) → Maybe (Placed A) → Option Extent
extent_by proper deep nothing = None
extent_by proper deep (just e) = elim (proper e.content) [ true ↦ upto e.next (deep e.content) | false ↦ None ]

unfoldable pub proper_at : Limits → List ℕ → ℕ → Option Extent
proper_at lim s at = extent_by (is_proper lim) nesting (expr_at s at)

-- so many, one after the other
unfoldable pub proper_row_at : Limits → List ℕ → ℕ → ℕ → Option Extent
proper_row_at lim s at n = extent_by (are_proper lim) deepest (exprs_at s at n)

-- the number of a type
unfoldable pub type_extent : Limits → List ℕ → ℕ → Option Extent
type_extent lim s at =
    elim (ltb at (length s)) [
      | true ↦ elim (ltb (get_or s at 0) lim.types) [ true ↦ upto (at + 1) 1 | false ↦ None ]
      | false ↦ None
    ]

-- one operator above its operands
abbrev pub deeper_of : Option Extent → Option Extent
deeper_of None = None
deeper_of (Some e) = upto e.next (e.nesting + 1)

-- a first operand that nests so deep, before the others
abbrev pub joined_extent : ℕ → Option Extent → Option Extent
joined_extent first None = None
joined_extent first (Some e) = upto e.next (max first e.nesting)

abbrev pub NestsBelow : ℕ → Option Extent → Type 0
NestsBelow n None = Unit {0}
NestsBelow n (Some e) = e.nesting < n

-- the answer that a reading has
abbrev pub content_answer : Result Content Refusal → Result (Unit {0}) Refusal
content_answer (Err r) = Err r
content_answer (Ok c) = Ok tt
