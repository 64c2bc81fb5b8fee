-- The walk of one child over the bytes of a content, and of all children: crates/theory/specs/MarkedWalk.antt has the walks by
-- contents, here they go by the content that stands at a place.
use Rattle.std.specs.Prelude.{ℕ, ◌+◌, ◌≤◌, Bool, false, List, ◌≡◌, length, set, get_or}
use Rattle.std.proofs.Math.Option.{none as nothing, some as just}
use Rattle.grammar.specs.Limits.{Limits, content_limit}
use Rattle.theory.specs.MarkedWalk.{Walked, mark_number, walk, walk_in_turn, walk_each, walks}
use Rattle.theory.specs.Marked.{run}
use Rattle.reader.specs.ExprAt.{expr_at, exprs_at}
use Rattle.reader.specs.ContentAt.{ContentAt}
use Rattle.walks.specs.declared.matching.Passed.{Passed}

-- nothing stands there
abbrev pub no_walk : List ℕ → ℕ → Walked
no_walk marks at = record { marks = marks; next = at; nullable = false; final = false }

-- for the expression at a place
unfoldable pub walk_at : List ℕ → ℕ → List ℕ → Bool → (ℕ → Bool) → Walked
walk_at s at marks b has = elim (expr_at s at) [ nothing ↦ no_walk marks at | just e ↦ walk e.content at marks b has ]

-- for so many operands of a sequence, one after the other
unfoldable pub walk_in_turn_at : List ℕ → ℕ → ℕ → List ℕ → Bool → (ℕ → Bool) → Bool → Bool → Walked
walk_in_turn_at s at n marks b has nullable final =
    elim (exprs_at s at n) [ nothing ↦ no_walk marks at | just e ↦ walk_in_turn e.content at marks b has nullable final ]

-- for so many operands of a choice
unfoldable pub walk_each_at : List ℕ → ℕ → ℕ → List ℕ → Bool → (ℕ → Bool) → Bool → Bool → Walked
walk_each_at s at n marks b has nullable final =
    elim (exprs_at s at n) [ nothing ↦ no_walk marks at | just e ↦ walk_each e.content at marks b has nullable final ]

-- the children one after the other, over the whole content
unfoldable pub walks_at : List ℕ → List ℕ → Bool → List (ℕ → Bool) → List ℕ
walks_at s marks b children = elim (expr_at s 0) [ nothing ↦ marks | just e ↦ walks e.content marks b children ]

-- whether the content matches the children
unfoldable pub run_at : List ℕ → List (ℕ → Bool) → Bool
run_at s children = elim (expr_at s 0) [ nothing ↦ false | just e ↦ run e.content children ]

-- what the code's walk gives back, with the marks that it leaves
abbrev pub walked : List ℕ → Passed → Walked
walked marks p = record { marks = marks; next = p.next; nullable = p.nullable; final = p.ends }

-- the first number of an expression tells its final
abbrev pub ended : ℕ → Walked → Walked
ended at p = record { marks = set p.marks at (mark_number p.final); next = p.next; nullable = p.nullable; final = p.final }

-- the bytes are one proper expression
pub record WholeAt (lim : Limits) (s : List ℕ) : Type 0 where
  pub proper_at : ContentAt lim s 0
  pub whole : proper_at.next ≡ length s

-- the expression at a place is a type under one operator
pub record AroundType (s : List ℕ) (at : ℕ) : Type 0 where
  pub operator : 5 ≤ get_or s at 0
  pub type : get_or s (at + 1) 0 ≡ 2

-- room for the walk: a mark for each byte, and the four words of a set at base
pub record WalkRoom (s marks words : List ℕ) (base : ℕ) : Type 0 where
  pub few : length s ≤ content_limit
  pub mark_each : length s ≤ length marks
  pub four_words : base + 4 ≤ length words
