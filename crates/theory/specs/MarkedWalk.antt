-- The marks after one more child, computed in one walk over the bytes of a content, in the order in which the code goes.
--
-- Bytes carry the marks as one number for each byte of the content: at the first byte of an expression 1 where a mark can end the
-- expression, else 0; at any other byte (a type's number, a count) 0. So the old `final` of an operand is the number at its first
-- byte, read before the walk over it, and the walk ends by storing the new `final` there. At a type that number is its mark.
--   walk     for the expression c whose bytes begin at the place `at`
--   walks    a walk for each child, only the first may begin
use Rattle.std.specs.Prelude.{ℕ, ◌+◌, Bool, true, false, ◌&&◌, ◌||◌, List, [], ◌∷◌, eqb, get_or, set}
use Rattle.grammar.specs.Content.{Content, none, empty, type, sequence, choice, any_number, one_or_more, optional, Contents, []ᶜ, ◌∷ᶜ◌}

-- the number of a mark
unfoldable pub mark_number : Bool → ℕ
mark_number true = 1
mark_number false = 0

-- a mark can end the expression that stands at a place
unfoldable pub is_marked : List ℕ → ℕ → Bool
is_marked marks at = eqb (get_or marks at 0) 1

-- the walk over the numbers: the numbers after it, the place behind the expression, nullable, final
pub record Walked : Type 0 where
  pub marks : List ℕ
  pub next : ℕ
  pub nullable : Bool
  pub final : Bool

unfoldable mutual
  unfolding mark_number is_marked

  pub walk : Content → ℕ → List ℕ → Bool → (ℕ → Bool) → Walked
  walk none at marks b has = record { marks = marks; next = at + 1; nullable = false; final = false }
  walk empty at marks b has = record { marks = marks; next = at + 1; nullable = true; final = false }
  walk (type k) at marks b has =
      record { marks = set marks at (mark_number (b && has k)); next = at + 2; nullable = false; final = b && has k }
  walk (sequence cs) at marks b has =
      let p = walk_in_turn cs (at + 2) marks b has true false in
      record { marks = set p.marks at (mark_number p.final); next = p.next; nullable = p.nullable; final = p.final }
  walk (choice cs) at marks b has =
      let p = walk_each cs (at + 2) marks b has false false in
      record { marks = set p.marks at (mark_number p.final); next = p.next; nullable = p.nullable; final = p.final }
  walk (any_number c) at marks b has =
      let p = walk c (at + 1) marks (b || is_marked marks (at + 1)) has in
      record { marks = set p.marks at (mark_number p.final); next = p.next; nullable = true; final = p.final }
  walk (one_or_more c) at marks b has =
      let p = walk c (at + 1) marks (b || is_marked marks (at + 1)) has in
      record { marks = set p.marks at (mark_number p.final); next = p.next; nullable = p.nullable; final = p.final }
  walk (optional c) at marks b has =
      let p = walk c (at + 1) marks b has in
      record { marks = set p.marks at (mark_number p.final); next = p.next; nullable = true; final = p.final }

  pub walk_in_turn : Contents → ℕ → List ℕ → Bool → (ℕ → Bool) → Bool → Bool → Walked
  walk_in_turn []ᶜ at marks b has n f = record { marks = marks; next = at; nullable = n; final = f }
  walk_in_turn (c ∷ᶜ cs) at marks b has n f =
      let p = walk c at marks b has in
      walk_in_turn cs p.next p.marks ((b && p.nullable) || is_marked marks at) has (n && p.nullable)
      ((f && p.nullable) || p.final)

  pub walk_each : Contents → ℕ → List ℕ → Bool → (ℕ → Bool) → Bool → Bool → Walked
  walk_each []ᶜ at marks b has n f = record { marks = marks; next = at; nullable = n; final = f }
  walk_each (c ∷ᶜ cs) at marks b has n f =
      let p = walk c at marks b has in
      walk_each cs p.next p.marks b has (n || p.nullable) (f || p.final)

-- child by child
unfoldable pub walks : Content → List ℕ → Bool → List (ℕ → Bool) → List ℕ
unfolding walk
walks c marks b [] = marks
walks c marks b (has ∷ children) = walks c (walk c 0 marks b has).marks false children
