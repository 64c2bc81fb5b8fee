-- Whether a type of a sample is for text, by arrays of shapes and types.
use Rattle.std.specs.Prelude.{ℕ, ◌≤◌, Bool, List, eqb, leb, length, get_or}
use Rattle.grammar.specs.Lists.{any_pass, keep, numbers_below}

-- whether a node holds text: its shape tells
abbrev pub mark_in : List ℕ → ℕ → Bool
mark_in shapes i = leb 256 (get_or shapes i 0)

-- whether any node of a type holds text
abbrev pub text_in : (shapes types : List ℕ) → ℕ → ℕ → Bool
text_in shapes types n k = any_pass (mark_in shapes) (keep (λ (j : ℕ). eqb (get_or types j 0) k) (numbers_below n))

-- the arrays hold the shapes and the types of nodes
pub record MarksHeld (shapes types : List ℕ) (n : ℕ) : Type 0 where
  pub few : n ≤ 2048
  pub shapes_held : n ≤ length shapes
  pub types_held : n ≤ length types
