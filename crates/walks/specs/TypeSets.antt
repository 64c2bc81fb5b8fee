-- Sets of types as four words each, one after the other.
use Rattle.std.specs.Prelude.{ℕ, zero, suc, ◌+◌, Bool, List, [], ◌∷◌}
pub use Rattle.sets.specs.Sets.{set_at}

-- so many sets, from a word on
unfoldable pub tests_at : List ℕ → ℕ → ℕ → List (ℕ → Bool)
tests_at words at zero = []
tests_at words at (suc n) = set_at words at ∷ tests_at words (at + 4) n
