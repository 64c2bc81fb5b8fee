-- What a case file says: numbers of four bytes, what lent slices hold before a call, and where a name stands.
use Rattle.std.specs.Prelude.{ℕ, zero, suc, ◌+◌, ◌*◌, ◌%◌, ◌≤◌, List, [], ◌∷◌, ◌++◌, length}
use Rattle.grammar.specs.Names.{SameName}
use Rattle.reader.specs.TableIndex.{part}

-- four bytes as a number, high byte first
abbrev pub high_first : ℕ → ℕ → ℕ → ℕ → ℕ
high_first a b c d = ((a * 256 + b) * 256 + c) * 256 + d

-- so many items, each settled by its place
unfoldable pub listed : (ℕ → ℕ) → ℕ → List ℕ
listed f zero = []
listed f (suc n) = listed f n ++ (f n ∷ [])

-- the byte of an output slice at a place, before the call
abbrev pub output_byte : ℕ → ℕ
output_byte i = (165 + 7 * i) % 256

-- a name equal to this one stands at a place of a table
pub record NameAt (table : List ℕ) (place : ℕ) (name : List ℕ) : Type 0 where
  pub within : place + length name ≤ length table
  pub same : SameName (part table place (place + length name)) name
