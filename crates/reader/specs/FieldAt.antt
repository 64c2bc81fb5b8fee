-- The field at a place of an input, as places: its tag, where its value begins and where it ends.
use Rattle.std.specs.Prelude.{ℕ, ◌+◌, ◌*◌, ◌-◌, ◌≤◌, true, false, List, ◌≡◌, leb, length, get_or}
use Rattle.reader.specs.declared.fields.FieldAt.{FieldAt}
use Rattle.reader.specs.declared.fields.FieldAt.TheVariants.{Found, NoBytes, PastEnd}

-- the length that the field at a place says: high byte, low byte
abbrev pub size_at : List ℕ → ℕ → ℕ
size_at s at = get_or s (at + 1) 0 * 256 + get_or s (at + 2) 0

unfoldable pub field_at : List ℕ → ℕ → FieldAt
field_at s at =
    elim (leb (length s) at) [
      | true ↦ NoBytes
      | false ↦
          elim (leb (at + 3 + size_at s at) (length s)) [
            | true ↦ Found (get_or s at 0) (at + 3) (at + 3 + size_at s at)
            | false ↦ PastEnd
          ]
    ]

-- The value of a field with this tag begins here: the tag stands three bytes before.
pub record TagBefore (s : List ℕ) (from tag : ℕ) : Type 0 where
  pub behind : 3 ≤ from
  pub tagged : get_or s (from - 3) 0 ≡ tag
