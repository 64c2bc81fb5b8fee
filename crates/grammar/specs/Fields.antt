-- Both files are tagged fields: one tag byte, a two-byte length (high byte first), the value.
use Rattle.std.specs.Prelude.{ℕ, zero, suc, ◌+◌, ◌*◌, ◌/◌, ◌%◌, true, false, List, [], ◌∷◌, length, take, drop, leb}

pub record Field : Type 0 where
  pub tag : ℕ
  pub value : List ℕ

infixr 40 ◌then◌
-- The fields of an input, front to back, up to its end or to a field that runs past it.
pub data Fields : Type 0 where
  no_bytes : Fields
  past_end : Fields
  ◌then◌ : Field → Fields → Fields

-- `n` bounds the number of fields
unfoldable pub fields_within : ℕ → List ℕ → Fields
fields_within zero bytes = no_bytes
fields_within (suc n) [] = no_bytes
fields_within (suc n) (tag ∷ []) = past_end
fields_within (suc n) (tag ∷ high ∷ []) = past_end
fields_within (suc n) (tag ∷ high ∷ low ∷ rest) =
    elim (leb (high * 256 + low) (length rest)) [
      | true ↦ record { tag = tag; value = take (high * 256 + low) rest } then fields_within n (drop (high * 256 + low) rest)
      | false ↦ past_end
    ]

-- each field takes at least three bytes, so there are no more fields than bytes
unfoldable pub fields_of : List ℕ → Fields
unfolding fields_within
fields_of bytes = fields_within (length bytes) bytes

unfoldable pub field_bytes : ℕ → List ℕ → List ℕ
field_bytes tag value = tag ∷ length value / 256 ∷ length value % 256 ∷ value
