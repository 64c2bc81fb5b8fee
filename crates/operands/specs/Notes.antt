-- What is noted of the operands that stand in a draft: the set of the result types among them, and one word for each operand, by which
-- an equal one is found without passing over their bytes.
use Rattle.std.specs.Prelude.{ℕ, ◌+◌, ◌*◌, ◌%◌, ◌≤◌, ◌<◌, List, [], ◌∷◌, ◌≡◌, length, take, drop}
use Rattle.grammar.specs.Limits.{operand_limit, nesting_limit}
use Rattle.grammar.specs.Lists.{any_pass}
use Rattle.grammar.specs.Content.{Content, type}
use Rattle.grammar.specs.ReadContent.{content_bytes, same_content}
use Rattle.sets.specs.Sets.{member}

-- fingerprints are the numbers below this
abbrev pub prints : ℕ
prints = 65536

-- bytes folded into such a number, from one on
unfoldable pub folded : ℕ → List ℕ → ℕ
folded h [] = h
folded h (b ∷ bs) = folded ((h * 31 + b) % prints) bs

-- the fingerprint of an operand is that of its first bytes: equal operands have the same, others seldom
unfoldable pub fingerprint : List ℕ → ℕ
fingerprint bytes = folded 0 (take 16 bytes)

-- the note of an operand: its fingerprint, and how many bytes stand before it in the row
unfoldable pub note : ℕ → List ℕ → ℕ
note before bytes = fingerprint bytes * prints + before

unfoldable pub notes_of : ℕ → List Content → List ℕ
notes_of before [] = []
notes_of before (d ∷ ds) = note before (content_bytes d) ∷ notes_of (before + length (content_bytes d)) ds

-- the first words are the notes of these operands, and there is room for those of as many as a choice can have
pub record Noted (notes : List ℕ) (ds : List Content) : Type 0 where
  pub room : operand_limit ≤ length notes
  pub there : take (length ds) notes ≡ notes_of 0 ds

-- the first words are the set of the result types among these operands; so many words have a bit for every byte
abbrev pub type_words : ℕ
type_words = 8

pub record TypesKept (words : List ℕ) (ds : List Content) : Type 0 where
  pub room : type_words ≤ length words
  pub there : (t : ℕ) → t < 256 → member words 0 t ≡ any_pass (same_content (type t)) ds

-- The register of a row: that set, and after it the notes.
pub record Registered (register : List ℕ) (ds : List Content) : Type 0 where
  pub types : TypesKept register ds
  pub noted : Noted (drop type_words register) ds

-- how many words are the register of a row, and how many hold those of a row at each level that contents nest
abbrev pub row_words : ℕ
row_words = type_words + operand_limit

abbrev pub register_length : ℕ
register_length = row_words * nesting_limit
