-- Text as bytes.
use Rattle.std.specs.Prelude.{ℕ, List, [], ◌∷◌}
use Prim.Native.String.{String, [] as no_text, ◌∷◌ as ◌before◌}
use Prim.Native.Char.{code}

-- the codes of a text's characters; of an ASCII text, its bytes
unfoldable pub ascii : String → List ℕ
ascii no_text = []
ascii (c before s) = code c ∷ ascii s
