-- A document as XML text: a start tag, the children, an end tag.
use Rattle.std.specs.Prelude.{ℕ, List, [], ◌∷◌, ◌++◌}
use Rattle.grammar.specs.Names.{Name}
use Rattle.grammar.specs.Tree.{Tree, node, Forest, []ᵗ, ◌∷ᵗ◌}
use Rattle.grammar.specs.ReadText.{less_than, slash, greater_than}

unfoldable pub start_tag_bytes : Name → List ℕ
start_tag_bytes name = less_than ∷ name ++ (greater_than ∷ [])

unfoldable pub end_tag_bytes : Name → List ℕ
end_tag_bytes name = less_than ∷ slash ∷ name ++ (greater_than ∷ [])

unfoldable mutual
  unfolding start_tag_bytes end_tag_bytes

  pub text_bytes : Tree → List ℕ
  text_bytes (node h ts) = start_tag_bytes h.name ++ text_bytes_of ts ++ end_tag_bytes h.name

  pub text_bytes_of : Forest → List ℕ
  text_bytes_of []ᵗ = []
  text_bytes_of (t ∷ᵗ ts) = text_bytes t ++ text_bytes_of ts
