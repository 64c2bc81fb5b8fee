-- The bytes of a document.
use Rattle.std.specs.Prelude.{ℕ, List, [], ◌∷◌, ◌++◌}
use Rattle.grammar.specs.Lists.{joined_of}
use Rattle.grammar.specs.Tree.{Tree, node, Forest, []ᵗ, ◌∷ᵗ◌, trees}
use Rattle.grammar.specs.Fields.{field_bytes}
use Rattle.grammar.specs.ReadDocument.{node_tag, document_end_tag, Node}

-- the nodes of a tree as they stand in the file: parent before children, left to right
unfoldable mutual
  unfolding trees

  pub nodes_of : Tree → List Node
  nodes_of (node h ts) = record { head = h; children = trees ts } ∷ nodes_of_all ts

  pub nodes_of_all : Forest → List Node
  nodes_of_all []ᵗ = []
  nodes_of_all (t ∷ᵗ ts) = nodes_of t ++ nodes_of_all ts

unfoldable pub node_bytes : Node → List ℕ
unfolding field_bytes
node_bytes n = field_bytes (node_tag n.head.text) (n.children ∷ n.head.name)

unfoldable pub document_bytes : Tree → List ℕ
unfolding joined_of nodes_of node_bytes field_bytes
document_bytes d = joined_of node_bytes (nodes_of d) ++ field_bytes document_end_tag []
