-- Short forms for writing example tables and documents.
use Prim.Native.Nat.{ℕ, zero}
use Prim.Native.String.{String}
use mathlib.Core.Bool.{Bool, true, false}
use mathlib.Core.List.{List, [], ◌∷◌, map}
use Rattle.grammar.specs.Ascii.{ascii}
use Rattle.grammar.specs.Content.{Content}
use Rattle.grammar.specs.Tree.{Head, Tree, node, Forest, []ᵗ, ◌∷ᵗ◌}
use Rattle.grammar.specs.Table.{Rule, Table}
use Rattle.grammar.specs.Fields.{field_bytes}
use Rattle.grammar.specs.ReadDocument.{node_tag, document_end_tag}

-- a rule by type, label and content, and one for text
abbrev pub rule : ℕ → ℕ → Content → Rule
rule k l c = record { type = k; label = l; content = c; text = false }

abbrev pub text_rule : ℕ → ℕ → Content → Rule
text_rule k l c = record { type = k; label = l; content = c; text = true }

-- a table by its label names and rules, with type 0 its only start
unfoldable pub starting_at0 : List String → List Rule → Table
unfolding ascii
starting_at0 names rules = record { labels = map ascii names; starts = zero ∷ []; rules = rules }

-- a table of one label, one start and one rule with this content
unfoldable pub one_rule : Content → Table
unfolding starting_at0
one_rule c = starting_at0 ("a" ∷ []) (rule 0 0 c ∷ [])

-- the head of a node by its name
unfoldable pub head : String → Bool → Head
unfolding ascii
head name text = record { name = ascii name; text = text }

unfoldable pub forest : List Tree → Forest
forest [] = []ᵗ
forest (t ∷ more) = t ∷ᵗ forest more

-- a tree by its name and its subtrees, and one whose root holds text
unfoldable pub tree : String → List Tree → Tree
unfolding head forest
tree name ts = node (head name false) (forest ts)

unfoldable pub text_tree : String → List Tree → Tree
unfolding head forest
text_tree name ts = node (head name true) (forest ts)

-- the field of a node by its name and its number of children, and the end field
unfoldable pub node_field : String → ℕ → List ℕ
unfolding field_bytes ascii
node_field name children = field_bytes (node_tag false) (children ∷ ascii name)

unfoldable pub end_of_document : List ℕ
unfolding field_bytes
end_of_document = field_bytes document_end_tag []
