-- Document files: nodes (30, or 32 with text) parent before children, left to right, then end (3F); and which refusal comes first.
use Rattle.std.specs.Prelude.{ℕ, zero, suc, Bool, true, false, ◌&&◌, ◌||◌, not, List, [], ◌∷◌, ◌++◌, length, eqb, leb, ltb, Result, Ok, Err}
use Rattle.grammar.specs.Limits.{Limits}
use Rattle.grammar.specs.Names.{Classes, is_name}
use Rattle.grammar.specs.Tree.{Head, Tree, node, Forest, []ᵗ, ◌∷ᵗ◌}
use Rattle.grammar.specs.Outcome.{◌>>=◌, ◌>>◌, turn_back}
use Rattle.grammar.specs.declared.Refusal.{Refusal}
use Rattle.grammar.specs.Fields.{Field, Fields, no_bytes, past_end, ◌then◌, fields_of}
use Rattle.grammar.specs.ReadTable.{is_empty, bytes_left}
use Rattle.grammar.specs.declared.Refusal.TheVariants.{InputTooLong, FieldPastEnd, BadField, BadName, BadTree, BytesAfterEnd}

-- a node without text, and one that holds text
abbrev pub node_tag : Bool → ℕ
node_tag false = 0x30
node_tag true = 0x32

abbrev pub document_end_tag : ℕ
document_end_tag = 0x3F

unfoldable pub is_node_tag : ℕ → Bool
is_node_tag tag = eqb tag (node_tag false) || eqb tag (node_tag true)

-- a node as it stands in the file
pub record Node : Type 0 where
  pub head : Head
  pub children : ℕ

-- What is read so far: the nodes, and for each open level, innermost first, how many nodes are still to come there. A level with
-- none to come is closed when it is innermost. At first the root is to come; the tree is complete when no level is open.
pub record Opened : Type 0 where
  pub nodes : List Node
  pub to_come : List ℕ

abbrev pub nothing_read : Opened
nothing_read = record { nodes = []; to_come = 1 ∷ [] }

unfoldable pub closed : List ℕ → List ℕ
closed [] = []
closed (zero ∷ outer) = closed outer
closed (suc n ∷ outer) = suc n ∷ outer

-- the open levels after a node with so many children on the innermost
unfoldable pub after_node : ℕ → List ℕ → List ℕ
unfolding closed
after_node children [] = []
after_node children (zero ∷ outer) = outer
after_node children (suc n ∷ outer) = closed (children ∷ n ∷ outer)

unfoldable pub with_node : Opened → Node → Opened
unfolding after_node
with_node o n = record { nodes = o.nodes ++ (n ∷ []); to_come = after_node n.children o.to_come }

-- The node is one too many, has too many children, lies too deep or follows a complete tree. Its level is the number of open levels.
unfoldable pub bad_node : Limits → Opened → Node → Bool
bad_node lim o n =
    leb lim.nodes (length o.nodes)
    || ltb lim.children n.children
    || ltb lim.levels (length o.to_come)
    || is_empty o.to_come

-- A node: child count byte, then a name of at least one byte. Its tag tells whether it holds text.
unfoldable pub read_node : Limits → Classes → Opened → Field → Result Opened Refusal
unfolding is_node_tag is_name bad_node with_node
read_node lim classes o f =
    elim f.value [
      | [] ↦ Err BadField
      | k ∷ name ↦ do
        let head : Head = record { name = name; text = eqb f.tag (node_tag true) }
        turn_back (not (is_node_tag f.tag && leb 1 (length name) && leb (length name) lim.name)) BadField
        turn_back (not (is_name classes name)) BadName
        turn_back (bad_node lim o (record { head = head; children = k })) BadTree
        Ok (with_node o (record { head = head; children = k }))
    ]

-- the rest of a document, of which `o` is read
unfoldable pub read_node_fields : Limits → Classes → Opened → Fields → Result (List Node) Refusal
unfolding read_node
read_node_fields lim classes o no_bytes = Err FieldPastEnd
read_node_fields lim classes o past_end = Err FieldPastEnd
read_node_fields lim classes o (f then rest) =
    elim (eqb f.tag document_end_tag) [
      | true ↦ do
        turn_back (not (is_empty f.value)) BadField
        turn_back (not (is_empty o.to_come)) BadTree
        turn_back (bytes_left rest) BytesAfterEnd
        Ok o.nodes
      | false ↦ read_node lim classes o f >>= λ more. read_node_fields lim classes more rest
    ]

unfoldable pub read_nodes : Limits → Classes → List ℕ → Result (List Node) Refusal
unfolding read_node_fields fields_of
read_nodes lim classes bytes = do
  turn_back (ltb lim.input (length bytes)) InputTooLong
  read_node_fields lim classes nothing_read (fields_of bytes)

-- the first trees of a forest, and those after them
unfoldable pub first_trees : ℕ → Forest → Forest
first_trees zero f = []ᵗ
first_trees (suc n) []ᵗ = []ᵗ
first_trees (suc n) (t ∷ᵗ ts) = t ∷ᵗ first_trees n ts

unfoldable pub other_trees : ℕ → Forest → Forest
other_trees zero f = f
other_trees (suc n) []ᵗ = []ᵗ
other_trees (suc n) (t ∷ᵗ ts) = other_trees n ts

-- The trees of nodes, parent before children: a node takes as its children the first trees of what follows.
unfoldable pub forest_of : List Node → Forest
unfolding first_trees other_trees
forest_of [] = []ᵗ
forest_of (n ∷ ns) =
    let after : Forest = forest_of ns in
    node n.head (first_trees n.children after) ∷ᵗ other_trees n.children after

-- the tree of nodes that are complete
unfoldable pub tree_of : List Node → Result Tree Refusal
unfolding forest_of
tree_of ns = elim (forest_of ns) [ []ᵗ ↦ Err BadTree | t ∷ᵗ ts ↦ Ok t ]

unfoldable pub read_document_file : Limits → Classes → List ℕ → Result Tree Refusal
unfolding read_nodes tree_of
read_document_file lim classes bytes = read_nodes lim classes bytes >>= tree_of
