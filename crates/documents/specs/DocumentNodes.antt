-- What reading a document found: the nodes that the index holds, and whether they are the document's.
use Rattle.std.specs.Prelude.{ℕ, zero, suc, ◌+◌, ◌-◌, ◌%◌, ◌≤◌, ◌<◌}
use Rattle.std.specs.Prelude.{Bool, true, false, List, [], ◌∷◌, ◌++◌, ◌≡◌, leb, length, get_or, set, take, drop, Result, Ok, Err}
use Rattle.grammar.specs.Limits.{Limits, child_limit}
use Rattle.grammar.specs.Names.{Classes}
use Rattle.grammar.specs.Outcome.{◌>>=◌}
use Rattle.grammar.specs.declared.Refusal.{Refusal}
use Rattle.grammar.specs.ReadDocument.{Node, read_nodes}
use Rattle.grammar.specs.WriteDocument.{nodes_of}
use Rattle.grammar.specs.ReadText.{read_text}
use Rattle.grammar.specs.declared.Format.{Format}
use Rattle.grammar.specs.declared.Format.TheVariants.{DocumentFile, XmlText}
use Rattle.documents.specs.declared.documents.DocumentIndex.{DocumentIndex}

-- A node's children and text as one number, its shape: how many children it has, and 256 more if it holds text.
abbrev pub shape_of : Bool → ℕ → ℕ
shape_of false children = children
shape_of true children = 256 + children

-- a node by the place and the size of its name, and its shape
abbrev pub node_from : List ℕ → (from size shape : ℕ) → Node
node_from s from size shape =
    record { head = record { name = take size (drop from s); text = leb 256 shape }; children = shape % 256 }

-- the node at a place of the arrays
abbrev pub node_at : (s names sizes shapes : List ℕ) → ℕ → Node
node_at s names sizes shapes i = node_from s (get_or names i 0) (get_or sizes i 0) (get_or shapes i 0)

-- the first nodes, in file order
unfoldable pub first_nodes : (s names sizes shapes : List ℕ) → ℕ → List Node
first_nodes s names sizes shapes zero = []
first_nodes s names sizes shapes (suc n) = first_nodes s names sizes shapes n ++ (node_at s names sizes shapes n ∷ [])

-- the nodes that an index of `s` holds
abbrev pub nodes_in : List ℕ → DocumentIndex → List Node
nodes_in s ix = first_nodes s ix.names ix.sizes ix.shapes ix.nodes

-- the outcome that an answer stands for, where these nodes were read
abbrev pub outcome_of : Result (Unit {0}) Refusal → List Node → Result (List Node) Refusal
outcome_of (Ok tt) ns = Ok ns
outcome_of (Err r) ns = Err r

-- what the nodes of a document read as: those of a text are those of its tree
abbrev pub read_nodes_as : Limits → Classes → Format → List ℕ → Result (List Node) Refusal
read_nodes_as lim classes DocumentFile s = read_nodes lim classes s
read_nodes_as lim classes XmlText s = read_text lim classes s >>= λ d. Ok (nodes_of d)

-- the arrays up to a count: each name lies within the input, and each child count is within the limit
pub record NodesIndexed (s names sizes shapes : List ℕ) (nodes : ℕ) : Type 0 where
  pub few : nodes ≤ 2048
  pub within : (i : ℕ) → i < nodes → get_or names i 0 + get_or sizes i 0 ≤ length s
  pub counts : (i : ℕ) → i < nodes → get_or shapes i 0 % 256 ≤ child_limit

-- an index with a node more, whose name stands from here to there
abbrev pub with_node_at : DocumentIndex → (from to shape : ℕ) → DocumentIndex
with_node_at ix from to shape =
    record {
      names = set ix.names ix.nodes from;
      sizes = set ix.sizes ix.nodes (to - from);
      shapes = set ix.shapes ix.nodes shape;
      nodes = ix.nodes + 1;
    }

-- What was read into an index is the document's answer, and its nodes if it reads. If it does not, the index has what was read before.
pub record DocumentReads (lim : Limits) (classes : Classes) (format : Format) (s : List ℕ) (ix : DocumentIndex)
    (answer : Result (Unit {0}) Refusal) : Type 0 where
  pub outcome : read_nodes_as lim classes format s ≡ outcome_of answer (nodes_in s ix)
  pub few : ix.nodes ≤ lim.nodes
  pub indexed : NodesIndexed s ix.names ix.sizes ix.shapes ix.nodes
