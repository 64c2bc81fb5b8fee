-- A document that was read, known by where its nodes stand; and what is left when all its nodes are gone through.
use Rattle.reader.specs.declared.index.TableIndex.{TableIndex}
use Rattle.std.specs.Prelude.{ℕ, ◌+◌, ◌≤◌, List, ◌≡◌, length, drop, Ok}
use Rattle.grammar.specs.Limits.{large}
use Rattle.grammar.specs.Table.{Table}
use Rattle.grammar.specs.Tree.{Tree}
use Rattle.grammar.specs.ReadDocument.{tree_of}
use Rattle.grammar.specs.Membership.{types_of}
use Rattle.theory.specs.Marked.{holds}
use Rattle.reader.specs.Held.{Held}
use Rattle.documents.specs.declared.documents.DocumentIndex.{DocumentIndex}
use Rattle.documents.specs.DocumentNodes.{NodesIndexed, nodes_in}
use Rattle.documents.specs.NodeTrees.{tree_count, Enough}
use Rattle.walks.specs.TypeSets.{set_at}

-- the index of so many nodes in arrays
abbrev pub index_of : (names sizes shapes : List ℕ) → ℕ → DocumentIndex
index_of names sizes shapes nodes = record { names = names; sizes = sizes; shapes = shapes; nodes = nodes }

-- the nodes are one whole tree
pub record KnownNodes (d : List ℕ) (nodes : DocumentIndex) : Type 0 where
  pub indexed : NodesIndexed d nodes.names nodes.sizes nodes.shapes nodes.nodes
  pub one_tree : tree_count (nodes_in d nodes) ≡ 1
  pub enough : Enough (nodes_in d nodes)

-- the set at a word is the one that stood at another, and the words behind it are kept
pub record Brought (words : List ℕ) (from to : ℕ) (after : List ℕ) : Type 0 where
  pub there : set_at after to ≡ set_at words from
  pub behind : drop (to + 4) after ≡ drop (to + 4) words

-- the set at a word has the types of the root
pub record RootTypes (s : List ℕ) (index : TableIndex) (d : List ℕ) (nodes : DocumentIndex) (words : List ℕ) (at : ℕ) : Type 0 where
  pub inside : at + 4 ≤ length words
  pub types : (g : Table) → Held large s index g
      → (t : Tree) → tree_of (nodes_in d nodes) ≡ Ok t → set_at words at ≡ holds (types_of g t)
