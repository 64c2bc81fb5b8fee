-- Tables and documents that a file can hold.
use Rattle.std.specs.Prelude.{ℕ, ◌≤◌, ◌<◌, true, ◌≡◌, length, eqb}
use mathlib.Core.List.{Memᴰ}
use Rattle.grammar.specs.Lists.{all_distinct}
use Rattle.grammar.specs.Limits.{Limits}
use Rattle.grammar.specs.Names.{Name, same_name, Classes, is_name}
use Rattle.grammar.specs.Content.{Content, nesting}
use Rattle.grammar.specs.Tree.{Tree, depth}
use Rattle.grammar.specs.Table.{Rule, Table}
use Rattle.grammar.specs.ReadContent.{content_bytes, is_proper}
use Rattle.grammar.specs.ReadDocument.{Node}
use Rattle.grammar.specs.WriteTable.{table_bytes}
use Rattle.grammar.specs.WriteDocument.{nodes_of, document_bytes}

pub record NameWithin (lim : Limits) (classes : Classes) (n : Name) : Type 0 where
  pub rule : is_name classes n ≡ true
  pub size : length n ≤ lim.name

pub record ContentWithin (lim : Limits) (c : Content) : Type 0 where
  pub proper : is_proper lim c ≡ true
  pub size : length (content_bytes c) ≤ lim.content
  pub nests : nesting c ≤ lim.nesting

pub record RuleWithin (lim : Limits) (labels : ℕ) (r : Rule) : Type 0 where
  pub type : r.type < lim.types
  pub label : r.label < labels
  pub content : ContentWithin lim r.content

pub record TableWithin (lim : Limits) (classes : Classes) (g : Table) : Type 0 where
  pub names : (n : Name) → Memᴰ n g.labels → NameWithin lim classes n
  pub labels_differ : all_distinct same_name g.labels ≡ true
  pub labels : length g.labels ≤ lim.labels
  pub start_types : (k : ℕ) → Memᴰ k g.starts → k < lim.types
  pub starts_differ : all_distinct eqb g.starts ≡ true
  pub starts : length g.starts ≤ lim.starts
  pub each_rule : (r : Rule) → Memᴰ r g.rules → RuleWithin lim (length g.labels) r
  pub rules : length g.rules ≤ lim.rules
  pub size : length (table_bytes g) ≤ lim.input

pub record NodeWithin (lim : Limits) (classes : Classes) (n : Node) : Type 0 where
  pub name : NameWithin lim classes n.head.name
  pub children : n.children ≤ lim.children

-- the tree of a document, whatever its format
pub record TreeWithin (lim : Limits) (classes : Classes) (d : Tree) : Type 0 where
  pub each_node : (n : Node) → Memᴰ n (nodes_of d) → NodeWithin lim classes n
  pub nodes : length (nodes_of d) ≤ lim.nodes
  pub levels : depth d ≤ lim.levels

-- and of a document file
pub record DocumentWithin (lim : Limits) (classes : Classes) (d : Tree) : Type 0 where
  pub tree : TreeWithin lim classes d
  pub size : length (document_bytes d) ≤ lim.input
