-- The parts of a tree: the head of its root and the name there, and its children as a forest and as a list.
use mathlib.Core.List.{List, [], ◌∷◌}
use Rattle.grammar.specs.Names.{Name}
use Rattle.grammar.specs.Tree.{Head, Tree, node, Forest, []ᵗ, ◌∷ᵗ◌}

abbrev pub root_head : Tree → Head
root_head (node h ts) = h

abbrev pub root_name : Tree → Name
root_name t = (root_head t).name

abbrev pub children_of : Tree → Forest
children_of (node h ts) = ts

abbrev pub trees_of : Forest → List Tree
trees_of []ᵗ = []
trees_of (t ∷ᵗ ts) = t ∷ trees_of ts

abbrev pub children : Tree → List Tree
children t = trees_of (children_of t)
