-- The trees that nodes in file order make, read backwards: each node finds its children among the trees behind it.
use Rattle.std.specs.Prelude.{ℕ, zero, suc, ◌-◌, ◌≤◌, List, [], ◌∷◌}
use Rattle.grammar.specs.ReadDocument.{Node}

-- how many trees nodes make: a node takes its children from the trees behind it
unfoldable pub tree_count : List Node → ℕ
tree_count [] = zero
tree_count (n ∷ ns) = suc (tree_count ns - n.children)

-- each node finds as many trees behind it as it has children
abbrev pub Enough : List Node → Type 0
Enough [] = Unit {0}
Enough (n ∷ ns) = (n.children ≤ tree_count ns) × Enough ns
