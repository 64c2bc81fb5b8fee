-- `root_types` meets its contract: from the top on, set by set, stand the types of the trees of the nodes gone through.
use Prim.Native.Nat.{◌+◌, ◌*◌}
use mathlib.Core.Path.{◌≡◌}
use lib.ListN.{length, drop}
use Rattle.grammar.specs.Limits.{large}
use Rattle.grammar.specs.Table.{Table}
use Rattle.reader.specs.Held.{Held}
use Rattle.documents.specs.DocumentNodes.{nodes_in}
use Rattle.documents.specs.NodeTrees.{tree_count}
use Rattle.node_types.specs.KnownDocument.{index_of}
use Rattle.node_types.proofs.StackLaws as laws
use Rattle.node_types.proofs.membership.root_types.Given as goal

abbrev pub invariant-loop-at : goal.invariant-loop-at
invariant-loop-at l =
    (length l.marks ≡ 1024)
    × (length l.words ≡ length l.initial.words)
    × (l.top + 4 * tree_count (drop l.at (nodes_in l.document (index_of l.names l.sizes l.shapes l.nodes))) ≡ 4 * l.nodes)
    × ((g : Table) → Held large l.table l.index g
    → laws.Stacked g (drop l.at (nodes_in l.document (index_of l.names l.sizes l.shapes l.nodes))) l.words l.top)
