-- The set has the types of those rules before the present one that fit.
use Prim.Native.Nat.{◌+◌, ◌-◌, ◌≤◌, ◌<◌}
use mathlib.Core.Path.{◌≡◌}
use lib.ListN.{length, take, drop}
use Rattle.grammar.specs.Limits.{large}
use Rattle.grammar.specs.Lists.{place}
use Rattle.grammar.specs.Names.{same_name}
use Rattle.grammar.specs.Table.{Table}
use Rattle.grammar.specs.Tree.{Head}
use Rattle.theory.specs.Marked.{holds}
use Rattle.reader.specs.TableIndex.{rule_label}
use Rattle.reader.specs.Held.{Held}
use Rattle.walks.specs.TypeSets.{set_at, tests_at}
use Rattle.node_types.specs.NodeTypes.{types_for}
use Rattle.node_types.proofs.membership.put_types.Given as goal

abbrev pub invariant-loop-i : goal.invariant-loop-i
invariant-loop-i l =
    (l.i ≤ l.rules)
    × (length l.marks ≡ length l.initial.marks)
    × (length l.words ≡ length l.initial.words)
    × (drop (l.base + 4) l.words ≡ drop (l.base + 4) l.initial.words)
    × (l.i < l.rules → rule_label l.index l.i ≡ l.label)
    × ((g : Table) → Held large l.table l.index g → (h : Head) → l.label ≡ place same_name h.name g.labels → h.text ≡ l.node.text
    → set_at l.words l.base ≡ holds (types_for g h (tests_at l.initial.words (l.base + 4) l.node.children) (take l.i g.rules)))

abbrev pub decreases-loop-i : goal.decreases-loop-i
decreases-loop-i l = l.rules - l.i
