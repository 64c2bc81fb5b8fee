-- `new_rules` meets its contract. The loop's invariant: the addition's rules before `i` are put down after the old ones.
use Prim.Native.Nat.{◌+◌, ◌≤◌}
use mathlib.Core.List.{map, ◌++◌}
use mathlib.Core.Path.{◌≡◌}
use lib.ListN.{take}
use Rattle.grammar.specs.Limits.{large}
use Rattle.grammar.specs.Table.{Table}
use Rattle.grammar.specs.Unite.{added}
use Rattle.union.specs.View.{AddingTo, Views, rules_only}
use Rattle.union.proofs.united.new_rules.Given as goal

abbrev pub invariant-loop-i : goal.invariant-loop-i
invariant-loop-i l =
    (l.all.rules ≡ l.all.old_rules + l.i)
    × (l.all.old_rules ≤ 128)
    × ((g h : Table) → AddingTo l.old l.olds l.add l.adds l.fresh g h → Views l.old l.add l.initial.all (rules_only g.rules)
    → Views l.old l.add l.all (rules_only (g.rules ++ map (added large g h) (take l.i h.rules))))
