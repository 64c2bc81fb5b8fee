-- `old_rules` meets its contract. The loop's invariant: the rules before `i` are put down.
use Prim.Native.Nat.{ℕ}
use mathlib.Core.List.{List}
use mathlib.Core.Path.{◌≡◌}
use lib.ListN.{take}
use Rattle.grammar.specs.Limits.{large}
use Rattle.grammar.specs.Table.{Table}
use Rattle.reader.specs.Held.{Held}
use Rattle.union.specs.View.{Views, rules_only}
use Rattle.union.proofs.united.old_rules.Given as goal

abbrev pub invariant-loop-i : goal.invariant-loop-i
invariant-loop-i l =
    (l.v.rules ≡ l.i)
    × (l.v.old_rules ≡ l.rules)
    × ((old add : List ℕ) (g : Table) → Held large old l.index g → Views old add l.v (rules_only (take l.i g.rules)))
