-- `new_names` meets its contract. The loop's invariant: of the names before `i`, those that are not among the old stand there.
use Prim.Native.Nat.{◌≤◌}
use lib.ListN.{take}
use Rattle.grammar.specs.Table.{Table}
use Rattle.reader.specs.TableIndex.{Indexes}
use Rattle.union.specs.UnitedLabels.{NamesHeld, new_names}
use Rattle.union.proofs.labels.new_names.Given as goal

abbrev pub invariant-loop-i : goal.invariant-loop-i
invariant-loop-i l =
    (l.fresh.count ≤ l.i)
    × ((g h : Table) → Indexes l.old l.olds g → Indexes l.add l.adds h → NamesHeld l.add l.fresh (new_names g.labels (take l.i h.labels)))
