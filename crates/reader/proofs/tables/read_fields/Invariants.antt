-- `tables::read_fields` meets its contract. The loop's invariant: a table is read up to `at`, and the whole reads as the rest does after it.
use Prim.Native.Nat.{◌-◌}
use lib.ListN.{length}
use Rattle.reader.proofs.TableReading.{TableReached}
use Rattle.reader.proofs.tables.read_fields.Given as goal

abbrev pub invariant-loop-tag : goal.invariant-loop-tag
invariant-loop-tag l = TableReached l.limits l.classes l.s l.at l.index

abbrev pub decreases-loop-tag : goal.decreases-loop-tag
decreases-loop-tag l = length l.s - l.at
