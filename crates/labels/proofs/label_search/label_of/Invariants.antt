-- `label_of` meets its contract. The loop's invariant: no label before `i` has the name, and the label at `i` has the name's key.
use Prim.Native.Nat.{◌-◌}
use Rattle.labels.proofs.LabelKeyLaws.{SoughtTo}
use Rattle.labels.proofs.label_search.label_of.Given as goal

abbrev pub invariant-loop-i : goal.invariant-loop-i
invariant-loop-i l = SoughtTo l.name l.table l.index l.i

abbrev pub decreases-loop-i : goal.decreases-loop-i
decreases-loop-i l = l.labels - l.i
