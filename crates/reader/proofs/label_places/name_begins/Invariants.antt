-- `label_places::name_begins` meets its contract. The loop's invariant: the fields of the labels before `i` are summed.
use Prim.Native.Nat.{◌+◌, ◌*◌, ◌≤◌}
use mathlib.Core.Path.{◌≡◌}
use Rattle.reader.proofs.LabelPlaceLaws.{summed}
use Rattle.reader.proofs.label_places.name_begins.Given as goal

abbrev pub invariant-loop-i : goal.invariant-loop-i
invariant-loop-i l = (l.begins ≡ summed l.index l.i) × (l.begins ≤ 3 + 66 * l.i)
