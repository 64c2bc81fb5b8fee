-- `gather_types` meets its contract. The loop's invariant: the result types before `i` are among the operands, with their set.
use mathlib.Core.Path.{◌≡◌}
use lib.ListN.{length}
use Rattle.operands.specs.Notes.{Registered}
use Rattle.emitting.specs.Emitting.{RoomForMore}
use Rattle.emitting.proofs.TypesKeptLaws.{TypesSoFar}
use Rattle.emitting.proofs.emitter.gather_types.Given as goal

abbrev pub invariant-loop-i : goal.invariant-loop-i
invariant-loop-i l =
    (length l.draft ≡ length l.initial.draft)
    × (length l.register ≡ length l.initial.register)
    × ((q : RoomForMore l.initial.draft l.row) → Registered l.initial.register q.kept.list
    → TypesSoFar l.results l.first l.stop l.row q.kept.list l.initial.draft l.draft l.register l.count l.end l.i)
