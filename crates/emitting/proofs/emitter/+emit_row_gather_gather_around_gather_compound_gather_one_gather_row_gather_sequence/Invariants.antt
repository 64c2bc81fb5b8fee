-- The emitter's functions meet their contracts. The measure is five times the bytes from the place on: a row is four more, a
-- content three more, a content with operands two more, one that is no choice one more; every call goes on past a byte, or from a
-- row to its contents, or from a content to what its operator needs. Each return is a law of EmitLaws.
use mathlib.Core.Path.{◌≡◌}
use lib.ListN.{length}
use Rattle.operands.specs.Notes.{Registered}
use Rattle.emitting.specs.Emitting.{Sources, Operands}
use Rattle.emitting.proofs.EmitLaws.{SourcesLeft, RowRest}
use Prim.Native.Nat.{◌+◌, ◌-◌, ◌*◌, ◌≤◌}
use Rattle.union.specs.Walks.{list_of_type}
use Rattle.emitting.proofs.emitter.+emit_row_gather_gather_around_gather_compound_gather_one_gather_row_gather_sequence.Given as goal

-- what is left of the row is written, and the place in the source only goes on
abbrev pub invariant-emit_row-loop : goal.invariant-emit_row-loop
invariant-emit_row-loop l =
    (l.at-2 ≤ l.at)
    × (length l.draft ≡ length l.initial.draft)
    × (length l.register ≡ length l.initial.register)
    × ((q : Operands l.content l.at-2 l.n l.types l.from l.results l.initial.draft l.start l.place-2 (length l.initial.register))
    → RowRest q (list_of_type l.from l.results) l.draft l.at (l.n - l.counter) l.place (length l.register))

abbrev pub invariant-gather_row-loop : goal.invariant-gather_row-loop
invariant-gather_row-loop l =
    (l.at-2 ≤ l.at)
    × (length l.draft ≡ length l.initial.draft)
    × (length l.register ≡ length l.initial.register)
    × ((q : Sources l.content l.at-2 l.n l.types l.from l.results l.initial.draft l.row (length l.initial.register)) → Registered l.initial.register q.kept.list
    → SourcesLeft q (list_of_type l.from l.results) l.register l.draft l.at (l.n - l.counter) l.count l.end (length l.register))

abbrev pub decreases-emit_row : goal.decreases-emit_row
decreases-emit_row l = 5 * (length l.content.now - l.at) + 4

abbrev pub decreases-gather : goal.decreases-gather
decreases-gather l = 5 * (length l.content.now - l.at) + 3

abbrev pub decreases-gather_around : goal.decreases-gather_around
decreases-gather_around l = 5 * (length l.content.now - l.at)

abbrev pub decreases-gather_compound : goal.decreases-gather_compound
decreases-gather_compound l = 5 * (length l.content.now - l.at) + 2

abbrev pub decreases-gather_one : goal.decreases-gather_one
decreases-gather_one l = 5 * (length l.content.now - l.at) + 1

abbrev pub decreases-gather_row : goal.decreases-gather_row
decreases-gather_row l = 5 * (length l.content.now - l.at) + 4

abbrev pub decreases-gather_sequence : goal.decreases-gather_sequence
decreases-gather_sequence l = 5 * (length l.content.now - l.at)
