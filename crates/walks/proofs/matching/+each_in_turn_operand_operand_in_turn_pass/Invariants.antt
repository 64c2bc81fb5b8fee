-- `pass`, `operand`, `operand_in_turn`, `in_turn` and `each` meet their contracts. The measure of an expression is four times the bytes from
-- its place on, that of an operand one more, of one of a sequence two more, that of operands three more: a call stays at its place only where
-- that goes down, else it goes on past a byte. Each loop keeps that the walk over the operands left is the walk over all. Each return is a law of WalkLaws.
use Prim.Native.Nat.{◌+◌, ◌-◌, ◌*◌, ◌≤◌}
use mathlib.Core.Bool.{true, false}
use mathlib.Core.Path.{◌≡◌}
use lib.ListN.{length}
use Rattle.grammar.specs.Limits.{large}
use Rattle.reader.specs.ContentAt.{ContentsAt}
use Rattle.walks.specs.TypeSets.{set_at}
use Rattle.walks.specs.WalkAt.{walk_in_turn_at, walk_each_at}
use Rattle.walks.proofs.matching.+each_in_turn_operand_operand_in_turn_pass.Given as goal

abbrev pub invariant-each-loop-done : goal.invariant-each-loop-done
invariant-each-loop-done l =
    (l.from ≤ l.at)
    × (length l.marks ≡ length l.initial.marks)
    × (ContentsAt large l.content l.at (l.count - l._done))
    × (walk_each_at l.content l.at (l.count - l._done) l.marks l.incoming (set_at l.words l.base) l.nullable l.ends
    ≡ walk_each_at l.content l.from l.count l.initial.marks l.incoming (set_at l.words l.base) false false)

abbrev pub invariant-in_turn-loop-done : goal.invariant-in_turn-loop-done
invariant-in_turn-loop-done l =
    (l.from ≤ l.at)
    × (length l.marks ≡ length l.initial.marks)
    × (ContentsAt large l.content l.at (l.count - l._done))
    × (walk_in_turn_at l.content l.at (l.count - l._done) l.marks l.incoming (set_at l.words l.base) l.nullable l.ends
    ≡ walk_in_turn_at l.content l.from l.count l.initial.marks l.begun (set_at l.words l.base) true false)

abbrev pub decreases-each : goal.decreases-each
decreases-each l = 4 * (length l.content.now - l.from) + 3

abbrev pub decreases-in_turn : goal.decreases-in_turn
decreases-in_turn l = 4 * (length l.content.now - l.from) + 3

abbrev pub decreases-operand : goal.decreases-operand
decreases-operand l = 4 * (length l.content.now - l.at) + 1

abbrev pub decreases-operand_in_turn : goal.decreases-operand_in_turn
decreases-operand_in_turn l = 4 * (length l.content.now - l.at) + 2

abbrev pub decreases-pass : goal.decreases-pass
decreases-pass l = 4 * (length l.content.now - l.at)
