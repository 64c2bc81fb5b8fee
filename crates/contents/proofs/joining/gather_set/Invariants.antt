-- `gather_set` meets its contract. The loop's invariant: what the set's pairs before `p` give stands in the draft.
use Prim.Native.Nat.{◌≤◌}
use mathlib.Core.List.{[]}
use mathlib.Core.Path.{◌≡◌}
use lib.ListN.{length}
use Rattle.sets.specs.Sets.{member}
use Rattle.operands.specs.Notes.{register_length}
use Rattle.contents.specs.Joining.{Joining, content_row}
use Rattle.contents.proofs.LoopLaws.{MergedSoFar, pair_gives}
use Rattle.contents.proofs.joining.gather_set.Given as goal

abbrev pub invariant-loop-p : goal.invariant-loop-p
invariant-loop-p l =
    (l.p ≤ l.rules)
    × (length l.draft ≡ length l.initial.draft)
    × (length l.register ≡ register_length)
    × ((q : Joining l.old l.add l.v l.results)
    → MergedSoFar (pair_gives q.of q.table (member l.set.words 0)) l.rules content_row [] l.draft l.register l.count l.end l.p)
