-- `gather_pair` meets its contract. The loop's invariant: what the pair's rules before `i` give stands in the draft.
use Prim.Native.Nat.{◌≤◌}
use mathlib.Core.Path.{◌≡◌}
use lib.ListN.{length}
use Rattle.contents.specs.Joining.{Joining, Ready}
use Rattle.contents.proofs.LoopLaws.{MergedSoFar, rule_gives}
use Rattle.contents.proofs.joining.gather_pair.Given as goal

abbrev pub invariant-loop-i : goal.invariant-loop-i
invariant-loop-i l =
    (l.i ≤ l.rules)
    × (length l.draft ≡ length l.initial.draft)
    × (length l.register ≡ length l.initial.register)
    × ((q : Joining l.old l.add l.v l.results) (k : Ready l.initial.draft l.initial.register l.row)
    → MergedSoFar (rule_gives q.of q.table l.p) l.rules l.row k.kept.list l.draft l.register l.count l.end l.i)
