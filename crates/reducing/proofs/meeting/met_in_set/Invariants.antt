-- `met_in_set` meets its contract. The loop's invariant: the pairs met in the contents of the set's pairs before `p` are added.
use Prim.Native.Nat.{ℕ}
use mathlib.Core.Bool.{Bool}
use mathlib.Core.List.{List, []}
use mathlib.Core.Path.{◌≡◌}
use lib.ListN.{length}
use Rattle.grammar.specs.Lists.{joined_of, numbers_below}
use Rattle.grammar.specs.Table.{Table}
use Rattle.theory.specs.Alternatives.{only_if}
use Rattle.sets.specs.Sets.{member}
use Rattle.reducing.specs.PairsMet.{met_in_pair, Meets}
use Rattle.reducing.proofs.meeting.met_in_set.Given as goal

abbrev of_pair : (ℕ → Bool) → Table → ℕ → List ℕ
of_pair set u p = only_if (set p) (met_in_pair u p)

abbrev pub invariant-loop-p : goal.invariant-loop-p
invariant-loop-p l =
    Meets l.old l.add l.v l.lists (λ u. joined_of (of_pair (member l.set.words 0) u) (numbers_below l.p)) [] l.numbers l.count
    × (length l.numbers ≡ 256)
