-- `start_numbers` meets its contract. The loop's invariant: the set has the numbers of the start pairs before `p`.
use mathlib.Core.Path.{◌≡◌}
use lib.ListN.{length, get_or}
use Rattle.sets.specs.Sets.{member, nothing}
use Rattle.union.specs.Rounds.{puts}
use Rattle.steps.proofs.start_types.start_numbers.Given as goal

abbrev pub invariant-loop-p : goal.invariant-loop-p
invariant-loop-p l =
    (member l.set.words 0 ≡ puts (member l.starts.words 0) (λ q. get_or l.numbers.of (get_or l.fn.v.labels q 0) 0) nothing l.p)
    × (length l.set.words ≡ 8)
