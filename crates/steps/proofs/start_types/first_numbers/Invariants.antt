-- `first_numbers` meets its contract. The loop's invariant: the set has the numbers before `t`.
use mathlib.Core.Bool.{true}
use mathlib.Core.Path.{◌≡◌}
use lib.ListN.{length}
use Rattle.sets.specs.Sets.{member, nothing}
use Rattle.union.specs.Rounds.{puts}
use Rattle.steps.proofs.start_types.first_numbers.Given as goal

abbrev pub invariant-loop-t : goal.invariant-loop-t
invariant-loop-t l = (member l.set.words 0 ≡ puts (λ s. true) (λ s. s) nothing l.t) × (length l.set.words ≡ 8)
