-- `types_with` meets its contract. The loop's invariant: the set has the types of the rules before `i` whose pairs are known.
use mathlib.Core.Path.{◌≡◌}
use lib.ListN.{length}
use Rattle.sets.specs.Sets.{member, nothing}
use Rattle.union.specs.Rounds.{puts}
use Rattle.union.specs.View.{type_in, first_in}
use Rattle.union.proofs.fruitful.types_with.Given as goal

abbrev pub invariant-loop-i : goal.invariant-loop-i
invariant-loop-i l =
    (member l.set.words 0 ≡ puts (λ j. member l.known.words 0 (first_in l.fn.v j)) (type_in l.fn.v) nothing l.i)
    × (length l.set.words ≡ 8)
