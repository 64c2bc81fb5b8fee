-- `labelled_pairs` meets its contract. The loop's invariant: the set has those of the pairs before `p` that have the label.
use mathlib.Core.Bool.{◌&&◌}
use mathlib.Core.Path.{◌≡◌}
use lib.Dec.{eqb}
use lib.ListN.{length, get_or}
use Rattle.sets.specs.Sets.{member, nothing}
use Rattle.union.specs.Rounds.{puts}
use Rattle.forms.proofs.label_sets.labelled_pairs.Given as goal

abbrev pub invariant-loop-p : goal.invariant-loop-p
invariant-loop-p l =
    (member l.set.words 0 ≡ puts (λ j. member l.pairs.words 0 j && eqb (get_or l.fn.v.labels j 0) l.label) (λ j. j) nothing l.p)
    × (length l.set.words ≡ 8)
