-- `labels_used` meets its contract. The loop's invariant: the set has the labels of the sets before `i`.
use Prim.Native.Nat.{ℕ}
use mathlib.Core.Bool.{true}
use mathlib.Core.List.{List}
use mathlib.Core.Path.{◌≡◌}
use lib.ListN.{length}
use Rattle.sets.specs.Sets.{member, nothing}
use Rattle.union.specs.Rounds.{puts}
use Rattle.results.specs.Results.{SetsIn}
use Rattle.results.proofs.LabelLaws.{label_at}
use Rattle.results.proofs.labels_used.labels_used.Given as goal

abbrev pub invariant-loop-i : goal.invariant-loop-i
invariant-loop-i l =
    (length l.used.words ≡ 8)
    × ((old add : List ℕ) (q : SetsIn old add l.v l.words l.count)
    → member l.used.words 0 ≡ puts (λ j. true) (label_at q.table q.sets) nothing l.i)
