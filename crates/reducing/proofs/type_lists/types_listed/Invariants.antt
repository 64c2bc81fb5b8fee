-- `types_listed` meets its contract. The loop's invariant: of the types before `k`, those with a list that is not empty are in the
-- set.
use Prim.Native.Nat.{ℕ}
use mathlib.Core.List.{List}
use mathlib.Core.Path.{◌≡◌}
use lib.ListN.{length}
use Rattle.theory.specs.Alternatives.{some_left}
use Rattle.sets.specs.Sets.{member, nothing}
use Rattle.union.specs.Rounds.{puts}
use Rattle.union.specs.TypeLists.{ListsOf}
use Rattle.reducing.proofs.type_lists.types_listed.Given as goal

abbrev pub invariant-loop-k : goal.invariant-loop-k
invariant-loop-k l =
    ((of : ℕ → List ℕ) → ListsOf of l.lists → member l.set.words 0 ≡ puts (some_left of) (λ j. j) nothing l.k)
    × (length l.set.words ≡ 8)
