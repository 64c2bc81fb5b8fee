-- `with_starts` meets its contract. The loop's invariant: the lists of the start types before `i` are in the set.
use Rattle.reader.specs.declared.index.TableIndex.{TableIndex}
use Prim.Native.Nat.{ℕ}
use mathlib.Core.List.{List}
use mathlib.Core.Path.{◌≡◌}
use lib.ListN.{length}
use Rattle.grammar.specs.Lists.{is_in, joined_of, numbers_below}
use Rattle.sets.specs.Sets.{member, in_either}
use Rattle.reader.specs.TableIndex.{start_type}
use Rattle.union.specs.declared.lists.Lists.{Lists}
use Rattle.union.specs.Walks.{list_of_type}
use Rattle.reducing.proofs.leaving.with_starts.Given as goal

abbrev list_at : Lists → (index : TableIndex) → ℕ → List ℕ
list_at lists index i = list_of_type lists.from lists.numbers (start_type index i)

abbrev pub invariant-loop-i : goal.invariant-loop-i
invariant-loop-i l =
    (member l.more.words 0 ≡ in_either (λ p. is_in p (joined_of (list_at l.lists l.index) (numbers_below l.i))) (member l.initial.more.words 0))
    × (length l.more.words ≡ 8)
