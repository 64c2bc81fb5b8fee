-- `add_met` meets its contract. The loop's invariant: the sets of the pairs met before `i` are added.
use Prim.Native.Nat.{◌≤◌}
use mathlib.Core.List.{List, ◌++◌}
use mathlib.Core.Path.{◌≡◌}
use lib.Dec.{eqb}
use lib.ListN.{length, take}
use Rattle.std.specs.Prelude.{ℕ, Some}
use Rattle.grammar.specs.Lists.{distinct, is_in, same_numbers}
use Rattle.grammar.specs.SingleTypeForm.{TypeSet}
use Rattle.grammar.specs.Table.{Table}
use Rattle.union.specs.View.{Views}
use Rattle.union.specs.PairNumbers.{met_in}
use Rattle.forms.specs.SetWords.{SetsHeld, SetsCounted}
use Rattle.forms.specs.Worklist.{sets_within}
use Rattle.forms.proofs.worklist.add_met.Given as goal

abbrev pub invariant-loop-i : goal.invariant-loop-i
invariant-loop-i l =
    (l.total ≤ l.most)
    × ((old add : List ℕ) (u : Table) (sets : List TypeSet) (s : TypeSet) → Views old add l.v u → SetsHeld l.initial.words sets → l.count ≡ length sets
    → distinct same_numbers sets ≡ sets
    → take l.fn.found.count l.fn.found.numbers ≡ distinct eqb (met_in u (λ q. is_in q s))
    → SetsCounted l.most l.words (distinct same_numbers (sets ++ take l.i (sets_within u s))) (Some l.total))
