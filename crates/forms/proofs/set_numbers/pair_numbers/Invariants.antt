-- `pair_numbers` meets its contract. The loop's invariant: the pairs before `p` have their numbers.
use Prim.Native.Nat.{ℕ, ◌≤◌}
use mathlib.Core.List.{List}
use mathlib.Core.Path.{◌≡◌}
use lib.ListN.{length, get_or}
use Rattle.grammar.specs.Table.{Table}
use Rattle.sets.specs.Sets.{member}
use Rattle.union.specs.View.{Views}
use Rattle.union.specs.PairNumbers.{is_left}
use Rattle.forms.specs.SetForms.{label_left}
use Rattle.forms.specs.Worklist.{NumbersOf}
use Rattle.forms.proofs.set_numbers.pair_numbers.Given as goal

abbrev pub invariant-loop-p : goal.invariant-loop-p
invariant-loop-p l =
    ((old add : List ℕ) (u : Table) → Views old add l.v u → member l.left.words 0 ≡ is_left u
    → NumbersOf (λ q. get_or l.numbers.of (label_left u q) 0) l.p l.of)
    × ((q : ℕ) → get_or l.of q 0 ≤ 128)
    × (length l.of ≡ 256)
