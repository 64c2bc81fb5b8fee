-- `label_numbers` meets its contract. The loop's invariant: the labels before `l` have their numbers.
use Prim.Native.Nat.{ℕ, ◌≤◌}
use mathlib.Core.List.{List}
use mathlib.Core.Path.{◌≡◌}
use lib.ListN.{length, get_or}
use Rattle.grammar.specs.Lists.{place, same_numbers}
use Rattle.grammar.specs.SingleTypeForm.{TypeSet}
use Rattle.grammar.specs.Table.{Table}
use Rattle.sets.specs.Sets.{member}
use Rattle.union.specs.View.{Views}
use Rattle.forms.specs.SetWords.{SetsHeld}
use Rattle.forms.specs.Worklist.{NumbersOf}
use Rattle.forms.specs.SetForms.{pairs_labelled}
use Rattle.forms.proofs.label_sets.label_numbers.Given as goal

abbrev pub invariant-loop-l : goal.invariant-loop-l
invariant-loop-l l =
    ((old add : List ℕ) (u : Table) (sets : List TypeSet) → Views old add l.v u → SetsHeld l.words sets → l.count ≡ length sets
    → NumbersOf (λ k. place same_numbers (pairs_labelled u (member l.pairs.words 0) k) sets) l.l l.of)
    × ((k : ℕ) → get_or l.of k 0 ≤ 128)
    × (length l.of ≡ 256)
