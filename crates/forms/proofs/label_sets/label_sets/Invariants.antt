-- `label_sets` meets its contract. The loop's invariant: the sets of the labels before `l` stand in the words.
use Prim.Native.Nat.{◌≤◌}
use mathlib.Core.List.{List}
use Rattle.std.specs.Prelude.{ℕ, Some}
use Rattle.grammar.specs.Table.{Table}
use Rattle.sets.specs.Sets.{member}
use Rattle.union.specs.View.{Views}
use Rattle.forms.specs.SetWords.{SetsCounted}
use Rattle.forms.proofs.LabelLaws.{sets_up}
use Rattle.forms.proofs.label_sets.label_sets.Given as goal

abbrev pub invariant-loop-l : goal.invariant-loop-l
invariant-loop-l l =
    (l.count ≤ l.most)
    × ((old add : List ℕ) (u : Table) → Views old add l.v u → SetsCounted l.most l.words (sets_up u (member l.pairs.words 0) l.l) (Some l.count))
