-- `more_sets` meets its contract. The loop's invariant: the sets in the words are found, and those below `next` have been looked into.
use Prim.Native.Nat.{◌-◌, ◌≤◌}
use mathlib.Core.Path.{◌≡◌}
use lib.ListN.{length}
use Rattle.grammar.specs.Limits.{Limits}
use Rattle.grammar.specs.Table.{Table}
use Rattle.union.specs.View.{Views}
use Rattle.union.specs.PairNumbers.{fruitful_of, is_start}
use Rattle.union.specs.TypeLists.{ListsOf}
use Rattle.forms.specs.SetForms.{label_sets}
use Rattle.forms.specs.SetWords.{SetsHeld}
use Rattle.forms.proofs.WorklistLaws.{Standing}
use Rattle.forms.proofs.worklist.more_sets.Given as goal

abbrev pub invariant-loop-next : goal.invariant-loop-next
invariant-loop-next l =
    (l.total ≤ l.most)
    × ((lim : Limits) (u : Table) → l.most ≡ lim.types → Views l.old l.add l.v u → ListsOf (fruitful_of u) l.lists
    → SetsHeld l.initial.words (label_sets u (is_start u))
    → l.count ≡ length (label_sets u (is_start u))
    → Standing lim u l.next l.words l.total)

abbrev pub decreases-loop-next : goal.decreases-loop-next
decreases-loop-next l = l.most - l.next
