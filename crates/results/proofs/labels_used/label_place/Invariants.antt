-- `label_place` meets its contract. The loop's invariant: so many of the labels before `l` are used.
use mathlib.Core.Path.{◌≡◌}
use lib.ListN.{length}
use Rattle.grammar.specs.Lists.{keep, numbers_below}
use Rattle.sets.specs.Sets.{member}
use Rattle.results.proofs.labels_used.label_place.Given as goal

abbrev pub invariant-loop-l : goal.invariant-loop-l
invariant-loop-l l = l.place ≡ length (keep (member l.used.words 0) (numbers_below l.l))
