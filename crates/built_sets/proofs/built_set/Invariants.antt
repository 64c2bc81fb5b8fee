-- `built_set`. The loop's invariant: the set is built from the numbers so far.
use mathlib.Core.Path.{◌≡◌}
use lib.ListN.{take, replicate}
use Rattle.sets.specs.Sets.{put_all}
use Rattle.built_sets.specs.Remainders.{remainders}
use Rattle.built_sets.proofs.built_set.Given as goal

abbrev pub invariant-loop-n : goal.invariant-loop-n
invariant-loop-n l = l.set.words ≡ put_all (replicate 4 0) 0 (take l.n-index (remainders l.numbers))
