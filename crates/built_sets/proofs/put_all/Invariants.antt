-- `put_all`. The loop's invariant: the numbers so far are put in.
use mathlib.Core.Path.{◌≡◌}
use lib.ListN.{take}
use Rattle.sets.specs.Sets.{put_all}
use Rattle.built_sets.specs.Remainders.{remainders}
use Rattle.built_sets.proofs.put_all.Given as goal

abbrev pub invariant-loop-n : goal.invariant-loop-n
invariant-loop-n l = l.words ≡ put_all l.initial.words l.base (take l.n-index (remainders l.numbers))
