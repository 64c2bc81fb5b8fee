-- The loop's invariant: the types in the set are the starts before `i`.
use mathlib.Core.Path.{◌≡◌}
use lib.ListN.{length}
use Rattle.kinds.proofs.SeenTypes.{SeenBelow}
use Rattle.kinds.proofs.kinds.start_types.Given as goal

abbrev pub invariant-loop-i : goal.invariant-loop-i
invariant-loop-i l = (length l.words ≡ length l.initial.words) × SeenBelow l.words l.index l.i
