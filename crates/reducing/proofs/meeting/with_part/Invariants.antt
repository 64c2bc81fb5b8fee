-- `with_part` meets its contract. The loop's invariant: the numbers of the part before this one are in the set.
use mathlib.Core.Path.{◌≡◌}
use lib.ListN.{length, take}
use Rattle.grammar.specs.Lists.{is_in}
use Rattle.sets.specs.Sets.{member, in_either}
use Rattle.reducing.proofs.meeting.with_part.Given as goal

abbrev pub invariant-loop-number : goal.invariant-loop-number
invariant-loop-number l =
    (member l.more.words 0 ≡ in_either (λ p. is_in p (take l.number-index l.part)) (member l.initial.more.words 0))
    × (length l.more.words ≡ 8)
