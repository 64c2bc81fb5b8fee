-- The loop's invariant: the places from `at` on are chained.
use lib.ListN.{get_or}
use Rattle.labels.proofs.ChainLaws.{ChainFrom}
use Rattle.labels.proofs.chains.chained.Given as goal

abbrev pub invariant-loop-at : goal.invariant-loop-at
invariant-loop-at l = ChainFrom (λ k. get_or l.keys k 0) l.count l.at l.next
