-- `append_part` meets its contract. The loop's invariant: the numbers of the part before this one are added.
use lib.ListN.{take}
use Rattle.union.specs.Walks.{Adds}
use Rattle.union.proofs.met.append_part.Given as goal

abbrev pub invariant-loop-number : goal.invariant-loop-number
invariant-loop-number l =
    Adds (take l.count l.initial.list) (take l.number-index l.part) l.list l.more
