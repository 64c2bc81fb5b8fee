-- `kid_types` meets its contract. The loop's invariant: the types of the children among the nodes passed stand first.
use Rattle.sequences.proofs.KidLaws.{KidsFound}
use Rattle.sequences.proofs.sequences.kid_types.Given as goal

abbrev pub invariant-loop-j : goal.invariant-loop-j
invariant-loop-j l = KidsFound l.parents l.types l.nodes l.i l.of l.count l.j
