-- `documents::read_fields` meets its contract. The loop's invariant is `NodesSoFar`; the measure is what is left of the input.
use Prim.Native.Nat.{◌-◌}
use lib.ListN.{length}
use Rattle.grammar.specs.LimitSets.{limits_of}
use Rattle.documents.proofs.DocumentLoop.{NodesSoFar}
use Rattle.documents.proofs.documents.read_fields.Given as goal

abbrev pub invariant-loop-node : goal.invariant-loop-node
invariant-loop-node l = NodesSoFar (limits_of l.limits) l.classes l.s l.index l.at l.coming l.depth

abbrev pub decreases-loop-node : goal.decreases-loop-node
decreases-loop-node l = length l.s - l.at
