-- `documents::closed_depth` meets its contract. The loop's invariant: closing the levels that are left is closing all.
use mathlib.Core.Path.{◌≡◌}
use Rattle.grammar.specs.ReadDocument.{closed}
use Rattle.documents.specs.DocumentSteps.{open_levels}
use Rattle.documents.proofs.documents.closed_depth.Given as goal

abbrev pub invariant-loop-d : goal.invariant-loop-d
invariant-loop-d l = closed (open_levels l.coming l.d) ≡ closed (open_levels l.coming l.depth)
