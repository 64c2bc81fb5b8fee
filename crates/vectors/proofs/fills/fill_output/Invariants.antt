-- `fills::fill_output` meets its contract. The loop's invariant: the items before `i` are filled, and the others are as they came.
use mathlib.Core.Path.{◌≡◌}
use Rattle.vectors.specs.CaseFile.{output_byte}
use Rattle.vectors.proofs.FillLaws.{filled_to}
use Rattle.vectors.proofs.fills.fill_output.Given as goal

abbrev pub invariant-loop-i : goal.invariant-loop-i
invariant-loop-i l = l.out ≡ filled_to output_byte l.i l.initial.out
