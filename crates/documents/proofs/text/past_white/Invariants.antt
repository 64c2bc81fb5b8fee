-- `text::past_white` meets its contract. The loop's invariant: what stands from `i` on is what stands behind the white space.
use mathlib.Core.Path.{◌≡◌}
use lib.ListN.{drop}
use Rattle.grammar.specs.ReadText.{past_white}
use Rattle.documents.proofs.text.past_white.Given as goal

abbrev pub invariant-loop-i : goal.invariant-loop-i
invariant-loop-i l = past_white (drop l.at l.s) ≡ past_white (drop l.i l.s)
