-- `elements::read_tags` meets its contract. The loop's invariant is `TextSoFar`; the measure is what is left of the text.
use Prim.Native.Nat.{◌-◌}
use mathlib.Core.Path.{◌≡◌}
use lib.ListN.{length}
use Rattle.grammar.specs.LimitSets.{limits_of}
use Rattle.documents.proofs.TextLoop.{TextSoFar}
use Rattle.documents.proofs.elements.read_tags.Given as goal

abbrev pub invariant-loop-tag : goal.invariant-loop-tag
invariant-loop-tag l = TextSoFar (limits_of l.limits) l.classes l.s l.index l.at l.places l.depth × (length l.places ≡ 64)

abbrev pub decreases-loop-tag : goal.decreases-loop-tag
decreases-loop-tag l = length l.s - l.at
