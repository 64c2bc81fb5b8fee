-- `kinds::content_types` meets its contract. The loop's invariant: the types in the set and those that stand from `at` on are the
-- content's.
use Prim.Native.Nat.{◌-◌}
use mathlib.Core.Path.{◌≡◌}
use lib.ListN.{length}
use Rattle.grammar.specs.Content.{Content, types_in}
use Rattle.grammar.specs.ReadContent.{content_bytes}
use Rattle.kinds.proofs.StandingTypes.{TypesLeft}
use Rattle.kinds.proofs.kinds.content_types.Given as goal

abbrev pub invariant-loop-at : goal.invariant-loop-at
invariant-loop-at l = (length l.words ≡ length l.initial.words) × ((c : Content) → l.content ≡ content_bytes c → TypesLeft l.content l.words (types_in c) l.at)

abbrev pub decreases-loop-at : goal.decreases-loop-at
decreases-loop-at l = length l.content - l.at
