-- `round` meets its contract. The loop's invariant: of the rules before `i`, the pairs of those whose contents have alternatives are
-- in the set.
use mathlib.Core.Path.{◌≡◌}
use lib.ListN.{length}
use Rattle.grammar.specs.Table.{Table}
use Rattle.theory.specs.Alternatives.{has_alts}
use Rattle.sets.specs.Sets.{member}
use Rattle.union.specs.View.{Views, first_in}
use Rattle.union.specs.Rounds.{puts, content_of_rule}
use Rattle.union.proofs.fruitful.round.Given as goal

abbrev pub invariant-loop-i : goal.invariant-loop-i
invariant-loop-i l =
    ((u : Table) → Views l.old l.add l.v u
    → member l.next.words 0
    ≡ puts (λ j. has_alts (member l.types.words 0) (content_of_rule u j)) (first_in l.v) (member l.initial.next.words 0) l.i)
    × (length l.next.words ≡ 8)
