-- `text_pairs` meets its contract. The loop's invariant: of the rules before `i`, the pairs of those that mark them are in the set.
use Prim.Native.Nat.{ℕ, ◌<◌}
use mathlib.Core.Path.{◌≡◌}
use lib.ListN.{length, get_or}
use Rattle.grammar.specs.Table.{Table}
use Rattle.theory.specs.Alternatives.{some_left}
use Rattle.sets.specs.Sets.{member, nothing}
use Rattle.union.specs.View.{Views}
use Rattle.union.specs.Rounds.{puts}
use Rattle.union.specs.PairNumbers.{rule_numbered, fruitful_of, is_marking}
use Rattle.results.proofs.text_pairs.text_pairs.Given as goal

abbrev pub invariant-loop-i : goal.invariant-loop-i
invariant-loop-i l =
    ((u : Table) → Views l.old l.add l.v u → ((k : ℕ) → k < 256 → member l.types.words 0 k ≡ some_left (fruitful_of u) k)
    → member l.set.words 0 ≡ puts (λ j. is_marking u (rule_numbered u j)) (λ j. get_or l.v.firsts j 0) nothing l.i)
    × (length l.set.words ≡ 8)
