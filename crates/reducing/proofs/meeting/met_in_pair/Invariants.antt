-- `met_in_pair` meets its contract. The loop's invariant: the pairs met in the rules of the pair before `i` are added.
use Prim.Native.Nat.{ℕ}
use mathlib.Core.List.{List}
use lib.ListN.{take}
use lib.Dec.{eqb}
use Rattle.grammar.specs.Lists.{joined_of, numbers_below}
use Rattle.grammar.specs.Table.{Table}
use Rattle.theory.specs.Alternatives.{only_if}
use Rattle.union.specs.declared.united.United.{United}
use Rattle.union.specs.View.{first_in}
use Rattle.reducing.specs.PairsMet.{met_in_rule, Meets}
use Rattle.reducing.proofs.meeting.met_in_pair.Given as goal

abbrev of_rule : United → ℕ → Table → ℕ → List ℕ
of_rule v p u i = only_if (eqb (first_in v i) p) (met_in_rule u i)

abbrev pub invariant-loop-i : goal.invariant-loop-i
invariant-loop-i l =
    Meets l.old l.add l.v l.lists (λ u. joined_of (of_rule l.v l.p u) (numbers_below l.i)) (take l.count l.initial.list) l.list l.more
