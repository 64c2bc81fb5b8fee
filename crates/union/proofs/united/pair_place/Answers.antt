-- `pair_place` meets its contract.
use native.Mathlib.Omega.{arith}
use borrow.Author.Tests.{eq-eqb}
use mathlib.Core.Bool.{◌&&◌}
use mathlib.Core.Path.{ap₂}
use Rattle.union.proofs.UnionLaws.{pair_here, pair_nowhere}
use Rattle.union.proofs.united.pair_place.Goals as goal

pub returns-then-label-labels : goal.returns-then-label-labels
returns-then-label-labels c = (
  λ old add rs x w p q.
      pair_here w x p q c.loop-i.i c.loop-i-test.true c.loop-i.invariant
      (ap₂ ◌&&◌ (eq-eqb _ _ c.if-ty-types.true) (eq-eqb _ _ c.if-label-labels.true)),
  omega arith,
)

pub returns : goal.returns
returns c = (λ old add rs x w p q. pair_nowhere w x p q (λ j h. c.loop-i.invariant j (omega arith)), omega arith)
