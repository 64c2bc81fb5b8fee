-- `old_rules` meets its contract.
use native.Mathlib.Omega.{arith}
use lib.Seq.{take_all}
use mathlib.Core.Path.{◌∙◌}
use Rattle.union.proofs.UnionLaws.{views_same}
use Rattle.union.proofs.united.old_rules.Goals as goal

pub loop-i-preserved : goal.loop-i-preserved
loop-i-preserved c = (
  omega arith,
  c.with_old_rule-v.ensures.1.old ∙ c.loop-i.invariant.1,
  λ old add g t. c.with_old_rule-v.ensures.0 old add g t (c.loop-i.invariant.2 old add g t),
)

pub returns : goal.returns
returns c = (
  λ old add g t.
      let n = t.indexes.rules in
      views_same (take_all c.loop-i.i g.rules (omega arith)) (c.loop-i.invariant.2 old add g t),
  omega arith,
  omega arith,
)
