-- `new_rules` meets its contract.
use native.Mathlib.Omega.{arith}
use Rattle.union.proofs.UnionLaws.{views_same, union_rules}
use Rattle.union.proofs.united.new_rules.Goals as goal

pub returns : goal.returns
returns c =
    λ g h a w.
    let n = a.addition.indexes.rules in
    views_same (union_rules g h c.loop-i.i (omega arith)) (c.loop-i.invariant.2 g h a w)
