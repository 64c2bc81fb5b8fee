-- `with_rule` meets its contract.
use mathlib.Core.Path.{refl}
use Rattle.union.proofs.UnionLaws.{views_more}
use Rattle.union.proofs.united.with_rule.Goals as goal

pub returns : goal.returns
returns c = (
  λ old add rs x w n.
      views_more w _ _ _ _ _ x c.requires n (c.pair_place-first.ensures.0 old add rs x w n.type n.label_is),
  record { one = refl; old = refl },
)
