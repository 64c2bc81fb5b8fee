-- `with_old_rule` meets its contract: the next rule of the old table stands in its bytes.
use native.Mathlib.Omega.{arith}
use mathlib.Core.Path.{refl}
use Rattle.reader.proofs.TableFoundLaws.{rule_found_at}
use Rattle.union.proofs.UnionLaws.{views_same, old_next}
use Rattle.union.proofs.united.with_old_rule.Goals as goal

pub overflow_cast-rule_type : goal.overflow_cast-rule_type
overflow_cast-rule_type c =
    let below = (rule_found_at c.requires.0.1.held.indexes c.requires.0.1.held.within c.args.i c.requires.2).type_below in
    omega (arith, c.rule_type.ensures)

pub overflow_cast-rule_label : goal.overflow_cast-rule_label
overflow_cast-rule_label c =
    let below = (rule_found_at c.requires.0.1.held.indexes c.requires.0.1.held.within c.args.i c.requires.2).label_below in
    omega (arith, c.rule_label.ensures)

pub returns : goal.returns
returns c = (
  λ old add g t w.
      let n =
      old_next t _ c.requires.2 c.requires.3 c.requires.1 _ _ _ _ c.rule_type.ensures c.rule_label.ensures refl refl in
      views_same n.1 (c.with_rule.ensures.0 old add _ n.0 w n.2),
  c.with_rule.ensures.1,
)
