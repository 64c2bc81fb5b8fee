-- `with_new_rule` meets its contract: the next rule of the addition stands in its bytes, with the label that it has in the union.
use Prim.Native.Nat.{ℕ, ◌+◌}
use native.Mathlib.Omega.{arith}
use mathlib.Core.Path.{refl, ap}
use Rattle.reader.proofs.TableFoundLaws.{rule_found_at}
use Rattle.union.proofs.UnionLaws.{views_same, new_next}
use Rattle.union.proofs.united.with_new_rule.Goals as goal

pub united_label-label-requires : goal.united_label-label-requires
united_label-label-requires c =
    let below = (rule_found_at c.requires.0.so.addition.indexes c.requires.0.so.addition.within c.args.i c.requires.2).label_below in
    (c.requires.0, omega (arith, c.rule_label.ensures))

pub overflow_add-rule_type : goal.overflow_add-rule_type
overflow_add-rule_type c =
    let below = (rule_found_at c.requires.0.so.addition.indexes c.requires.0.so.addition.within c.args.i c.requires.2).type_below in
    omega (arith, c.rule_type.ensures)

pub overflow_cast-rule_type : goal.overflow_cast-rule_type
overflow_cast-rule_type c =
    let below = (rule_found_at c.requires.0.so.addition.indexes c.requires.0.so.addition.within c.args.i c.requires.2).type_below in
    omega (arith, c.rule_type.ensures)

pub returns : goal.returns
returns c = (
  λ g h a w.
      let n =
      new_next a _ c.requires.2 c.requires.1 _ _ _ _ _ (ap (λ (k : ℕ). 128 + k) c.rule_type.ensures) c.rule_label.ensures
      (c.united_label-label.ensures.0 g h a) refl refl in
      views_same n.1 (c.with_rule.ensures.0 _ _ _ n.0 w n.2),
  c.with_rule.ensures.1,
)
