-- `united_label` meets its contract: the name is among the old, or among the new ones after them.
use native.Mathlib.Omega.{arith}
use Rattle.reader.proofs.LabelSearch.{index_names}
use Rattle.reader.proofs.TableIndexLaws.{label_at}
use Rattle.union.proofs.UnitedLabelsLaws.{label_old, label_new, label_below}
use Rattle.union.proofs.labels.united_label.Goals as goal

pub slice_bounds-name-count : goal.slice_bounds-name-count
slice_bounds-name-count c =
    let at = (label_at c.requires.0.so.addition.indexes c.args.label c.requires.1).2.inside in
    omega (arith, c.label_from.ensures, c.label_to.ensures)

pub slice_bounds-name-start : goal.slice_bounds-name-start
slice_bounds-name-start c =
    let at = (label_at c.requires.0.so.addition.indexes c.args.label c.requires.1).2.inside in
    omega (arith, c.label_from.ensures, c.label_to.ensures)

pub slice_bounds-name-end : goal.slice_bounds-name-end
slice_bounds-name-end c =
    let at = (label_at c.requires.0.so.addition.indexes c.args.label c.requires.1).2.inside in
    omega (arith, c.label_from.ensures, c.label_to.ensures)

pub returns-then-p-count : goal.returns-then-p-count
returns-then-p-count c = (
  λ g h a.
      label_old a.old_table a.addition.indexes c.args.label c.requires.1 _ _ _ _ c.label_from.ensures c.label_to.ensures c.label_count-count.ensures
      (c.name_place-p.ensures _ (index_names a.old_table c.label_count-count.ensures))
      c.if-p-count.true,
  omega arith,
)

pub overflow_add-result : goal.overflow_add-result
overflow_add-result c =
    let a = c.requires.0.so in
    let below =
    label_below a.old_table a.addition.indexes c.args.label c.requires.1 _ _ _ _ c.label_from.ensures c.label_to.ensures
    c.label_count-count.ensures
    (c.name_place-p.ensures _ (index_names a.old_table c.label_count-count.ensures)) _
    c.if-p-count.false
    (c.name_place.ensures _ a.new_names) _
    a.new_names in
    omega arith

pub returns : goal.returns
returns c =
    let a = c.requires.0.so in
    let below =
    label_below a.old_table a.addition.indexes c.args.label c.requires.1 _ _ _ _ c.label_from.ensures c.label_to.ensures
    c.label_count-count.ensures
    (c.name_place-p.ensures _ (index_names a.old_table c.label_count-count.ensures)) _
    c.if-p-count.false
    (c.name_place.ensures _ a.new_names) _
    a.new_names in (
      λ g h a.
          label_new a.old_table a.addition.indexes c.args.label c.requires.1 _ _ _ _ c.label_from.ensures c.label_to.ensures
          c.label_count-count.ensures
          (c.name_place-p.ensures _ (index_names a.old_table c.label_count-count.ensures)) _
          c.if-p-count.false
          (c.name_place.ensures _ a.new_names),
      omega arith,
    )
