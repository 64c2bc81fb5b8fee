-- `put_name` meets its contract: the name stands where the places of its own table say.
use Prim.Native.Nat.{ℕ}
use mathlib.Core.List.{List}
use mathlib.Core.Path.{subst}
use Rattle.grammar.specs.Fields.{field_bytes}
use Rattle.writer.specs.Writing.{Puts}
use Rattle.results.proofs.ResultLaws.{name_old, name_new}
use Rattle.results.proofs.labels_used.put_name.Goals as goal

pub slice_bounds-put_field-count : goal.slice_bounds-put_field-count
slice_bounds-put_field-count c =
    (name_old c.requires.3 c.args.label _ _ _ c.label_count-count.ensures c.label_from-from.ensures c.label_to-to.ensures c.if-label-count.true).0.order

pub slice_bounds-put_field-start : goal.slice_bounds-put_field-start
slice_bounds-put_field-start c =
    (name_old c.requires.3 c.args.label _ _ _ c.label_count-count.ensures c.label_from-from.ensures c.label_to-to.ensures c.if-label-count.true).0.order

pub slice_bounds-put_field-end : goal.slice_bounds-put_field-end
slice_bounds-put_field-end c =
    (name_old c.requires.3 c.args.label _ _ _ c.label_count-count.ensures c.label_from-from.ensures c.label_to-to.ensures c.if-label-count.true).0.within

pub returns-then-label-count : goal.returns-then-label-count
returns-then-label-count c =
    λ q.
    subst
    (λ (name : List ℕ).
    Puts c.args.draft.now c.args.at (field_bytes 0x10 name) c.put_field.new.draft c.put_field.result)
    (name_old q c.args.label _ _ _ c.label_count-count.ensures c.label_from-from.ensures c.label_to-to.ensures c.if-label-count.true).1
    c.put_field.ensures

pub slice_bounds-put_field-count-2 : goal.slice_bounds-put_field-count-2
slice_bounds-put_field-count-2 c =
    (name_new c.requires.3 c.args.label _ _ _ c.label_count-count.ensures c.from-from.ensures c.from-to.ensures c.if-label-count.false c.requires.2).0.order

pub slice_bounds-put_field-start-2 : goal.slice_bounds-put_field-start-2
slice_bounds-put_field-start-2 c =
    (name_new c.requires.3 c.args.label _ _ _ c.label_count-count.ensures c.from-from.ensures c.from-to.ensures c.if-label-count.false c.requires.2).0.order

pub slice_bounds-put_field-end-2 : goal.slice_bounds-put_field-end-2
slice_bounds-put_field-end-2 c =
    (name_new c.requires.3 c.args.label _ _ _ c.label_count-count.ensures c.from-from.ensures c.from-to.ensures c.if-label-count.false c.requires.2).0.within

pub returns : goal.returns
returns c =
    λ q.
    subst
    (λ (name : List ℕ).
    Puts c.args.draft.now c.args.at (field_bytes 0x10 name) c.put_field-2.new.draft c.put_field-2.result)
    (name_new q c.args.label _ _ _ c.label_count-count.ensures c.from-from.ensures c.from-to.ensures c.if-label-count.false c.requires.2).1
    c.put_field-2.ensures
