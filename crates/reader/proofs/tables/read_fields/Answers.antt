-- `tables::read_fields` meets its contract. The loop's invariant: a table is read up to `at`, and the whole reads as the rest does after it.
use native.Mathlib.Omega.{arith}
use mathlib.Core.Logic.{inl, inr}
use mathlib.Core.Path.{sym, ◌∙◌, subst}
use Rattle.reader.specs.TableIndex.{with_none}
use Rattle.reader.proofs.FieldReading.{field_found}
use Rattle.reader.proofs.TableIndexLaws.{none_indexed}
use Rattle.reader.proofs.TableReading.{TableReached, reached_none, found_tag, found_inside, indexed, ends_early, ends_here, stops_here, reached_next}
use Rattle.reader.proofs.TableSteps.{reads_on}
use Rattle.reader.proofs.tables.read_fields.Goals as goal

pub loop-tag-init : goal.loop-tag-init
loop-tag-init c =
    let index = c.args.index.now in
    subst (TableReached c.args.limits c.args.classes.now c.args.s.now 0) (sym c.clear_index.ensures.cleared)
    (reached_none c.args.limits c.args.classes.now c.args.s.now (with_none index) (none_indexed c.args.s.now index c.clear_index.ensures.rows))

pub end_answer-requires : goal.end_answer-requires
end_answer-requires c =
    let found = field_found c.args.s.now c.loop-tag.at (sym c.field_at.ensures ∙ c.in-Found.is) in found_inside found

pub returns-then-tag-eq-TABLE_END_TAG : goal.returns-then-tag-eq-TABLE_END_TAG
returns-then-tag-eq-TABLE_END_TAG c =
    let found = field_found c.args.s.now c.loop-tag.at (sym c.field_at.ensures ∙ c.in-Found.is) in ends_here c.loop-tag.invariant found c.if-tag-eq-TABLE_END_TAG.true c.end_answer.result (c.end_answer.ensures c.loop-tag.invariant.table)

pub after_field-requires : goal.after_field-requires
after_field-requires c =
    let found = field_found c.args.s.now c.loop-tag.at (sym c.field_at.ensures ∙ c.in-Found.is) in record { in_bounds = c.requires.in_bounds; tag_before = found_tag found; value_at = record { short = c.requires.s_len_bound; inside = found_inside found; indexed = indexed c.loop-tag.invariant } }

pub returns-in_err-after_field-in-Found : goal.returns-in_err-after_field-in-Found
returns-in_err-after_field-in-Found c =
    let found = field_found c.args.s.now c.loop-tag.at (sym c.field_at.ensures ∙ c.in-Found.is) in reads_on _ c.from_residual.ensures (stops_here c.loop-tag.invariant found c.if-tag-eq-TABLE_END_TAG.false c.after_field.result _ (c.after_field.ensures c.loop-tag.invariant.table c.loop-tag.invariant.indexes) _ c.in_err-after_field-in-Found.was)

pub loop-tag-smaller : goal.loop-tag-smaller
loop-tag-smaller c =
    let found = field_found c.args.s.now c.loop-tag.at (sym c.field_at.ensures ∙ c.in-Found.is) in omega (arith, c.loop-tag.invariant.inside)

pub loop-tag-preserved : goal.loop-tag-preserved
loop-tag-preserved c =
    let found = field_found c.args.s.now c.loop-tag.at (sym c.field_at.ensures ∙ c.in-Found.is) in reached_next c.loop-tag.invariant found c.if-tag-eq-TABLE_END_TAG.false c.after_field.result _ (c.after_field.ensures c.loop-tag.invariant.table c.loop-tag.invariant.indexes) c.in_ok-after_field-in-Found.was

pub returns-in-NoBytes : goal.returns-in-NoBytes
returns-in-NoBytes c = ends_early c.loop-tag.invariant (inl (sym c.field_at.ensures ∙ c.in-NoBytes.is))

pub returns-in-PastEnd : goal.returns-in-PastEnd
returns-in-PastEnd c = ends_early c.loop-tag.invariant (inr (sym c.field_at.ensures ∙ c.in-PastEnd.is))
