-- `documents::step_at` meets its contract: the field that was found is the first of the rest of the document.
use Rattle.grammar.specs.declared.Refusal.{Refusal}
use Rattle.std.specs.Prelude.{Result}
use native.Mathlib.Omega.{arith}
use mathlib.Core.Path.{sym, ◌∙◌, ap}
use lib.ListN.{drop}
use Rattle.grammar.specs.LimitSets.{limits_of}
use Rattle.grammar.specs.Fields.{fields_of}
use Rattle.reader.proofs.AnswerLaws.{handed_on}
use Rattle.reader.proofs.FieldReading.{field_found, field_none, field_past}
use Rattle.documents.specs.DocumentNodes.{outcome_of}
use Rattle.documents.proofs.DocumentStepping.{stops_none, stops_past, stops_end, goes_with, step_also}
use Rattle.documents.proofs.documents.step_at.Goals as goal

pub overflow_sub-to : goal.overflow_sub-to
overflow_sub-to c = (field_found c.args.s.now c.args.at (sym c.field_at.ensures ∙ c.in-Found.is)).order

pub overflow_sub-s : goal.overflow_sub-s
overflow_sub-s c = (field_found c.args.s.now c.args.at (sym c.field_at.ensures ∙ c.in-Found.is)).within

pub returns-in_err-end_answer-in-Found : goal.returns-in_err-end_answer-in-Found
returns-in_err-end_answer-in-Found c =
    let s = c.args.s.now in
    let found = field_found s c.args.at (sym c.field_at.ensures ∙ c.in-Found.is) in
    rw (handed_on _ c.from_residual.ensures)
    (λ o z.
    stops_end (limits_of c.args.limits) c.args.classes.now s c.args.at c.in-Found.tag c.in-Found.from c.in-Found.to found c.if-tag-eq-DOCUMENT_END_TAG.true c.args.nodes c.args.depth o z
    ∙ ap (λ (r : Result (Unit {0}) Refusal). outcome_of r o.nodes) (sym c.end_answer.ensures ∙ c.in_err-end_answer-in-Found.was))

pub returns-then-tag-eq-DOCUMENT_END_TAG : goal.returns-then-tag-eq-DOCUMENT_END_TAG
returns-then-tag-eq-DOCUMENT_END_TAG c =
    let s = c.args.s.now in
    let found = field_found s c.args.at (sym c.field_at.ensures ∙ c.in-Found.is) in
    λ o z.
    stops_end (limits_of c.args.limits) c.args.classes.now s c.args.at c.in-Found.tag c.in-Found.from c.in-Found.to found c.if-tag-eq-DOCUMENT_END_TAG.true c.args.nodes c.args.depth o z
    ∙ ap (λ (r : Result (Unit {0}) Refusal). outcome_of r o.nodes) (sym c.end_answer.ensures ∙ c.in_ok-end_answer-in-Found.was)

pub node_of-requires : goal.node_of-requires
node_of-requires c =
    let tagged = sym c.field_at.ensures ∙ c.in-Found.is in
    let found = field_found c.args.s.now c.args.at tagged in
    record { in_bounds = c.requires; from_le_to = (found.order, found.within) }

pub returns-in-NoBytes : goal.returns-in-NoBytes
returns-in-NoBytes c =
    let s = c.args.s.now in
    let ended = field_none s c.args.at (sym c.field_at.ensures ∙ c.in-NoBytes.is) in
    λ o z. stops_none (limits_of c.args.limits) c.args.classes.now o (fields_of (drop c.args.at s)) ended.1

pub returns-in-PastEnd : goal.returns-in-PastEnd
returns-in-PastEnd c =
    let s = c.args.s.now in
    let ended = field_past s c.args.at (sym c.field_at.ensures ∙ c.in-PastEnd.is) in
    λ o z. stops_past (limits_of c.args.limits) c.args.classes.now o (fields_of (drop c.args.at s)) ended.1

pub returns-in_err-node-in-Found : goal.returns-in_err-node-in-Found
returns-in_err-node-in-Found c =
    let s = c.args.s.now in
    let found = field_found s c.args.at (sym c.field_at.ensures ∙ c.in-Found.is) in
    rw (handed_on _ c.from_residual-in_err-node-in-Found.ensures)
    (λ o z.
    goes_with (limits_of c.args.limits) c.args.classes.now s c.args.at c.in-Found.tag c.in-Found.from c.in-Found.to found c.if-tag-eq-DOCUMENT_END_TAG.false o
    ∙ c.in_err-node-in-Found.ensures o z)

pub returns-in_ok-node-in-Found : goal.returns-in_ok-node-in-Found
returns-in_ok-node-in-Found c =
    let s = c.args.s.now in
    let found = field_found s c.args.at (sym c.field_at.ensures ∙ c.in-Found.is) in
    let from_is = found.begins in
    step_also (omega arith)
    (goes_with (limits_of c.args.limits) c.args.classes.now s c.args.at c.in-Found.tag c.in-Found.from c.in-Found.to found c.if-tag-eq-DOCUMENT_END_TAG.false)
    c.in_ok-node-in-Found.ensures
