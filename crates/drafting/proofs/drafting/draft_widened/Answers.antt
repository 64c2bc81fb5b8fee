-- `drafting::draft_widened` meets its contract: the refusal of the classes or of the old table, else what widening it made.
use Rattle.grammar.specs.declared.Source.TheVariants.{Table as a_table, Document as a_document}
use native.Mathlib.Omega.{arith}
use Rattle.theory.proofs.Bytes.ClassLaws.{all_classed}
use Rattle.basis.proofs.LoadedClasses.{does_load, does_not_load}
use Rattle.results.specs.PlanKind.{kind_of}
use Rattle.reader.proofs.AnswerLaws.{handed_on}
use Rattle.drafting.proofs.DraftLaws as laws
use Rattle.reader.proofs.TableFoundLaws.{table_found}
use Rattle.grammar.specs.LimitSets.{limits_of}
use Rattle.drafting.proofs.drafting.draft_widened.Goals as goal

pub returns-then-not-classes_load : goal.returns-then-not-classes_load
returns-then-not-classes_load c =
    laws.widened_unloaded c.args.limits c.args.classes.now (does_not_load c.args.classes.now c.classes_load.ensures c.if-not-classes_load.true-raw) _ c.args.source (kind_of c.args.kind) c.args.old.now c.args.addition.now

pub read_table-requires : goal.read_table-requires
read_table-requires c =
    let all = all_classed c.args.classes.now (does_load c.args.classes.now c.classes_load.ensures c.if-not-classes_load.false-raw) in record { in_bounds = omega arith }

pub returns-in_err-read_table : goal.returns-in_err-read_table
returns-in_err-read_table c =
    rw (handed_on c.from_residual.result c.from_residual.ensures)
    (laws.old_refuses c.args.limits c.args.classes.now (does_load c.args.classes.now c.classes_load.ensures c.if-not-classes_load.false-raw) c.args.source (kind_of c.args.kind) c.args.old.now c.args.addition.now c.read_table.result _ c.read_table.ensures _ _ c.in_err-read_table.was)

pub read_and_widen-requires : goal.read_and_widen-requires
read_and_widen-requires c =
    let load = does_load c.args.classes.now c.classes_load.ensures c.if-not-classes_load.false-raw in
    let (words, draft) = c.requires in
    record { loads = load; within = ((table_found (limits_of c.args.limits) c.args.classes.now c.args.old.now c.read_table.result _ c.read_table.ensures load c.in_ok-read_table.was).some, words, draft) }

pub widen_by_sample-requires : goal.widen_by_sample-requires
widen_by_sample-requires c =
    let load = does_load c.args.classes.now c.classes_load.ensures c.if-not-classes_load.false-raw in
    let (words, draft) = c.requires in
    record { loads = load; within = ((table_found (limits_of c.args.limits) c.args.classes.now c.args.old.now c.read_table.result _ c.read_table.ensures load c.in_ok-read_table.was).some, words, draft) }

pub returns-in-Table : goal.returns-in-Table
returns-in-Table c =
    laws.old_goes_on c.args.limits c.args.classes.now (does_load c.args.classes.now c.classes_load.ensures c.if-not-classes_load.false-raw) c.args.source (kind_of c.args.kind) c.args.old.now c.args.addition.now c.read_table.result _ c.read_table.ensures _ c.in_ok-read_table.was a_table c.in-Table.is c.read_and_widen.result c.read_and_widen.ensures

pub returns-in-Document : goal.returns-in-Document
returns-in-Document c =
    laws.old_goes_on c.args.limits c.args.classes.now (does_load c.args.classes.now c.classes_load.ensures c.if-not-classes_load.false-raw) c.args.source (kind_of c.args.kind) c.args.old.now c.args.addition.now c.read_table.result _ c.read_table.ensures _ c.in_ok-read_table.was (a_document _) c.in-Document.is c.widen_by_sample.result c.widen_by_sample.ensures
