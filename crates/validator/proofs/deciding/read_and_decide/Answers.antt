-- `read_and_decide` meets its contract: the refusal of the table, else that of the document, else the test.
use Rattle.theory.proofs.Bytes.ClassLaws.{all_classed}
use Rattle.basis.proofs.LoadedClasses.{does_load, does_not_load}
use native.Mathlib.Omega.{arith}
use mathlib.Core.Path.{◌∙◌}
use Rattle.reader.proofs.AnswerLaws.{handed_on}
use Rattle.grammar.specs.LimitSets.{limits_of}
use Rattle.theory.proofs.Tables.RoomierLimits.{within_large}
use Rattle.reader.proofs.TableFoundLaws.{table_found, some_roomier}
use Rattle.validator.proofs.VerdictLaws as laws
use Rattle.validator.proofs.deciding.read_and_decide.Goals as goal

pub returns-then-not-classes_load : goal.returns-then-not-classes_load
returns-then-not-classes_load c =
    laws.unloaded_refuses (limits_of c.args.limits) c.args.classes.now c.args.table.now c.args.format c.args.document.now (does_not_load c.args.classes.now c.classes_load.ensures c.if-not-classes_load.true-raw)

pub read_table-requires : goal.read_table-requires
read_table-requires c =
    let all = all_classed c.args.classes.now (does_load c.args.classes.now c.classes_load.ensures c.if-not-classes_load.false-raw) in record { in_bounds = omega arith }

pub returns-in_err-read_table : goal.returns-in_err-read_table
returns-in_err-read_table c =
    handed_on _ c.from_residual.ensures ∙ laws.table_refuses (limits_of c.args.limits) c.args.classes.now c.args.table.now c.args.format c.args.document.now (does_load c.args.classes.now c.classes_load.ensures c.if-not-classes_load.false-raw) c.read_table.result _ c.read_table.ensures _ c.in_err-read_table.was

pub read_document-requires : goal.read_document-requires
read_document-requires c =
    let all = all_classed c.args.classes.now (does_load c.args.classes.now c.classes_load.ensures c.if-not-classes_load.false-raw) in record { in_bounds = omega arith }

pub returns-in_err-read_document : goal.returns-in_err-read_document
returns-in_err-read_document c =
    handed_on _ c.from_residual-in_err-read_document.ensures ∙ laws.document_refuses (limits_of c.args.limits) c.args.classes.now c.args.table.now c.args.format c.args.document.now (does_load c.args.classes.now c.classes_load.ensures c.if-not-classes_load.false-raw) c.read_table.result _ c.read_table.ensures c.in_ok-read_table.was
    c.read_document.new.index c.read_document.result c.read_document.ensures _ c.in_err-read_document.was

pub lets_in_read-yes-requires : goal.lets_in_read-yes-requires
lets_in_read-yes-requires c = (
  some_roomier (within_large c.args.limits) (table_found (limits_of c.args.limits) c.args.classes.now c.args.table.now c.read_table.result _ c.read_table.ensures (does_load c.args.classes.now c.classes_load.ensures c.if-not-classes_load.false-raw) c.in_ok-read_table.was).some,
  laws.nodes_known (limits_of c.args.limits) c.args.classes.now c.args.table.now c.args.format c.args.document.now (does_load c.args.classes.now c.classes_load.ensures c.if-not-classes_load.false-raw) c.read_table.result _ c.read_table.ensures c.in_ok-read_table.was
      c.read_document.new.index c.read_document.result c.read_document.ensures c.in_ok-read_document.was,
  c.requires.in_bounds,
)

pub returns : goal.returns
returns c =
    laws.decided (limits_of c.args.limits) c.args.classes.now c.args.table.now c.args.format c.args.document.now (does_load c.args.classes.now c.classes_load.ensures c.if-not-classes_load.false-raw) c.read_table.result _ c.read_table.ensures c.in_ok-read_table.was
    c.read_document.new.index c.read_document.result c.read_document.ensures c.in_ok-read_document.was (within_large c.args.limits) c.lets_in_read-yes.result
    c.lets_in_read-yes.ensures
