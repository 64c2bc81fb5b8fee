use Rattle.grammar.specs.Kinds.{local}
use native.Mathlib.Omega.{arith}
use mathlib.Core.Path.{◌∙◌}
use Rattle.reader.proofs.AnswerLaws.{handed_on}
use Rattle.theory.proofs.Bytes.ClassLaws.{all_classed}
use Rattle.basis.proofs.LoadedClasses.{does_load, does_not_load}
use Rattle.grammar.specs.LimitSets.{limits_of}
use Rattle.grammar.specs.KindTests.{is_of_kind}
use Rattle.theory.proofs.Tables.RoomierLimits.{within_large}
use Rattle.reader.proofs.TableFoundLaws.{table_found}
use Rattle.validator.proofs.VerdictLaws as laws
use Rattle.validator.proofs.deciding.read_and_test_local.Goals as goal

pub returns-then-not-classes_load : goal.returns-then-not-classes_load
returns-then-not-classes_load c =
    laws.kind_unloaded (limits_of c.args.limits) c.args.classes.now local c.args.table.now (does_not_load c.args.classes.now c.classes_load.ensures c.if-not-classes_load.true-raw)

pub read_table-requires : goal.read_table-requires
read_table-requires c =
    let all = all_classed c.args.classes.now (does_load c.args.classes.now c.classes_load.ensures c.if-not-classes_load.false-raw) in record { in_bounds = omega arith }

pub returns-in_err-read_table : goal.returns-in_err-read_table
returns-in_err-read_table c =
    handed_on _ c.from_residual.ensures ∙ laws.kind_refuses (limits_of c.args.limits) c.args.classes.now local c.args.table.now (does_load c.args.classes.now c.classes_load.ensures c.if-not-classes_load.false-raw) c.read_table.result _ c.read_table.ensures _ c.in_err-read_table.was

pub local_table-requires : goal.local_table-requires
local_table-requires c =
    (table_found (limits_of c.args.limits) c.args.classes.now c.args.table.now c.read_table.result _ c.read_table.ensures (does_load c.args.classes.now c.classes_load.ensures c.if-not-classes_load.false-raw) c.in_ok-read_table.was).some.held.indexes.few_rules

pub returns : goal.returns
unfolding is_of_kind
returns c =
    laws.kind_decided (limits_of c.args.limits) c.args.classes.now local c.args.table.now (does_load c.args.classes.now c.classes_load.ensures c.if-not-classes_load.false-raw) c.read_table.result _ c.read_table.ensures (within_large c.args.limits) c.in_ok-read_table.was c.local_table.result
    (λ g x. c.local_table.ensures c.args.table.now g x.indexes)
