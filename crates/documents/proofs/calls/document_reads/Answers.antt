-- `calls::document_reads` meets its contract.
use mathlib.Core.Path.{refl}
use Rattle.theory.proofs.Bytes.ClassLaws.{all_classed}
use native.Mathlib.Omega.{arith}
use Rattle.grammar.specs.LimitSets.{limits_of}
use Rattle.theory.proofs.Theorems.SizedPromises.{document_sized}
use Rattle.basis.proofs.LoadedClasses.{does_load, does_not_load}
use Rattle.documents.proofs.CallLaws.{document_unanswered, document_unloaded, document_answered}
use Rattle.documents.proofs.calls.document_reads.Goals as goal

pub returns-then-work-limits : goal.returns-then-work-limits
returns-then-work-limits c =
    document_sized c.limits_of-limits.ensures.limits (document_unanswered (limits_of c.limits_of-limits.result) c.args.classes.now c.args.format c.args.document.now c.args.work.now c.if-work-limits.true)

pub returns-then-not-classes_load : goal.returns-then-not-classes_load
returns-then-not-classes_load c =
    document_sized c.limits_of-limits.ensures.limits (document_unloaded (limits_of c.limits_of-limits.result) c.args.classes.now c.args.format c.args.document.now c.args.work.now c.if-work-limits.false _ (c.clear_work.ensures (limits_of c.limits_of-limits.result) refl) (does_not_load c.args.classes.now c.classes_load.ensures c.if-not-classes_load.true-raw))

pub read_document-requires : goal.read_document-requires
read_document-requires c =
    let all = all_classed c.args.classes.now (does_load c.args.classes.now c.classes_load.ensures c.if-not-classes_load.false-raw) in record { in_bounds = omega arith }

pub returns : goal.returns
returns c =
    document_sized c.limits_of-limits.ensures.limits (document_answered (limits_of c.limits_of-limits.result) c.args.classes.now c.args.format c.args.document.now c.args.work.now c.if-work-limits.false _ (c.clear_work.ensures (limits_of c.limits_of-limits.result) refl) (does_load c.args.classes.now c.classes_load.ensures c.if-not-classes_load.false-raw) c.read_document.new.index c.read_document.result c.read_document.ensures)
