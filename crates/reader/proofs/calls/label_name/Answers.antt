-- `calls::label_name` meets its contract.
use native.Mathlib.Omega.{arith}
use mathlib.Core.Path.{refl}
use Rattle.grammar.specs.LimitSets.{limits_of}
use Rattle.theory.proofs.Theorems.SizedPromises.{part_sized}
use Rattle.reader.proofs.CallLaws.{label_unanswered, label_refused, label_given}
use Rattle.basis.proofs.WorkLaws.{work_kept}
use Rattle.reader.proofs.calls.label_name.Goals as goal

pub returns-then-work-limits : goal.returns-then-work-limits
returns-then-work-limits c =
    let both = part_sized c.limits_of-limits.ensures.limits c.args.classes.now c.args.table.now c.args.label c.args.work.now (label_unanswered (limits_of c.limits_of-limits.result) c.args.classes.now c.args.table.now c.args.label c.args.work.now _ (work_kept (limits_of c.limits_of-limits.result) c.args.work.now c.if-work-limits.true) c.args.table.ref_ptr _ refl (omega arith) c.if-work-limits.true) in record { naming = both.0; part_of = both.1 }

pub slice_bounds-result-count-in-Ok : goal.slice_bounds-result-count-in-Ok
slice_bounds-result-count-in-Ok c = (c.find_label-found.ensures.found _ _ c.in-Ok.is).0.order

pub slice_bounds-result-start-in-Ok : goal.slice_bounds-result-start-in-Ok
slice_bounds-result-start-in-Ok c = (c.find_label-found.ensures.found _ _ c.in-Ok.is).0.order

pub slice_bounds-result-end-in-Ok : goal.slice_bounds-result-end-in-Ok
slice_bounds-result-end-in-Ok c = (c.find_label-found.ensures.found _ _ c.in-Ok.is).0.within

pub returns-in-Err : goal.returns-in-Err
returns-in-Err c =
    let both = part_sized c.limits_of-limits.ensures.limits c.args.classes.now c.args.table.now c.args.label c.args.work.now (label_refused (limits_of c.limits_of-limits.result) c.args.classes.now c.args.table.now c.args.label c.args.work.now _ (c.clear_work.ensures (limits_of c.limits_of-limits.result) refl) c.args.table.ref_ptr _ refl c.if-work-limits.false c.find_label-found.result c.find_label-found.ensures (omega arith) _ c.in-Err.is _ c.number_of.ensures) in record { naming = both.0; part_of = both.1 }

pub returns-in-Ok : goal.returns-in-Ok
returns-in-Ok c =
    let both = part_sized c.limits_of-limits.ensures.limits c.args.classes.now c.args.table.now c.args.label c.args.work.now (label_given (limits_of c.limits_of-limits.result) c.args.classes.now c.args.table.now c.args.label c.args.work.now _ (c.clear_work.ensures (limits_of c.limits_of-limits.result) refl) c.args.table.ref_ptr _ refl c.if-work-limits.false c.find_label-found.result c.find_label-found.ensures _ _ (omega arith) c.in-Ok.is) in record { naming = both.0; part_of = both.1 }
