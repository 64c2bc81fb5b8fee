-- `calls::pages` meets its contract: too few words, classes that do not load, or what the table gives.
use mathlib.Core.Path.{refl}
use Rattle.grammar.specs.LimitSets.{limits_of}
use Rattle.theory.proofs.Theorems.SizedPromises.{paging_sized}
use Rattle.basis.proofs.LoadedClasses.{does_load, does_not_load}
use Rattle.pages.proofs.CallLaws.{unanswered, unloaded, answered}
use Rattle.pages.proofs.MostPages.{with_most}
use Rattle.pages.proofs.calls.pages.Goals as goal

pub returns-then-work-limits : goal.returns-then-work-limits
returns-then-work-limits c =
    let both = with_most c.args.size
    (paging_sized c.limits_of-limits.ensures.limits (unanswered (limits_of c.limits_of-limits.result) c.args.classes.now c.args.table.now c.args.out.now c.args.work.now c.if-work-limits.true)) in record { paging = both.0; most = both.1 }

pub returns-then-not-classes_load : goal.returns-then-not-classes_load
returns-then-not-classes_load c =
    let both = with_most c.args.size
    (paging_sized c.limits_of-limits.ensures.limits
    (unloaded (limits_of c.limits_of-limits.result) c.args.classes.now c.args.table.now c.args.out.now c.args.work.now c.if-work-limits.false _ (c.clear_work.ensures (limits_of c.limits_of-limits.result) refl)
    (does_not_load c.args.classes.now c.classes_load.ensures c.if-not-classes_load.true-raw))) in record { paging = both.0; most = both.1 }

pub read_and_print-requires : goal.read_and_print-requires
read_and_print-requires c =
    does_load c.args.classes.now c.classes_load.ensures c.if-not-classes_load.false-raw

pub returns : goal.returns
returns c =
    let both = let load = does_load c.args.classes.now c.classes_load.ensures c.if-not-classes_load.false-raw in
    with_most c.args.size
    (paging_sized c.limits_of-limits.ensures.limits
    (answered (limits_of c.limits_of-limits.result) c.args.classes.now c.args.table.now c.args.out.now c.args.work.now c.if-work-limits.false _ (c.clear_work.ensures (limits_of c.limits_of-limits.result) refl) load _ _
    c.read_and_print.ensures)) in record { paging = both.0; most = both.1 }
