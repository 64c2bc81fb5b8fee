-- `list` meets its contract: the call's refusal, or the bytes that it wrote.
use mathlib.Core.Path.{sym, ap, subst}
use Rattle.grammar.specs.Limits.{standard}
use Rattle.grammar.specs.Names.{Classes, Loads}
use Rattle.grammar.specs.Listing.{listing}
use Rattle.grammar.proofs.ClassRules.{ascii_load}
use Rattle.basis.proofs.ClassTable.{held, held_is}
use Rattle.results.specs.PlanKind.{kind_of}
use Rattle.lister_lines.proofs.PrintSteps.{put_as}
use Rattle.theory.proofs.Theorems.SizedPromises.{widening_sized}
use Rattle.lister_lines.proofs.ListingLaws.{standard_size, list_refused, list_inside, list_written}
use Rattle.lister_folder.proofs.list.Goals as goal

-- the classes as the code holds them
held-load : Loads held
held-load = subst Loads (sym held_is) ascii_load

pub slice_bounds-list_bytes-end-in-Ok : goal.slice_bounds-list_bytes-end-in-Ok
unfolding kind_of
slice_bounds-list_bytes-end-in-Ok c =
    let w = widening_sized standard_size c.widen.ensures in
    list_inside held held-load c.args.old.now c.args.document.now c.args.out.now c.args.work.now c.requires.1 c.requires.0 _ _ _ w.settled
    _ c.in-Ok.is

pub list_bytes-requires : goal.list_bytes-requires
list_bytes-requires c = record { loads = held-load; in_bounds = c.requires.2 }

pub returns-in-Err : goal.returns-in-Err
unfolding kind_of
returns-in-Err c =
    let w = widening_sized standard_size c.widen.ensures in
    put_as (ap (λ (l : Classes). listing standard l c.args.old.now c.args.document.now) held_is)
    (list_refused held held-load c.args.old.now c.args.document.now c.args.out.now c.args.work.now c.requires.1 c.requires.0 _ _ _ w.settled
    _ c.in-Err.is c.refusal_line.ensures)

pub returns-in-Ok : goal.returns-in-Ok
unfolding kind_of
returns-in-Ok c =
    let w = widening_sized standard_size c.widen.ensures in
    put_as (ap (λ (l : Classes). listing standard l c.args.old.now c.args.document.now) held_is)
    (list_written held held-load c.args.old.now c.args.document.now c.args.out.now c.args.work.now c.requires.1 c.requires.0 _ _ _ w.settled
    _ c.in-Ok.is c.list_bytes.ensures)
