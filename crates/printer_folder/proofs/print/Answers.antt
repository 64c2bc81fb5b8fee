-- `print` meets its contract: the line of the call's refusal, or the pages that it wrote.
use mathlib.Core.Path.{sym, ap, subst}
use Rattle.grammar.specs.Limits.{standard}
use Rattle.grammar.specs.Names.{Classes, Loads}
use Rattle.grammar.specs.Pages.{printing}
use Rattle.grammar.proofs.ClassRules.{ascii_load}
use Rattle.theory.proofs.Theorems.SizedPromises.{paging_sized}
use Rattle.basis.proofs.ClassTable.{held, held_is}
use Rattle.lister_lines.proofs.PrintSteps.{put_as}
use Rattle.lister_lines.proofs.ListingLaws.{standard_size}
use Rattle.printer_folder.proofs.PrintLaws.{print_refused, print_written}
use Rattle.printer_folder.proofs.print.Goals as goal

-- the classes as the code holds them
held-load : Loads held
held-load = subst Loads (sym held_is) ascii_load

pub returns-in-Err : goal.returns-in-Err
returns-in-Err c =
    let w = paging_sized standard_size c.pages.ensures.paging in
    put_as (ap (λ (l : Classes). printing standard l c.args.table.now) held_is)
    (print_refused held held-load c.args.table.now c.args.out.now c.args.work.now c.requires.1 c.requires.0 _ _ _ w.settled _ c.in-Err.is
    c.refusal_line.ensures)

pub returns-in-Ok : goal.returns-in-Ok
returns-in-Ok c =
    let w = paging_sized standard_size c.pages.ensures.paging in
    put_as (ap (λ (l : Classes). printing standard l c.args.table.now) held_is)
    (print_written held held-load c.args.table.now c.args.out.now c.args.work.now c.requires.1 c.requires.0 _ _ _ w.settled _ c.in-Ok.is)
