-- `read_and_print` meets its contract: the refusal of reading, or the pages.
use native.Mathlib.Omega.{arith}
use Rattle.grammar.specs.LimitSets.{limits_of}
use Rattle.theory.proofs.Bytes.ClassLaws.{all_classed}
use Rattle.theory.proofs.Tables.RoomierLimits.{within_large}
use Rattle.reader.proofs.AnswerLaws.{handed_on}
use Rattle.reader.proofs.TableFoundLaws.{table_found, table_refused, some_roomier}
use Rattle.pages.proofs.CallLaws.{unread, printed}
use Rattle.pages.proofs.calls.read_and_print.Goals as goal

pub read_table-requires : goal.read_table-requires
read_table-requires c =
    let all = all_classed c.args.classes.now c.requires in
    record { in_bounds = omega arith }

pub put_pages-requires : goal.put_pages-requires
put_pages-requires c =
    let found =
    table_found (limits_of c.args.limits) c.args.classes.now c.args.table.now c.read_table.result _ c.read_table.ensures c.requires c.in_ok-read_table.was in
    some_roomier (within_large c.args.limits) found.some

pub returns-in_err-read_table : goal.returns-in_err-read_table
returns-in_err-read_table c =
    rw (handed_on c.from_residual.result c.from_residual.ensures)
    (unread (limits_of c.args.limits) c.args.classes.now c.args.table.now c.args.out.now _
    (table_refused (limits_of c.args.limits) c.args.classes.now c.args.table.now c.read_table.result _ c.read_table.ensures _ c.in_err-read_table.was))

pub returns : goal.returns
returns c =
    let found = table_found (limits_of c.args.limits) c.args.classes.now c.args.table.now c.read_table.result _ c.read_table.ensures c.requires c.in_ok-read_table.was in
    printed (limits_of c.args.limits) c.args.classes.now c.args.table.now c.args.out.now found.some.table found.read
    (c.put_pages.ensures (some_roomier (within_large c.args.limits) found.some))
