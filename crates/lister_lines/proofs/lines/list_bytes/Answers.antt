-- `list_bytes` meets its contract.
use Rattle.theory.proofs.Bytes.ClassLaws.{all_classed}
use native.Mathlib.Omega.{arith}
use mathlib.Core.Path.{sym, ◌∙◌, ap}
use Rattle.grammar.specs.LimitSets.{limits_of}
use Rattle.grammar.specs.Listing.{outcome_text}
use Rattle.theory.proofs.Tables.RoomierLimits.{within_large}
use Rattle.reader.proofs.TableFoundLaws.{table_found, table_refused, some_roomier}
use Rattle.lister_lines.proofs.PrintSteps.{put_as}
use Rattle.lister_lines.proofs.ListingLaws.{standard_read}
use Rattle.lister_lines.proofs.lines.list_bytes.Goals as goal

pub read_table-requires : goal.read_table-requires
read_table-requires c =
    let all = all_classed c.args.classes.now c.requires.loads in record { in_bounds = omega arith }

pub list_table-requires : goal.list_table-requires
list_table-requires c =
    let classes = c.args.classes.now in
    let table = c.args.table.now in
    let found = table_found (limits_of c.limits_of-limits.result) classes table c.read_table.result _ c.read_table.ensures c.requires.loads c.in-Ok.is in
    (some_roomier (within_large c.limits_of-limits.result) found.some, c.requires.in_bounds)

pub returns-in-Err : goal.returns-in-Err
unfolding outcome_text
returns-in-Err c =
    let classes = c.args.classes.now in
    let table = c.args.table.now in
    let turned-back = table_refused (limits_of c.limits_of-limits.result) classes table c.read_table.result _ c.read_table.ensures _ c.in-Err.is in
    let same = standard_read c.limits_of-limits.result c.limits_of-limits.ensures.limits classes table in
    put_as (ap outcome_text (sym turned-back ∙ same)) c.refusal_line.ensures

pub returns-in-Ok : goal.returns-in-Ok
unfolding outcome_text
returns-in-Ok c =
    let classes = c.args.classes.now in
    let table = c.args.table.now in
    let found = table_found (limits_of c.limits_of-limits.result) classes table c.read_table.result _ c.read_table.ensures c.requires.loads c.in-Ok.is in
    let same = standard_read c.limits_of-limits.result c.limits_of-limits.ensures.limits classes table in
    put_as (ap outcome_text (sym found.read ∙ same))
    (c.list_table.ensures.put (some_roomier (within_large c.limits_of-limits.result) found.some))
