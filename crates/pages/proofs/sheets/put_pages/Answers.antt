-- `put_pages` meets its contract.
use native.Mathlib.Omega.{arith}
use Rattle.grammar.specs.Pages.{no_texts}
use Rattle.pages.proofs.TextLaws.{no_texts_lem}
use Rattle.pages.proofs.SheetLaws.{blanks_few, rows_whole, too_short, handed_over}
use Rattle.pages.proofs.sheets.put_pages.Goals as goal

pub overflow_add-size : goal.overflow_add-size
overflow_add-size c =
    let blanks = blanks_few _ c.blanks_after-blanks.ensures in
    omega arith

pub overflow_mul-size : goal.overflow_mul-size
overflow_mul-size c =
    let blanks = blanks_few _ c.blanks_after-blanks.ensures in
    omega arith

pub returns-then-out-size : goal.returns-then-out-size
returns-then-out-size c = λ f. too_short f.table (c.count_rows-rows.ensures.value f) c.blanks_after-blanks.ensures c.if-out-size.true

pub put_rules-end-requires : goal.put_rules-end-requires
put_rules-end-requires c =
    let held = c.requires in
    let count = c.count_rows-rows.ensures.value held in
    let room = c.if-out-size.false in
    (record { held = held; room = omega arith }, omega arith)

pub put_rows-requires : goal.put_rows-requires
put_rows-requires c =
    let held = c.requires in
    let count = c.count_rows-rows.ensures.value held in
    let blanks = blanks_few _ c.blanks_after-blanks.ensures in
    let end = rows_whole held.table (c.put_rules-end.ensures held) in
    (record { texts_are = no_texts; stand = no_texts_lem _ }, omega arith, omega arith)

pub returns : goal.returns
returns c =
    λ f.
    handed_over f.table (c.count_rows-rows.ensures.value f) c.blanks_after-blanks.ensures c.if-out-size.false (c.put_rules-end.ensures f)
    (c.put_rows.ensures no_texts (no_texts_lem _))
