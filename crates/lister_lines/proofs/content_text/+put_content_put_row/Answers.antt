-- `put_content` and `put_row` meet their contracts. The measure of a content is twice the bytes from its place on, that of a row one
-- more: every call goes on past a byte, but the one for the first of a row. Each return is a law of PrintSteps.
use Prim.Native.Nat.{◌≤◌}
use native.Mathlib.Omega.{arith}
use mathlib.Core.Path.{sym, ◌∙◌, ap}
use lib.ListN.{get_or}
use Rattle.grammar.specs.Limits.{large}
use Rattle.reader.proofs.ContentAtLaws.{content_inside, type_there, count_there}
use Rattle.lister_lines.specs.Printing.{mark_of}
use Rattle.lister_lines.proofs.PrintSteps.{none_room, none_done, empty_room, empty_done, type_room, type_done, list_asks, list_mark, list_done, operand_asks, operand_mark, suffix_done, row_end, row_byte, first_asks, row_forward, others_ask, row_done}
use Rattle.lister_lines.proofs.content_text.+put_content_put_row.Goals as goal

pub put_content-bounds-content-at : goal.put_content-bounds-content-at
put_content-bounds-content-at t c = (content_inside large _ _ c.requires.there).0

pub put_row-returns-then-n-eq0 : goal.put_row-returns-then-n-eq0
put_row-returns-then-n-eq0 t c = λ q. row_end q c.if-n-eq0.true

pub put_row-put_byte-start-requires : goal.put_row-put_byte-start-requires
put_row-put_byte-start-requires t c = row_byte c.requires c.if-n-eq0.false

pub put_content-put_byte-last-requires : goal.put_content-put_byte-last-requires
put_content-put_byte-last-requires t c = none_room c.requires (sym c.from-operator.ensures ∙ c.in-0.is)

pub put_row-put_content-one-requires : goal.put_row-put_content-one-requires
put_row-put_content-one-requires t c = (omega arith, first_asks c.requires c.if-n-eq0.false c.put_byte-start.ensures)

pub put_content-put_bytes-last-requires : goal.put_content-put_bytes-last-requires
put_content-put_bytes-last-requires t c = empty_room c.requires (sym c.from-operator.ensures ∙ c.in-1.is)

pub put_row-put_row-requires : goal.put_row-put_row-requires
put_row-put_row-requires t c =
    let q = c.requires in
    let f = row_forward q c.if-n-eq0.false c.put_byte-start.ensures c.put_content-one.ensures in
    (omega arith, others_ask q c.if-n-eq0.false c.put_byte-start.ensures c.put_content-one.ensures)

pub put_content-overflow_add-result : goal.put_content-overflow_add-result
put_content-overflow_add-result t c =
    let i = content_inside large _ _ c.requires.there in
    omega arith

pub put_row-returns : goal.put_row-returns
put_row-returns t c = λ q. row_done q c.if-n-eq0.false c.put_byte-start.ensures c.put_content-one.ensures c.put_row.ensures

pub put_content-bounds-content-at-in-2 : goal.put_content-bounds-content-at-in-2
put_content-bounds-content-at-in-2 t c = (type_there large _ _ c.requires.there (sym c.from-operator.ensures ∙ c.in-2.is)).0

pub put_content-put_type-last-requires : goal.put_content-put_type-last-requires
put_content-put_type-last-requires t c = type_room c.requires (sym c.from-operator.ensures ∙ c.in-2.is) _ c.from.ensures

pub put_content-bounds-content-at-in-3-to-4 : goal.put_content-bounds-content-at-in-3-to-4
put_content-bounds-content-at-in-3-to-4 t c =
    let low : 3 ≤ get_or c.args.content.now c.args.at 0 = omega arith in
    let high : get_or c.args.content.now c.args.at 0 ≤ 4 = omega arith in
    count_there large _ _ c.requires.there low high

pub put_content-put_row-row-requires : goal.put_content-put_row-row-requires
put_content-put_row-row-requires t c =
    let low : 3 ≤ get_or c.args.content.now c.args.at 0 = omega arith in
    let high : get_or c.args.content.now c.args.at 0 ≤ 4 = omega arith in
    let i = count_there large _ _ c.requires.there low high in
    (omega arith, list_asks c.requires low high _ c.from-n.ensures _ (c.mark_of-mark.ensures ∙ ap mark_of c.from-operator.ensures))

pub put_content-marked-requires : goal.put_content-marked-requires
put_content-marked-requires t c =
    let low : 3 ≤ get_or c.args.content.now c.args.at 0 = omega arith in
    let high : get_or c.args.content.now c.args.at 0 ≤ 4 = omega arith in
    list_mark c.requires low high _ c.from-n.ensures _ (c.mark_of-mark.ensures ∙ ap mark_of c.from-operator.ensures) c.put_row-row.ensures

pub put_content-mark_of-mark-requires-in_default : goal.put_content-mark_of-mark-requires-in_default
put_content-mark_of-mark-requires-in_default t c =
    let i = (content_inside large _ _ c.requires.there).1 in
    omega arith

pub put_content-put_content-operand-requires : goal.put_content-put_content-operand-requires
put_content-put_content-operand-requires t c =
    let low : 5 ≤ get_or c.args.content.now c.args.at 0 = omega arith in
    let i = (content_inside large _ _ c.requires.there).0 in
    (omega arith, operand_asks c.requires low _ (c.mark_of-mark-in_default.ensures ∙ ap mark_of c.from-operator.ensures))

pub put_content-marked-requires-in_default : goal.put_content-marked-requires-in_default
put_content-marked-requires-in_default t c =
    let low : 5 ≤ get_or c.args.content.now c.args.at 0 = omega arith in
    operand_mark c.requires low _ (c.mark_of-mark-in_default.ensures ∙ ap mark_of c.from-operator.ensures) c.put_content-operand.ensures

pub put_content-returns-in-0 : goal.put_content-returns-in-0
put_content-returns-in-0 t c = λ q. none_done q (sym c.from-operator.ensures ∙ c.in-0.is) c.put_byte-last.ensures

pub put_content-returns-in-1 : goal.put_content-returns-in-1
put_content-returns-in-1 t c = λ q. empty_done q (sym c.from-operator.ensures ∙ c.in-1.is) c.put_bytes-last.ensures

pub put_content-returns-in-2 : goal.put_content-returns-in-2
put_content-returns-in-2 t c =
    λ q. type_done q (sym c.from-operator.ensures ∙ c.in-2.is) _ c.from.ensures c.put_type-last.ensures

pub put_content-returns-in-3-to-4 : goal.put_content-returns-in-3-to-4
put_content-returns-in-3-to-4 t c =
    let low : 3 ≤ get_or c.args.content.now c.args.at 0 = omega arith in
    let high : get_or c.args.content.now c.args.at 0 ≤ 4 = omega arith in
    λ q. list_done q low high _ c.from-n.ensures _ (c.mark_of-mark.ensures ∙ ap mark_of c.from-operator.ensures) c.put_row-row.ensures c.marked.ensures

pub put_content-returns-in_default : goal.put_content-returns-in_default
put_content-returns-in_default t c =
    let low : 5 ≤ get_or c.args.content.now c.args.at 0 = omega arith in
    λ q. suffix_done q low _ (c.mark_of-mark-in_default.ensures ∙ ap mark_of c.from-operator.ensures) c.put_content-operand.ensures c.marked-in_default.ensures
