-- `expression` and `operands` meet their contracts. The measure of an expression is twice the bytes from its place on, that of operands
-- one more: every call goes on past a byte, but the one for the first operand. Each return is a law of ExtentLaws.
use Prim.Native.Nat.{◌+◌}
use native.Mathlib.Omega.{arith}
use mathlib.Core.Path.{sym, ◌∙◌, ap, subst}
use Rattle.grammar.specs.Limits.{limits_for}
use Rattle.reader.specs.Extents.{NestsBelow, deeper_of, joined_extent, proper_row_at}
use Rattle.reader.proofs.ExtentLaws.{proper_within, proper_nests, row_nests, proper_past, proper_unknown, proper_alone, proper_type, proper_single, proper_uncounted, proper_few, proper_row, row_none, row_stop, row_more}
use Rattle.reader.proofs.expressions.+expression_operands.Goals as goal

pub expression-returns-then-content-at : goal.expression-returns-then-content-at
expression-returns-then-content-at t c nodes levels words =
    let lim = limits_for c.args.types nodes levels words in
    let s = c.args.content.now in
    let at = c.args.at in
    sym (proper_past lim s at c.if-content-at.true)

pub operands-returns-then-count-eq0 : goal.operands-returns-then-count-eq0
operands-returns-then-count-eq0 t c nodes levels words =
    let lim = limits_for c.args.types nodes levels words in
    let s = c.args.content.now in
    let at = c.args.at in
    sym (ap (proper_row_at lim s at) c.if-count-eq0.true ∙ row_none lim s at)

pub operands-operands-requires : goal.operands-operands-requires
operands-operands-requires t c =
    let lim = limits_for c.args.types 0 0 0 in
    let s = c.args.content.now in
    let at = c.args.at in
    let first = sym (c.expression.ensures 0 0 0) ∙ c.in_ok-first.was in
    let w = proper_within lim s at _ _ first in
    (omega arith, omega arith)

pub operands-returns-in_err-first : goal.operands-returns-in_err-first
operands-returns-in_err-first t c nodes levels words =
    let lim = limits_for c.args.types nodes levels words in
    let s = c.args.content.now in
    let nowhere = sym (c.expression.ensures nodes levels words) ∙ c.in_err-first.was in
    c.from_residual.ensures ∙ sym (row_stop lim s c.args.at c.args.count (omega arith) nowhere)

pub operands-returns : goal.operands-returns
operands-returns t c nodes levels words =
    let lim = limits_for c.args.types nodes levels words in
    let s = c.args.content.now in
    let at = c.args.at in
    let first = sym (c.expression.ensures nodes levels words) ∙ c.in_ok-first.was in
    c.joined.ensures
    ∙ ap (joined_extent _) (c.operands.ensures nodes levels words)
    ∙ sym (row_more lim s at c.args.count _ _ (omega arith) first)

pub expression-returns-then-content-at-2 : goal.expression-returns-then-content-at-2
expression-returns-then-content-at-2 t c nodes levels words =
    let lim = limits_for c.args.types nodes levels words in
    let s = c.args.content.now in
    let at = c.args.at in
    sym (proper_uncounted lim s at (omega arith) (omega arith) (omega arith))

pub expression-returns-then-count-lt2 : goal.expression-returns-then-count-lt2
expression-returns-then-count-lt2 t c nodes levels words =
    let lim = limits_for c.args.types nodes levels words in
    let s = c.args.content.now in
    let at = c.args.at in
    sym (proper_few lim s at (omega arith) (omega arith) c.if-content-at-2.false (omega arith))

pub expression-deeper-requires : goal.expression-deeper-requires
expression-deeper-requires t c =
    let lim = limits_for c.args.types 0 0 0 in
    let s = c.args.content.now in
    let at = c.args.at in
    subst (NestsBelow 1025) (sym (c.operands.ensures 0 0 0)) (row_nests lim s (at + 2) _ 1025 (omega arith) (omega arith))

pub expression-deeper-requires-in-5-to-7 : goal.expression-deeper-requires-in-5-to-7
expression-deeper-requires-in-5-to-7 t c =
    let lim = limits_for c.args.types 0 0 0 in
    let s = c.args.content.now in
    let at = c.args.at in
    subst (NestsBelow 1025) (sym (c.expression.ensures 0 0 0)) (proper_nests lim s (at + 1) 1025 (omega arith))

pub expression-returns-in-2 : goal.expression-returns-in-2
expression-returns-in-2 t c nodes levels words =
    let lim = limits_for c.args.types nodes levels words in
    let s = c.args.content.now in
    let at = c.args.at in
    let inside = c.if-content-at.false in
    let operator = c.from-operator.ensures in
    c.type_number.ensures nodes levels words ∙ sym (proper_type lim s at inside (sym operator ∙ c.in-2.is))

pub expression-returns-in-0-to-1 : goal.expression-returns-in-0-to-1
expression-returns-in-0-to-1 t c nodes levels words =
    let lim = limits_for c.args.types nodes levels words in
    let s = c.args.content.now in
    let at = c.args.at in
    sym (proper_alone lim s at c.if-content-at.false (omega arith))

pub expression-returns-else-count-lt2 : goal.expression-returns-else-count-lt2
expression-returns-else-count-lt2 t c nodes levels words =
    let lim = limits_for c.args.types nodes levels words in
    let s = c.args.content.now in
    let at = c.args.at in
    c.deeper.ensures
    ∙ ap deeper_of (c.operands.ensures nodes levels words ∙ ap (proper_row_at lim s (at + 2)) c.from-count.ensures)
    ∙ sym (proper_row lim s at (omega arith) (omega arith) (omega arith) (omega arith) (omega arith))

pub expression-returns-in-5-to-7 : goal.expression-returns-in-5-to-7
expression-returns-in-5-to-7 t c nodes levels words =
    let lim = limits_for c.args.types nodes levels words in
    let s = c.args.content.now in
    let at = c.args.at in
    c.deeper-in-5-to-7.ensures
    ∙ ap deeper_of (c.expression.ensures nodes levels words)
    ∙ sym (proper_single lim s at (omega arith) (omega arith) (omega arith))

pub expression-returns-in_default : goal.expression-returns-in_default
expression-returns-in_default t c nodes levels words =
    let lim = limits_for c.args.types nodes levels words in
    let s = c.args.content.now in
    let at = c.args.at in
    sym (proper_unknown lim s at c.if-content-at.false (omega arith))
