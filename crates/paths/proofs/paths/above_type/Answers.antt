-- `above_type` meets its contract.
use native.Mathlib.Omega.{arith}
use borrow.Author.Rules.{rules}
use Rattle.paths.proofs.paths.above_type.Goals as goal

pub offset_bounds-types-parent : goal.offset_bounds-types-parent
offset_bounds-types-parent c =
    let n = c.if-i-eq0.false in
    let r = c.requires (omega (arith, n)) in
    search rules

pub bounds-types-parent : goal.bounds-types-parent
bounds-types-parent c =
    let n = c.if-i-eq0.false in
    (c.requires (omega (arith, n))).0

pub overflow_add-result : goal.overflow_add-result
overflow_add-result c =
    let n = c.if-i-eq0.false in
    let r = (c.requires (omega (arith, n))).1 in
    omega arith
