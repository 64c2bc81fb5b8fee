-- `content_has` and `row_has` meet their contracts. The measure of a content is twice the bytes from its place on, that of a row one
-- more: every call goes on past a byte, but the one for the first of a row. Each return is a law of ProductiveLaws.
use Prim.Native.Nat.{◌+◌}
use native.Mathlib.Omega.{arith}
use mathlib.Core.Path.{refl, sym, ◌∙◌, ap, subst}
use Rattle.grammar.specs.Limits.{large}
use Rattle.sets.specs.Sets.{member}
use Rattle.reader.specs.ContentAt.{ContentsAt}
use Rattle.union.specs.Walks.{has_row_at}
use Rattle.reader.proofs.ContentAtLaws.{content_inside, type_there, count_there, operands_there, operand_there, first_of, others_there}
use Rattle.union.proofs.ProductiveLaws.{has_none, has_empty, has_type, has_sequence, has_choice, has_one_or_more, has_around, row_none, row_next}
use mathlib.Core.Path.{◌≡◌}
use mathlib.Core.Bool.{◌&&◌}
use Rattle.union.proofs.productive.+content_has_row_has.Goals as goal
use Rattle.union.proofs.productive.+content_has_row_has.Goals.{row_has-then-first, row_has-else-first}

pub content_has-bounds-content-at : goal.content_has-bounds-content-at
content_has-bounds-content-at t c = (content_inside large _ _ c.requires.0).0

pub row_has-returns-then-n-eq0 : goal.row_has-returns-then-n-eq0
row_has-returns-then-n-eq0 t c =
    let test = member c.args.types.now c.args.base in
    ap (has_row_at test _ _) c.if-n-eq0.true ∙ row_none test _ _

pub row_has-content_has-first-requires : goal.row_has-content_has-first-requires
row_has-content_has-first-requires t c =
    let first = (first_of large _ _ _ c.requires.0 c.if-n-eq0.false).first in
    (omega arith, (first, c.requires.1))

pub content_has-overflow_add-result : goal.content_has-overflow_add-result
content_has-overflow_add-result t c =
    let i = (content_inside large _ _ c.requires.0).0 in
    omega arith

pub row_has-row_has-others-requires : goal.row_has-row_has-others-requires
row_has-row_has-others-requires t c =
    let first = (first_of large _ _ _ c.requires.0 c.if-n-eq0.false).first in
    let i = (content_inside large _ _ first).0 in
    let o = others_there large _ _ _ c.requires.0 c.if-n-eq0.false _ _ _ c.content_has-first.ensures in
    (omega arith, (o.1, c.requires.1))

pub content_has-type_has-requires : goal.content_has-type_has-requires
unfolding large
content_has-type_has-requires t c =
    let i = type_there large _ _ c.requires.0 (sym c.from-operator.ensures ∙ c.in-2.is) in
    (i.0, i.1, c.requires.1)

pub content_has-bounds-content-at-in-3 : goal.content_has-bounds-content-at-in-3
content_has-bounds-content-at-in-3 t c = count_there large _ _ c.requires.0 (omega arith) (omega arith)

pub content_has-row_has-row-requires : goal.content_has-row_has-row-requires
content_has-row_has-row-requires t c =
    let s = c.args.content.now in
    let i = (content_inside large _ _ c.requires.0).0 in
    let row = operands_there large _ _ c.requires.0 (omega arith) (omega arith) in
    (omega arith, (subst (ContentsAt large s (c.args.at + 2)) (sym c.from-n.ensures) row, c.requires.1))

pub content_has-bounds-content-at-in-4 : goal.content_has-bounds-content-at-in-4
content_has-bounds-content-at-in-4 t c = count_there large _ _ c.requires.0 (omega arith) (omega arith)

pub content_has-row_has-row-requires-in-4 : goal.content_has-row_has-row-requires-in-4
content_has-row_has-row-requires-in-4 t c =
    let s = c.args.content.now in
    let i = (content_inside large _ _ c.requires.0).0 in
    let row = operands_there large _ _ c.requires.0 (omega arith) (omega arith) in
    (omega arith, (subst (ContentsAt large s (c.args.at + 2)) (sym c.from-n-in-4.ensures) row, c.requires.1))

pub content_has-content_has-requires : goal.content_has-content_has-requires
content_has-content_has-requires t c =
    let i = (content_inside large _ _ c.requires.0).0 in
    (omega arith, (operand_there large _ _ c.requires.0 (omega arith), c.requires.1))

pub content_has-content_has-operand-requires : goal.content_has-content_has-operand-requires
content_has-content_has-operand-requires t c =
    let i = (content_inside large _ _ c.requires.0).0 in
    (omega arith, (operand_there large _ _ c.requires.0 (omega arith), c.requires.1))

pub content_has-returns-in-0 : goal.content_has-returns-in-0
content_has-returns-in-0 t c = has_none _ _ _ (content_inside large _ _ c.requires.0).0 (sym c.from-operator.ensures ∙ c.in-0.is)

pub content_has-returns-in-1 : goal.content_has-returns-in-1
content_has-returns-in-1 t c = has_empty _ _ _ (content_inside large _ _ c.requires.0).0 (sym c.from-operator.ensures ∙ c.in-1.is)

pub content_has-returns-in-2 : goal.content_has-returns-in-2
content_has-returns-in-2 t c =
    let byte = sym c.from-operator.ensures ∙ c.in-2.is in
    rw c.type_has.ensures (has_type _ _ _ (type_there large _ _ c.requires.0 byte).0 byte)

pub content_has-returns-in-3 : goal.content_has-returns-in-3
content_has-returns-in-3 t c =
    let s = c.args.content.now in
    let at = c.args.at in
    let test = member c.args.types.now c.args.base in
    let byte = sym c.from-operator.ensures ∙ c.in-3.is in
    has_sequence test s at _ _ _ (count_there large _ _ c.requires.0 (omega arith) (omega arith))
    (ap (has_row_at test s (at + 2)) (sym c.from-n.ensures) ∙ c.row_has-row.ensures) byte

pub content_has-returns-in-4 : goal.content_has-returns-in-4
content_has-returns-in-4 t c =
    let s = c.args.content.now in
    let at = c.args.at in
    let test = member c.args.types.now c.args.base in
    let byte = sym c.from-operator.ensures ∙ c.in-4.is in
    has_choice test s at _ _ _ (count_there large _ _ c.requires.0 (omega arith) (omega arith))
    (ap (has_row_at test s (at + 2)) (sym c.from-n-in-4.ensures) ∙ c.row_has-row-in-4.ensures) byte

pub content_has-returns-in-6 : goal.content_has-returns-in-6
content_has-returns-in-6 t c =
    has_one_or_more _ _ _ _ _ (content_inside large _ _ c.requires.0).0 c.content_has.ensures
    (sym c.from-operator.ensures ∙ c.in-6.is)

pub content_has-returns-in_default : goal.content_has-returns-in_default
content_has-returns-in_default t c =
    let e = c.from-operator.ensures in
    let n6 : c.from-operator.result ≡ 6 → ⊥ = λ q. omega arith in
    let i = content_inside large _ _ c.requires.0 in
    has_around _ _ _ _ _ i.0 c.content_has-operand.ensures (omega arith) i.1 (λ q. n6 (e ∙ q))

pub row_has-returns-then-first-2 : goal.row_has-returns-then-first-2
row_has-returns-then-first-2 t c =
    let all : c.if-first.result ≡ (c.content_has-first.result.has && c.row_has-others.result.all) =
    elim c.if-first.branch [
      | row_has-then-first w ↦ rw w.if-first.true w.result-is
      | row_has-else-first w ↦ rw w.if-first.false (w.result-is ∙ w.if-first.false)
    ] in
    row_next _ _ _ _ _ _ _ _ _ _ _ c.if-n-eq0.false c.content_has-first.ensures c.row_has-others.ensures all (rw c.if-first-2.true refl)

pub row_has-returns-else-first-2 : goal.row_has-returns-else-first-2
row_has-returns-else-first-2 t c =
    let all : c.if-first.result ≡ (c.content_has-first.result.has && c.row_has-others.result.all) =
    elim c.if-first.branch [
      | row_has-then-first w ↦ rw w.if-first.true w.result-is
      | row_has-else-first w ↦ rw w.if-first.false (w.result-is ∙ w.if-first.false)
    ] in
    row_next _ _ _ _ _ _ _ _ _ _ _ c.if-n-eq0.false c.content_has-first.ensures c.row_has-others.ensures all (rw c.if-first-2.false refl)
