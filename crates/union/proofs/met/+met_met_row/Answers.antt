-- `met` and `met_row` meet their contracts. The measure of a content is twice the bytes from its place on, that of a row one more:
-- every call goes on past a byte, but the one for the first of a row. Each return is a law of MetLaws.
use Prim.Native.Nat.{◌+◌}
use native.Mathlib.Omega.{arith}
use mathlib.Core.Path.{sym, ◌∙◌, subst}
use Rattle.grammar.specs.Limits.{large}
use Rattle.reader.specs.ContentAt.{ContentsAt}
use Rattle.reader.proofs.ContentAtLaws.{content_inside, type_there, count_there, operands_there, operand_there}
use Rattle.union.proofs.MetLaws.{none_finds, empty_finds, type_finds, sequence_finds, choice_finds, one_or_more_finds, around_finds, no_row_finds, row_finds, first_asks, others_ask}
use mathlib.Core.Path.{◌≡◌}
use mathlib.Core.Bool.{◌&&◌, ◌||◌}
use Rattle.union.proofs.met.+met_met_row.Goals as goal
use Rattle.union.proofs.met.+met_met_row.Goals.{met_row-then-first, met_row-else-first, met_row-then-first-2, met_row-else-first-2}

pub met-bounds-content-at : goal.met-bounds-content-at
met-bounds-content-at t c = (content_inside large _ _ c.requires.0.there).0

pub met_row-returns-then-n-eq0 : goal.met_row-returns-then-n-eq0
met_row-returns-then-n-eq0 t c = no_row_finds _ _ _ _ _ _ _ _ c.requires.0 c.requires.1 c.if-n-eq0.true

pub met_row-met-first-requires : goal.met_row-met-first-requires
met_row-met-first-requires t c = (omega arith, (first_asks _ _ _ _ _ _ _ c.requires.0 c.if-n-eq0.false, c.requires.1))

pub met-overflow_add-at : goal.met-overflow_add-at
met-overflow_add-at t c =
    let i = (content_inside large _ _ c.requires.0.there).0 in
    omega arith

pub met_row-met_row-others-requires : goal.met_row-met_row-others-requires
met_row-met_row-others-requires t c =
    let a = first_asks _ _ _ _ _ _ _ c.requires.0 c.if-n-eq0.false in
    let i = (content_inside large _ _ a.there).0 in
    let o = others_ask _ _ _ _ _ _ _ _ _ c.requires.0 c.if-n-eq0.false c.met-first.ensures c.met-first.auto.list in
    (omega arith, (o.1, c.met-first.ensures.known))

pub met-bounds-content-at-in-2 : goal.met-bounds-content-at-in-2
met-bounds-content-at-in-2 t c = (type_there large _ _ c.requires.0.there (sym c.from-operator.ensures ∙ c.in-2.is)).0

pub met-met_type-requires : goal.met-met_type-requires
unfolding large
met-met_type-requires t c =
    let i = (type_there large _ _ c.requires.0.there (sym c.from-operator.ensures ∙ c.in-2.is)).1 in
    (omega arith, c.requires.0.lists, c.requires.0.once, c.requires.1)

pub met-bounds-content-at-in-3 : goal.met-bounds-content-at-in-3
met-bounds-content-at-in-3 t c = count_there large _ _ c.requires.0.there (omega arith) (omega arith)

pub met-met_row-row-requires : goal.met-met_row-row-requires
met-met_row-row-requires t c =
    let s = c.args.content.now in
    let i = (content_inside large _ _ c.requires.0.there).0 in
    let row = operands_there large _ _ c.requires.0.there (omega arith) (omega arith) in (
      omega arith,
      (
        record {
          there = subst (ContentsAt large s (c.args.at + 2)) (sym c.from-n.ensures) row;
          lists = c.requires.0.lists;
          once = c.requires.0.once;
        },
        c.requires.1,
      ),
    )

pub met-bounds-content-at-in-4 : goal.met-bounds-content-at-in-4
met-bounds-content-at-in-4 t c = count_there large _ _ c.requires.0.there (omega arith) (omega arith)

pub met-met_row-row-requires-in-4 : goal.met-met_row-row-requires-in-4
met-met_row-row-requires-in-4 t c =
    let s = c.args.content.now in
    let i = (content_inside large _ _ c.requires.0.there).0 in
    let row = operands_there large _ _ c.requires.0.there (omega arith) (omega arith) in (
      omega arith,
      (
        record {
          there = subst (ContentsAt large s (c.args.at + 2)) (sym c.from-n-in-4.ensures) row;
          lists = c.requires.0.lists;
          once = c.requires.0.once;
        },
        c.requires.1,
      ),
    )

pub met-met-requires : goal.met-met-requires
met-met-requires t c =
    let i = (content_inside large _ _ c.requires.0.there).0 in (
      omega arith,
      (
        record {
          there = operand_there large _ _ c.requires.0.there (omega arith);
          lists = c.requires.0.lists;
          once = c.requires.0.once;
        },
        c.requires.1,
      ),
    )

pub met-met-operand-requires : goal.met-met-operand-requires
met-met-operand-requires t c =
    let i = (content_inside large _ _ c.requires.0.there).0 in (
      omega arith,
      (
        record {
          there = operand_there large _ _ c.requires.0.there (omega arith);
          lists = c.requires.0.lists;
          once = c.requires.0.once;
        },
        c.requires.1,
      ),
    )

pub met-returns-in-0 : goal.met-returns-in-0
met-returns-in-0 t c =
    rw c.met_none.ensures (none_finds _ _ _ _ _ _ _ c.requires.0 c.requires.1 (sym c.from-operator.ensures ∙ c.in-0.is))

pub met-returns-in-1 : goal.met-returns-in-1
met-returns-in-1 t c =
    rw c.met_none-in-1.ensures (empty_finds _ _ _ _ _ _ _ c.requires.0 c.requires.1 (sym c.from-operator.ensures ∙ c.in-1.is))

pub met-returns-in-2 : goal.met-returns-in-2
met-returns-in-2 t c =
    type_finds _ _ _ _ _ _ _ _ _ c.requires.0 (sym c.from-operator.ensures ∙ c.in-2.is) c.from-k.ensures c.met_type.ensures

pub met-returns-in-3 : goal.met-returns-in-3
met-returns-in-3 t c =
    let byte = sym c.from-operator.ensures ∙ c.in-3.is in
    rw c.met_sequence.ensures
    (sequence_finds _ _ _ _ _ _ _ _ _ c.requires.0 c.from-n.ensures (c.met_row-row.ensures) _ c.requires.1 byte (c.met_row-row.auto.list))

pub met-returns-in-4 : goal.met-returns-in-4
met-returns-in-4 t c =
    choice_finds _ _ _ _ _ _ _ _ _ c.requires.0 c.from-n-in-4.ensures c.met_row-row-in-4.ensures (sym c.from-operator.ensures ∙ c.in-4.is)

pub met-returns-in-6 : goal.met-returns-in-6
met-returns-in-6 t c =
    one_or_more_finds _ _ _ _ _ _ _ _ c.requires.0 c.met.ensures (sym c.from-operator.ensures ∙ c.in-6.is)

pub met-returns-in_default : goal.met-returns-in_default
met-returns-in_default t c =
    let e = c.from-operator.ensures in
    let n6 : c.from-operator.result ≡ 6 → ⊥ = λ q. omega arith in
    around_finds _ _ _ _ _ _ _ _ c.requires.0 c.met-operand.ensures (omega arith) (λ q. n6 (e ∙ q))

pub met_row-returns : goal.met_row-returns
met_row-returns t c =
    let all : c.if-first.result ≡ (c.met-first.result.has && c.met_row-others.result.all) =
    elim c.if-first.branch [
      | met_row-then-first w ↦ rw w.if-first.true w.result-is
      | met_row-else-first w ↦ rw w.if-first.false (w.result-is ∙ w.if-first.false)
    ] in
    let one : c.if-first-2.result ≡ (c.met-first.result.has || c.met_row-others.result.one) =
    elim c.if-first-2.branch [
      | met_row-then-first-2 w ↦ rw w.if-first-2.true (w.result-is ∙ w.if-first-2.true)
      | met_row-else-first-2 w ↦ rw w.if-first-2.false w.result-is
    ] in
    row_finds _ _ _ _ c.args.list.now c.args.count _ _ _ _ _ _ _ c.if-n-eq0.false c.met-first.ensures c.met_row-others.ensures all one
