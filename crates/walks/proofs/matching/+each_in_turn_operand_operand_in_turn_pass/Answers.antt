use Prim.Native.Nat.{ℕ, ◌+◌, ◌-◌, ◌<◌}
use native.Mathlib.Omega.{arith}
use mathlib.Core.Bool.{true, false}
use mathlib.Core.Path.{◌≡◌, refl, sym, ◌∙◌, ap, subst}
use Rattle.grammar.specs.Limits.{large}
use Rattle.theory.specs.MarkedWalk.{Walked, is_marked}
use Rattle.reader.specs.ContentAt.{ContentsAt}
use Rattle.reader.proofs.ContentAtLaws.{type_there, operands_there, operand_there}
use Rattle.walks.specs.TypeSets.{set_at}
use Rattle.walks.specs.declared.matching.Passed.{Passed}
use Rattle.walks.specs.WalkAt.{walk_in_turn_at, walk_each_at, walked, ended}
use Rattle.walks.proofs.WalkLaws as laws
use Rattle.walks.proofs.matching.+each_in_turn_operand_operand_in_turn_pass.Goals as goal

pub each-operand-first-requires : goal.each-operand-first-requires
each-operand-first-requires t c =
    let first = (laws.row_first large _ _ _ c.loop-done.invariant.2 (omega arith)).first in
    (omega arith, (first, record { few = c.requires.1.few; mark_each = omega arith; four_words = c.requires.1.four_words }))

pub each-loop-done-preserved : goal.each-loop-done-preserved
each-loop-done-preserved t c =
    let s = c.args.content.now in
    let has = set_at c.args.words.now c.args.base in
    let left = c.args.count - c.loop-done._done in
    let rest = c.args.count - (c.loop-done._done + 1) in
    let one_less : rest ≡ left - 1 = omega arith in
    let row = c.loop-done.invariant.2 in
    let some : 0 < left = omega arith in
    let marks = c.operand-first.new.marks in
    let p = c.operand-first.result in
    let first = c.operand-first.ensures in
    let go = laws.rest_forward large s c.loop-done.at left row some c.loop-done.marks c.args.incoming has marks p first in (
      omega arith,
      c.operand-first.auto.marks ∙ c.loop-done.invariant.1,
      laws.rest_proper large s c.loop-done.at left row some c.loop-done.marks c.args.incoming has marks p first rest one_less,
      laws.each_goes large s c.loop-done.at left row some c.loop-done.marks c.args.incoming has marks p first
          rest one_less _ _ _ _ refl refl
          ∙ c.loop-done.invariant.3,
    )

pub each-returns : goal.each-returns
each-returns t c =
    sym (laws.each_none large _ _ _ c.loop-done.invariant.2 (omega arith) _ _ _ _ _)
    ∙ c.loop-done.invariant.3

pub in_turn-bounds-marks-at : goal.in_turn-bounds-marks-at
in_turn-bounds-marks-at t c =
    omega (arith, laws.at_below (laws.row_first large _ _ _ c.loop-done.invariant.2 (omega arith)).first)

pub in_turn-operand_in_turn-first-requires : goal.in_turn-operand_in_turn-first-requires
in_turn-operand_in_turn-first-requires t c =
    let first = (laws.row_first large _ _ _ c.loop-done.invariant.2 (omega arith)).first in
    (omega arith, (first, record { few = c.requires.1.few; mark_each = omega arith; four_words = c.requires.1.four_words }))

pub in_turn-loop-done-preserved : goal.in_turn-loop-done-preserved
unfolding is_marked
in_turn-loop-done-preserved t c =
    let s = c.args.content.now in
    let has = set_at c.args.words.now c.args.base in
    let left = c.args.count - c.loop-done._done in
    let rest = c.args.count - (c.loop-done._done + 1) in
    let one_less : rest ≡ left - 1 = omega arith in
    let row = c.loop-done.invariant.2 in
    let some : 0 < left = omega arith in
    let marks = c.operand_in_turn-first.new.marks in
    let p = c.operand_in_turn-first.result in
    let first = c.operand_in_turn-first.ensures in
    let go = laws.rest_forward large s c.loop-done.at left row some c.loop-done.marks c.loop-done.incoming has marks p first in (
      omega arith,
      c.operand_in_turn-first.auto.marks ∙ c.loop-done.invariant.1,
      laws.rest_proper large s c.loop-done.at left row some c.loop-done.marks c.loop-done.incoming has marks p first rest one_less,
      laws.in_turn_goes large s c.loop-done.at left row some c.loop-done.marks c.loop-done.incoming has marks p first
          rest one_less _ _ _ _ _ refl refl refl
          ∙ c.loop-done.invariant.3,
    )

pub in_turn-returns : goal.in_turn-returns
in_turn-returns t c =
    sym (laws.in_turn_none large _ _ _ c.loop-done.invariant.2 (omega arith) _ _ _ _ _)
    ∙ c.loop-done.invariant.3

pub operand-bounds-content-at : goal.operand-bounds-content-at
operand-bounds-content-at t c = laws.at_below c.requires.0

pub operand-typed-requires : goal.operand-typed-requires
unfolding large
operand-typed-requires t c =
    let there = type_there large _ _ c.requires.0 c.if-content-at-eq-TYPE_BYTE.true in
    (there.0, there.1, c.requires.1)

pub operand-returns-then-content-at-eq-TYPE_BYTE : goal.operand-returns-then-content-at-eq-TYPE_BYTE
operand-returns-then-content-at-eq-TYPE_BYTE t c =
    c.typed.ensures ∙ sym (laws.walk_type large _ _ c.requires.0 _ _ _ c.if-content-at-eq-TYPE_BYTE.true)

pub pass-bounds-content-at : goal.pass-bounds-content-at
pass-bounds-content-at t c = laws.at_below c.requires.0

pub pass-typed-requires : goal.pass-typed-requires
unfolding large
pass-typed-requires t c =
    let there = type_there large _ _ c.requires.0 (sym c.from-operator.ensures ∙ c.in-2.is) in
    (there.0, there.1, c.requires.1)

pub pass-in_turn-all-requires : goal.pass-in_turn-all-requires
pass-in_turn-all-requires t c =
    let row = operands_there large _ _ c.requires.0 (omega arith) (omega arith) in
    (omega arith, (subst (λ (n : ℕ). ContentsAt large c.args.content.now (c.args.at + 2) n) (sym c.from-count.ensures) row, c.requires.1))

pub pass-each-one-requires : goal.pass-each-one-requires
pass-each-one-requires t c =
    let row = operands_there large _ _ c.requires.0 (omega arith) (omega arith) in
    (omega arith, (subst (λ (n : ℕ). ContentsAt large c.args.content.now (c.args.at + 2) n) (sym c.from-count-in-4.ensures) row, c.requires.1))

pub pass-operand-part-requires : goal.pass-operand-part-requires
pass-operand-part-requires t c =
    let operand = operand_there large _ _ c.requires.0 (omega arith) in
    (omega (arith, laws.at_below operand), (operand, c.requires.1))

pub pass-operand-part-requires-in-6 : goal.pass-operand-part-requires-in-6
pass-operand-part-requires-in-6 t c =
    let operand = operand_there large _ _ c.requires.0 (omega arith) in
    (omega (arith, laws.at_below operand), (operand, c.requires.1))

pub pass-operand-part-requires-in_default : goal.pass-operand-part-requires-in_default
pass-operand-part-requires-in_default t c =
    let operand = operand_there large _ _ c.requires.0 (omega arith) in
    (omega (arith, laws.at_below operand), (operand, c.requires.1))

pub pass-returns-in-0 : goal.pass-returns-in-0
pass-returns-in-0 t c = sym (laws.walk_none large _ _ c.requires.0 _ _ _ (sym c.from-operator.ensures ∙ c.in-0.is))

pub pass-returns-in-1 : goal.pass-returns-in-1
pass-returns-in-1 t c = sym (laws.walk_empty large _ _ c.requires.0 _ _ _ (sym c.from-operator.ensures ∙ c.in-1.is))

pub pass-returns-in-2 : goal.pass-returns-in-2
pass-returns-in-2 t c = c.typed.ensures ∙ sym (laws.walk_type large _ _ c.requires.0 _ _ _ (sym c.from-operator.ensures ∙ c.in-2.is))

pub pass-returns-in-3 : goal.pass-returns-in-3
pass-returns-in-3 t c =
    let s = c.args.content.now in
    let at = c.args.at in
    let has = set_at c.args.words.now c.args.base in
    c.sealed.ensures
    ∙ ap (ended at)
    (c.in_turn-all.ensures ∙ ap (λ (n : ℕ). walk_in_turn_at s (at + 2) n c.args.marks.now c.args.incoming has true false) c.from-count.ensures)
    ∙ sym (laws.walk_sequence large _ _ c.requires.0 _ _ _ (sym c.from-operator.ensures ∙ c.in-3.is))

pub pass-returns-in-4 : goal.pass-returns-in-4
pass-returns-in-4 t c =
    let s = c.args.content.now in
    let at = c.args.at in
    let has = set_at c.args.words.now c.args.base in
    c.sealed-in-4.ensures
    ∙ ap (ended at)
    (c.each-one.ensures ∙ ap (λ (n : ℕ). walk_each_at s (at + 2) n c.args.marks.now c.args.incoming has false false) c.from-count-in-4.ensures)
    ∙ sym (laws.walk_choice large _ _ c.requires.0 _ _ _ (sym c.from-operator.ensures ∙ c.in-4.is))

pub pass-returns-in-5 : goal.pass-returns-in-5
unfolding is_marked
pass-returns-in-5 t c =
    c.sealed-in-5.ensures
    ∙ ap (λ (p : Passed). ended c.args.at (walked c.operand-part.new.marks p)) c.or_none.ensures
    ∙ ap (λ (w : Walked). ended c.args.at (laws.or_none w)) c.operand-part.ensures
    ∙ sym (laws.walk_any_number large _ _ c.requires.0 _ _ _ (sym c.from-operator.ensures ∙ c.in-5.is))

pub pass-returns-in-6 : goal.pass-returns-in-6
unfolding is_marked
pass-returns-in-6 t c =
    c.sealed-in-6.ensures
    ∙ ap (ended c.args.at) c.operand-part-in-6.ensures
    ∙ sym (laws.walk_one_or_more large _ _ c.requires.0 _ _ _ (sym c.from-operator.ensures ∙ c.in-6.is))

pub pass-returns-in_default : goal.pass-returns-in_default
pass-returns-in_default t c =
    c.sealed-in_default.ensures
    ∙ ap (λ (p : Passed). ended c.args.at (walked c.operand-part-in_default.new.marks p)) c.or_none-in_default.ensures
    ∙ ap (λ (w : Walked). ended c.args.at (laws.or_none w)) c.operand-part-in_default.ensures
    ∙ sym (laws.walk_optional large _ _ c.requires.0 _ _ _ (omega (arith, laws.operator_small c.requires.0)))
