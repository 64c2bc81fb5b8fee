-- `gather_types` meets its contract. The loop's invariant: the result types before `i` are among the operands, with their set.
use native.Mathlib.Omega.{arith}
use mathlib.Core.Path.{refl}
use borrow.Author.Rules.{rules}
use Rattle.operands.proofs.GatherLaws.{types_none, types_past}
use Rattle.emitting.proofs.TypesKeptLaws.{types_start, room_for, types_all, types_wide, types_next}
use Rattle.reader.proofs.AnswerLaws.{handed_on}
use Rattle.emitting.proofs.emitter.gather_types.Goals as goal

pub loop-i-init : goal.loop-i-init
loop-i-init c = (refl, refl, λ q s. types_start _ _ _ q s)

pub returns-then-results-i : goal.returns-then-results-i
returns-then-results-i c =
    λ q s. types_all _ _ _ _ _ _ (c.loop-i.invariant.2 q s) _ (types_past c.args.results.now _ _ c.if-results-i.true)

pub gather_result-requires : goal.gather_result-requires
gather_result-requires c =
    let so = c.loop-i.invariant.2 c.requires.0 c.requires.1 in
    (room_for _ _ _ _ _ _ so c.requires.0.small (omega arith), so.registered)

pub returns-in_err-gathered : goal.returns-in_err-gathered
returns-in_err-gathered c =
    rw (handed_on c.from_residual.result c.from_residual.ensures)
    (λ q s.
    let room = q.room in
    let so = c.loop-i.invariant.2 q s in
    types_wide _ _ _ _ _ _ so c.loop-i-test.true c.if-results-i.false _ _ _ _
    (c.gather_result.ensures (room_for _ _ _ _ _ _ so q.small (omega arith)) so.registered)
    c.in_err-gathered.was)

pub loop-i-preserved : goal.loop-i-preserved
loop-i-preserved c = (
  search rules,
  search rules,
  λ q s.
      let room = q.room in
      let so = c.loop-i.invariant.2 q s in
      types_next _ _ _ _ _ _ so c.loop-i-test.true c.if-results-i.false _ _ _ _
      (c.gather_result.ensures (room_for _ _ _ _ _ _ so q.small (omega arith)) so.registered)
      c.in_ok-gathered.was,
)

pub returns : goal.returns
returns c = λ q s. types_all _ _ _ _ _ _ (c.loop-i.invariant.2 q s) _ (types_none _ _ _ c.loop-i-test.false)
