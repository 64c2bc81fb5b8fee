use native.Mathlib.Omega.{arith}
use mathlib.Core.List.{List}
use mathlib.Core.Path.{sym, ◌∙◌, ap}
use lib.Dec.{eqb}
use Prim.Native.Nat.{ℕ}
use Rattle.grammar.specs.Limits.{large}
use Rattle.theory.specs.MarkedWalk.{is_marked}
use Rattle.walks.proofs.WalkLaws.{walks_round, walks_over, at_below}
use Rattle.walks.proofs.matching.walked_through.Goals as goal

pub loop-i-preserved : goal.loop-i-preserved
loop-i-preserved c = (
  c.pass.auto.marks ∙ c.loop-i.invariant.0,
  walks_round large _ _ c.requires.0.proper_at _ _ c.loop-i.i _ _ c.pass.result _ c.loop-i-test.true c.pass.ensures ∙ c.loop-i.invariant.1,
)

pub bounds-marks-0 : goal.bounds-marks-0
bounds-marks-0 c = omega (arith, at_below c.requires.0.proper_at)

pub returns : goal.returns
unfolding is_marked
returns c =
    let over =
    walks_over large c.args.content.now c.args.words.now c.requires.0.proper_at c.args.top c.args.count c.loop-i.marks
    (eqb c.loop-i.i 0) c.loop-i.i (omega arith) c.loop-i-test.false in
    ap (λ (marks : List ℕ). is_marked marks 0) (sym over ∙ c.loop-i.invariant.1)
