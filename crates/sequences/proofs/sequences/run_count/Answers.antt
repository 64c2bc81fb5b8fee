-- `run_count` meets its contract. The loop's invariant: the runs that end before `at`, and those from there on, are all.
use native.Mathlib.Omega.{arith}
use mathlib.Core.Path.{sym, ◌∙◌}
use Rattle.sequences.proofs.RunLaws.{runs_on, runs_end, runs_passed}
use Rattle.sequences.proofs.sequences.run_count.Goals as goal
use Rattle.sequences.proofs.sequences.run_count.Goals.{then-not-goes_on, else-not-goes_on}

pub loop-at-preserved : goal.loop-at-preserved
loop-at-preserved c =
    elim c.if-not-goes_on.branch [
      | then-not-goes_on w ↦
          let end = runs_end c.args.kinds.now c.loop-at.at c.loop-at-test.true (sym c.goes_on.ensures ∙ w.if-not-goes_on.true) in
          (omega arith, omega arith)
      | else-not-goes_on w ↦
          let on = runs_on c.args.kinds.now c.loop-at.at c.loop-at-test.true (sym c.goes_on.ensures ∙ w.if-not-goes_on.false) in
          (omega arith, omega arith)
    ]

pub returns : goal.returns
returns c =
    let none = runs_passed c.args.kinds.now c.loop-at.at (omega arith) in
    omega arith
