-- `put_in_turn` meets its contract.
use native.Mathlib.Omega.{arith}
use mathlib.Core.Path.{sym, ◌∙◌}
use lib.ListN.{length-set, set}
use Rattle.theory.proofs.Sample.SampleRuns.{runs_few}
use Rattle.writer.proofs.PutLaws.{put_length}
use Rattle.sequences.proofs.RunLaws.{put_empty, put_alone, put_several}
use Rattle.sequences.proofs.sequences.put_in_turn.Goals as goal

pub returns-then-runs-eq0 : goal.returns-then-runs-eq0
returns-then-runs-eq0 c =
    put_empty c.args.kinds.now c.args.scratch.now c.args.at (sym c.run_count-runs.ensures ∙ c.if-runs-eq0.true) (omega arith)

pub returns-then-runs-eq1 : goal.returns-then-runs-eq1
returns-then-runs-eq1 c = put_alone c.args.kinds.now (sym c.run_count-runs.ensures ∙ c.if-runs-eq1.true) c.put_runs.ensures

pub overflow_cast-scratch : goal.overflow_cast-scratch
overflow_cast-scratch c =
    let few = runs_few c.args.kinds.now in
    omega arith

pub bounds-scratch-at-3 : goal.bounds-scratch-at-3
bounds-scratch-at-3 c =
    let l = length-set c.args.scratch.now c.args.at 3 in
    omega arith

pub shape_of-scratch : goal.shape_of-scratch
shape_of-scratch c =
    put_length c.put_runs-2.ensures ∙ length-set (set c.args.scratch.now c.args.at 3) _ _ ∙ length-set c.args.scratch.now _ _

pub returns : goal.returns
returns c =
    let x = c.if-runs-eq0.false in
    let y = c.if-runs-eq1.false in
    put_several c.args.kinds.now c.args.scratch.now c.args.at c.run_count-runs.result (omega (arith, x, y)) (sym c.run_count-runs.ensures) (omega arith)
    c.put_runs-2.ensures
