-- `put_runs` meets its contract. The loop's invariant: the runs that begin before `p` are written.
use native.Mathlib.Omega.{arith}
use Rattle.sequences.proofs.RunLaws.{put_no_run, run_room, run_next, all_runs}
use Rattle.sequences.proofs.sequences.put_runs.Goals as goal

pub loop-p-init : goal.loop-p-init
loop-p-init c = put_no_run c.args.scratch.now c.args.kinds.now c.args.at (omega arith)

pub put_run-end-requires : goal.put_run-end-requires
put_run-end-requires c = run_room c.loop-p.invariant c.loop-p-test.true c.goes_on-on.result c.goes_on-on.ensures c.requires

pub loop-p-preserved : goal.loop-p-preserved
loop-p-preserved c = run_next c.loop-p.invariant c.loop-p-test.true c.goes_on-on.result c.goes_on-on.ensures c.put_run-end.ensures

pub returns : goal.returns
returns c = all_runs c.loop-p.invariant (omega arith)
