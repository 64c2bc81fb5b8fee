-- `put_runs` meets its contract. The loop's invariant: the runs that begin before `p` are written.
use Rattle.sequences.proofs.RunLaws.{RunsPut}
use Rattle.sequences.proofs.sequences.put_runs.Given as goal

abbrev pub invariant-loop-p : goal.invariant-loop-p
invariant-loop-p l = RunsPut l.initial.scratch l.kinds l.scratch l.at l.end l.p l.begins
