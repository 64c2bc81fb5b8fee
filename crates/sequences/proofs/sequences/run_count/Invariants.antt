-- `run_count` meets its contract. The loop's invariant: the runs that end before `at`, and those from there on, are all.
use Prim.Native.Nat.{◌+◌, ◌≤◌}
use mathlib.Core.Path.{◌≡◌}
use lib.ListN.{length, drop}
use Rattle.grammar.specs.Sample.{runs_of}
use Rattle.sequences.proofs.sequences.run_count.Given as goal

abbrev pub invariant-loop-at : goal.invariant-loop-at
invariant-loop-at l = (l.runs + length (runs_of (drop l.at l.kinds)) ≡ length (runs_of l.kinds)) × (l.runs ≤ l.at)
