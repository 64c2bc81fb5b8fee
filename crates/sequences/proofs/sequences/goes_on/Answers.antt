-- `goes_on` meets its contract.
use native.Mathlib.Omega.{arith}
use Rattle.sequences.proofs.RunLaws.{on_last, on_before}
use Rattle.sequences.proofs.sequences.goes_on.Goals as goal

pub returns-then-kinds-at-lt2 : goal.returns-then-kinds-at-lt2
returns-then-kinds-at-lt2 c = on_last c.args.kinds.now c.args.at c.if-kinds-at-lt2.true

pub returns : goal.returns
returns c = on_before c.args.kinds.now c.args.at (omega (arith, c.if-kinds-at-lt2.false))
