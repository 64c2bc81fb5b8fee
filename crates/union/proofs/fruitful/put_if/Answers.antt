-- `put_if` meets its contract.
use native.Mathlib.Omega.{arith}
use Rattle.union.proofs.PutsLaws.{put_in, put_out}
use Rattle.union.proofs.fruitful.put_if.Goals as goal

pub returns-then-on : goal.returns-then-on
returns-then-on c = put_in _ _ _ _ c.if-on.true c.with.ensures (omega arith) (omega arith)

pub returns : goal.returns
returns c = (put_out _ _ _ c.if-on.false, omega arith)
