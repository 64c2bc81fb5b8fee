-- `finish` meets its contract: by how many operands there are.
use native.Mathlib.Omega.{arith}
use lib.ListN.{length-set}
use Rattle.operands.proofs.FinishLaws.{finish_none, finish_one, finish_more}
use Rattle.operands.proofs.drafts.finish.Goals as goal

pub returns-then-count-eq0 : goal.returns-then-count-eq0
returns-then-count-eq0 c = λ q. finish_none _ _ _ _ q.list q.row c.if-count-eq0.true

pub returns-then-count-eq1 : goal.returns-then-count-eq1
returns-then-count-eq1 c = λ q. finish_one _ _ _ _ q.list q.row _ c.if-count-eq1.true c.copy_within.ensures.after

pub bounds-draft-start-3 : goal.bounds-draft-start-3
bounds-draft-start-3 c = simp length-set (omega arith)

pub returns : goal.returns
returns c = λ q. finish_more _ _ _ _ q.list q.row (omega arith)
