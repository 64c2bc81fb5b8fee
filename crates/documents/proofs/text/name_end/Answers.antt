-- `text::name_end` meets its contract.
use native.Mathlib.Omega.{arith}
use mathlib.Core.Path.{sym, ◌∙◌}
use Rattle.documents.proofs.TextReading.{inside_next, name_ends}
use Rattle.documents.proofs.text.name_end.Goals as goal

pub returns-then-ends_name : goal.returns-then-ends_name
returns-then-ends_name c =
    name_ends c.args.s.now c.args.from c.loop-i.i (omega arith) (omega arith) (λ h. sym c.ends_name.ensures ∙ c.if-ends_name.true) c.loop-i.invariant

pub loop-i-preserved : goal.loop-i-preserved
loop-i-preserved c = inside_next c.args.s.now c.args.from c.loop-i.i c.loop-i.invariant (sym c.ends_name.ensures ∙ c.if-ends_name.false)

pub returns : goal.returns
returns c = name_ends c.args.s.now c.args.from _ (omega arith) (omega arith) (λ h. absurd (omega arith)) (λ j p q. c.loop-i.invariant j p (omega arith))
