-- `put_rules` meets its contract. The loop's invariant: the lines of the rules before `i` are written.
use native.Mathlib.Omega.{arith}
use mathlib.Core.Path.{refl}
use Rattle.grammar.specs.Lists.{joined_of}
use Rattle.writer.proofs.PutLaws.{put_join, put_none}
use Rattle.lister_lines.proofs.PrintSteps.{put_as}
use Rattle.lister_lines.proofs.LineLaws.{lines_next}
use Rattle.lister_lines.proofs.lines.put_rules.Goals as goal

pub loop-i-init : goal.loop-i-init
unfolding joined_of
loop-i-init c = (refl, omega arith, λ f. put_none c.args.text.now c.args.at (omega arith))

pub loop-i-preserved : goal.loop-i-preserved
loop-i-preserved c = (
  omega arith,
  omega arith,
  λ f. put_as (lines_next f c.loop-i.i (omega arith)) (put_join (c.loop-i.invariant.2 f) (c.put_rule_line-end.ensures.put f)),
)
