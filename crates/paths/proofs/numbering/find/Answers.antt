-- `find` meets its contract.
use native.Mathlib.Omega.{arith}
use mathlib.Core.Path.{◌≡◌, ◌∙◌}
use lib.Seq.{length-take-le}
use Rattle.paths.proofs.FillLaws.{find_here, find_next, find_end}
use Rattle.paths.proofs.numbering.find.Goals as goal

pub returns-then-same_key : goal.returns-then-same_key
returns-then-same_key c =
    let k = length-take-le c.args.count c.args.firsts.now c.requires.1.few in
    record { found = find_here _ _ _ _ c.loop-t.invariant c.loop-t-test.true cc; few = omega arith }

pub loop-t-preserved : goal.loop-t-preserved
loop-t-preserved c = find_next _ _ _ _ c.loop-t.invariant c.loop-t-test.true cc

pub returns : goal.returns
returns c =
    let k = length-take-le c.args.count c.args.firsts.now c.requires.1.few in
    let e : c.args.count ≡ c.loop-t.t = omega arith in
    record { found = e ∙ find_end _ _ _ _ c.loop-t.invariant c.loop-t-test.false; few = omega arith }
