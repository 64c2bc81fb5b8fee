-- `put_start` meets its contract.
use native.Mathlib.Omega.{arith}
use Rattle.results.proofs.LabelLaws.{put_on, put_off}
use Rattle.results.proofs.starts.put_start.Goals as goal

pub returns-then-on : goal.returns-then-on
returns-then-on c = put_on c.args.draft.now c.args.at _ c.args.on _ c.put_field.result c.if-on.true c.put_field.ensures

pub returns : goal.returns
returns c =
    let h = c.requires.0 in
    put_off c.args.draft.now c.args.at _ c.args.on c.if-on.false h (omega arith)
