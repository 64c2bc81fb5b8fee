-- `put_label` meets its contract.
use Rattle.results.proofs.LabelLaws.{put_on, put_off}
use native.Mathlib.Omega.{arith}
use Rattle.results.proofs.labels_used.put_label.Goals as goal

pub returns-then-on : goal.returns-then-on
returns-then-on c =
    λ q.
    put_on c.args.draft.now c.args.at _ c.args.on _ c.put_name.result c.if-on.true (c.put_name.ensures q)

pub returns : goal.returns
returns c =
    λ q.
    let h = c.requires.0 in
    put_off c.args.draft.now c.args.at _ c.args.on c.if-on.false h (omega arith)
