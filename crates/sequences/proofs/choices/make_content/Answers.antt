-- `make_content` meets its contract.
use mathlib.Core.List.{[]}
use native.Mathlib.Omega.{arith}
use Rattle.grammar.specs.Lists.{numbers_below}
use Rattle.sequences.specs.SampleContents.{sequences_among}
use Rattle.sequences.proofs.SequenceLaws.{upto_row, stop_wide}
use Rattle.sequences.proofs.FlatLaws.{content_length, content_over, content_fits, content_wide}
use Rattle.theory.specs.Alternatives.{gathered}
use Rattle.reader.proofs.AnswerLaws.{handed_on}
use Rattle.sequences.proofs.choices.make_content.Goals as goal

pub finish-stop-requires : goal.finish-stop-requires
finish-stop-requires c =
    let ds = gathered [] (sequences_among c.args.parents.now c.args.types.now c.args.nodes c.args.k (numbers_below c.args.nodes)) in
    let row = (upto_row c.gather.new.scratch ds c.gather.result c.gather.ensures c.in_ok-gathered.was).0 in
    record { list = ds; row = row }

pub returns-then-stop-gt-RULE : goal.returns-then-stop-gt-RULE
returns-then-stop-gt-RULE c =
    let ds = gathered [] (sequences_among c.args.parents.now c.args.types.now c.args.nodes c.args.k (numbers_below c.args.nodes)) in
    let row = (upto_row c.gather.new.scratch ds c.gather.result c.gather.ensures c.in_ok-gathered.was).0 in
    let made = (c.finish-stop.ensures (record { list = ds; row = row })).stands in
    let long = content_length c.args.parents.now c.args.types.now c.args.nodes c.args.k _ _ made in
    content_over c.args.parents.now c.args.types.now c.args.nodes c.args.k (omega arith)

pub returns-in_err-gathered : goal.returns-in_err-gathered
returns-in_err-gathered c =
    rw (handed_on c.from_residual.result c.from_residual.ensures)
    (content_wide c.args.parents.now c.args.types.now c.args.nodes c.args.k (stop_wide c.gather.new.scratch _ c.gather.result c.gather.ensures c.in_err-gathered.was))

pub returns : goal.returns
returns c =
    let ds = gathered [] (sequences_among c.args.parents.now c.args.types.now c.args.nodes c.args.k (numbers_below c.args.nodes)) in
    let row = (upto_row c.gather.new.scratch ds c.gather.result c.gather.ensures c.in_ok-gathered.was).0 in
    let made = (c.finish-stop.ensures (record { list = ds; row = row })).stands in
    let long = content_length c.args.parents.now c.args.types.now c.args.nodes c.args.k _ _ made in
    (made, omega arith, content_fits c.args.parents.now c.args.types.now c.args.nodes c.args.k row (omega arith))
