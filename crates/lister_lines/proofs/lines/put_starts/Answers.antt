-- `put_starts` meets its contract. The loop's invariant: the lines of the starts before `i` are written.
use native.Mathlib.Omega.{arith}
use mathlib.Core.Path.{refl, ap}
use lib.Seq.{take_all}
use Rattle.grammar.specs.Lists.{joined_of}
use Rattle.grammar.specs.Listing.{start_line}
use Rattle.reader.proofs.TableFoundLaws.{start_small}
use Rattle.writer.proofs.PutLaws.{put_join, put_none}
use Rattle.lister_lines.proofs.PrintSteps.{put_as}
use Rattle.lister_lines.proofs.LineLaws.{start_line_size, starts_next}
use Rattle.lister_lines.proofs.lines.put_starts.Goals as goal

pub loop-i-init : goal.loop-i-init
unfolding joined_of
loop-i-init c = (refl, omega arith, λ f. put_none c.args.text.now c.args.at (omega arith))

pub put_start_line-end-requires : goal.put_start_line-end-requires
put_start_line-end-requires c =
    let k = start_small c.requires.0.held.indexes c.requires.0.held.within c.loop-i.i (omega arith) in
    (omega arith, omega arith)

pub loop-i-preserved : goal.loop-i-preserved
loop-i-preserved c =
    let small = start_small c.requires.0.held.indexes c.requires.0.held.within c.loop-i.i (omega arith) in
    let e = c.start_type.ensures in
    let p = c.put_start_line-end.ensures in
    let size = start_line_size c.start_type.result (omega arith) in
    let n = p.next_is in (
      omega arith,
      omega arith,
      λ f. put_as (starts_next f c.loop-i.i (omega arith)) (put_join (c.loop-i.invariant.2 f) (put_as (ap start_line e) p)),
    )

pub returns : goal.returns
returns c =
    record {
      put =
          λ f.
          let n = f.held.indexes.starts in
          put_as (ap (joined_of start_line) (take_all c.loop-i.i f.table.starts (omega arith))) (c.loop-i.invariant.2 f);
      short = omega arith;
    }
