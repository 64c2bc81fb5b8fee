-- `put_rules` meets its contract. The loop's invariant: the rows of the rules before `i` are written.
use Prim.Native.Nat.{◌+◌, ◌<◌}
use native.Mathlib.Omega.{arith}
use mathlib.Core.Path.{refl, ap}
use lib.ListN.{length}
use Rattle.grammar.specs.Lists.{joined_of}
use Rattle.grammar.specs.Pages.{texts_of}
use Rattle.union.specs.PairNumbers.{rule_numbered}
use Rattle.writer.proofs.PutLaws.{put_none}
use Rattle.lister_lines.proofs.PrintSteps.{put_as}
use Rattle.pages.proofs.TextLaws.{places_inside}
use Rattle.pages.proofs.SheetLaws.{rows_all, rows_more, rows_within, rows_end}
use Rattle.pages.proofs.sheets.put_rules.Goals as goal

pub loop-i-init : goal.loop-i-init
unfolding joined_of
loop-i-init c = (refl, refl, λ f. (refl, put_none c.args.out.now 0 (omega arith)))

pub rows_of-requires : goal.rows_of-requires
rows_of-requires c = places_inside (c.put_texts-places.ensures c.requires.0.held)

pub put_rows-end-requires : goal.put_rows-end-requires
put_rows-end-requires c =
    let f = c.requires.0.held in
    let t = texts_of f.table (rule_numbered f.table c.loop-i.i) in
    let w = c.put_texts-places.ensures f in
    let so = c.rows_of.ensures.by_index _ t w in
    let few = c.rows_of.ensures.few in
    let rules = f.held.indexes.rules in
    let more = rows_more f.table c.loop-i.i (omega arith) in
    let within = rows_within f.table (c.loop-i.i + 1) in
    let at = (c.loop-i.invariant.2 f).0 in
    (record { texts_are = t; stand = w }, few, omega arith)

pub loop-i-preserved : goal.loop-i-preserved
loop-i-preserved c = (
  omega arith,
  omega arith,
  λ f.
      let rules = f.held.indexes.rules in
      let below : c.loop-i.i < length f.table.rules = omega arith in
      rows_end f.table c.loop-i.i below (c.rows_of.ensures.by_index _ (texts_of f.table (rule_numbered f.table c.loop-i.i)) (c.put_texts-places.ensures f)) (c.loop-i.invariant.2 f).0 (c.loop-i.invariant.2 f).1
      (c.put_rows-end.ensures (texts_of f.table (rule_numbered f.table c.loop-i.i)) (c.put_texts-places.ensures f)),
)

pub returns : goal.returns
returns c =
    λ f.
    let rules = f.held.indexes.rules in
    put_as (ap (joined_of (λ row. row)) (rows_all f.table c.loop-i.i (omega arith))) (c.loop-i.invariant.2 f).1
