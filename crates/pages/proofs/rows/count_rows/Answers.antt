-- `count_rows` meets its contract. The loop's invariant: the rows of the rules before `i` are counted.
use native.Mathlib.Omega.{arith}
use mathlib.Core.Path.{refl, ◌∙◌, ap}
use lib.ListN.{length}
use Rattle.grammar.specs.Lists.{joined_of}
use Rattle.grammar.specs.Pages.{texts_of}
use Rattle.union.specs.PairNumbers.{rule_numbered}
use Rattle.pages.proofs.TextLaws.{places_inside}
use Rattle.pages.proofs.SheetLaws.{rows_all, rows_more}
use Rattle.pages.proofs.rows.count_rows.Goals as goal

pub loop-i-init : goal.loop-i-init
unfolding joined_of
loop-i-init c = (refl, omega arith, λ f. refl)

pub rows_of-rows-requires : goal.rows_of-rows-requires
rows_of-rows-requires c = places_inside (c.put_texts-places.ensures c.requires.0)

pub loop-i-preserved : goal.loop-i-preserved
loop-i-preserved c = (
  omega arith,
  omega arith,
  λ f.
      let so = c.rows_of-rows.ensures.by_index _ (texts_of f.table (rule_numbered f.table c.loop-i.i)) (c.put_texts-places.ensures f) in
      let rules = f.held.indexes.rules in
      let more = rows_more f.table c.loop-i.i (omega arith) in
      let before = c.loop-i.invariant.2 f in
      omega arith,
)

pub returns : goal.returns
returns c =
    record { value = λ f. let rules = f.held.indexes.rules in c.loop-i.invariant.2 f ∙ ap length (rows_all f.table c.loop-i.i (omega arith)); few = omega arith }
