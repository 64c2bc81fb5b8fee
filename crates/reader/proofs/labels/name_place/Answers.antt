-- `labels::name_place` meets its contract. The loop's invariant: no name before `i` is the same.
use Prim.Native.Nat.{ℕ}
use native.Mathlib.Omega.{arith}
use mathlib.Core.Path.{sym, ◌∙◌, ap₂}
use Rattle.grammar.specs.Names.{same_name}
use Rattle.reader.specs.TableIndex.{part}
use Rattle.reader.proofs.LabelSearch.{name_at, found_here, found_nowhere}
use Rattle.reader.proofs.labels.name_place.Goals as goal

pub slice_bounds-same_name-count : goal.slice_bounds-same_name-count
slice_bounds-same_name-count c =
    let at = (name_at c.requires.at c.loop-i.i c.loop-i-test.true).2.inside.order in omega (arith, c.from-from.ensures, c.from-to.ensures)

pub slice_bounds-same_name-start : goal.slice_bounds-same_name-start
slice_bounds-same_name-start c =
    let at = (name_at c.requires.at c.loop-i.i c.loop-i-test.true).2.inside.order in omega (arith, c.from-from.ensures, c.from-to.ensures)

pub slice_bounds-same_name-end : goal.slice_bounds-same_name-end
slice_bounds-same_name-end c =
    let at = (name_at c.requires.at c.loop-i.i c.loop-i-test.true).2.inside.within in omega (arith, c.from-to.ensures)

pub returns-then-same_name : goal.returns-then-same_name
returns-then-same_name c =
    λ list x. found_here x _ c.loop-i.i c.loop-i-test.true c.loop-i.invariant (ap₂ (λ (f t : ℕ). same_name c.args.name.now (part c.args.s.now f t)) (sym c.from-from.ensures) (sym c.from-to.ensures) ∙ sym c.same_name.ensures ∙ c.if-same_name.true)

pub returns : goal.returns
returns c = λ list x. found_nowhere x _ (λ j h. c.loop-i.invariant j (omega arith))
