-- `rule_has` meets its contract: the content stands in the bytes of its own table, the addition's types four words further on.
use native.Mathlib.Omega.{arith}
use mathlib.Core.Path.{sym, ◌∙◌, ap}
use Rattle.theory.specs.Alternatives.{has_alts}
use Rattle.sets.specs.Sets.{member}
use Rattle.union.proofs.ViewLaws.{old_order, old_within, added_order, added_within, content_is, seen, source_so, source_there, source_has, addition_has}
use Rattle.union.proofs.fruitful.rule_has.Goals as goal

pub slice_bounds-content_has-count : goal.slice_bounds-content_has-count
slice_bounds-content_has-count c = omega (arith, old_order c.requires.0 _ c.requires.1 c.if-i-v.true)

pub slice_bounds-content_has-start : goal.slice_bounds-content_has-start
slice_bounds-content_has-start c = omega (arith, old_order c.requires.0 _ c.requires.1 c.if-i-v.true)

pub slice_bounds-content_has-end : goal.slice_bounds-content_has-end
slice_bounds-content_has-end c = omega (arith, old_within c.requires.0 _ c.requires.1 c.if-i-v.true)

pub slice_bounds-content_has-count-2 : goal.slice_bounds-content_has-count-2
slice_bounds-content_has-count-2 c = omega (arith, added_order c.requires.0 _ c.requires.1 c.if-i-v.false)

pub slice_bounds-content_has-start-2 : goal.slice_bounds-content_has-start-2
slice_bounds-content_has-start-2 c = omega (arith, added_order c.requires.0 _ c.requires.1 c.if-i-v.false)

pub slice_bounds-content_has-end-2 : goal.slice_bounds-content_has-end-2
slice_bounds-content_has-end-2 c = omega (arith, added_within c.requires.0 _ c.requires.1 c.if-i-v.false)

pub content_has-requires : goal.content_has-requires
content_has-requires c =
    let s = (seen c.requires.0.views _ c.requires.1).2.in_old c.if-i-v.true in
    (source_there (source_so (sym c.from-from.ensures) (sym c.from-to.ensures) s), omega arith)

pub returns-then-i-v : goal.returns-then-i-v
returns-then-i-v c =
    λ u x.
    let test = member c.args.types.words 0 in
    let s = seen x _ c.requires.1 in
    source_has (source_so (sym c.from-from.ensures) (sym c.from-to.ensures) (s.2.in_old c.if-i-v.true)) test _ _ c.content_has.ensures
    ∙ ap (has_alts test) (sym (content_is u _ s.0 s.1))

pub content_has-requires-2 : goal.content_has-requires-2
content_has-requires-2 c =
    let s = ((seen c.requires.0.views _ c.requires.1).2.in_addition c.if-i-v.false).stands in
    (source_there (source_so (sym c.from-from.ensures) (sym c.from-to.ensures) s), omega arith)

pub returns : goal.returns
returns c =
    λ u x.
    let words = c.args.types.words in
    let s = seen x _ c.requires.1 in
    let a = s.2.in_addition c.if-i-v.false in
    source_has (source_so (sym c.from-from.ensures) (sym c.from-to.ensures) a.stands) (member words 4) _ _ c.content_has-2.ensures
    ∙ addition_has words a.source
    ∙ ap (has_alts (member words 0)) (sym (content_is u _ s.0 s.1 ∙ a.same))
