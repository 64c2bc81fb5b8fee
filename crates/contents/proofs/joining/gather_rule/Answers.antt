-- `gather_rule` meets its contract: the content stands in the bytes of its own table, the addition's types four words further on.
use native.Mathlib.Omega.{arith}
use Rattle.contents.proofs.RuleLaws.{old_part, old_source, old_gives, added_part, added_source, added_gives}
use Rattle.contents.proofs.joining.gather_rule.Goals as goal

pub slice_bounds-gather_content-count : goal.slice_bounds-gather_content-count
slice_bounds-gather_content-count c =
    let begins = c.from-from.ensures in
    let ends = c.from-to.ensures in
    (old_part c.requires.0 _ c.requires.1 begins ends c.requires.2 c.if-i-v.true).order

pub slice_bounds-gather_content-start : goal.slice_bounds-gather_content-start
slice_bounds-gather_content-start c =
    let begins = c.from-from.ensures in
    let ends = c.from-to.ensures in
    (old_part c.requires.0 _ c.requires.1 begins ends c.requires.2 c.if-i-v.true).order

pub slice_bounds-gather_content-end : goal.slice_bounds-gather_content-end
slice_bounds-gather_content-end c =
    let begins = c.from-from.ensures in
    let ends = c.from-to.ensures in
    (old_part c.requires.0 _ c.requires.1 begins ends c.requires.2 c.if-i-v.true).within

pub gather_content-requires : goal.gather_content-requires
gather_content-requires c =
    let begins = c.from-from.ensures in
    let ends = c.from-to.ensures in
    let k = c.requires.2 in
    (old_source c.requires.0 _ c.requires.1 begins ends k c.if-i-v.true (omega arith), k.registered)

pub returns-then-i-v : goal.returns-then-i-v
returns-then-i-v c =
    let begins = c.from-from.ensures in
    let ends = c.from-to.ensures in
    let is-old = c.if-i-v.true in
    let given = c.gather_content.ensures in
    λ q k.
    let h = c.requires.1 in
    old_gives q _ h begins ends k is-old _ _ _ (given (old_source q _ h begins ends k is-old (omega arith)) k.registered)

pub slice_bounds-gather_content-count-2 : goal.slice_bounds-gather_content-count-2
slice_bounds-gather_content-count-2 c =
    let begins = c.from-from.ensures in
    let ends = c.from-to.ensures in
    (added_part c.requires.0 _ c.requires.1 begins ends c.requires.2 c.if-i-v.false).order

pub slice_bounds-gather_content-start-2 : goal.slice_bounds-gather_content-start-2
slice_bounds-gather_content-start-2 c =
    let begins = c.from-from.ensures in
    let ends = c.from-to.ensures in
    (added_part c.requires.0 _ c.requires.1 begins ends c.requires.2 c.if-i-v.false).order

pub slice_bounds-gather_content-end-2 : goal.slice_bounds-gather_content-end-2
slice_bounds-gather_content-end-2 c =
    let begins = c.from-from.ensures in
    let ends = c.from-to.ensures in
    (added_part c.requires.0 _ c.requires.1 begins ends c.requires.2 c.if-i-v.false).within

pub gather_content-requires-2 : goal.gather_content-requires-2
gather_content-requires-2 c =
    let begins = c.from-from.ensures in
    let ends = c.from-to.ensures in
    let k = c.requires.2 in
    (added_source c.requires.0 _ c.requires.1 begins ends k c.if-i-v.false (omega arith), k.registered)

pub returns : goal.returns
returns c =
    let begins = c.from-from.ensures in
    let ends = c.from-to.ensures in
    let is-added = c.if-i-v.false in
    let given = c.gather_content-2.ensures in
    λ q k.
    let h = c.requires.1 in
    added_gives q _ h begins ends k is-added _ _ _ (given (added_source q _ h begins ends k is-added (omega arith)) k.registered)
