-- `met_in_rule` meets its contract: the content stands in the bytes of its own table, whose types have their own lists.
use native.Mathlib.Omega.{arith}
use mathlib.Core.Path.{sym}
use Rattle.union.proofs.ViewLaws.{old_order, old_within, added_order, added_within, seen, source_so, source_there}
use Rattle.reducing.proofs.MeetingLaws.{old_met, added_met}
use Rattle.reducing.proofs.meeting.met_in_rule.Goals as goal

pub slice_bounds-met_in_content-count : goal.slice_bounds-met_in_content-count
slice_bounds-met_in_content-count c = omega (arith, old_order c.requires.0.viewed _ c.requires.1 c.if-i-v.true)

pub slice_bounds-met_in_content-start : goal.slice_bounds-met_in_content-start
slice_bounds-met_in_content-start c = omega (arith, old_order c.requires.0.viewed _ c.requires.1 c.if-i-v.true)

pub slice_bounds-met_in_content-end : goal.slice_bounds-met_in_content-end
slice_bounds-met_in_content-end c = omega (arith, old_within c.requires.0.viewed _ c.requires.1 c.if-i-v.true)

pub slice_bounds-met_in_content-count-2 : goal.slice_bounds-met_in_content-count-2
slice_bounds-met_in_content-count-2 c = omega (arith, added_order c.requires.0.viewed _ c.requires.1 c.if-i-v.false)

pub slice_bounds-met_in_content-start-2 : goal.slice_bounds-met_in_content-start-2
slice_bounds-met_in_content-start-2 c = omega (arith, added_order c.requires.0.viewed _ c.requires.1 c.if-i-v.false)

pub slice_bounds-met_in_content-end-2 : goal.slice_bounds-met_in_content-end-2
slice_bounds-met_in_content-end-2 c = omega (arith, added_within c.requires.0.viewed _ c.requires.1 c.if-i-v.false)

pub met_in_content-requires : goal.met_in_content-requires
met_in_content-requires c =
    let rule = (seen c.requires.0.viewed.views _ c.requires.1).2 in
    let begins = sym c.from-from.ensures in
    let ends = sym c.from-to.ensures in
    record {
      there = source_there (source_so begins ends (rule.in_old c.if-i-v.true));
      lists = c.requires.0.listed.old;
      once = c.requires.0.once;
    }

pub returns-then-i-v : goal.returns-then-i-v
returns-then-i-v c =
    let begins = sym c.from-from.ensures in
    let ends = sym c.from-to.ensures in
    old_met c.args.i c.requires.1 _ _ begins ends c.args.lists _ _ _
    c.if-i-v.true
    c.met_in_content.ensures

pub met_in_content-requires-2 : goal.met_in_content-requires-2
met_in_content-requires-2 c =
    let rule = (seen c.requires.0.viewed.views _ c.requires.1).2 in
    let begins = sym c.from-from.ensures in
    let ends = sym c.from-to.ensures in
    record {
      there = source_there (source_so begins ends (rule.in_addition c.if-i-v.false).stands);
      lists = c.requires.0.listed.added;
      once = c.requires.0.once;
    }

pub returns : goal.returns
returns c =
    let begins = sym c.from-from.ensures in
    let ends = sym c.from-to.ensures in
    added_met c.args.i c.requires.1 _ _ begins ends c.args.lists _ _ _
    c.if-i-v.false
    c.met_in_content-2.ensures
