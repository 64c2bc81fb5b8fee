-- `with_part` meets its contract.
use Prim.Native.Nat.{◌-◌}
use native.Mathlib.Omega.{arith}
use mathlib.Core.Path.{refl}
use mathlib.Core.List.{[]}
use lib.ListN.{take, drop}
use Rattle.sets.specs.Sets.{member}
use Rattle.reducing.proofs.NumberLaws.{both_start}
use Rattle.reducing.proofs.MeetingLaws.{part_next}
use Rattle.reducing.proofs.meeting.with_part.Goals as goal

pub loop-number-init : goal.loop-number-init
loop-number-init c = (both_start (member c.args.set.words 0) [] refl, omega arith)

pub loop-number-preserved : goal.loop-number-preserved
loop-number-preserved c =
    part_next _ _ (take (c.args.end - c.args.first) (drop c.args.first c.args.numbers.now))
    c.loop-number.number-index _ (member c.args.set.words 0)
    c.with-more.ensures
    c.from.ensures
    (omega arith)
    c.loop-number.invariant.1
    c.loop-number-test.true
    c.loop-number.invariant.0
