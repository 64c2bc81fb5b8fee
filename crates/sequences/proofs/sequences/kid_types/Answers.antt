-- `kid_types` meets its contract. The loop's invariant: the types of the children among the nodes passed stand first.
use native.Mathlib.Omega.{arith}
use mathlib.Core.Path.{refl, sym, ◌∙◌}
use Rattle.sequences.proofs.KidLaws.{found_none, found_skip, kid_fits, found_one}
use Rattle.sequences.proofs.sequences.kid_types.Goals as goal

pub loop-j-init : goal.loop-j-init
loop-j-init c = found_none c.requires.0 c.requires.1 _ refl

pub loop-j-preserved-then-from-i : goal.loop-j-preserved-then-from-i
loop-j-preserved-then-from-i c = found_skip c.requires.0 c.requires.1 c.loop-j.invariant c.loop-j-test.true (λ e. c.if-from-i.true (c.from.ensures ∙ e))

pub bounds-of-count : goal.bounds-of-count
bounds-of-count c =
    let room = kid_fits c.requires.0 c.requires.1 c.loop-j.invariant c.loop-j-test.true (sym c.from.ensures ∙ c.if-from-i.false) in
    omega arith

pub loop-j-preserved : goal.loop-j-preserved
loop-j-preserved c = found_one c.requires.0 c.requires.1 c.loop-j.invariant c.loop-j-test.true (sym c.from.ensures ∙ c.if-from-i.false)
