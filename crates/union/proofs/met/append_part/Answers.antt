-- `append_part` meets its contract.
use native.Mathlib.Omega.{arith}
use Prim.Native.Nat.{ℕ, ◌-◌, ◌≤◌}
use mathlib.Core.List.{Memᴰ, List}
use mathlib.Core.Path.{sym, subst}
use lib.ListN.{take, drop}
use lib.Seq.{take-take}
use Rattle.std.proofs.lemmas.List.{take_more}
use Rattle.union.proofs.OnceLaws.{adds_same, adds_join, adds_once, part_below}
use Rattle.union.proofs.met.append_part.Goals as goal

pub append-more-requires : goal.append-more-requires
append-more-requires c =
    let i = c.loop-number.number-index in
    let n = c.args.end - c.args.first in
    let numbers = drop c.args.first c.args.numbers.now in
    let small : i ≤ n = omega (arith, c.requires.1.order, c.requires.1.inside) in
    adds_once 256 _ _ c.requires.0 _ _ _
    (λ p m.
    part_below c.args.numbers.now 256 (λ j. omega (arith, c.type_inv.numbers j)) c.args.first i p
    (subst (λ (l : List ℕ). Memᴰ p l) (take-take i n numbers small) m))
    c.loop-number.invariant
    c.loop-number.auto.list

pub loop-number-preserved : goal.loop-number-preserved
loop-number-preserved c =
    let part = take (c.args.end - c.args.first) (drop c.args.first c.args.numbers.now) in
    adds_same (sym (take_more part c.loop-number.number-index 0 c.loop-number-test.true))
    (adds_join _ _ _ _ _ _ _ c.loop-number.invariant c.append-more.ensures)
