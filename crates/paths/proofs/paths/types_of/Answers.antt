-- `types_of` meets its contract. The loop's invariant is `Typing`.
use Prim.Native.Nat.{ℕ}
use native.Mathlib.Omega.{arith}
use mathlib.Core.Path.{◌≡◌, refl, ◌∙◌, subst}
use lib.ListN.{length-set}
use Rattle.paths.specs.SampleNodes.{TypedTo}
use Rattle.paths.proofs.TypeLaws.{typing_start, above_room, above_small, find_room, typing_next}
use Rattle.paths.proofs.paths.types_of.Goals as goal

pub loop-i-init : goal.loop-i-init
loop-i-init c = (refl, λ q. typing_start q.list q.tree _ _ _)

pub above_type-requires : goal.above_type-requires
above_type-requires c = above_room c.requires (c.loop-i.invariant.1 c.requires) c.loop-i-test.true (omega arith)

pub overflow_cast-aboves : goal.overflow_cast-aboves
overflow_cast-aboves c =
    let whole = c.requires in
    let small = above_small whole (c.loop-i.invariant.1 whole) c.loop-i-test.true in
    omega (arith, c.above_type.ensures)

pub find-t-requires : goal.find-t-requires
find-t-requires c =
    find_room c.requires (c.loop-i.invariant.1 c.requires) c.loop-i-test.true c.above_type.result c.above_type.ensures (omega arith)
    (omega arith)

pub overflow_cast-of : goal.overflow_cast-of
overflow_cast-of c =
    let whole = c.requires in
    let h = whole.few in
    let f = (c.loop-i.invariant.1 whole).typed.few in
    omega (arith, c.find-t.ensures.few)

pub offset_bounds-firsts-count : goal.offset_bounds-firsts-count
offset_bounds-firsts-count c =
    let f = (c.loop-i.invariant.1 c.requires).typed.few in
    omega arith

pub bounds-firsts-count : goal.bounds-firsts-count
bounds-firsts-count c =
    let f = (c.loop-i.invariant.1 c.requires).typed.few in
    omega arith

pub next_count-count-requires : goal.next_count-count-requires
next_count-count-requires c =
    let f = (c.loop-i.invariant.1 c.requires).typed.few in
    omega arith

pub loop-i-preserved : goal.loop-i-preserved
loop-i-preserved c = (
  length-set c.loop-i.aboves c.loop-i.i _ ∙ c.loop-i.invariant.0,
  λ q.
      typing_next q (c.loop-i.invariant.1 q) c.loop-i-test.true c.above_type.result c.above_type.ensures (omega arith) (omega arith) c.find-t.result
      c.find-t.ensures.found (omega arith) c.next_count-count.result c.next_count-count.ensures,
)

pub returns : goal.returns
returns c =
    λ q.
    let z : c.loop-i.i ≡ c.args.nodes = omega arith in
    subst (λ (i : ℕ). TypedTo q.list q.tree c.loop-i.of c.loop-i.firsts c.loop-i.count i) z (c.loop-i.invariant.1 q).typed
