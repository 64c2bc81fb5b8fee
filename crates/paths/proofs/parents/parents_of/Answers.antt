-- `parents_of` meets its contract. The loop's invariant is `Passing`.
use Prim.Native.Nat.{ℕ}
use native.Mathlib.Omega.{arith}
use mathlib.Core.Path.{◌≡◌, refl, sym, ◌∙◌, ap}
use lib.ListN.{length-set, take}
use borrow.Author.Rules.{rules}
use Rattle.paths.proofs.ParentLaws.{passing_start, passing_end, step_room, step_next}
use Rattle.paths.proofs.parents.parents_of.Goals as goal

pub loop-i-init : goal.loop-i-init
loop-i-init c = (refl, refl, λ q. passing_start q.list _ _ _ refl refl q.one q.enough)

pub offset_bounds-pending-top : goal.offset_bounds-pending-top
offset_bounds-pending-top c =
    let r = (step_room c.requires.2 c.loop-i.invariant.0 c.loop-i.invariant.1 c.requires.0 (omega arith) (c.loop-i.invariant.2 c.requires.2)).1 in
    omega arith

pub bounds-pending-top : goal.bounds-pending-top
bounds-pending-top c =
    (step_room c.requires.2 c.loop-i.invariant.0 c.loop-i.invariant.1 c.requires.0 (omega arith) (c.loop-i.invariant.2 c.requires.2)).1

pub overflow_add-rest : goal.overflow_add-rest
overflow_add-rest c =
    let r = (step_room c.requires.2 c.loop-i.invariant.0 c.loop-i.invariant.1 c.requires.0 (omega arith) (c.loop-i.invariant.2 c.requires.2)).1 in
    omega arith

pub overflow_sub-rest : goal.overflow_sub-rest
overflow_sub-rest c =
    (step_room c.requires.2 c.loop-i.invariant.0 c.loop-i.invariant.1 c.requires.0 (omega arith) (c.loop-i.invariant.2 c.requires.2)).0

pub overflow_add-top : goal.overflow_add-top
overflow_add-top c =
    let r = (step_room c.requires.2 c.loop-i.invariant.0 c.loop-i.invariant.1 c.requires.0 (omega arith) (c.loop-i.invariant.2 c.requires.2)).1 in
    omega arith

pub leave-requires : goal.leave-requires
leave-requires c =
    let r = step_room c.requires.2 c.loop-i.invariant.0 c.loop-i.invariant.1 c.requires.0 (omega arith) (c.loop-i.invariant.2 c.requires.2) in
    (omega arith, omega arith)

pub loop-i-preserved : goal.loop-i-preserved
loop-i-preserved c =
    let e = c.leave.ensures in (
      length-set c.loop-i.parents c.loop-i.i _ ∙ c.loop-i.invariant.0,
      search rules,
      λ q. step_next q c.loop-i.invariant.0 c.loop-i.invariant.1 c.requires.0 (omega arith) (c.loop-i.invariant.2 q) _ e,
    )

pub returns : goal.returns
returns c =
    λ q.
    let m = q.many in
    let z : c.loop-i.i ≡ c.args.nodes = omega arith in
    ap (λ (k : ℕ). take k c.loop-i.parents) (sym z)
    ∙ passing_end q.list c.loop-i.parents c.loop-i.pending c.loop-i.top c.loop-i.i (omega arith) (c.loop-i.invariant.2 q)
