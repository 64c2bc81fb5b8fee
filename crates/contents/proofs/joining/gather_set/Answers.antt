-- `gather_set` meets its contract. The loop's invariant: what the set's pairs before `p` give stands in the draft.
use Prim.Native.Nat.{ℕ}
use native.Mathlib.Omega.{arith}
use mathlib.Core.List.{[]}
use mathlib.Core.Path.{refl, sym, ◌∙◌}
use lib.ListN.{length-replicate}
use borrow.Author.Rules.{rules}
use Rattle.sets.specs.Sets.{member}
use Rattle.contents.proofs.CompleteLaws.{start_kept}
use Rattle.operands.specs.Notes.{register_length}
use Rattle.emitting.proofs.TypesKeptLaws.{registered_zeros}
use Rattle.contents.proofs.LoopLaws.{given_on, given_off, given_as, so_far_none, so_far_skip, ready_for, so_far_wide, so_far_next, so_far_all, set_gives}
use Rattle.reader.proofs.AnswerLaws.{handed_on}
use Rattle.contents.proofs.joining.gather_set.Goals as goal

pub loop-p-init : goal.loop-p-init
loop-p-init c =
    let room = c.requires.1 in
    let long = length-replicate {A = ℕ} register_length 0 in (
      omega arith,
      refl,
      long,
      λ q.
          so_far_none _ _ _
          (record {
            kept = start_kept _ (omega arith);
            registered = registered_zeros register_length (omega arith);
            fits = omega arith;
            small = omega arith;
            room = room;
            deep = omega arith;
          }),
    )

pub has-requires : goal.has-requires
has-requires c = (omega arith, omega arith)

pub loop-p-preserved-then-not-has : goal.loop-p-preserved-then-not-has
loop-p-preserved-then-not-has c = (
  omega arith,
  c.loop-p.invariant.1,
  c.loop-p.invariant.2,
  λ q. so_far_skip _ _ _ (c.loop-p.invariant.3 q) c.loop-p-test.true (given_off _ _ (sym c.has.ensures ∙ c.if-not-has.true)),
)

pub slice_bounds-gather_pair-end : goal.slice_bounds-gather_pair-end
slice_bounds-gather_pair-end c = sym c.loop-p.invariant.2

pub gather_pair-requires : goal.gather_pair-requires
gather_pair-requires c =
    (c.requires.0, ready_for _ _ _ (c.loop-p.invariant.3 c.requires.0) (omega arith) (omega arith) (omega arith))

pub returns-in_err-gathered : goal.returns-in_err-gathered
returns-in_err-gathered c =
    rw (handed_on c.from_residual.result c.from_residual.ensures)
    (let at-loop = c.loop-p in
    λ q.
    let l = at-loop in
    let same = l.invariant.1 in
    let long = l.invariant.2 in
    let s = l.invariant.3 q in
    (so_far_wide _ _ _ s c.loop-p-test.true _ _ _
    (given_as _ _ _ (sym (given_on _ _ (sym c.has.ensures ∙ c.if-not-has.false)))
    (c.gather_pair.ensures q (ready_for _ _ _ s (omega arith) (omega arith) (omega arith))))
    c.in_err-gathered.was
    _
    []
    _
    (set_gives q.of q.table (member c.args.set.words 0) c.args.v.rules q.views.rules)
    ).gathers)

pub loop-p-preserved : goal.loop-p-preserved
loop-p-preserved c =
    let at-loop = c.loop-p in (
      omega arith,
      search rules,
      search rules,
      λ q.
          let l = at-loop in
          let same = l.invariant.1 in
          let long = l.invariant.2 in
          let s = l.invariant.3 q in
          so_far_next _ _ _ s c.loop-p-test.true _ _ _
          (given_as _ _ _ (sym (given_on _ _ (sym c.has.ensures ∙ c.if-not-has.false)))
          (c.gather_pair.ensures q (ready_for _ _ _ s (omega arith) (omega arith) (omega arith))))
          c.in_ok-gathered.was,
    )

pub returns : goal.returns
returns c =
    λ q.
    (so_far_all _ _ _ (c.loop-p.invariant.3 q) (omega arith) _
    (set_gives q.of q.table (member c.args.set.words 0) c.args.v.rules q.views.rules)
    ).gathers
