-- `pairs_left` meets its contract. The loop's invariant: the pairs seen are left, and the starts are among them. The measure is the
-- pairs still outside.
use Prim.Native.Nat.{ℕ}
use native.Mathlib.Omega.{arith}
use mathlib.Core.List.{List}
use mathlib.Core.Path.{sym, ◌∙◌, ap}
use lib.ListN.{length}
use Rattle.theory.proofs.Lists.BoolLaws.{or_left}
use Rattle.sets.specs.Sets.{member}
use Rattle.sets.proofs.SetLaws.{member_union, length_union, length-words, words_stored, stored_kept}
use Rattle.union.specs.Places.{starts_at, left_at}
use Rattle.union.proofs.PutsLaws.{fewer_outside}
use Rattle.reducing.proofs.LeavingLaws.{seen_start, seen_next, seen_end}
use Rattle.reducing.proofs.leaving.pairs_left.Goals as goal

pub loop-v-init : goal.loop-v-init
loop-v-init c =
    (λ u x l e. seen_start u _ e, ap length c.load-seen.ensures ∙ length-words _ starts_at 8 (omega arith))

pub loop-v-smaller : goal.loop-v-smaller
loop-v-smaller c =
    let seen = c.loop-v.seen.words in
    let met = c.met_set.result.words in
    let next = ap (λ (w : List ℕ). member w 0) c.union-next.ensures ∙ member_union seen met 0 in
    fewer_outside _ _ _ c.equal.ensures
    (λ p e. ap (λ set. set p) next ∙ or_left (member seen 0 p) (member met 0 p) e)
    c.if-equal.false
    c.loop-v.invariant.1

pub loop-v-preserved : goal.loop-v-preserved
loop-v-preserved c =
    let seen = c.loop-v.seen.words in
    let met = c.met_set.result.words in
    let next = ap (λ (w : List ℕ). member w 0) c.union-next.ensures ∙ member_union seen met 0 in (
      λ u x l e. seen_next u (member seen 0) (member met 0) _ (c.loop-v.invariant.0 u x l e) (c.met_set.ensures.0 u x l) next,
      ap length c.union-next.ensures
          ∙ length_union seen met (c.loop-v.invariant.1 ∙ sym c.met_set.ensures.1)
          ∙ c.loop-v.invariant.1,
    )

pub returns : goal.returns
returns c =
    let seen = c.loop-v.seen.words in
    let met = c.met_set.result.words in
    let next = ap (λ (w : List ℕ). member w 0) c.union-next.ensures ∙ member_union seen met 0 in
    let starts = c.load-seen.ensures in
    let same = c.equal.ensures.same c.if-equal.true in (
      λ u x l e.
          ap (λ (w : List ℕ). member w 0)
          (words_stored _ left_at 8 _ _ (omega arith) c.loop-v.invariant.1 c.store.ensures)
          ∙ seen_end u (member seen 0) (member met 0) (c.loop-v.invariant.0 u x l (ap (λ (w : List ℕ). member w 0) starts ∙ e))
          (c.met_set.ensures.0 u x l)
          (sym next ∙ ap (λ (w : List ℕ). member w 0) (sym same)),
      stored_kept _ left_at 8 _ _ (omega arith) c.loop-v.invariant.1 c.store.ensures,
    )
