-- `fruitful_pairs` meets its contract. The loop's invariant: the known pairs are fruitful. The measure is the pairs still outside.
use Prim.Native.Nat.{ℕ}
use native.Mathlib.Omega.{arith}
use mathlib.Core.Bool.{false≢true}
use mathlib.Core.List.{List}
use mathlib.Core.Path.{sym, ◌∙◌, ap}
use lib.ListN.{length, length-replicate}
use Rattle.sets.specs.Sets.{member}
use Rattle.sets.proofs.SetLaws.{member_zeros, words_stored}
use Rattle.union.specs.Places.{known_at}
use Rattle.union.proofs.PutsLaws.{fewer_outside}
use Rattle.union.proofs.FruitfulLaws.{round_keeps, round_sound, rounds_fruitful}
use Rattle.union.proofs.fruitful.fruitful_pairs.Goals as goal

pub loop-v-init : goal.loop-v-init
loop-v-init c =
    let zeros = c.empty-known.ensures in
    let nothing = ap (λ (w : List ℕ). member w 0) zeros ∙ member_zeros 8 0 in
    (λ u x p e. absurd (false≢true (sym (ap (λ set. set p) nothing) ∙ e)), ap length zeros ∙ length-replicate {A = ℕ} 8 0)

pub loop-v-smaller : goal.loop-v-smaller
loop-v-smaller c =
    fewer_outside _ _ _ c.equal.ensures
    (λ p e. ap (λ set. set p) (c.round-next.ensures.0 c.requires.0.table c.requires.0.views) ∙ round_keeps c.requires.0.views _ p e)
    c.if-equal.false
    c.loop-v.invariant.1

pub loop-v-preserved : goal.loop-v-preserved
loop-v-preserved c = (
  λ u x p e. round_sound x _ (c.loop-v.invariant.0 u x) p (sym (ap (λ set. set p) (c.round-next.ensures.0 u x)) ∙ e),
  c.round-next.ensures.1,
)

pub returns : goal.returns
returns c =
    λ u x.
    ap (λ (w : List ℕ). member w 0) (words_stored _ known_at 8 _ _ (omega arith) c.loop-v.invariant.1 c.store.ensures)
    ∙ rounds_fruitful x _ (c.loop-v.invariant.0 u x)
    (sym (c.round-next.ensures.0 u x) ∙ ap (λ (w : List ℕ). member w 0) (sym (c.equal.ensures.same c.if-equal.true)))
