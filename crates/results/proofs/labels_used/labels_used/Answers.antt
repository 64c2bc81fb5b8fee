-- `labels_used` meets its contract. The loop's invariant: the set has the labels of the sets before `i`.
use Prim.Native.Nat.{ℕ}
use native.Mathlib.Omega.{arith}
use mathlib.Core.Bool.{true}
use mathlib.Core.List.{List}
use mathlib.Core.Path.{◌≡◌, refl, ◌∙◌, ap}
use lib.ListN.{length, length-replicate}
use Rattle.sets.specs.Sets.{member, nothing}
use Rattle.sets.proofs.SetLaws.{member_zeros, eight_set, stored_kept}
use Rattle.union.specs.Places.{used_at}
use Rattle.union.specs.Rounds.{puts}
use Rattle.union.proofs.PutsLaws.{put_in, puts_start, puts_step}
use Rattle.results.proofs.LabelLaws.{label_at, used_are}
use Rattle.results.proofs.SetLaws.{set_held, set_ascending, set_some, label_small}
use Rattle.results.proofs.labels_used.labels_used.Goals as goal

pub loop-i-init : goal.loop-i-init
loop-i-init c =
    let zeros = c.empty-used.ensures in (
      ap length zeros ∙ length-replicate {A = ℕ} 8 0,
      λ old add q.
          puts_start (λ j. true) (label_at q.table q.sets) nothing _
          (ap (λ (w : List ℕ). member w 0) zeros ∙ member_zeros 8 0),
    )

pub with-used-requires : goal.with-used-requires
with-used-requires c =
    let q = c.requires.0.2 in
    let i = c.loop-i.i in
    let h = c.loop-i-test.true in (
      omega arith,
      label_small q i h _
          (c.set_label.ensures _ _ q.table _ q.views (set_held q i h _ c.load-set.ensures) (set_ascending q i h) (set_some q i h)),
    )

pub loop-i-preserved : goal.loop-i-preserved
loop-i-preserved c =
    let p = c.requires.0.2 in
    let i = c.loop-i.i in
    let h = c.loop-i-test.true in
    let small =
    label_small p i h c.set_label.result
    (c.set_label.ensures _ _ p.table _ p.views (set_held p i h _ c.load-set.ensures) (set_ascending p i h) (set_some p i h)) in
    let more = put_in true c.loop-i.used.words c.with-used.result.words c.set_label.result refl c.with-used.ensures small c.loop-i.invariant.0 in (
      more.1,
      λ old add q.
          puts_step (λ j. true) (label_at q.table q.sets) nothing i _ _ true _ (c.loop-i.invariant.1 old add q) more.0 refl
          (c.set_label.ensures old add q.table _ q.views (set_held q i h _ c.load-set.ensures) (set_ascending q i h) (set_some q i h)),
    )

pub returns : goal.returns
returns c = (
  λ old add q.
      let count = q.count_is in
      let e : c.loop-i.i ≡ length q.sets = omega arith in
      eight_set _ used_at _ _ (omega arith) c.loop-i.invariant.0 c.store.ensures
      ∙ c.loop-i.invariant.1 old add q
      ∙ ap (puts (λ j. true) (label_at q.table q.sets) nothing) e
      ∙ used_are q.table q.sets,
  stored_kept _ used_at 8 _ _ (omega arith) c.loop-i.invariant.0 c.store.ensures,
)
