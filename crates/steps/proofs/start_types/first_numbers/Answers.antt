-- `first_numbers` meets its contract. The loop's invariant: the set has the numbers before `t`.
use Prim.Native.Nat.{ℕ}
use native.Mathlib.Omega.{arith}
use mathlib.Core.Bool.{true}
use mathlib.Core.List.{List}
use mathlib.Core.Path.{◌≡◌, refl, ◌∙◌, ap}
use lib.ListN.{length, length-replicate}
use Rattle.sets.specs.Sets.{member, nothing}
use Rattle.sets.proofs.SetLaws.{member_zeros, eight_set, stored_kept}
use Rattle.union.specs.Places.{start_types_at}
use Rattle.union.specs.Rounds.{puts}
use Rattle.union.proofs.PutsLaws.{puts_start, puts_step, put_in}
use Rattle.steps.proofs.start_types.first_numbers.Goals as goal

pub loop-t-init : goal.loop-t-init
loop-t-init c =
    let zeros = c.empty-set.ensures in (
      puts_start _ _ _ _ (ap (λ (w : List ℕ). member w 0) zeros ∙ member_zeros 8 0),
      ap length zeros ∙ length-replicate {A = ℕ} 8 0,
    )

pub loop-t-preserved : goal.loop-t-preserved
loop-t-preserved c =
    let put = put_in true _ _ c.loop-t.t refl c.with-set.ensures (omega arith) c.loop-t.invariant.1 in
    (puts_step _ _ _ c.loop-t.t _ _ true _ c.loop-t.invariant.0 put.0 refl refl, put.1)

pub returns : goal.returns
returns c =
    let e : c.loop-t.t ≡ c.args.n = omega arith in (
      eight_set _ start_types_at _ _ (omega arith) c.loop-t.invariant.1 c.store.ensures
          ∙ c.loop-t.invariant.0
          ∙ ap (puts (λ s. true) (λ s. s) nothing) e,
      stored_kept _ start_types_at 8 _ _ (omega arith) c.loop-t.invariant.1 c.store.ensures,
    )
