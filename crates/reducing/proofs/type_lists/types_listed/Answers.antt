-- `types_listed` meets its contract. The loop's invariant: of the types before `k`, those with a list that is not empty are in the
-- set.
use Prim.Native.Nat.{ℕ}
use native.Mathlib.Omega.{arith}
use mathlib.Core.List.{List}
use mathlib.Core.Path.{◌≡◌, refl, ◌∙◌, ap}
use lib.ListN.{length, length-replicate}
use Rattle.theory.specs.Alternatives.{some_left}
use Rattle.sets.specs.Sets.{member, nothing}
use Rattle.sets.proofs.SetLaws.{member_zeros}
use Rattle.union.specs.Rounds.{puts}
use Rattle.union.proofs.PutsLaws.{puts_start, puts_step}
use Rattle.reducing.proofs.ListingLaws.{types_all}
use Rattle.reducing.proofs.type_lists.types_listed.Goals as goal

pub loop-k-init : goal.loop-k-init
loop-k-init c =
    let zeros = c.empty-set.ensures in (
      λ of x. puts_start (some_left of) (λ j. j) nothing _ (ap (λ (w : List ℕ). member w 0) zeros ∙ member_zeros 8 0),
      ap length zeros ∙ length-replicate {A = ℕ} 8 0,
    )

pub loop-k-preserved : goal.loop-k-preserved
loop-k-preserved c = (
  λ of x. puts_step (some_left of) (λ j. j) nothing c.loop-k.k _ _ _ _ (c.loop-k.invariant.0 of x) c.put_if-set.ensures.0 (c.is_listed.ensures of x) refl,
  c.put_if-set.ensures.1,
)

pub returns : goal.returns
returns c =
    let e : c.loop-k.k ≡ 256 = omega arith in (
      λ of x.
          types_all (some_left of) (member c.loop-k.set.words 0) 256
          (c.loop-k.invariant.0 of x ∙ ap (puts (some_left of) (λ j. j) nothing) e),
      c.loop-k.invariant.1,
    )
