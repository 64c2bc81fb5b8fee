-- `types_with` meets its contract.
use native.Mathlib.Omega.{arith}
use mathlib.Core.Path.{◌≡◌, ◌∙◌, ap}
use lib.ListN.{length, length-replicate}
use Prim.Native.Nat.{ℕ}
use mathlib.Core.List.{List}
use Rattle.sets.specs.Sets.{member, nothing}
use Rattle.sets.proofs.SetLaws.{member_zeros}
use Rattle.union.specs.Rounds.{puts, types_with}
use Rattle.union.specs.View.{type_in, first_in}
use Rattle.union.proofs.PutsLaws.{puts_start, puts_step}
use Rattle.union.proofs.fruitful.types_with.Goals as goal

pub loop-i-init : goal.loop-i-init
loop-i-init c =
    let zeros = c.empty-set.ensures in
    (puts_start _ _ _ _ (ap (λ (w : List ℕ). member w 0) zeros ∙ member_zeros 8 0), ap length zeros ∙ length-replicate {A = ℕ} 8 0)

pub loop-i-preserved : goal.loop-i-preserved
loop-i-preserved c = (
  puts_step _ _ _ c.loop-i.i _ _ _ _ c.loop-i.invariant.0 c.put_if-set.ensures.0
      (c.has.ensures ∙ ap (member c.args.known.words 0) c.from-first.ensures)
      c.from.ensures,
  c.put_if-set.ensures.1,
)

pub returns : goal.returns
unfolding types_with
returns c =
    let e : c.loop-i.i ≡ c.args.v.rules = omega arith in (
      c.loop-i.invariant.0 ∙ ap (puts (λ j. member c.args.known.words 0 (first_in c.args.v j)) (type_in c.args.v) nothing) e,
      c.loop-i.invariant.1,
    )
