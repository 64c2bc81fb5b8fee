-- `round` meets its contract.
use Prim.Native.Nat.{ℕ}
use native.Mathlib.Omega.{arith}
use mathlib.Core.Bool.{Bool}
use mathlib.Core.Path.{◌≡◌, refl, ◌∙◌, ap}
use Rattle.theory.specs.Alternatives.{has_alts}
use Rattle.sets.specs.Sets.{member}
use Rattle.union.specs.View.{first_in}
use Rattle.union.specs.Rounds.{puts, content_of_rule, after_round}
use Rattle.union.proofs.PutsLaws.{puts_start, puts_step}
use Rattle.union.proofs.fruitful.round.Goals as goal

pub loop-i-init : goal.loop-i-init
loop-i-init c = (λ u x. puts_start _ _ _ _ refl, omega arith)

pub loop-i-preserved : goal.loop-i-preserved
loop-i-preserved c = (
  λ u x. puts_step _ _ _ c.loop-i.i _ _ _ _ (c.loop-i.invariant.0 u x)
      c.put_if-next.ensures.0 (c.rule_has.ensures u x) c.from.ensures,
  c.put_if-next.ensures.1,
)

pub returns : goal.returns
unfolding after_round
returns c =
    let v = c.args.v in
    let known = member c.args.known.words 0 in
    let e : c.loop-i.i ≡ v.rules = omega arith in (
      λ u x.
          c.loop-i.invariant.0 u x
          ∙ ap (puts (λ j. has_alts (member c.types_with-types.result.words 0) (content_of_rule u j)) (first_in v) known) e
          ∙ ap (λ (test : ℕ → Bool). puts (λ j. has_alts test (content_of_rule u j)) (first_in v) known v.rules) c.types_with-types.ensures.0,
      c.loop-i.invariant.1,
    )
