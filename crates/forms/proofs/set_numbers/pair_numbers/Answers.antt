-- `pair_numbers` meets its contract.
use Prim.Native.Nat.{ℕ, ◌≤◌}
use native.Mathlib.Omega.{arith}
use mathlib.Core.Path.{◌∙◌, ap}
use lib.ListN.{get_or, length-set, length-replicate}
use Rattle.theory.proofs.Lists.ListLaws.{set_all}
use Rattle.forms.proofs.ResultLaws.{numbers_more, none_small}
use Rattle.forms.proofs.set_numbers.pair_numbers.Goals as goal

pub loop-p-init : goal.loop-p-init
loop-p-init c = (λ old add u x is q h. absurd (omega arith), none_small 256 128, length-replicate {A = ℕ} 256 0)

pub loop-p-preserved : goal.loop-p-preserved
loop-p-preserved c =
    let by = c.args.numbers.of in (
      λ old add u x is.
          numbers_more c.loop-p.p c.loop-p.of _ (omega arith) _ (c.loop-p.invariant.0 old add u x is)
          (ap (λ (k : ℕ). get_or by k 0) (c.label_left.ensures.0 old add u x is)),
      set_all c.loop-p.of c.loop-p.p _ (omega arith) (λ n. n ≤ 128) c.loop-p.invariant.1 (c.requires.1 c.label_left.result),
      length-set c.loop-p.of c.loop-p.p _ ∙ c.loop-p.invariant.2,
    )

pub returns : goal.returns
returns c = (λ old add u x is q h. c.loop-p.invariant.0 old add u x is q (omega arith), c.loop-p.invariant.1)
