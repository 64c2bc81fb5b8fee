-- `label_numbers` meets its contract.
use Prim.Native.Nat.{ℕ, ◌≤◌}
use native.Mathlib.Omega.{arith}
use mathlib.Core.Path.{◌∙◌}
use lib.ListN.{length-set, length-replicate}
use Rattle.theory.proofs.Lists.ListLaws.{set_all}
use Rattle.forms.proofs.SetsFound.{labelled_ascending}
use Rattle.forms.proofs.LabelLaws.{few_rules}
use Rattle.forms.proofs.ResultLaws.{numbers_more, none_small}
use Rattle.forms.proofs.label_sets.label_numbers.Goals as goal

pub loop-l-init : goal.loop-l-init
loop-l-init c = (λ old add u sets x held counted k h. absurd (omega arith), none_small 256 128, length-replicate {A = ℕ} 256 0)

pub loop-l-preserved : goal.loop-l-preserved
loop-l-preserved c = (
  λ old add u sets x held counted.
      numbers_more c.loop-l.l c.loop-l.of _ (omega arith) _ (c.loop-l.invariant.0 old add u sets x held counted)
      (c.set_number.ensures.0 sets _ held counted (c.labelled_pairs-set.ensures.0 old add u x) (labelled_ascending u _ (few_rules x) c.loop-l.l)),
  set_all c.loop-l.of c.loop-l.l _ (omega arith) (λ n. n ≤ 128) c.loop-l.invariant.1 (omega arith),
  length-set c.loop-l.of c.loop-l.l _ ∙ c.loop-l.invariant.2,
)

pub returns : goal.returns
returns c =
    (λ old add u sets x held counted k h. c.loop-l.invariant.0 old add u sets x held counted k (omega arith), c.loop-l.invariant.1)
