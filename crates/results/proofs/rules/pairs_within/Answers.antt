-- `pairs_within` meets its contract.
use Prim.Native.Nat.{ℕ}
use native.Mathlib.Omega.{arith}
use mathlib.Core.Bool.{Bool}
use mathlib.Core.Path.{sym, ◌∙◌, ap}
use Rattle.grammar.specs.Lists.{is_in}
use Rattle.union.specs.PairNumbers.{met_in}
use Rattle.forms.specs.SetForms.{pairs_within}
use Rattle.results.specs.declared.plan.Kind.{Kind}
use Rattle.results.specs.PlanKind.{kind_of}
use Rattle.results.proofs.rules.pairs_within.Goals as goal

pub returns-in-Local : goal.returns-in-Local
unfolding kind_of
returns-in-Local c = (
  λ u s x l y z. y ∙ sym (ap (λ (k : Kind). pairs_within (kind_of k) u s) c.in-Local.is),
  omega arith,
)

pub returns-in-SingleType : goal.returns-in-SingleType
unfolding kind_of
returns-in-SingleType c = (
  λ u s x l y z.
      c.met_set.ensures.0 u x l
      ∙ ap {B = ℕ → Bool} (λ (t : ℕ → Bool) (p : ℕ). is_in p (met_in u t)) z
      ∙ sym (ap (λ (k : Kind). pairs_within (kind_of k) u s) c.in-SingleType.is),
  c.met_set.ensures.1,
)
