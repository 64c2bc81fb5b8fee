-- `set_label` meets its contract.
use Prim.Native.Nat.{ℕ}
use native.Mathlib.Omega.{arith}
use mathlib.Core.Bool.{Bool}
use mathlib.Core.Path.{sym, ◌∙◌, ap}
use Rattle.forms.proofs.LabelLaws.{label_first, label_none}
use Rattle.forms.proofs.label_sets.set_label.Goals as goal

pub returns-then-has : goal.returns-then-has
returns-then-has c =
    λ old add u s x is ascending some.
    c.from.ensures
    ∙ label_first x ascending c.loop-p.p c.loop-p-test.true
    (sym (ap (λ (f : ℕ → Bool). f c.loop-p.p) is) ∙ sym c.has.ensures ∙ c.if-has.true)
    (λ q h. sym (ap (λ (f : ℕ → Bool). f q) is) ∙ c.loop-p.invariant q h)

pub returns : goal.returns
returns c =
    λ old add u s x is ascending some.
    label_none x s some (λ q h. sym (ap (λ (f : ℕ → Bool). f q) is) ∙ c.loop-p.invariant q (omega arith))
