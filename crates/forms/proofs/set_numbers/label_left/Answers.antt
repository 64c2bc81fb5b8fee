-- `label_left` meets its contract.
use Prim.Native.Nat.{ℕ}
use native.Mathlib.Omega.{arith}
use mathlib.Core.Bool.{Bool}
use mathlib.Core.Path.{◌∙◌, ap}
use borrow.Author.Rules.{rules}
use Rattle.forms.proofs.LabelLaws.{label_at}
use Rattle.forms.proofs.ResultLaws.{label_if_left, label_if_gone}
use Rattle.forms.proofs.set_numbers.label_left.Goals as goal

pub returns-then-has : goal.returns-then-has
returns-then-has c =
    let p = c.args.p in (
      λ old add u x is.
          label_if_left u p _ _ c.if-has.true (c.has.ensures ∙ ap (λ (f : ℕ → Bool). f p) is)
          (c.from.ensures ∙ label_at x p c.requires.1),
      search rules,
    )

pub returns : goal.returns
returns c =
    let p = c.args.p in
    (λ old add u x is. label_if_gone u p _ c.if-has.false (c.has.ensures ∙ ap (λ (f : ℕ → Bool). f p) is), omega arith)
