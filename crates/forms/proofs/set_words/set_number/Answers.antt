-- `set_number` meets its contract.
use Prim.Native.Nat.{ℕ}
use native.Mathlib.Omega.{arith}
use mathlib.Core.Bool.{Bool}
use mathlib.Core.List.{List}
use mathlib.Core.Path.{sym, ◌∙◌, ap}
use borrow.Author.Count.{below_more}
use Rattle.sets.specs.Sets.{member}
use Rattle.forms.proofs.SetWordLaws.{number_here, number_nowhere}
use Rattle.forms.proofs.set_words.set_number.Goals as goal

pub returns-then-equal : goal.returns-then-equal
returns-then-equal c = (
  λ sets s held counted is ascending.
      number_here held c.args.count counted c.args.set.words (record { is = is; ascending = ascending }) c.loop-i.i
      c.loop-i-test.true
      (ap (λ (w : List ℕ). member w 0) (sym c.load.ensures ∙ c.equal.ensures.same c.if-equal.true))
      c.loop-i.invariant,
  omega arith,
)

pub loop-i-preserved : goal.loop-i-preserved
loop-i-preserved c =
    let d = c.equal.ensures.differ c.if-equal.false in
    below_more _ c.loop-i.i c.loop-i.invariant
    (λ q. d.2 (ap (λ (w : List ℕ). member w 0 d.0) c.load.ensures ∙ ap (λ (f : ℕ → Bool). f d.0) q))

pub returns : goal.returns
returns c = (
  λ sets s held counted is ascending.
      number_nowhere held c.args.count counted c.args.set.words (record { is = is; ascending = ascending }) c.args.count
      (omega arith) (omega arith)
      (λ j h. c.loop-i.invariant j (omega arith)),
  omega arith,
)
