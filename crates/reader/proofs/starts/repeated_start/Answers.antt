-- `starts::repeated_start` meets its contract. The loop's invariant: no start before `i` is of the type.
use native.Mathlib.Omega.{arith}
use borrow.Author.Tests.{eq-eqb}
use mathlib.Core.Path.{sym, ◌∙◌}
use lib.Dec.{eqb}
use Rattle.grammar.specs.Lists.{is_in}
use Rattle.reader.proofs.LabelSearch.{start_passes, no_start_passes}
use Rattle.reader.proofs.starts.repeated_start.Goals as goal

pub returns-then-start_type-ty : goal.returns-then-start_type-ty
unfolding is_in
returns-then-start_type-ty c =
    λ g x. sym (start_passes x (eqb c.args.ty) c.loop-i.i (omega (arith, c.start_count-i-end.ensures, c.loop-i-test.true)) (eq-eqb _ _ (sym c.if-start_type-ty.true ∙ c.start_type.ensures)))

pub returns : goal.returns
unfolding is_in
returns c =
    λ g x. sym (no_start_passes x (eqb c.args.ty) (λ i h. c.loop-i.invariant i (omega (arith, c.start_count-i-end.ensures))))
