-- `complete` meets its contract: what the reader's walk finds of the finished content settles it.
use Prim.Native.Nat.{ℕ}
use mathlib.Core.List.{List}
use Rattle.std.specs.Prelude.{Option}
use mathlib.Core.Path.{◌≡◌, sym, ◌∙◌, ap}
use Rattle.grammar.specs.Limits.{Limits, large}
use Rattle.grammar.specs.LimitSets.{size_limits}
use Rattle.grammar.specs.declared.Size.TheVariants.{Large}
use Rattle.reader.specs.Extents.{proper_at}
use Rattle.reader.specs.declared.expressions.Extent.{Extent}
use Rattle.contents.specs.Completing.{Made}
use Rattle.contents.proofs.CompleteLaws.{made_inside, made_long, made_improper, made_deep, made_fine}
use Rattle.contents.proofs.completing.complete.Goals as goal

-- what the walk found under the largest limits
under-large : {lim : Limits} {r x : Option Extent} (part : List ℕ) → lim ≡ size_limits Large → r ≡ proper_at lim part 0 → r ≡ x
    → proper_at large part 0 ≡ x
unfolding size_limits
under-large part l w e = ap (λ (lim : Limits). proper_at lim part 0) (sym l) ∙ sym w ∙ e

pub returns-then-last-gt-CONTENT : goal.returns-then-last-gt-CONTENT
unfolding Made
returns-then-last-gt-CONTENT c = λ q r. made_long _ _ _ (c.finish-last.ensures q).stands c.if-last-gt-CONTENT.true

pub slice_bounds-expression-end : goal.slice_bounds-expression-end
slice_bounds-expression-end c = made_inside _ _ _ (c.finish-last.ensures c.requires).stands

pub returns-then-found-gt-NESTING : goal.returns-then-found-gt-NESTING
unfolding Made
returns-then-found-gt-NESTING c =
    let walk = under-large _ c.limits_of.ensures.limits (c.expression.ensures c.limits_of.result.nodes c.limits_of.result.levels c.limits_of.result.words) c.in-Some.is in
    λ q r. made_deep _ _ _ (c.finish-last.ensures q).stands _ _ walk c.if-found-gt-NESTING.true

pub returns-in-None : goal.returns-in-None
unfolding Made
returns-in-None c =
    let walk = under-large _ c.limits_of.ensures.limits (c.expression.ensures c.limits_of.result.nodes c.limits_of.result.levels c.limits_of.result.words) c.in-None.is in
    λ q r. made_improper _ _ _ (c.finish-last.ensures q).stands r walk

pub returns-else-found-gt-NESTING : goal.returns-else-found-gt-NESTING
unfolding Made
returns-else-found-gt-NESTING c =
    let walk = under-large _ c.limits_of.ensures.limits (c.expression.ensures c.limits_of.result.nodes c.limits_of.result.levels c.limits_of.result.words) c.in-Some.is in
    let short = c.if-last-gt-CONTENT.false in
    λ q r. made_fine _ _ _ (c.finish-last.ensures q).stands _ _ walk c.if-found-gt-NESTING.false short
