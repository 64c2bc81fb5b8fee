-- `next_count` meets its contract.
use mathlib.Core.Logic.{inl, inr}
use mathlib.Core.Path.{refl}
use Rattle.paths.proofs.numbering.next_count.Goals as goal

pub returns-then-place-count : goal.returns-then-place-count
returns-then-place-count c = inl (c.if-place-count.true, refl)

pub returns : goal.returns
returns c = inr (c.if-place-count.false, refl)
