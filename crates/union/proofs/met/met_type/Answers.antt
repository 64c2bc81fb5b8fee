-- `met_type` meets its contract: the pairs of a type that was seen are there already, and others are there afterwards.
use mathlib.Core.Path.{sym, ◌∙◌}
use Rattle.union.proofs.MetLaws.{type_again, type_new}
use Rattle.union.proofs.met.met_type.Goals as goal

pub returns-then-has : goal.returns-then-has
returns-then-has c =
    type_again _ _ _ _ _ _ _ _ _ c.requires.0 c.requires.1 c.requires.2 c.requires.3 c.from-first.ensures c.from-end.ensures
    (sym c.has.ensures ∙ c.if-has.true)

pub returns : goal.returns
returns c =
    type_new _ _ _ _ _ _ _ _ _ c.requires.0 c.requires.1 c.requires.2 c.requires.3 c.from-first.ensures c.from-end.ensures _ _ _
    c.append_part.ensures
    c.with.ensures
