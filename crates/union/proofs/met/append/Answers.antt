-- `append` meets its contract: a number that is not there yet has room after the others.
use mathlib.Core.Path.{sym, ◌∙◌}
use Rattle.union.proofs.OnceLaws.{new_room, adds_old, adds_new}
use Rattle.union.proofs.met.append.Goals as goal

pub returns-then-among : goal.returns-then-among
returns-then-among c = adds_old 256 _ _ c.requires _ (sym c.among.ensures ∙ c.if-among.true)

pub bounds-list-count : goal.bounds-list-count
bounds-list-count c = new_room 256 _ _ c.requires _ c.ranges.number.fits (sym c.among.ensures ∙ c.if-among.false)

pub returns : goal.returns
returns c =
    let new = sym c.among.ensures ∙ c.if-among.false in
    adds_new 256 _ _ c.requires _ new (new_room 256 _ _ c.requires _ c.ranges.number.fits new)
