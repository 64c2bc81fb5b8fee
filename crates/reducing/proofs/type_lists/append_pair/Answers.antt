-- `append_pair` meets its contract: a pair that is not there yet has room after the others.
use mathlib.Core.Path.{sym, ◌∙◌}
use Rattle.reducing.proofs.ListingLaws.{append_room, append_new, append_off}
use Rattle.reducing.proofs.type_lists.append_pair.Goals as goal

pub bounds-numbers-count : goal.bounds-numbers-count
bounds-numbers-count c = append_room _ _ _ c.requires.1 c.requires.0 (c.requires.2 (sym c.is_pair.ensures ∙ c.if-is_pair.true))

pub returns-then-is_pair : goal.returns-then-is_pair
returns-then-is_pair c =
    let on = sym c.is_pair.ensures ∙ c.if-is_pair.true in
    append_new _ _ _ _ c.requires.1 c.requires.0 (c.requires.2 on) on

pub returns : goal.returns
returns c = append_off _ _ _ _ c.requires.1 (sym c.is_pair.ensures ∙ c.if-is_pair.false)
