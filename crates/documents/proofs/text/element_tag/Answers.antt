-- `text::element_tag` meets its contract.
use mathlib.Core.Path.{refl, sym, ◌∙◌}
use Rattle.documents.proofs.TagPlaces.{start_whole, element_stops, element_other, empty_whole, empty_broken}
use Rattle.documents.proofs.text.element_tag.Goals as goal

pub returns-then-ends_tag : goal.returns-then-ends_tag
returns-then-ends_tag c =
    start_whole c.args.s.now c.args.from c.name_end-to.result c.past_white-last.result c.name_end-to.ensures c.past_white-last.ensures (sym c.ends_tag.ensures ∙ c.if-ends_tag.true)

pub returns-then-s-last : goal.returns-then-s-last
returns-then-s-last c =
    (refl, element_stops c.args.s.now c.args.from c.name_end-to.result c.past_white-last.result c.name_end-to.ensures c.past_white-last.ensures (sym c.ends_tag.ensures ∙ c.if-ends_tag.false) c.if-s-last.true)

pub returns-then-s-last-ne-SLASH : goal.returns-then-s-last-ne-SLASH
returns-then-s-last-ne-SLASH c =
    (refl, element_other c.args.s.now c.args.from c.name_end-to.result c.past_white-last.result c.name_end-to.ensures c.past_white-last.ensures (sym c.ends_tag.ensures ∙ c.if-ends_tag.false) c.if-s-last.false c.if-s-last-ne-SLASH.true)

pub returns-then-ends_tag-2 : goal.returns-then-ends_tag-2
returns-then-ends_tag-2 c =
    empty_whole c.args.s.now c.args.from c.name_end-to.result c.past_white-last.result c.name_end-to.ensures c.past_white-last.ensures c.if-s-last.false c.if-s-last-ne-SLASH.false (sym c.ends_tag-2.ensures ∙ c.if-ends_tag-2.true)

pub returns : goal.returns
returns c =
    (refl, empty_broken c.args.s.now c.args.from c.name_end-to.result c.past_white-last.result c.name_end-to.ensures c.past_white-last.ensures c.if-s-last.false c.if-s-last-ne-SLASH.false (sym c.ends_tag-2.ensures ∙ c.if-ends_tag-2.false))
