-- `text::tag_at` meets its contract.
use mathlib.Core.Path.{refl, sym, ◌∙◌, ap, subst}
use Rattle.reader.proofs.AnswerLaws.{handed_on}
use Rattle.documents.specs.TextSteps.{TagSays}
use Rattle.documents.proofs.TagPlaces.{some_tag, says_no_more, says_stray, says_stopped, says_end, says_element}
use Rattle.documents.proofs.text.tag_at.Goals as goal

pub returns-then-s-first : goal.returns-then-s-first
returns-then-s-first c = says_no_more c.args.s.now c.args.at c.past_white-first.result c.past_white-first.ensures c.if-s-first.true

pub returns-then-s-first-ne-LESS_THAN : goal.returns-then-s-first-ne-LESS_THAN
returns-then-s-first-ne-LESS_THAN c =
    (refl, says_stray c.args.s.now c.args.at c.past_white-first.result c.past_white-first.ensures c.if-s-first.false c.if-s-first-ne-LESS_THAN.true)

pub returns-then-s-inside : goal.returns-then-s-inside
returns-then-s-inside c =
    (refl, says_stopped c.args.s.now c.args.at c.past_white-first.result c.past_white-first.ensures c.if-s-first.false c.if-s-first-ne-LESS_THAN.false c.if-s-inside.true)

pub returns-in_err-end_tag : goal.returns-in_err-end_tag
returns-in_err-end_tag c =
    subst (TagSays c.args.s.now c.args.at) (ap some_tag c.in_err-end_tag.was ∙ sym (handed_on _ c.from_residual.ensures))
    (says_end c.args.s.now c.args.at c.past_white-first.result c.past_white-first.ensures c.if-s-first.false c.if-s-first-ne-LESS_THAN.false c.if-s-inside.false c.if-s-inside-eq-SLASH.true c.end_tag.result c.end_tag.ensures)

pub returns-then-s-inside-eq-SLASH : goal.returns-then-s-inside-eq-SLASH
returns-then-s-inside-eq-SLASH c =
    subst (TagSays c.args.s.now c.args.at) (ap some_tag c.in_ok-end_tag.was)
    (says_end c.args.s.now c.args.at c.past_white-first.result c.past_white-first.ensures c.if-s-first.false c.if-s-first-ne-LESS_THAN.false c.if-s-inside.false c.if-s-inside-eq-SLASH.true c.end_tag.result c.end_tag.ensures)

pub returns-in_err-element_tag : goal.returns-in_err-element_tag
returns-in_err-element_tag c =
    subst (TagSays c.args.s.now c.args.at) (ap some_tag c.in_err-element_tag.was ∙ sym (handed_on _ c.from_residual-in_err-element_tag.ensures))
    (says_element c.args.s.now c.args.at c.past_white-first.result c.past_white-first.ensures c.if-s-first.false c.if-s-first-ne-LESS_THAN.false c.if-s-inside.false c.if-s-inside-eq-SLASH.false c.element_tag.result c.element_tag.ensures)

pub returns : goal.returns
returns c =
    subst (TagSays c.args.s.now c.args.at) (ap some_tag c.in_ok-element_tag.was)
    (says_element c.args.s.now c.args.at c.past_white-first.result c.past_white-first.ensures c.if-s-first.false c.if-s-first-ne-LESS_THAN.false c.if-s-inside.false c.if-s-inside-eq-SLASH.false c.element_tag.result c.element_tag.ensures)
