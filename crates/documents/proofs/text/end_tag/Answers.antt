-- `text::end_tag` meets its contract.
use mathlib.Core.Path.{refl, sym, ◌∙◌}
use Rattle.documents.proofs.TagPlaces.{end_whole, end_broken}
use Rattle.documents.proofs.text.end_tag.Goals as goal

pub returns-then-ends_tag : goal.returns-then-ends_tag
returns-then-ends_tag c =
    end_whole c.args.s.now c.args.from c.name_end-to.result c.past_white-last.result c.name_end-to.ensures c.past_white-last.ensures (sym c.ends_tag.ensures ∙ c.if-ends_tag.true)

pub returns : goal.returns
returns c = (refl, end_broken c.args.s.now c.args.from c.name_end-to.result c.past_white-last.result c.name_end-to.ensures c.past_white-last.ensures (sym c.ends_tag.ensures ∙ c.if-ends_tag.false))
