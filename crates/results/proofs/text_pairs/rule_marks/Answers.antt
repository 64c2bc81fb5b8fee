-- `rule_marks` meets its contract: a rule that is not for text marks nothing.
use mathlib.Core.Path.{sym, ◌∙◌}
use Rattle.results.proofs.TextLaws.{marking_rule, plain_rule}
use Rattle.results.proofs.text_pairs.rule_marks.Goals as goal

pub returns-then-rule_text : goal.returns-then-rule_text
returns-then-rule_text c =
    λ u x typed.
    marking_rule x _ typed _ c.requires.1 _ (c.rule_has.ensures u x) (sym (c.rule_text.ensures u x) ∙ c.if-rule_text.true)

pub returns-else-rule_text : goal.returns-else-rule_text
returns-else-rule_text c = λ u x typed. c.if-rule_text.false ∙ plain_rule x _ (sym (c.rule_text.ensures u x) ∙ c.if-rule_text.false)
