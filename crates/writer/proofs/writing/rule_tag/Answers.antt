-- `rule_tag` meets its contract: one tag for each mark.
use mathlib.Core.Path.{sym, ap}
use Rattle.grammar.specs.ReadTable.{rule_tag}
use Rattle.writer.proofs.writing.rule_tag.Goals as goal

pub returns-then-text : goal.returns-then-text
returns-then-text c = ap rule_tag (sym c.if-text.true)

pub returns : goal.returns
returns c = ap rule_tag (sym c.if-text.false)
