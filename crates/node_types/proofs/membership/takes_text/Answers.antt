use mathlib.Core.Bool.{not}
use mathlib.Core.Path.{◌∙◌, ap}
use Rattle.node_types.proofs.TypeLaws as laws
use Rattle.node_types.proofs.membership.takes_text.Goals as goal

pub returns-then-not-text : goal.returns-then-not-text
returns-then-not-text c = λ g q x listed h e. ap not c.if-not-text.true ∙ laws.takes_plain q h (e ∙ c.if-not-text.true)

pub returns-else-not-text : goal.returns-else-not-text
returns-else-not-text c = λ g q x listed h e. c.for_text.ensures g q x listed ∙ laws.takes_marked q h (e ∙ c.if-not-text.false)
