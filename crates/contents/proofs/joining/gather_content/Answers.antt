-- `gather_content` meets its contract.
use Rattle.contents.proofs.RuleLaws.{gathers_registered}
use Rattle.contents.proofs.joining.gather_content.Goals as goal

pub returns : goal.returns
returns c = λ q s. gathers_registered (c.gather.ensures q s)
