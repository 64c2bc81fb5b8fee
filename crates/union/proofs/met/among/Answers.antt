-- `among` meets its contract.
use mathlib.Core.Path.{◌∙◌}
use Rattle.union.proofs.OnceLaws.{among_any}
use Rattle.union.proofs.met.among.Goals as goal

pub returns : goal.returns
returns c = c.contains.ensures.value ∙ among_any _ _
