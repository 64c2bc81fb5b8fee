use Rattle.std.proofs.Common.{rules}
use Rattle.theory.specs.MarkedWalk.{mark_number}
use Rattle.walks.proofs.matching.mark.Goals as goal

pub returns : goal.returns
unfolding mark_number
returns c = search rules
