-- `limits::limits_of` meets its contract: the numbers of each size.
use borrow.Author.Rules.{rules}
use Rattle.grammar.specs.Limits.{small, standard, large}
use Rattle.grammar.specs.LimitSets.{size_limits}
use Rattle.basis.proofs.limits.limits_of.Goals as goal

pub returns-clause-limits : goal.returns-clause-limits
unfolding size_limits small standard large
returns-clause-limits c = search rules
