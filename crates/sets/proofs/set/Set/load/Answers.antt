-- `load` copies the words at the base.
use borrow.Author.Rules.{rules}
use Rattle.sets.specs.Sets.{words_at}
use Rattle.sets.proofs.set.Set.load.Goals as goal

pub returns : goal.returns
unfolding words_at
returns g c = search rules
