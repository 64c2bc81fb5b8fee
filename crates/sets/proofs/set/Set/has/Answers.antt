-- `has` reads the bit that membership names.
use Rattle.sets.proofs.SetLaws.{has_first}
use Rattle.sets.proofs.set.Set.has.Goals as goal

pub returns : goal.returns
returns g c = has_first c.args.self.words c.args.k
