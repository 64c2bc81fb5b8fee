-- `is_empty` compares with a set of zeros.
use Rattle.sets.proofs.SetLaws.{empties}
use Rattle.sets.proofs.set.Set.is_empty.Goals as goal

pub returns : goal.returns
returns g c = empties c.args.self.words c.empty.result.words g.row.WORDS c.equal.result c.empty.ensures c.equal.ensures
