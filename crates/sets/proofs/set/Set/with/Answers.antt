-- `with` stores the word with the number's bit.
use Rattle.sets.proofs.SetLaws.{put_first}
use Rattle.sets.proofs.set.Set.with.Goals as goal

pub returns : goal.returns
returns g c = put_first c.args.self.words c.args.k
