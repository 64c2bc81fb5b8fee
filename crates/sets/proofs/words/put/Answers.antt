-- `put` stores the word with the number's bit.
use Rattle.sets.proofs.SetLaws.{put_code}
use Rattle.sets.proofs.words.put.Goals as goal

pub returns : goal.returns
returns c = put_code c.args.words.now c.args.base c.args.k
