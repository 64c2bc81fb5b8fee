-- `store` copies the words to the base.
use borrow.Author.Rules.{rules}
use Rattle.sets.proofs.WordByWord.{put_stored}
use Rattle.sets.proofs.set.Set.store.Goals as goal

pub returns : goal.returns
returns g c = put_stored c.args.base g.row.WORDS c.args.words.now c.args.self.words _ (search rules) (search rules)
