-- `insert_all` joins the words one by one.
use borrow.Author.Rules.{rules}
use native.Mathlib.Omega.{arith}
use Rattle.sets.proofs.WordByWord.{joined_union}
use Rattle.sets.proofs.set.Set.insert_all.Goals as goal

pub returns : goal.returns
returns g c =
    joined_union g.row.WORDS c.args.self.now.words c.args.other.now.words c.loop-i.self.words (search rules) (search rules) (omega arith)
    (λ i h. c.loop-i.invariant.below i (omega arith))
