-- `equal` compares all words.
use borrow.Author.Rules.{rules}
use mathlib.Core.Bool.{true≢false}
use mathlib.Core.Path.{sym, ◌∙◌}
use lib.Pointwise.{bytes_decides}
use Rattle.sets.proofs.WordByWord.{compared, in_word}
use Rattle.sets.proofs.set.Set.equal.Goals as goal

pub returns : goal.returns
returns g c =
    let decides = bytes_decides c.args.self.words c.args.other.words in
    compared g.row.WORDS c.args.self.words c.args.other.words c.eq.result (search rules) (search rules)
    (λ i h. in_word (search rules)) (λ i h. in_word (search rules))
    (λ t. decides.0 (sym c.eq.ensures ∙ t)) (λ f e. true≢false (sym (decides.1 e) ∙ sym c.eq.ensures ∙ f))
