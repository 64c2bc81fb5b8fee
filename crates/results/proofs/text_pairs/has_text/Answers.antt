-- `has_text` meets its contract.
use Rattle.std.proofs.Common.{rules, tests, ◌&&◌, refl}
use Rattle.sets.specs.Sets.{member}
use Rattle.results.proofs.TextLaws.{any_numbered}
use Rattle.results.proofs.text_pairs.has_text.Goals as goal

pub returns : goal.returns
returns c =
    any_numbered (λ p. member c.args.set.words 0 p && member c.args.text.words 0 p) _ _ _ c.any.result c.any.ensures.ran refl
    (λ x b q k. search (rules, tests))
