-- `classes::some_two` meets its contract.
use Rattle.std.proofs.Common.{rules, tests, ◌∙◌, eqb}
use Rattle.std.proofs.lemmas.Iterator.{YieldsList-from_slice}
use Rattle.std.proofs.lemmas.Iterator.Search.{any_from_yields_List}
use Rattle.basis.proofs.PassLaws.{any_listed}
use Rattle.basis.proofs.classes.some_two.Goals as goal

pub returns : goal.returns
returns c =
    any_from_yields_List (λ c. eqb c 2) _ _ _ c.any.ensures.ran (YieldsList-from_slice (c.args.classes.now) cc) (λ x b q k. search (rules, tests))
    ∙ any_listed (λ c. eqb c 2) c.args.classes.now
