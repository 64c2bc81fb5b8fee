-- `classes::none_above_two` meets its contract.
use Rattle.std.proofs.Common.{rules, tests, ◌∙◌, leb}
use Rattle.std.proofs.lemmas.Iterator.{YieldsList-from_slice}
use Rattle.std.proofs.lemmas.Iterator.Search.{all_from_yields_List}
use Rattle.basis.proofs.PassLaws.{all_listed}
use Rattle.basis.proofs.classes.none_above_two.Goals as goal

pub returns : goal.returns
returns c =
    all_from_yields_List (λ c. leb c 2) _ _ _ c.all.ensures.ran (YieldsList-from_slice (c.args.classes.now) cc) (λ x b q k. search (rules, tests))
    ∙ all_listed (λ c. leb c 2) c.args.classes.now
