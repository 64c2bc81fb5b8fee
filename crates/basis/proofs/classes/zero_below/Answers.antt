-- `classes::zero_below` meets its contract.
use Rattle.std.proofs.Common.{rules, tests, ◌∙◌, eqb, take}
use Rattle.std.proofs.lemmas.Iterator.{YieldsList-from_slice}
use Rattle.std.proofs.lemmas.Iterator.Search.{all_from_yields_List}
use Rattle.basis.proofs.PassLaws.{all_below}
use Rattle.basis.proofs.classes.zero_below.Goals as goal

pub returns : goal.returns
returns c =
    all_from_yields_List (λ x. eqb x 0) _ _ _ c.all.ensures.ran (YieldsList-from_slice (take c.args.end c.args.classes.now) cc) (λ x b q k. search (rules, tests))
    ∙ all_below (λ x. eqb x 0) c.args.classes.now c.args.end c.requires
