-- `classes::zero_for` meets its contract.
use Rattle.std.proofs.Common.{rules, tests, ◌∙◌, eqb, get_or}
use Rattle.std.proofs.lemmas.Iterator.{YieldsList-from_slice}
use Rattle.std.proofs.lemmas.Iterator.Search.{all_from_yields_List}
use Rattle.basis.proofs.PassLaws.{all_listed}
use Rattle.basis.proofs.classes.zero_for.Goals as goal

pub returns : goal.returns
returns c =
    all_from_yields_List (λ b. eqb (get_or c.args.classes.now b 0) 0) _ _ _ c.all.ensures.ran (YieldsList-from_slice (c.args.bytes.now) cc) (λ x b q k. search (rules, tests))
    ∙ all_listed (λ b. eqb (get_or c.args.classes.now b 0) 0) c.args.bytes.now
