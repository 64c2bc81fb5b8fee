-- `names::is_name` meets its contract.
use Rattle.std.proofs.Common.{rules, tests, sym, ◌∙◌}
use Rattle.std.proofs.lemmas.Iterator.{YieldsList-from_slice}
use Rattle.std.proofs.lemmas.Iterator.Search.{all_from_yields_List}
use borrow.Author.Tests.{ne_eqb}
use Rattle.basis.proofs.NameReading.{later, name_empty, name_first, name_not_first}
use Rattle.basis.proofs.PassLaws.{all_listed}
use Rattle.basis.proofs.names.is_name.Goals as goal

pub returns-in-None : goal.returns-in-None
returns-in-None c = name_empty c.args.classes.now c.args.s.now c.in-None.ensures.cases

pub returns-then-class_of-eq2 : goal.returns-then-class_of-eq2
returns-then-class_of-eq2 c =
    let test = later c.args.classes.now in
    let rest = c.in-Some.rest.now in
    all_from_yields_List test _ _ _ c.all.ensures.ran (YieldsList-from_slice rest cc) (λ x b q k. search (rules, tests))
    ∙ all_listed test rest
    ∙ name_first c.args.classes.now c.args.s.now _ rest c.in-Some.ensures.cases.0 (sym c.class_of.ensures ∙ c.if-class_of-eq2.true)

pub returns-else-class_of-eq2 : goal.returns-else-class_of-eq2
returns-else-class_of-eq2 c =
    ne_eqb _ _ c.if-class_of-eq2.false
    ∙ name_not_first c.args.classes.now c.args.s.now _ c.in-Some.rest.now c.in-Some.ensures.cases.0 (λ e. c.if-class_of-eq2.false (c.class_of.ensures ∙ e))
