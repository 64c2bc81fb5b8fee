-- `result_lists` meets its contract.
use Rattle.forms.specs.SetForms.{set_number}
use Rattle.forms.proofs.ResultLaws.{numbers_left, result_lists}
use Rattle.forms.proofs.set_numbers.result_lists.Goals as goal

pub returns : goal.returns
returns c =
    let of = c.pair_numbers-of.result.of in
    λ old add u sets pairs x lists left labels numbers.
    result_lists of c.pair_numbers-of.ensures.1 u c.args.lists _ (set_number u sets pairs) lists
    (numbers_left u sets pairs c.args.numbers.of of c.args.v.rules labels x.rules numbers
    (c.pair_numbers-of.ensures.0 old add u x left))
    c.renumbered-old.ensures.0
    c.renumbered-old.ensures.1
    c.renumbered-addition.ensures.0
    c.renumbered-addition.ensures.1
