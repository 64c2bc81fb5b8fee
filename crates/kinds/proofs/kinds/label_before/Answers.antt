use Rattle.std.proofs.Common.{rules, tests, refl}
use Rattle.kinds.specs.RulesAt.{same_label_at}
use Rattle.kinds.proofs.BelowLaws.{any_below_ran}
use Rattle.kinds.proofs.kinds.label_before.Goals as goal

pub returns : goal.returns
returns c =
    any_below_ran (same_label_at c.args.index.now c.args.i) _ _ _ c.any.result c.any.ensures.ran refl (λ x b q k. search (rules, tests))
