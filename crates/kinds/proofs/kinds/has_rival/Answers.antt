use Rattle.std.proofs.Common.{rules, tests, refl}
use mathlib.Core.Path.{sym, ◌∙◌, ap}
use Rattle.kinds.specs.RulesAt.{any_below, rivals_at}
use Rattle.kinds.proofs.BelowLaws.{any_below_ran, none_below}
use Rattle.reader.specs.TableIndex.{rule_count}
use Rattle.kinds.proofs.kinds.has_rival.Goals as goal

pub returns-then-has : goal.returns-then-has
returns-then-has c =
    let test = rivals_at c.args.index.now c.args.words.now c.args.i in
    any_below_ran test _ _ _ c.any.result c.any.ensures.ran refl (λ x b q k. search (rules, tests))
    ∙ ap (any_below test) c.rule_count.ensures

pub returns-else-has : goal.returns-else-has
returns-else-has c =
    let test = rivals_at c.args.index.now c.args.words.now c.args.i in
    c.if-has.false ∙ sym (none_below test (rule_count c.args.index.now) (λ i h. search (rules, tests)))
