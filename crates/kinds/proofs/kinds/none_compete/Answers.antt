use Rattle.std.proofs.Common.{ℕ, Bool, rules, tests, refl}
use mathlib.Core.Bool.{not}
use mathlib.Core.Path.{sym, ◌∙◌, ap}
use Rattle.reader.specs.TableIndex.{rule_count}
use Rattle.kinds.specs.RulesAt.{any_below, rivals_at}
use Rattle.kinds.proofs.BelowLaws.{any_below_ran}
use Rattle.kinds.proofs.IndexedKinds.{none_compete_at}
use Rattle.kinds.proofs.kinds.none_compete.Goals as goal

pub returns : goal.returns
returns c =
    let index = c.args.index.now in
    let rivalled : ℕ → Bool = λ i. any_below (rivals_at index c.args.words.now i) (rule_count index) in
    let found = any_below_ran rivalled _ _ _ c.any.result c.any.ensures.ran refl (λ x b q k. search (rules, tests)) in
    λ s g types x holds.
    ap not (found ∙ ap (any_below rivalled) c.rule_count.ensures) ∙ sym (none_compete_at x c.args.words.now types holds)
