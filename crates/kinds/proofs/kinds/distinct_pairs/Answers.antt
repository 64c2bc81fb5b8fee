use Rattle.std.proofs.Common.{ℕ, Bool, rules, tests, refl}
use mathlib.Core.Bool.{not}
use mathlib.Core.Path.{sym, ◌∙◌, ap}
use Rattle.kinds.specs.RulesAt.{any_below, same_pair_at}
use Rattle.kinds.proofs.BelowLaws.{any_below_ran}
use Rattle.kinds.proofs.IndexedKinds.{pairs_at}
use Rattle.kinds.proofs.kinds.distinct_pairs.Goals as goal

pub returns : goal.returns
returns c =
    let earlier : ℕ → Bool = λ i. any_below (same_pair_at c.args.index.now i) i in
    let found = any_below_ran earlier _ _ _ c.any.result c.any.ensures.ran refl (λ x b q k. search (rules, tests)) in
    λ s g x. ap not (found ∙ ap (any_below earlier) c.rule_count.ensures) ∙ sym (pairs_at x)
