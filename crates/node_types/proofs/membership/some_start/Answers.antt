use Rattle.std.proofs.Common.{ℕ, Bool, rules, tests, refl}
use mathlib.Core.Path.{◌∙◌, ap}
use Rattle.reader.specs.TableIndex.{start_type}
use Rattle.kinds.specs.RulesAt.{any_below}
use Rattle.kinds.proofs.BelowLaws.{any_below_ran}
use Rattle.sets.specs.Sets.{member}
use Rattle.node_types.proofs.TypeLaws.{starts_pass}
use Rattle.node_types.proofs.membership.some_start.Goals as goal

pub returns : goal.returns
returns c =
    let there : ℕ → Bool = λ i. member c.args.words.now c.args.at (start_type c.args.index.now i) in
    let found = any_below_ran there _ _ _ c.any.result c.any.ensures.ran refl (λ x b q k. search (rules, tests)) in
    λ s g x. found ∙ ap (any_below there) c.start_count.ensures ∙ starts_pass c.args.words.now c.args.at x c.requires.0
