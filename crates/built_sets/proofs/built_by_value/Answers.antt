-- `built_by_value`: what `built_set` builds has just its numbers.
use mathlib.Core.List.{List}
use mathlib.Core.Path.{ap, ◌∙◌}
use Prim.Native.Nat.{ℕ, ◌%◌}
use native.Mathlib.Omega.{arith}
use Rattle.sets.specs.Sets.{member}
use Rattle.sets.proofs.BuiltSets.{by_value_has_just}
use Rattle.built_sets.specs.Remainders.{remainders}
use Rattle.built_sets.proofs.RemainderLaws.{remainders_below}
use Rattle.built_sets.proofs.built_by_value.Goals as goal

pub returns : goal.returns
returns c =
    let numbers = c.args.numbers.now in
    let k = c.args.k % 128 in
    c.has.ensures
    ∙ ap (λ (words : List ℕ). member words 0 k) c.built_set-set.ensures
    ∙ by_value_has_just 4 (remainders numbers) (remainders_below numbers) k (omega arith)
