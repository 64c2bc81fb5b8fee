-- `with_list` meets its contract: the list of a type is a part.
use Prim.Native.Nat.{ℕ, ◌-◌}
use mathlib.Core.Path.{◌∙◌, ap₂}
use lib.ListN.{take, drop}
use Rattle.grammar.specs.Lists.{is_in}
use Rattle.sets.specs.Sets.{member, in_either}
use Rattle.union.specs.Walks.{list_of_type}
use Rattle.reducing.proofs.leaving.with_list.Goals as goal

pub returns : goal.returns
unfolding list_of_type
returns c = (
  c.with_part.ensures.0
      ∙ ap₂ (λ (a b : ℕ). in_either (λ p. is_in p (take (b - a) (drop a c.args.lists.numbers))) (member c.args.set.words 0))
      c.from.ensures
      c.from-2.ensures,
  c.with_part.ensures.1,
)
