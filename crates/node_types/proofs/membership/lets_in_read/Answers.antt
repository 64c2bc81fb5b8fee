use Prim.Native.Nat.{ℕ}
use mathlib.Core.Bool.{Bool}
use mathlib.Core.Path.{◌∙◌, ap}
use Rattle.grammar.specs.Lists.{any_pass}
use Rattle.grammar.specs.Membership.{lets_in}
use Rattle.kinds.proofs.IndexedKinds.{types_below}
use Rattle.node_types.proofs.membership.lets_in_read.Goals as goal

pub some_start-requires : goal.some_start-requires
some_start-requires c = (types_below c.requires.0, c.root_types-at.ensures.inside)

pub returns : goal.returns
unfolding lets_in
returns c =
    λ g x t e.
    c.some_start.ensures _ g x.indexes
    ∙ ap (λ (has : ℕ → Bool). any_pass has g.starts) (c.root_types-at.ensures.types g x t e)
