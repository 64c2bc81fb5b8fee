-- The limits that a size sets, and which limits the code has room for.
use Rattle.std.specs.Prelude.{ℕ, ◌≤◌, true, false, eqb}
use Rattle.grammar.specs.Limits.{Limits, limits_for, small, standard, large}
use Rattle.grammar.specs.declared.Size.{Size}
use Rattle.grammar.specs.declared.Size.TheVariants.{Small, Standard, Large}
use Rattle.grammar.specs.declared.SizeLimits.{SizeLimits}

-- the limits of a size
unfoldable pub size_limits : Size → Limits
unfolding small standard large
size_limits Small = small
size_limits Standard = standard
size_limits Large = large

-- the size that a number stands for in calls from C: 0 the small one, 2 the large one, any other the standard one
unfoldable pub size_numbered : ℕ → Size
size_numbered n =
    elim (eqb n 0) [
      | true ↦ Small
      | false ↦ elim (eqb n 2) [ true ↦ Large | false ↦ Standard ]
    ]

-- four limits, with those that are the same for all sizes
abbrev pub limits_of : SizeLimits → Limits
limits_of l = limits_for l.rules l.nodes l.levels l.words

-- No more rules, nodes and levels than the largest size has, and at least as many words as the smallest.
pub record Within (l : SizeLimits) : Type 0 where
  pub rules : l.rules ≤ 128
  pub nodes : l.nodes ≤ 2048
  pub levels : l.levels ≤ 64
  pub words : 12288 ≤ l.words
