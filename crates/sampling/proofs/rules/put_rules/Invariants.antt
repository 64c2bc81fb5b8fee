-- `put_rules` meets its contract. The loop's invariant: the rules passed are written, and none of their contents is too large.
use Prim.Native.Nat.{ℕ, ◌≤◌, ◌<◌}
use mathlib.Core.Bool.{false}
use mathlib.Core.Path.{◌≡◌}
use lib.ListN.{length}
use Rattle.grammar.specs.Lists.{joined_of, numbers_below}
use Rattle.grammar.specs.Limits.{large, input_limit}
use Rattle.grammar.specs.Size.{content_too_large}
use Rattle.writer.specs.Writing.{Put}
use Rattle.writer.specs.Tables.{numbered_field}
use Rattle.sampling.specs.SampleTable.{rule_in}
use Rattle.sampling.proofs.rules.put_rules.Given as goal

abbrev pub invariant-loop-k : goal.invariant-loop-k
invariant-loop-k l =
    (l.end ≤ input_limit)
    × (length l.draft ≡ length l.initial.draft)
    × (length l.scratch ≡ length l.initial.scratch)
    × Put l.initial.draft l.at (joined_of (numbered_field (rule_in l.shapes l.parents l.types l.labels l.nodes)) (numbers_below l.k)) l.draft l.end
    × ((j : ℕ) → j < l.k → content_too_large large (rule_in l.shapes l.parents l.types l.labels l.nodes j).content ≡ false)
