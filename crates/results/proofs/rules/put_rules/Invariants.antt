-- `put_rules` meets its contract. The loop's invariant: the rules before `i` are written, and none of their contents is too large.
use Prim.Native.Nat.{ℕ, ◌≤◌, ◌<◌}
use mathlib.Core.Bool.{false}
use mathlib.Core.Path.{◌≡◌}
use Rattle.grammar.specs.Lists.{joined_of, numbers_below}
use Rattle.grammar.specs.Limits.{large, input_limit}
use Rattle.grammar.specs.Size.{content_too_large}
use Rattle.writer.specs.Writing.{Put}
use Rattle.writer.specs.Tables.{numbered_field}
use Rattle.results.specs.Results.{RulesWith, rule_from}
use Rattle.results.proofs.rules.put_rules.Given as goal

abbrev pub invariant-loop-i : goal.invariant-loop-i
invariant-loop-i l =
    (l.end ≤ input_limit)
    × ((q : RulesWith l.old l.add l.plan l.words)
    → Put l.initial.draft l.at (joined_of (numbered_field (rule_from q.rules)) (numbers_below l.i)) l.draft l.end)
    × ((q : RulesWith l.old l.add l.plan l.words)
    → (j : ℕ)
    → j < l.i
    → content_too_large large (rule_from q.rules j).content ≡ false)
