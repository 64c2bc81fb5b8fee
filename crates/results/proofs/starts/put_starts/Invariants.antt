-- `put_starts` meets its contract. The loop's invariant: the starts before `t` are written.
use Prim.Native.Nat.{ℕ, ◌≤◌}
use mathlib.Core.Bool.{Bool}
use mathlib.Core.List.{List, [], ◌∷◌}
use Rattle.grammar.specs.Limits.{input_limit}
use Rattle.grammar.specs.Lists.{joined_of, numbers_below}
use Rattle.grammar.specs.Fields.{field_bytes}
use Rattle.theory.specs.Alternatives.{only_if}
use Rattle.sets.specs.Sets.{member}
use Rattle.writer.specs.Writing.{Put}
use Rattle.results.proofs.starts.put_starts.Given as goal

abbrev start_field : (ℕ → Bool) → ℕ → List ℕ
start_field on k = only_if (on k) (field_bytes 0x11 (k ∷ []))

abbrev pub invariant-loop-t : goal.invariant-loop-t
invariant-loop-t l =
    (l.end ≤ input_limit)
    × Put l.initial.draft l.at (joined_of (start_field (member l.starts.words 0)) (numbers_below l.t)) l.draft l.end
