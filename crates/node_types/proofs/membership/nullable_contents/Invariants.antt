-- The loop's invariant: whether each content before that of `rule` matches no children.
use Prim.Native.Nat.{ℕ, ◌<◌}
use mathlib.Core.Bool.{false}
use mathlib.Core.List.{[]}
use mathlib.Core.Path.{◌≡◌}
use lib.ListN.{length, get_or}
use Rattle.reader.specs.TableIndex.{part, content_from, content_to}
use Rattle.walks.specs.WalkAt.{run_at}
use Rattle.node_types.proofs.membership.nullable_contents.Given as goal

abbrev pub invariant-loop-rule : goal.invariant-loop-rule
invariant-loop-rule l =
    (length l.marks ≡ length l.initial.marks)
    × (length l.nullable ≡ 128)
    × ((k : ℕ) → k < l.rule → get_or l.nullable k false ≡ run_at (part l.table (content_from l.index k) (content_to l.index k)) [])
