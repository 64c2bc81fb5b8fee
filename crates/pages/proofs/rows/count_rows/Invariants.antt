-- `count_rows` meets its contract. The loop's invariant: the rows of the rules before `i` are counted.
use Prim.Native.Nat.{◌*◌, ◌≤◌}
use mathlib.Core.Path.{◌≡◌}
use lib.ListN.{length}
use Rattle.grammar.specs.Limits.{large}
use Rattle.reader.specs.Held.{SomeHeld}
use Rattle.pages.proofs.SheetLaws.{rows_before}
use Rattle.pages.proofs.rows.count_rows.Given as goal

abbrev pub invariant-loop-i : goal.invariant-loop-i
invariant-loop-i l =
    (length l.texts ≡ length l.initial.texts)
    × (l.rows ≤ 4096 * l.i)
    × ((f : SomeHeld large l.table l.index) → l.rows ≡ length (rows_before f.table l.i))
