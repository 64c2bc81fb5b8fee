-- `put_rules` meets its contract. The loop's invariant: the rows of the rules before `i` are written.
use Prim.Native.Nat.{◌*◌}
use mathlib.Core.Path.{◌≡◌}
use lib.ListN.{length}
use Rattle.grammar.specs.Lists.{joined_of}
use Rattle.grammar.specs.Limits.{large}
use Rattle.reader.specs.Held.{SomeHeld}
use Rattle.writer.specs.Writing.{Put}
use Rattle.pages.proofs.SheetLaws.{rows_before}
use Rattle.pages.proofs.sheets.put_rules.Given as goal

abbrev pub invariant-loop-i : goal.invariant-loop-i
invariant-loop-i l =
    (length l.texts ≡ length l.initial.texts)
    × (length l.out ≡ length l.initial.out)
    × ((f : SomeHeld large l.table l.index)
    → (l.end ≡ 73 * length (rows_before f.table l.i)) × Put l.initial.out 0 (joined_of (λ row. row) (rows_before f.table l.i)) l.out l.end)
