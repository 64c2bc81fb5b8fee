-- `put_rows` meets its contract. The loop's invariant: the rows before `i` are written.
use Prim.Native.Nat.{◌+◌, ◌*◌}
use mathlib.Core.Path.{◌≡◌}
use lib.ListN.{length}
use Rattle.grammar.specs.Lists.{joined_of, numbers_below}
use Rattle.grammar.specs.Pages.{page_layout, RuleTexts, row_of}
use Rattle.writer.specs.Writing.{Put}
use Rattle.pages.specs.Printing.{TextsStand}
use Rattle.pages.proofs.lines.put_rows.Given as goal

abbrev pub invariant-loop-i : goal.invariant-loop-i
invariant-loop-i l =
    (length l.out ≡ length l.initial.out)
    × (l.end ≡ l.at + 73 * l.i)
    × ((t : RuleTexts) → TextsStand l.texts l.places t → Put l.initial.out l.at (joined_of (row_of page_layout t) (numbers_below l.i)) l.out l.end)
