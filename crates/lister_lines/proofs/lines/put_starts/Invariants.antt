-- `put_starts` meets its contract. The loop's invariant: the lines of the starts before `i` are written.
use Prim.Native.Nat.{◌+◌, ◌*◌, ◌≤◌}
use mathlib.Core.Path.{◌≡◌}
use lib.ListN.{length, take}
use Rattle.grammar.specs.Lists.{joined_of}
use Rattle.grammar.specs.Limits.{large}
use Rattle.grammar.specs.Listing.{start_line}
use Rattle.reader.specs.Held.{SomeHeld}
use Rattle.writer.specs.Writing.{Put}
use Rattle.lister_lines.proofs.lines.put_starts.Given as goal

abbrev pub invariant-loop-i : goal.invariant-loop-i
invariant-loop-i l =
    (length l.text ≡ length l.initial.text)
    × (l.end ≤ l.at + 11 * l.i)
    × ((f : SomeHeld large l.table l.index) → Put l.initial.text l.at (joined_of start_line (take l.i f.table.starts)) l.text l.end)
