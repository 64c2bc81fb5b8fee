-- `put_rules` meets its contract. The loop's invariant: the lines of the rules before `i` are written.
use Prim.Native.Nat.{◌+◌, ◌*◌, ◌≤◌}
use mathlib.Core.Path.{◌≡◌}
use lib.ListN.{length, take}
use Rattle.grammar.specs.Lists.{joined_of}
use Rattle.grammar.specs.Limits.{large}
use Rattle.grammar.specs.Listing.{rule_line}
use Rattle.reader.specs.Held.{SomeHeld}
use Rattle.writer.specs.Writing.{Put}
use Rattle.lister_lines.proofs.lines.put_rules.Given as goal

abbrev pub invariant-loop-i : goal.invariant-loop-i
invariant-loop-i l =
    (length l.text ≡ length l.initial.text)
    × (l.end ≤ l.at + 3142 * l.i)
    × ((f : SomeHeld large l.table l.index) → Put l.initial.text l.at (joined_of (rule_line f.table) (take l.i f.table.rules)) l.text l.end)
