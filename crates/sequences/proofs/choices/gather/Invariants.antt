-- `gather` meets its contract. The loop's invariant: the sequences of the nodes passed stand in the draft, noted.
use mathlib.Core.List.{[]}
use Prim.Native.Nat.{◌≤◌}
use mathlib.Core.Path.{◌≡◌}
use lib.ListN.{length}
use Rattle.grammar.specs.Limits.{operand_limit}
use Rattle.grammar.specs.Lists.{numbers_below}
use Rattle.theory.specs.Alternatives.{gathered}
use Rattle.operands.specs.Drafts.{Row}
use Rattle.operands.specs.Notes.{Noted}
use Rattle.sequences.specs.SampleContents.{operands_end, sequences_among}
use Rattle.sequences.proofs.choices.gather.Given as goal

abbrev pub invariant-loop-i : goal.invariant-loop-i
invariant-loop-i l =
    Row l.scratch 4 l.count (gathered [] (sequences_among l.parents l.types l.nodes l.k (numbers_below l.i))) l.end
    × (l.end ≤ operands_end)
    × (length l.scratch ≡ length l.initial.scratch)
    × Noted l.notes (gathered [] (sequences_among l.parents l.types l.nodes l.k (numbers_below l.i)))
    × (length l.notes ≡ operand_limit)
