-- `put_labels` meets its contract. The loop's invariant: the labels passed are written.
use Prim.Native.Nat.{◌≤◌}
use mathlib.Core.Path.{◌≡◌}
use lib.ListN.{length}
use Rattle.grammar.specs.Limits.{input_limit}
use Rattle.grammar.specs.Lists.{joined_of, numbers_below}
use Rattle.writer.specs.Writing.{Put}
use Rattle.sampling.specs.SampleTable.{label_field}
use Rattle.sampling.proofs.fields.put_labels.Given as goal

abbrev pub invariant-loop-first : goal.invariant-loop-first
invariant-loop-first l =
    (l.end ≤ input_limit)
    × (length l.draft ≡ length l.initial.draft)
    × Put l.initial.draft 0 (joined_of (label_field l.s l.names l.sizes l.firsts) (numbers_below l.first-index)) l.draft l.end
