-- `put_labels` meets its contract. The loop's invariant: the fields of the used labels before `l` are written.
use Prim.Native.Nat.{◌≤◌}
use Rattle.grammar.specs.Limits.{input_limit}
use Rattle.grammar.specs.Lists.{joined_of, numbers_below}
use Rattle.sets.specs.Sets.{member}
use Rattle.writer.specs.Writing.{Put}
use Rattle.results.specs.Results.{LabelsIn}
use Rattle.results.proofs.ResultLaws.{name_field}
use Rattle.results.proofs.labels_used.put_labels.Given as goal

abbrev pub invariant-loop-l : goal.invariant-loop-l
invariant-loop-l l =
    (l.end ≤ input_limit)
    × ((q : LabelsIn l.old l.add l.olds l.news) → Put l.initial.draft 0 (joined_of (name_field q (member l.used.words 0)) (numbers_below l.l)) l.draft l.end)
