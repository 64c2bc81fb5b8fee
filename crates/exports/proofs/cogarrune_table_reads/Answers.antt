-- `cogarrune_table_reads` meets its contract.
use mathlib.Core.List.{[]}
use mathlib.Core.Path.{ap}
use Rattle.grammar.specs.LimitSets.{size_limits, size_numbered}
use Rattle.grammar.specs.Calls.{after}
use Rattle.grammar.specs.Answers.{reading_numbers}
use Rattle.grammar.specs.Promises.{TableReading}
use Rattle.theory.proofs.Theorems.SizedPromises.{table_sized}
use Rattle.exports.proofs.Apart.{retold, reading_below}
use Rattle.exports.proofs.cogarrune_table_reads.Goals as goal

pub returns : goal.returns
returns c =
    retold (λ n. TableReading (size_limits (size_numbered c.args.size)) c.args.classes.now c.args.table.now c.args.work.now (after n [] c.table_reads.new.work)) (reading_numbers c.table_reads.result) _ c.of_reading.ensures
    (reading_below c.table_reads.result) (table_sized (ap size_limits c.size_numbered.ensures) c.table_reads.ensures)
