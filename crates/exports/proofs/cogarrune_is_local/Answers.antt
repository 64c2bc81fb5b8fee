-- `cogarrune_is_local` meets its contract.
use mathlib.Core.List.{[]}
use Rattle.grammar.specs.Kinds.{local}
use mathlib.Core.Path.{ap}
use Rattle.grammar.specs.LimitSets.{size_limits, size_numbered}
use Rattle.grammar.specs.Calls.{after}
use Rattle.grammar.specs.Answers.{verdict_numbers}
use Rattle.grammar.specs.Promises.{KindTest}
use Rattle.theory.proofs.Theorems.SizedPromises.{kind_sized}
use Rattle.exports.proofs.Apart.{retold, verdict_below}
use Rattle.exports.proofs.cogarrune_is_local.Goals as goal

pub returns : goal.returns
returns c =
    retold (λ n. KindTest (size_limits (size_numbered c.args.size)) c.args.classes.now local c.args.table.now c.args.work.now (after n [] c.is_local.new.work)) (verdict_numbers c.is_local.result) _ c.of_verdict.ensures
    (verdict_below c.is_local.result) (kind_sized (ap size_limits c.size_numbered.ensures) c.is_local.ensures)
