-- `cogarrune_widen_single_type_by_table` meets its contract.
use mathlib.Core.Path.{refl}
use Rattle.results.specs.PlanKind.{kind_of}
use Rattle.exports.proofs.Widened.{widened_told}
use Rattle.exports.proofs.cogarrune_widen_single_type_by_table.Goals as goal

pub returns : goal.returns
unfolding kind_of
returns c = widened_told c.widen.result c.size_numbered.ensures refl c.of_written.ensures c.widen.ensures
