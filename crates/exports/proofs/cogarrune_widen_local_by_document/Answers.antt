-- `cogarrune_widen_local_by_document` meets its contract.
use mathlib.Core.Path.{ap}
use Rattle.grammar.specs.declared.Source.TheVariants.{Document as a_document}
use Rattle.results.specs.PlanKind.{kind_of}
use Rattle.exports.proofs.Widened.{widened_told}
use Rattle.exports.proofs.cogarrune_widen_local_by_document.Goals as goal

pub returns : goal.returns
unfolding kind_of
returns c = widened_told c.widen.result c.size_numbered.ensures (ap a_document c.format_numbered.ensures) c.of_written.ensures c.widen.ensures
