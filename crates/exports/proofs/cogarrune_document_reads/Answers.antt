-- `cogarrune_document_reads` meets its contract.
use mathlib.Core.List.{[]}
use mathlib.Core.Path.{ap, subst}
use Rattle.grammar.specs.LimitSets.{size_limits, size_numbered}
use Rattle.grammar.specs.Documents.{format_numbered}
use Rattle.grammar.specs.declared.Format.{Format}
use Rattle.grammar.specs.Calls.{after}
use Rattle.grammar.specs.Answers.{reading_numbers}
use Rattle.grammar.specs.Promises.{DocumentReading}
use Rattle.theory.proofs.Theorems.SizedPromises.{document_sized}
use Rattle.exports.proofs.Apart.{retold, reading_below}
use Rattle.exports.proofs.cogarrune_document_reads.Goals as goal

pub returns : goal.returns
returns c =
    retold (λ n. DocumentReading (size_limits (size_numbered c.args.size)) c.args.classes.now (format_numbered c.args.format) c.args.document.now c.args.work.now (after n [] c.document_reads.new.work)) (reading_numbers c.document_reads.result) _ c.of_reading.ensures
    (reading_below c.document_reads.result) (subst (λ (f : Format). DocumentReading (size_limits (size_numbered c.args.size)) c.args.classes.now f c.args.document.now c.args.work.now (after (reading_numbers c.document_reads.result) [] c.document_reads.new.work)) c.format_numbered.ensures
    (document_sized (ap size_limits c.size_numbered.ensures) c.document_reads.ensures))
