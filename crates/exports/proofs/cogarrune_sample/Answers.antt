-- `cogarrune_sample` meets its contract.
use mathlib.Core.Path.{ap, subst}
use Rattle.grammar.specs.LimitSets.{size_limits, size_numbered}
use Rattle.grammar.specs.Documents.{format_numbered}
use Rattle.grammar.specs.declared.Format.{Format}
use Rattle.grammar.specs.Calls.{after}
use Rattle.grammar.specs.Answers.{written_numbers}
use Rattle.grammar.specs.Promises.{Sampling}
use Rattle.theory.proofs.Theorems.SizedPromises.{sampling_sized}
use Rattle.exports.proofs.Apart.{retold}
use Rattle.exports.proofs.Lengths.{sampled_value}
use Rattle.exports.proofs.cogarrune_sample.Goals as goal

pub returns : goal.returns
returns c =
    let told = subst (λ (f : Format). Sampling (size_limits (size_numbered c.args.size)) c.args.classes.now f c.args.document.now c.args.out.now c.args.work.now (after (written_numbers c.sample.result) c.sample.new.out c.sample.new.work)) c.format_numbered.ensures (sampling_sized (ap size_limits c.size_numbered.ensures) c.sample.ensures) in
    retold (λ n. Sampling (size_limits (size_numbered c.args.size)) c.args.classes.now (format_numbered c.args.format) c.args.document.now c.args.out.now c.args.work.now (after n c.sample.new.out c.sample.new.work))
    (written_numbers c.sample.result) _ c.of_written.ensures
    (sampled_value (size_numbered c.args.size) c.args.classes.now (format_numbered c.args.format) c.args.document.now c.args.out.now c.args.work.now _ _ _ told) told
