-- `cogarrune_lets_in` meets its contract.
use mathlib.Core.List.{[]}
use mathlib.Core.Path.{ap, subst}
use Rattle.grammar.specs.LimitSets.{size_limits, size_numbered}
use Rattle.grammar.specs.Documents.{format_numbered}
use Rattle.grammar.specs.declared.Format.{Format}
use Rattle.grammar.specs.Calls.{after}
use Rattle.grammar.specs.Answers.{verdict_numbers}
use Rattle.grammar.specs.Promises.{Membership}
use Rattle.theory.proofs.Theorems.SizedPromises.{membership_sized}
use Rattle.exports.proofs.Apart.{retold, verdict_below}
use Rattle.exports.proofs.cogarrune_lets_in.Goals as goal

pub returns : goal.returns
returns c =
    retold (λ n. Membership (size_limits (size_numbered c.args.size)) c.args.classes.now c.args.table.now (format_numbered c.args.format) c.args.document.now c.args.work.now (after n [] c.lets_in.new.work)) (verdict_numbers c.lets_in.result) _ c.of_verdict.ensures
    (verdict_below c.lets_in.result) (subst (λ (f : Format). Membership (size_limits (size_numbered c.args.size)) c.args.classes.now c.args.table.now f c.args.document.now c.args.work.now (after (verdict_numbers c.lets_in.result) [] c.lets_in.new.work)) c.format_numbered.ensures
    (membership_sized (ap size_limits c.size_numbered.ensures) c.lets_in.ensures))
