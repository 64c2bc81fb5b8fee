use native.Mathlib.Omega.{arith}
use mathlib.Core.Path.{sym, ◌∙◌}
use Rattle.grammar.specs.Content.{types_in}
use Rattle.grammar.specs.KindTests.{none_compete}
use Rattle.grammar.specs.Table.{Rule}
use Rattle.reader.proofs.TableIndexLaws.{rule_at}
use Rattle.kinds.proofs.IndexedKinds.{all_rules, one_rule}
use Rattle.kinds.proofs.kinds.none_compete_in_any.Goals as goal

pub returns-then-not-none_compete_in : goal.returns-then-not-none_compete_in
returns-then-not-none_compete_in c =
    λ g x.
    let r = rule_at x c.loop-rule.rule (omega arith) in
    sym (one_rule x (λ (rule : Rule). none_compete g (types_in rule.content)) c.loop-rule.rule r.0 r.1
    (sym (c.none_compete_in.ensures g r.0 x r.1) ∙ c.if-not-none_compete_in.true))

pub returns : goal.returns
returns c =
    λ g x.
    sym (all_rules x (λ (rule : Rule). none_compete g (types_in rule.content))
    (λ i r below at_i. c.loop-rule.invariant.1 i (omega arith) g r x at_i))
