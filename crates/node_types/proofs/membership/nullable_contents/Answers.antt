use Prim.Native.Nat.{ℕ}
use native.Mathlib.Omega.{arith}
use mathlib.Core.List.{List, []}
use mathlib.Core.Path.{◌∙◌, ap}
use lib.ListN.{length-set}
use Rattle.walks.specs.TypeSets.{tests_at}
use Rattle.walks.specs.WalkAt.{run_at}
use Rattle.node_types.proofs.TypeLaws as laws
use Rattle.node_types.proofs.membership.nullable_contents.Goals as goal

pub matches-requires : goal.matches-requires
matches-requires c =
    (laws.content_whole c.requires.0.held c.loop-rule.rule (omega (arith, c.loop-rule-test.true, c.rule_count-rules.ensures)) c.content_from-from.ensures c.content_to-to.ensures, laws.content_room c.requires.0.held c.loop-rule.rule (omega (arith, c.loop-rule-test.true, c.rule_count-rules.ensures)) c.content_from-from.ensures c.content_to-to.ensures (omega (arith, c.requires.1)) (omega (arith, c.requires.2)), omega arith)

pub loop-rule-preserved : goal.loop-rule-preserved
unfolding tests_at
loop-rule-preserved c =
    let rule = c.loop-rule.rule in
    let content = laws.content_there c.requires.0.held c.loop-rule.rule (omega (arith, c.loop-rule-test.true, c.rule_count-rules.ensures)) c.content_from-from.ensures c.content_to-to.ensures in (
      c.matches.auto.marks ∙ c.loop-rule.invariant.0,
      length-set c.loop-rule.nullable rule c.matches.result ∙ c.loop-rule.invariant.1,
      laws.flags_more c.loop-rule.nullable rule c.matches.result _ (omega (arith, c.loop-rule.invariant.1)) c.loop-rule.invariant.2
          (c.matches.ensures ∙ ap (λ (l : List ℕ). run_at l []) content),
    )
