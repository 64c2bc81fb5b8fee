-- `put_rules` meets its contract. The loop's invariant: the rules passed are written, and none of their contents is too large.
use Prim.Native.Nat.{ℕ}
use native.Mathlib.Omega.{arith}
use mathlib.Core.Bool.{false}
use mathlib.Core.Path.{◌≡◌, refl, subst}
use borrow.Author.Rules.{rules}
use borrow.Author.Count.{below_more}
use Rattle.grammar.specs.Lists.{joined_of, numbers_below}
use Rattle.grammar.specs.Limits.{standard, large}
use Rattle.grammar.specs.Size.{content_too_large}
use Rattle.writer.specs.Writing.{Put}
use Rattle.writer.specs.Tables.{numbered_field}
use Rattle.sampling.specs.SampleTable.{rule_in}
use Rattle.writer.proofs.TableLaws.{up_start, rules_stop, rules_more}
use Rattle.sampling.proofs.RuleLaws.{rule_marked}
use Rattle.reader.proofs.AnswerLaws.{handed_on}
use Rattle.sampling.proofs.rules.put_rules.Goals as goal

pub loop-k-init : goal.loop-k-init
loop-k-init c =
    let rule = rule_in c.args.shapes.now c.args.parents.now c.args.types.now c.args.labels.now c.args.nodes in (
      c.requires.0,
      refl,
      refl,
      up_start (numbered_field rule) c.args.draft.now c.args.at (omega arith),
      λ j h. absurd (omega arith),
    )

pub type_text-text-requires : goal.type_text-text-requires
type_text-text-requires c = c.requires.3.marks

pub put_rule-requires : goal.put_rule-requires
put_rule-requires c = (c.loop-k.invariant.0, omega arith, omega arith, omega arith, c.requires.3.nodes)

pub returns-in_err-end : goal.returns-in_err-end
returns-in_err-end c =
    rw (handed_on c.from_residual.result c.from_residual.ensures)
    (let rule = rule_in c.args.shapes.now c.args.parents.now c.args.types.now c.args.labels.now c.args.nodes in
    let written = rule_marked c.loop-k.draft c.put_rule.new.draft c.loop-k.end c.put_rule.result (rule c.loop-k.k) _ c.type_text-text.ensures c.put_rule.ensures in
    rules_stop rule c.loop-k.k c.loop-k.invariant.3 c.put_rule.new.draft c.put_rule.result written c.in_err-end.was c.args.count c.loop-k-test.true)

pub loop-k-preserved : goal.loop-k-preserved
unfolding content_too_large standard large
loop-k-preserved c =
    let rule = rule_in c.args.shapes.now c.args.parents.now c.args.types.now c.args.labels.now c.args.nodes in
    let written = rule_marked c.loop-k.draft c.put_rule.new.draft c.loop-k.end c.put_rule.result (rule c.loop-k.k) _ c.type_text-text.ensures c.put_rule.ensures in
    let r = rules_more rule c.loop-k.k c.loop-k.invariant.3 c.put_rule.new.draft c.put_rule.result written c.in_ok-end.was in (
      r.1,
      search rules,
      search rules,
      r.0,
      below_more (λ j. content_too_large large (rule j).content ≡ false) c.loop-k.k c.loop-k.invariant.4 r.2,
    )

pub returns : goal.returns
unfolding content_too_large standard large
returns c =
    let rule = rule_in c.args.shapes.now c.args.parents.now c.args.types.now c.args.labels.now c.args.nodes in
    let z : c.loop-k.k ≡ c.args.count = omega arith in (
      subst (λ (n : ℕ). Put c.args.draft.now c.args.at (joined_of (numbered_field rule) (numbers_below n)) c.loop-k.draft c.loop-k.end) z c.loop-k.invariant.3,
      c.loop-k.invariant.0,
      λ j h. c.loop-k.invariant.4 j (omega arith),
    )
