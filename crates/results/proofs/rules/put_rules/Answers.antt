-- `put_rules` meets its contract. The loop's invariant: the rules before `i` are written, and none of their contents is too large.
use Prim.Native.Nat.{ℕ}
use native.Mathlib.Omega.{arith}
use mathlib.Core.Bool.{false}
use mathlib.Core.Path.{◌≡◌, subst}
use borrow.Author.Count.{below_more}
use Rattle.grammar.specs.Lists.{joined_of, numbers_below}
use Rattle.grammar.specs.Limits.{large}
use Rattle.grammar.specs.Size.{content_too_large}
use Rattle.writer.specs.Writing.{Put}
use Rattle.writer.specs.Tables.{numbered_field}
use Rattle.writer.proofs.TableLaws.{up_start, rules_stop, rules_more}
use Rattle.results.specs.Results.{rule_from}
use Rattle.reader.proofs.AnswerLaws.{handed_on}
use Rattle.results.proofs.rules.put_rules.Goals as goal

pub loop-i-init : goal.loop-i-init
loop-i-init c = (
  c.requires.0,
  λ q. up_start (numbered_field (rule_from q.rules)) c.args.draft.now c.args.at (omega arith),
  λ q j h. absurd (omega arith),
)

pub returns-in_err-end : goal.returns-in_err-end
returns-in_err-end c =
    rw (handed_on c.from_residual.result c.from_residual.ensures)
    (let below = c.loop-i-test.true in
    λ q.
    rules_stop (rule_from q.rules) c.loop-i.i (c.loop-i.invariant.1 q) c.put_rule.new.draft c.put_rule.result (c.put_rule.ensures q) c.in_err-end.was
    c.args.plan.count
    below)

pub loop-i-preserved : goal.loop-i-preserved
loop-i-preserved c =
    let next = c.in_ok-end.was in
    let p = c.requires.3 in (
      (rules_more (rule_from p.rules) c.loop-i.i (c.loop-i.invariant.1 p) c.put_rule.new.draft c.put_rule.result (c.put_rule.ensures p) next).1,
      λ q. (rules_more (rule_from q.rules) c.loop-i.i (c.loop-i.invariant.1 q) c.put_rule.new.draft c.put_rule.result (c.put_rule.ensures q) next).0,
      λ q.
          below_more (λ j. content_too_large large (rule_from q.rules j).content ≡ false) c.loop-i.i (c.loop-i.invariant.2 q)
          (rules_more (rule_from q.rules) c.loop-i.i (c.loop-i.invariant.1 q) c.put_rule.new.draft c.put_rule.result (c.put_rule.ensures q) next).2,
    )

pub returns : goal.returns
returns c =
    λ q.
    let e : c.loop-i.i ≡ c.args.plan.count = omega arith in (
      subst (λ (n : ℕ). Put c.args.draft.now c.args.at (joined_of (numbered_field (rule_from q.rules)) (numbers_below n)) c.loop-i.draft c.loop-i.end) e (c.loop-i.invariant.1 q),
      c.loop-i.invariant.0,
      λ j h. c.loop-i.invariant.2 q j (omega arith),
    )
