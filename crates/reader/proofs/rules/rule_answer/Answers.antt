-- `rules::rule_answer` meets its contract: each return is a case of the definition, in its order.
use native.Mathlib.Omega.{arith}
use mathlib.Core.Path.{sym}
use Rattle.reader.proofs.IndexedFaults.{rule_small, rule_large, rule_one_too_many, rule_type_out, rule_label_out, rule_settled}
use Rattle.reader.proofs.rules.rule_answer.Goals as goal

pub returns-then-size-lt3 : goal.returns-then-size-lt3
returns-then-size-lt3 c = λ text g x. sym (rule_small c.args.limits x c.requires.inside text c.if-size-lt3.true)

pub returns-then-size : goal.returns-then-size
returns-then-size c = λ text g x. sym (rule_large c.args.limits x c.requires.inside text c.if-size-lt3.false c.if-size.true)

pub returns-then-limits-rule_count : goal.returns-then-limits-rule_count
returns-then-limits-rule_count c =
    λ text g x. sym (rule_one_too_many c.args.limits x c.requires.inside text c.if-size-lt3.false c.if-size.false (omega (arith, c.rule_count.ensures, c.if-limits-rule_count.true)))

pub returns-then-limits-ty : goal.returns-then-limits-ty
returns-then-limits-ty c =
    λ text g x. sym (rule_type_out c.args.limits x c.requires.inside text c.if-size-lt3.false c.if-size.false (omega (arith, c.rule_count.ensures, c.if-limits-rule_count.false)) (omega (arith, c.from-ty.ensures, c.if-limits-ty.true)))

pub returns-then-label_count-label : goal.returns-then-label_count-label
returns-then-label_count-label c =
    λ text g x. sym (rule_label_out c.args.limits x c.requires.inside text c.if-size-lt3.false c.if-size.false (omega (arith, c.rule_count.ensures, c.if-limits-rule_count.false)) (omega (arith, c.from-label.ensures, c.label_count.ensures, c.if-label_count-label.true)))

pub returns : goal.returns
returns c =
    λ text g x. sym (rule_settled c.args.limits x c.requires.inside text c.if-size-lt3.false c.if-size.false (omega (arith, c.rule_count.ensures, c.if-limits-rule_count.false)) (omega (arith, c.from-ty.ensures, c.if-limits-ty.false)) (omega (arith, c.from-label.ensures, c.label_count.ensures, c.if-label_count-label.false)) _ (sym (c.content_refusal.ensures c.args.limits.nodes c.args.limits.levels c.args.limits.words)))
