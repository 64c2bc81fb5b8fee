-- `starts::start_answer` meets its contract: each return is a case of the definition, in its order.
use Prim.Native.Nat.{ℕ}
use native.Mathlib.Omega.{arith}
use mathlib.Core.Path.{sym, ◌∙◌, ap}
use Rattle.grammar.specs.Lists.{is_in}
use Rattle.reader.proofs.IndexedFaults.{start_not_one, start_after_rule, start_again, start_one_too_many, start_out, start_reads}
use Rattle.reader.proofs.starts.start_answer.Goals as goal

pub returns-then-to-from-ne1 : goal.returns-then-to-from-ne1
returns-then-to-from-ne1 c = λ g x. sym (start_not_one c.args.limits x c.requires.inside c.if-to-from-ne1.true)

pub returns-then-rule_count-ne0 : goal.returns-then-rule_count-ne0
returns-then-rule_count-ne0 c =
    λ g x. sym (start_after_rule c.args.limits x c.requires.inside c.if-to-from-ne1.false (λ e. c.if-rule_count-ne0.true (c.rule_count.ensures ∙ e)))

pub returns-then-repeated_start : goal.returns-then-repeated_start
returns-then-repeated_start c =
    λ g x. sym (start_again c.args.limits x c.requires.inside c.if-to-from-ne1.false (sym c.rule_count.ensures ∙ c.if-rule_count-ne0.false) (ap (λ (k : ℕ). is_in k g.starts) (sym c.from-ty.ensures) ∙ sym (c.repeated_start.ensures g x) ∙ c.if-repeated_start.true))

pub returns-then-limits-start_count : goal.returns-then-limits-start_count
returns-then-limits-start_count c =
    λ g x. sym (start_one_too_many c.args.limits x c.requires.inside c.if-to-from-ne1.false (sym c.rule_count.ensures ∙ c.if-rule_count-ne0.false) (ap (λ (k : ℕ). is_in k g.starts) (sym c.from-ty.ensures) ∙ sym (c.repeated_start.ensures g x) ∙ c.if-repeated_start.false) (omega (arith, c.start_count.ensures, c.if-limits-start_count.true)))

pub returns-then-limits-ty : goal.returns-then-limits-ty
returns-then-limits-ty c =
    λ g x. sym (start_out c.args.limits x c.requires.inside c.if-to-from-ne1.false (sym c.rule_count.ensures ∙ c.if-rule_count-ne0.false) (ap (λ (k : ℕ). is_in k g.starts) (sym c.from-ty.ensures) ∙ sym (c.repeated_start.ensures g x) ∙ c.if-repeated_start.false) (omega (arith, c.start_count.ensures, c.if-limits-start_count.false)) (omega (arith, c.from-ty.ensures, c.if-limits-ty.true)))

pub returns : goal.returns
returns c =
    λ g x. sym (start_reads c.args.limits x c.requires.inside c.if-to-from-ne1.false (sym c.rule_count.ensures ∙ c.if-rule_count-ne0.false) (ap (λ (k : ℕ). is_in k g.starts) (sym c.from-ty.ensures) ∙ sym (c.repeated_start.ensures g x) ∙ c.if-repeated_start.false) (omega (arith, c.start_count.ensures, c.if-limits-start_count.false)) (omega (arith, c.from-ty.ensures, c.if-limits-ty.false)))
