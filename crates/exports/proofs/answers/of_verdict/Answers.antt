-- `answers::of_verdict` meets its contract.
use mathlib.Core.Path.{sym, ◌∙◌, ap}
use Rattle.std.specs.Prelude.{Ok}
use Rattle.grammar.specs.Answers.{verdict_numbers}
use Rattle.exports.specs.Exported.{told}
use Rattle.exports.proofs.answers.of_verdict.Goals as goal

pub returns-in-Ok-true : goal.returns-in-Ok-true
unfolding verdict_numbers
returns-in-Ok-true c = sym (ap (λ a. told (verdict_numbers a)) (c.in-Ok-true.is ∙ ap Ok c.in-Ok-true.field-0-test))

pub returns-in-Ok-false : goal.returns-in-Ok-false
unfolding verdict_numbers
returns-in-Ok-false c = sym (ap (λ a. told (verdict_numbers a)) (c.in-Ok-false.is ∙ ap Ok c.in-Ok-false.field-0-test))

pub returns-in-Err : goal.returns-in-Err
unfolding verdict_numbers
returns-in-Err c = c.of_refusal.ensures ∙ sym (ap (λ a. told (verdict_numbers a)) c.in-Err.is)
