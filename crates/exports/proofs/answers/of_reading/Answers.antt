-- `answers::of_reading` meets its contract.
use mathlib.Core.Path.{sym, ◌∙◌, ap}
use Rattle.grammar.specs.Answers.{reading_numbers}
use Rattle.exports.specs.Exported.{told}
use Rattle.exports.proofs.answers.of_reading.Goals as goal

pub returns-in-Ok : goal.returns-in-Ok
unfolding reading_numbers
returns-in-Ok c = sym (ap (λ a. told (reading_numbers a)) c.in-Ok.is)

pub returns-in-Err : goal.returns-in-Err
unfolding reading_numbers
returns-in-Err c = c.of_refusal.ensures ∙ sym (ap (λ a. told (reading_numbers a)) c.in-Err.is)
