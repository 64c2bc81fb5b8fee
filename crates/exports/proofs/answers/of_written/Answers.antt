-- `answers::of_written` meets its contract.
use native.Mathlib.Omega.{arith}
use mathlib.Core.Path.{◌≡◌, sym, ◌∙◌, ap}
use Rattle.grammar.specs.Answers.{written_numbers}
use Rattle.exports.specs.Exported.{told}
use Rattle.exports.proofs.answers.of_written.Goals as goal

pub returns-in-Ok : goal.returns-in-Ok
unfolding written_numbers
returns-in-Ok c =
    let n = c.in-Ok.n in
    let alone : n ≡ told (record { refusal = 0; value = n }) = omega arith in
    alone ∙ sym (ap (λ a. told (written_numbers a)) c.in-Ok.is)

pub returns-in-Err : goal.returns-in-Err
unfolding written_numbers
returns-in-Err c = c.of_refusal.ensures ∙ sym (ap (λ a. told (written_numbers a)) c.in-Err.is)
