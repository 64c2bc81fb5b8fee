-- `answers::of_refusal` meets its contract.
use native.Mathlib.Omega.{arith}
use Rattle.grammar.specs.Answers.{refused_by}
use Rattle.exports.proofs.answers.of_refusal.Goals as goal

pub returns : goal.returns
unfolding refused_by
returns c = omega (arith, c.number_of.ensures)
