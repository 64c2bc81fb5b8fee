-- `renumbered` meets its contract. The loop's invariant: the numbers before `n` are the images.
use mathlib.Core.List.{map, ◌++◌}
use mathlib.Core.Path.{◌≡◌}
use lib.ListN.{get_or, take, drop}
use Rattle.forms.proofs.set_numbers.renumbered.Given as goal

abbrev pub invariant-loop-n : goal.invariant-loop-n
invariant-loop-n l = l.n-items ≡ map (λ p. get_or l.numbers.of p 0) (take l.n-index l.fn.lists.numbers) ++ drop l.n-index l.fn.lists.numbers
