-- `types_of` meets its contract. The loop's invariant is `Typing`.
use mathlib.Core.Path.{◌≡◌}
use lib.ListN.{length}
use Rattle.paths.specs.SampleNodes.{Whole}
use Rattle.paths.proofs.TypeLaws.{Typing}
use Rattle.paths.proofs.paths.types_of.Given as goal

abbrev pub invariant-loop-i : goal.invariant-loop-i
invariant-loop-i l =
    (length l.aboves ≡ 2048) × ((q : Whole l.s l.names l.sizes l.parents l.nodes) → Typing q.list q.tree l.of l.aboves l.firsts l.count l.i)
