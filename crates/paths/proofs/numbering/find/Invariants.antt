-- The place is so far on, and then the place among the rest.
use Prim.Native.Nat.{◌+◌}
use mathlib.Core.Path.{◌≡◌}
use lib.ListN.{take, drop}
use Rattle.grammar.specs.Lists.{place}
use Rattle.paths.specs.SampleNodes.{same_key}
use Rattle.paths.proofs.numbering.find.Given as goal

abbrev pub invariant-loop-t : goal.invariant-loop-t
invariant-loop-t l =
    let listed = take l.count l.firsts in
    place (same_key l.s l.names l.sizes l.keys) l.i listed ≡ l.t + place (same_key l.s l.names l.sizes l.keys) l.i (drop l.t listed)
