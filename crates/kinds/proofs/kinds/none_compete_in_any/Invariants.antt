-- The loop's invariant: the content of every rule before `rule` passes.
use Prim.Native.Nat.{ℕ, ◌<◌}
use mathlib.Core.Bool.{true}
use mathlib.Core.Option.{some}
use mathlib.Core.Path.{◌≡◌}
use lib.ListN.{length, get_elem?}
use Rattle.grammar.specs.Content.{types_in}
use Rattle.grammar.specs.KindTests.{none_compete}
use Rattle.grammar.specs.Table.{Rule, Table}
use Rattle.reader.specs.TableIndex.{Indexes}
use Rattle.kinds.proofs.kinds.none_compete_in_any.Given as goal

abbrev pub invariant-loop-rule : goal.invariant-loop-rule
invariant-loop-rule l =
    (length l.words ≡ length l.initial.words)
    × ((k : ℕ) → k < l.rule → (g : Table) (r : Rule) → Indexes l.table l.index g → get_elem? g.rules k ≡ some r
    → none_compete g (types_in r.content) ≡ true)
