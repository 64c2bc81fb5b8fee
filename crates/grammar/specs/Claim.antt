-- The claim of demand 3, of the bytes that a widening writes.
use Rattle.std.specs.Prelude.{ℕ, List}
use Rattle.grammar.specs.Limits.{Limits}
use Rattle.grammar.specs.Names.{Classes}
use Rattle.grammar.specs.Table.{Table}
use Rattle.grammar.specs.Kinds.{Kind}
use Rattle.grammar.specs.Least.{Addition, LeastWidening}
use Rattle.grammar.specs.Outcome.{Gives}
use Rattle.grammar.specs.ReadTable.{read_table}

-- Demand 3 speaks of the table that reading the written bytes gives.
abbrev pub WritesLeast : Limits → Classes → Kind → Table → Addition → List ℕ → Type 0
WritesLeast lim classes kind old addition bytes = Gives (read_table lim classes bytes) (LeastWidening kind old addition)
