-- A table that stands in bytes, as those above have it: by an index.
use Rattle.reader.specs.declared.index.TableIndex.{TableIndex}
use Rattle.std.specs.Prelude.{ℕ, List}
use Rattle.grammar.specs.Limits.{Limits}
use Rattle.grammar.specs.Table.{Table}
use Rattle.grammar.specs.WithinLimits.{TableWithin}
use Rattle.theory.specs.Conditions.{all_letters}
use Rattle.reader.specs.TableIndex.{Indexes}

-- The index says where the table's parts stand in the bytes, and the table is within the limits. Its names may be of any bytes: which
-- classes it was read under is of no matter above.
pub record Held (lim : Limits) (bytes : List ℕ) (index : TableIndex) (g : Table) : Type 0 where
  pub indexes : Indexes bytes index g
  pub within : TableWithin lim all_letters g

-- some table is held
pub record SomeHeld (lim : Limits) (bytes : List ℕ) (index : TableIndex) : Type 0 where
  pub table : Table
  pub held : Held lim bytes index table
