-- What it is to be the least table of a kind over some documents, and over all that an old table lets in and all that is added.
use Rattle.std.specs.Prelude.{◌⊎◌}
use Rattle.grammar.specs.Tree.{Tree, SameTree}
use Rattle.grammar.specs.Table.{Table, DistinctNames}
use Rattle.grammar.specs.Derivation.{LetsIn}
use Rattle.grammar.specs.Kinds.{Kind, OfKind}
use Rattle.grammar.specs.Sample.{sample}

pub data Addition : Type 0 where
  by_table : Table → Addition
  by_document : Tree → Addition

-- the documents added: all that a table lets in; with a document all that its sample lets in
abbrev pub Added : Addition → Tree → Type 0
Added (by_table g) = λ d. LetsIn g d
Added (by_document document) = λ d. LetsIn (sample document) d

-- the added document itself, read up to letter case
abbrev pub AddedItself : Addition → Tree → Type 0
AddedItself (by_table g) = λ d. ⊥
AddedItself (by_document document) = λ d. SameTree document d

-- every document of one sort is let in
abbrev pub LetsInAll : Table → (Tree → Type 0) → Type 0
LetsInAll g Documents = (d : Tree) → Documents d → LetsIn g d

-- A rival is any table of the kind, of any size, that lets in these documents; no two of its labels have equal names. (A rule whose label
-- number is not among the labels derives nothing, so nothing is asked of it.)
pub record Rival (kind : Kind) (Documents : Tree → Type 0) (rival : Table) : Type 0 where
  pub names : DistinctNames rival
  pub of_kind : OfKind kind rival
  pub keeps : LetsInAll rival Documents

-- The least table of a kind over some documents: being of the kind, letting in these, and being least are one claim.
pub record Least (kind : Kind) (Documents : Tree → Type 0) (result : Table) : Type 0 where
  pub of_kind : OfKind kind result
  pub keeps : LetsInAll result Documents
  pub least : (rival : Table) → Rival kind Documents rival → LetsInAll rival (LetsIn result)

-- A widening is least over the old and the added, and lets in an added document itself.
pub record LeastWidening (kind : Kind) (old : Table) (addition : Addition) (result : Table) : Type 0 where
  pub least : Least kind (λ d. LetsIn old d ⊎ Added addition d) result
  pub keeps_document : LetsInAll result (AddedItself addition)
