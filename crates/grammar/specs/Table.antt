-- Tables: label names numbered from 0 as they come, start types, and rules.
use Rattle.std.specs.Prelude.{ℕ, Bool, List, [], ◌≡◌}
use Rattle.std.proofs.Math.Option.{some}
use Rattle.std.proofs.Math.ListN.{get_elem?}
use Rattle.grammar.specs.Names.{Name, SameName}
use Rattle.grammar.specs.Content.{Content}

pub record Rule : Type 0 where
  pub type : ℕ
  pub label : ℕ
  pub content : Content
  pub text : Bool  -- its nodes may hold text

pub record Table : Type 0 where
  pub labels : List Name
  pub starts : List ℕ
  pub rules : List Rule

-- the table of no labels, starts or rules
abbrev pub empty_table : Table
empty_table = record { labels = []; starts = []; rules = [] }

-- the label of this number has a name equal to n
pub record Named (g : Table) (label : ℕ) (n : Name) : Type 0 where
  pub name : Name
  pub listed : get_elem? g.labels label ≡ some name
  pub same : SameName name n

-- No two labels have equal names.
abbrev pub DistinctNames : Table → Type 0
DistinctNames g =
    (i j : ℕ) (m n : Name) → get_elem? g.labels i ≡ some m → get_elem? g.labels j ≡ some n → SameName m n → i ≡ j
