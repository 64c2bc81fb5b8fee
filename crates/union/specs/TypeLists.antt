-- Lists by type of the two tables of a union. A type of the addition counts from 128 on in the union.
use Rattle.std.specs.Prelude.{ℕ, ◌<◌, List, ◌≡◌}
use Rattle.grammar.specs.Limits.{large}
use Rattle.grammar.specs.Unite.{shifted}
use Rattle.union.specs.declared.lists.TypeLists.{TypeLists}
use Rattle.union.specs.Walks.{list_of_type, Listed}

-- these are the lists of the types of the union
pub record ListsOf (of : ℕ → List ℕ) (r : TypeLists) : Type 0 where
  pub old_listed : Listed 128 256 r.old.from r.old.numbers
  pub added_listed : Listed 128 256 r.addition.from r.addition.numbers
  pub old : (k : ℕ) → k < 128 → list_of_type r.old.from r.old.numbers k ≡ of k
  pub added : (k : ℕ) → k < 128 → list_of_type r.addition.from r.addition.numbers k ≡ of (shifted large k)
