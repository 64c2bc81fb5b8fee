-- The known pairs of a union by type, read off its view.
use Rattle.reader.specs.declared.index.TableIndex.{TableIndex}
use Rattle.std.specs.Prelude.{ℕ, ◌+◌, ◌≤◌, ◌<◌, Bool, ◌&&◌, ◌≡◌, get_or, take, eqb}
use mathlib.Core.List.{List, ◌++◌, Memᴰ}
use Rattle.grammar.specs.Lists.{keep, joined_of, numbers_below}
use Rattle.reader.specs.TableIndex.{start_type, start_count}
use Rattle.union.specs.declared.united.United.{United}
use Rattle.union.specs.declared.lists.Lists.{Lists}
use Rattle.union.specs.declared.lists.TypeLists.{TypeLists}
use Rattle.union.specs.View.{type_in, first_in}
use Rattle.union.specs.Walks.{list_of_type, Listed, Once}

-- the rule of this number is the first of a known pair of the type
abbrev pub is_pair : United → (ℕ → Bool) → (ty p : ℕ) → Bool
is_pair v known ty p = eqb (type_in v p) ty && eqb (first_in v p) p && known p

-- the known pairs of a type
unfoldable pub pairs_in : United → (ℕ → Bool) → ℕ → List ℕ
unfolding keep numbers_below
pairs_in v known ty = keep (is_pair v known ty) (numbers_below v.rules)

-- those of so many types from a first one on
unfoldable pub pairs_from : United → (ℕ → Bool) → (base n : ℕ) → List ℕ
unfolding joined_of pairs_in numbers_below
pairs_from v known base n = joined_of (λ k. pairs_in v known (base + k)) (numbers_below n)

-- numbers below 256, each once at the front
pub record ListsFilled (list : List ℕ) (count : ℕ) : Type 0 where
  pub once : Once 256 list count
  pub below : (i : ℕ) → get_or list i 0 < 256

-- after some numbers others stand there
pub record Appends (front more list : List ℕ) (count : ℕ) : Type 0 where
  pub all : take count list ≡ front ++ more
  pub filled : ListsFilled list count

-- they are pairs of types before this one
abbrev pub Earlier : United → (ty : ℕ) → List ℕ → Type 0
Earlier v ty list = (q : ℕ) → Memᴰ q list → type_in v q < ty

-- these are the lists of the types of one table
pub record ListsEach (of : ℕ → List ℕ) (r : Lists) : Type 0 where
  pub listed : Listed 128 256 r.from r.numbers
  pub each : (k : ℕ) → k < 128 → list_of_type r.from r.numbers k ≡ of k

-- both tables' types have lists, of numbers below 256
pub record BothListed (r : TypeLists) : Type 0 where
  pub old : Listed 128 256 r.old.from r.old.numbers
  pub added : Listed 128 256 r.addition.from r.addition.numbers

-- the start types of a table that was read
pub record StartsSmall (index : TableIndex) : Type 0 where
  pub few : start_count index ≤ 128
  pub small : (i : ℕ) → i < start_count index → start_type index i < 128
