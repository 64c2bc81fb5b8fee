-- What the walks over a content find. Each is stated of the content that stands at a place, together with the place after it.
use Rattle.std.specs.Prelude.{ℕ, ◌+◌, ◌-◌, ◌≤◌, ◌<◌, Bool, true, false, cond, ◌≡◌, length, get_or, take, drop, eqb}
use mathlib.Core.List.{List, ◌++◌, Memᴰ}
use Rattle.std.proofs.Math.Option.{Option, some as just}
use Rattle.grammar.specs.Lists.{distinct}
use Rattle.grammar.specs.Limits.{large}
use Rattle.theory.specs.Alternatives.{has_alts, all_have_alts, one_has_alts, some_left, pairs_met, pairs_met_all}
use Rattle.sets.specs.Sets.{member}
use Rattle.sets.specs.declared.set.Set.{Set}
use Rattle.reader.specs.ExprAt.{Placed, ◌up_to◌, placed, expr_at, exprs_at}
use Rattle.reader.specs.ContentAt.{ContentAt, ContentsAt}
use Rattle.union.specs.declared.met.MetOne.{MetOne}
use Rattle.union.specs.declared.met.MetRow.{MetRow}

-- whether the content at a place has alternatives, over a test of types
abbrev pub has_at : (ℕ → Bool) → List ℕ → ℕ → Option (Placed Bool)
has_at test s at = placed (has_alts test) (expr_at s at)

-- whether all of so many have, and whether one has
abbrev pub has_row_at : (ℕ → Bool) → List ℕ → (at n : ℕ) → Option (Placed (Bool × Bool))
has_row_at test s at n = placed (λ cs. (all_have_alts test cs, one_has_alts test cs)) (exprs_at s at n)

-- Lists of numbers by type, one after the other: where the list of each type begins; it ends where the next begins.
unfoldable pub list_of_type : (from numbers : List ℕ) → ℕ → List ℕ
list_of_type from numbers k = take (get_or from (k + 1) 0 - get_or from k 0) (drop (get_or from k 0) numbers)

-- so many types have their lists there, of numbers below a bound
pub record Listed (types bound : ℕ) (from numbers : List ℕ) : Type 0 where
  pub front : types < length from
  pub order : (k : ℕ) → k < types → get_or from k 0 ≤ get_or from (k + 1) 0
  pub inside : (k : ℕ) → k < types → get_or from (k + 1) 0 ≤ length numbers
  pub below : (i : ℕ) → get_or numbers i 0 < bound

-- numbers, each once and each below a bound, stand at the front of a list with room for all of them
pub record Once (bound : ℕ) (list : List ℕ) (count : ℕ) : Type 0 where
  pub room : bound ≤ length list
  pub held : count ≤ length list
  pub once : distinct eqb (take count list) ≡ take count list
  pub below : (p : ℕ) → Memᴰ p (take count list) → p < bound

-- a part of numbers
pub record PartOfNumbers (numbers : List ℕ) (first end : ℕ) : Type 0 where
  pub order : first ≤ end
  pub inside : end ≤ length numbers

-- after some numbers others stand there, of all each once
pub record Adds (numbers more list : List ℕ) (count : ℕ) : Type 0 where
  pub all : take count list ≡ distinct eqb (numbers ++ more)
  pub held : count ≤ length list

-- a set of types whose numbers are all among some numbers
pub record SeenListed (seen : List ℕ) (left : ℕ → List ℕ) (numbers : List ℕ) : Type 0 where
  pub size : length seen ≡ 4
  pub there : (k : ℕ) → member seen 0 k ≡ true → (p : ℕ) → Memᴰ p (left k) → Memᴰ p numbers

-- the answer for a type: whether it has numbers, its numbers after the others, each once, and the types seen by then
pub record TypeMet (left : ℕ → List ℕ) (numbers : List ℕ) (k after : ℕ) (list : List ℕ) (r : MetOne) : Type 0 where
  pub has : r.has ≡ some_left left k
  pub adds : Adds numbers (left k) list r.count
  pub next : r.next ≡ after
  pub known : SeenListed r.seen.words left (take r.count list)

-- whether the content has alternatives, and numbers with the pairs that are met in it after them, each once
abbrev pub met_at : (ℕ → List ℕ) → (numbers s : List ℕ) → ℕ → Option (Placed (Bool × List ℕ))
met_at left numbers s at =
    placed (λ c. (has_alts (some_left left) c, distinct eqb (numbers ++ pairs_met left c))) (expr_at s at)

-- the same of so many: whether all have alternatives, whether one has, and the numbers
abbrev pub met_row_at : (ℕ → List ℕ) → (numbers s : List ℕ) → (at n : ℕ) → Option (Placed (Bool × Bool × List ℕ))
met_row_at left numbers s at n =
    placed
    (λ cs. (all_have_alts (some_left left) cs, one_has_alts (some_left left) cs, distinct eqb (numbers ++ pairs_met_all left cs)))
    (exprs_at s at n)

-- what the walks ask: a proper content, lists by type, and a list of numbers
pub record MetAsks (s : List ℕ) (at : ℕ) (from pairs list : List ℕ) (count : ℕ) : Type 0 where
  pub there : ContentAt large s at
  pub lists : Listed 128 256 from pairs
  pub once : Once 256 list count

pub record MetRowAsks (s : List ℕ) (at n : ℕ) (from pairs list : List ℕ) (count : ℕ) : Type 0 where
  pub there : ContentsAt large s at n
  pub lists : Listed 128 256 from pairs
  pub once : Once 256 list count

-- and what they find
pub record MetFinds (left : ℕ → List ℕ) (numbers s : List ℕ) (at : ℕ) (list : List ℕ) (r : MetOne) : Type 0 where
  pub found : met_at left numbers s at ≡ just ((r.has, take r.count list) up_to r.next)
  pub held : r.count ≤ length list
  pub known : SeenListed r.seen.words left (take r.count list)

pub record MetRowFinds (left : ℕ → List ℕ) (numbers s : List ℕ) (at n : ℕ) (list : List ℕ) (r : MetRow) : Type 0 where
  pub found : met_row_at left numbers s at n ≡ just ((r.all, r.one, take r.count list) up_to r.next)
  pub held : r.count ≤ length list
  pub known : SeenListed r.seen.words left (take r.count list)

-- the answer for a sequence, from that for its operands: where one has no alternatives, the count and the types seen are those
-- before them
abbrev pub sequence_met : MetRow → (count : ℕ) → Set 4 → MetOne
sequence_met row count seen =
    cond row.all
    (record { has = true; count = row.count; next = row.next; seen = row.seen })
    (record { has = false; count = count; next = row.next; seen = seen })
