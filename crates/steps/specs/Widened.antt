-- What widening one table by another answers.
use Rattle.reader.specs.declared.index.TableIndex.{TableIndex}
use Rattle.std.specs.Prelude.{ℕ, ◌≤◌, ◌<◌, true, List, ◌++◌, ◌≡◌, length, drop, Ok, Err, Result, Option, Some, None}
use Rattle.grammar.specs.Limits.{Limits, large, input_limit}
use Rattle.grammar.specs.Lists.{keep, numbers_below}
use Rattle.grammar.specs.Table.{Table}
use Rattle.grammar.specs.Kinds as kinds
use Rattle.grammar.specs.WriteTable.{table_bytes}
use Rattle.grammar.specs.WithinLimits.{TableWithin}
use Rattle.grammar.specs.Unite.{unite}
use Rattle.theory.specs.Conditions.{all_letters}
use Rattle.reader.specs.Held.{Held}
use Rattle.sets.specs.Sets.{set_of_eight_at}
use Rattle.union.specs.declared.lists.TypeLists.{TypeLists}
use Rattle.union.specs.declared.united.Union.{Union}
use Rattle.union.specs.View.{UnionSeen}
use Rattle.union.specs.PairNumbers.{fruitful_of, is_start, is_left}
use Rattle.union.specs.TypeLists.{ListsOf}
use Rattle.union.specs.Places.{starts_at, left_at, start_types_at}
use Rattle.forms.specs.SetForms.{table_by_sets, pairs_within, sets_of, table_of}
use Rattle.forms.specs.SetWords.{SetsHeld}
use Rattle.grammar.specs.Widen.{widen_by_table}
use Rattle.grammar.specs.declared.Refusal.TheVariants.{ResultTooLarge}
use Rattle.grammar.specs.declared.Refusal.{Refusal}
use Rattle.grammar.specs.declared.TooLarge.{TooLarge}

-- the result's bytes stand at the front of the draft, and the rest of it is kept
pub record ResultDrafted (lim : Limits) (kind : kinds.Kind) (g h : Table) (before after : List ℕ) (n : ℕ) : Type 0 where
  pub result : Table
  pub widened : widen_by_table lim kind g h ≡ Ok result
  pub size : n ≡ length (table_bytes result)
  pub small : n ≤ input_limit
  pub bytes : after ≡ table_bytes result ++ drop n before

unfoldable pub Widens : Limits → kinds.Kind → (g h : Table) → (before after : List ℕ) → Result ℕ Refusal → Type 0
Widens lim kind g h before after (Ok n) = ResultDrafted lim kind g h before after n
Widens lim kind g h before after (Err refusal) = widen_by_table lim kind g h ≡ Err refusal

-- what is answered of what was drafted of a result
unfoldable pub made_of : Result ℕ TooLarge → Result ℕ Refusal
made_of (Ok n) = Ok n
made_of (Err over) = Err ResultTooLarge

-- What is known of two tables once their union is reduced: its view, its fruitful pairs by type, and in the words the start pairs, of
-- which there is one, and the pairs that are left.
pub record UnionReduced (lim : Limits) (old add : List ℕ) (index : TableIndex) (union : Union)
    (lists : TypeLists) (words : List ℕ) (g h : Table) : Type 0 where
  pub old_held : Held lim old index g
  pub second_within : TableWithin lim all_letters h
  pub seen : UnionSeen old add g h union
  pub lists_are : ListsOf (fruitful_of (unite large g h)) lists
  pub starts_are : set_of_eight_at words starts_at ≡ is_start (unite large g h)
  pub left_are : set_of_eight_at words left_at ≡ is_left (unite large g h)
  pub some_start : (p : ℕ) × (is_start (unite large g h) p ≡ true)

-- it is known of some tables
pub record SomeReduced (lim : Limits) (old add : List ℕ) (index : TableIndex) (union : Union)
    (lists : TypeLists) (words : List ℕ) : Type 0 where
  pub first : Table
  pub second : Table
  pub reduced : UnionReduced lim old add index union lists words first second

-- The sets that are the types of a result stand in the words, so many, with the start types and the pairs left; or they are too many.
pub record TypesLaid (lim : Limits) (kind : kinds.Kind) (u : Table) (words : List ℕ) (count : ℕ) : Type 0 where
  pub many : count ≡ length (sets_of lim kind u)
  pub few : count ≤ lim.types
  pub held : SetsHeld words (sets_of lim kind u)
  pub table : table_by_sets u (sets_of lim kind u) (pairs_within kind u) (keep (set_of_eight_at words start_types_at) (numbers_below count))
      ≡ table_of lim kind u
  pub left_are : set_of_eight_at words left_at ≡ is_left u

abbrev pub TypesCounted : Limits → kinds.Kind → Table → List ℕ → Option ℕ → Type 0
TypesCounted lim kind u words None = lim.types < length (sets_of lim kind u)
TypesCounted lim kind u words (Some n) = TypesLaid lim kind u words n
