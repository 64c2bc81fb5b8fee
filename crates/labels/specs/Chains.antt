-- Places that have keys, chained by their keys.
use Rattle.reader.specs.declared.index.TableIndex.{TableIndex}
use Rattle.std.specs.Prelude.{ℕ, ◌+◌, ◌≤◌, ◌<◌, List, ◌≡◌, get_or}
use Rattle.reader.specs.TableIndex.{rule_label, rule_count}

-- so many places, each with a key up to 128
pub record Keyed (key : ℕ → ℕ) (count : ℕ) : Type 0 where
  pub few : count ≤ 128
  pub small : (i : ℕ) → i < count → key i ≤ 128

-- the first place from `from` on that has the key k; `count` where none has
pub record PlaceFrom (key : ℕ → ℕ) (count k from at : ℕ) : Type 0 where
  pub onward : from ≤ at
  pub within : at ≤ count
  pub passed : (j : ℕ) → from ≤ j → j < at → key j ≡ k → ⊥
  pub found : at < count → key at ≡ k

-- at each place stands the next one that has its key, and at 128 + k the first one that has key k
pub record ChainAre (key : ℕ → ℕ) (count : ℕ) (next : List ℕ) : Type 0 where
  pub after : (i : ℕ) → i < count → PlaceFrom key count (key i) (i + 1) (get_or next i 0)
  pub first : (k : ℕ) → k ≤ 128 → PlaceFrom key count k 0 (get_or next (128 + k) 0)

-- the rules of an index are chained by their labels
abbrev pub RulesChained : (index : TableIndex) (next : List ℕ) → Type 0
RulesChained index next = ChainAre (rule_label index) (rule_count index) next
