-- Tests on the rules of an index by their numbers, and the set of types at the front of words.
use Rattle.reader.specs.declared.index.TableIndex.{TableIndex}
use Rattle.std.specs.Prelude.{ℕ, zero, suc, ◌≤◌, ◌<◌, Bool, false, not, ◌&&◌, ◌||◌, List, ◌≡◌, eqb}
use Rattle.grammar.specs.Content.{Content}
use Rattle.grammar.specs.Lists.{is_in}
use Rattle.grammar.specs.ReadContent.{content_bytes}
use Rattle.sets.specs.Sets.{member}
use Rattle.reader.specs.TableIndex.{start_type, rule_type, rule_label, start_count, rule_count}

-- some number below n passes the test
unfoldable pub any_below : (ℕ → Bool) → ℕ → Bool
any_below test zero = false
any_below test (suc n) = test n || any_below test n

-- rules i and j have one label
abbrev pub same_label_at : TableIndex → (i j : ℕ) → Bool
same_label_at index i j = eqb (rule_label index i) (rule_label index j)

-- rules i and j have one type and one label
abbrev pub same_pair_at : TableIndex → (i j : ℕ) → Bool
same_pair_at index i j = eqb (rule_type index i) (rule_type index j) && eqb (rule_label index i) (rule_label index j)

-- rules of two different types and of one label, where the second type stands
abbrev pub rivals : (k label l other : ℕ) → Bool → Bool
rivals k label l other stands = not (eqb k l) && (eqb label other && stands)

-- rules i and j are rivals of types that both are in the set
abbrev pub rivals_at : (index : TableIndex) (words : List ℕ) (i j : ℕ) → Bool
rivals_at index words i j =
    member words 0 (rule_type index i)
    && rivals (rule_type index i) (rule_label index i) (rule_type index j) (rule_label index j) (member words 0 (rule_type index j))

-- the set has these types and no others
abbrev pub Holds : List ℕ → List ℕ → Type 0
Holds words types = (k : ℕ) → member words 0 k ≡ is_in k types

-- these are the bytes of some content
pub record IsContent (bytes : List ℕ) : Type 0 where
  pub content : Content
  pub bytes_are : bytes ≡ content_bytes content

-- there are no more starts and rules than an index has room for, and their types are below 128
pub record TypesBelow (index : TableIndex) : Type 0 where
  pub few_starts : start_count index ≤ 128
  pub few_rules : rule_count index ≤ 128
  pub start : (i : ℕ) → i < start_count index → start_type index i < 128
  pub rule : (i : ℕ) → i < rule_count index → rule_type index i < 128
