-- Labels by the keys of their names.
use Rattle.reader.specs.declared.index.TableIndex.{TableIndex}
use Rattle.std.specs.Prelude.{ℕ, ◌+◌, ◌*◌, ◌/◌, ◌%◌, List, length, get_or}
use Rattle.grammar.specs.Names.{Name}
use Rattle.reader.specs.TableIndex.{part, label_from, label_to, label_count}
use Rattle.labels.specs.Chains.{ChainAre}

-- a number below 64 that equal names have in common: of the first byte, the middle one and the length. Letters count alike as capitals.
unfoldable pub name_key : Name → ℕ
name_key n = (get_or n 0 0 % 32 + 7 * (get_or n (length n / 2) 0 % 32) + length n % 64) % 64

-- the key of the name that an index says a label has
abbrev pub label_key : (s : List ℕ) (index : TableIndex) → ℕ → ℕ
label_key s index i = name_key (part s (label_from index i) (label_to index i))

-- the labels of an index are chained by the keys of their names
abbrev pub LabelsChained : (s : List ℕ) (index : TableIndex) (next : List ℕ) → Type 0
LabelsChained s index next = ChainAre (label_key s index) (label_count index) next
