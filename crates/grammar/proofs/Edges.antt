-- The edges: the last that passes, and the first that is turned back.
use Prim.Native.Nat.{ℕ, zero, suc}
use mathlib.Core.Bool.{false}
use mathlib.Core.List.{List, [], ◌∷◌, ◌++◌, map}
use mathlib.Core.Path.{◌≡◌, refl}
use lib.ListN.{replicate}
use Rattle.grammar.specs.Ascii.{ascii}
use Rattle.grammar.specs.Lists.{joined_of, numbers_below}
use Rattle.grammar.specs.Limits.{standard}
use Rattle.grammar.specs.Names.{ascii_classes}
use Rattle.grammar.specs.Content.{Content, empty, any_number}
use Rattle.grammar.specs.Table.{Table}
use Rattle.std.specs.Prelude.{Result, Ok, Err}
use Rattle.grammar.specs.declared.Refusal.{Refusal}
use Rattle.grammar.specs.ReadTable.{read_table}
use Rattle.grammar.specs.ReadDocument.{Node, read_nodes}
use Rattle.grammar.specs.WriteTable.{table_bytes}
use Rattle.grammar.specs.Listing.{type_text}
use Rattle.grammar.specs.declared.Refusal.TheVariants.{BadField, TooMany, OutOfRange, NestedTooDeep, BadTree}
use Rattle.grammar.proofs.Builders.{rule, one_rule, head, node_field, end_of_document}

-- reading what is written
abbrev read_back : Table → Result Table Refusal
read_back g = read_table standard ascii_classes (table_bytes g)

-- so many rules
rules_table : ℕ → Table
unfolding ascii
rules_table n = record { labels = ascii "a" ∷ []; starts = []; rules = replicate n (rule 0 0 empty) }

rules_64 : read_back (rules_table 64) ≡ Ok (rules_table 64)
unfolding read_table standard ascii_classes table_bytes rules_table
rules_64 = refl

rules_65 : read_back (rules_table 65) ≡ Err TooMany
unfolding read_table standard ascii_classes table_bytes rules_table
rules_65 = refl

-- so many labels: t0, t1, ..
labels_table : ℕ → Table
unfolding type_text numbers_below
labels_table n = record { labels = map type_text (numbers_below n); starts = []; rules = [] }

labels_64 : read_back (labels_table 64) ≡ Ok (labels_table 64)
unfolding read_table standard ascii_classes table_bytes labels_table
labels_64 = refl

labels_65 : read_back (labels_table 65) ≡ Err TooMany
unfolding read_table standard ascii_classes table_bytes labels_table
labels_65 = refl

-- a name of so many bytes
name_table : ℕ → Table
name_table n = record { labels = replicate n 0x61 ∷ []; starts = []; rules = [] }

name_63 : read_back (name_table 63) ≡ Ok (name_table 63)
unfolding read_table standard ascii_classes table_bytes name_table
name_63 = refl

name_64 : read_back (name_table 64) ≡ Err BadField
unfolding read_table standard ascii_classes table_bytes name_table
name_64 = refl

-- starts from 0 upwards
starts_table : ℕ → Table
unfolding numbers_below
starts_table n = record { labels = []; starts = numbers_below n; rules = [] }

starts_64 : read_back (starts_table 64) ≡ Ok (starts_table 64)
unfolding read_table standard table_bytes starts_table
starts_64 = refl

starts_65 : read_back (starts_table 65) ≡ Err TooMany
unfolding read_table standard table_bytes starts_table
starts_65 = refl

type_64 : read_back (record { labels = []; starts = 64 ∷ []; rules = [] }) ≡ Err OutOfRange
unfolding read_table standard table_bytes
type_64 = refl

-- so many times any number of, around empty
nested : ℕ → Content
nested zero = empty
nested (suc n) = any_number (nested n)

nesting_32 : read_back (one_rule (nested 31)) ≡ Ok (one_rule (nested 31))
unfolding read_table standard ascii_classes table_bytes one_rule nested
nesting_32 = refl

nesting_33 : read_back (one_rule (nested 32)) ≡ Err NestedTooDeep
unfolding read_table standard ascii_classes table_bytes one_rule nested
nesting_33 = refl

-- a root with so many leaves
wide : ℕ → List ℕ
unfolding joined_of node_field end_of_document
wide n = node_field "a" n ++ joined_of (λ k. node_field "b" 0) (replicate n zero) ++ end_of_document

wide_nodes : ℕ → List Node
unfolding head
wide_nodes n = record { head = head "a" false; children = n } ∷ replicate n (record { head = head "b" false; children = 0 })

children_200 : read_nodes standard ascii_classes (wide 200) ≡ Ok (wide_nodes 200)
unfolding read_nodes standard ascii_classes wide wide_nodes
children_200 = refl

children_201 : read_nodes standard ascii_classes (wide 201) ≡ Err BadTree
unfolding read_nodes standard ascii_classes wide
children_201 = refl

-- so many levels of single children above a leaf
deep : ℕ → List ℕ
unfolding joined_of node_field end_of_document
deep n = joined_of (λ k. node_field "a" 1) (replicate n zero) ++ node_field "a" 0 ++ end_of_document

deep_nodes : ℕ → List Node
unfolding head
deep_nodes n =
    replicate n (record { head = head "a" false; children = 1 }) ++ record { head = head "a" false; children = 0 } ∷ []

levels_64 : read_nodes standard ascii_classes (deep 63) ≡ Ok (deep_nodes 63)
unfolding read_nodes standard ascii_classes deep deep_nodes
levels_64 = refl

levels_65 : read_nodes standard ascii_classes (deep 64) ≡ Err BadTree
unfolding read_nodes standard ascii_classes deep
levels_65 = refl
