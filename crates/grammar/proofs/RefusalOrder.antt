-- Where two refusals could apply, the order decides: for each two that meet, an input with both faults.
use Prim.Native.Nat.{ℕ}
use mathlib.Core.Bool.{false}
use mathlib.Core.List.{List, [], ◌∷◌, ◌++◌}
use mathlib.Core.Path.{◌≡◌, refl}
use lib.ListN.{replicate}
use Rattle.grammar.specs.Ascii.{ascii}
use Rattle.grammar.specs.Lists.{joined_of, numbers_below}
use Rattle.grammar.specs.Limits.{standard}
use Rattle.grammar.specs.Names.{ascii_classes, loads}
use Rattle.grammar.specs.Table.{Table}
use Rattle.grammar.specs.Kinds.{local}
use Rattle.std.specs.Prelude.{Result, Ok, Err}
use Rattle.grammar.specs.declared.Refusal.{Refusal}
use Rattle.grammar.specs.Fields.{field_bytes}
use Rattle.grammar.specs.ReadTable.{read_table, label_tag, start_tag, rule_tag}
use Rattle.grammar.specs.ReadDocument.{node_tag, read_nodes}
use Rattle.grammar.specs.Calls.{table_reads, document_reads, label_name, widened}
use Rattle.grammar.specs.Listing.{type_text}
use Rattle.grammar.specs.declared.Format.TheVariants.{DocumentFile}
use Rattle.grammar.specs.declared.Source.TheVariants.{Table as a_table, Document as a_document}
use Rattle.grammar.specs.declared.Refusal.TheVariants.{
  WorkTooShort,
  InputTooLong,
  FieldPastEnd,
  BadField,
  BadName,
  Repeated,
  TooMany,
  OutOfRange,
  BadContent,
  NestedTooDeep,
  BadTree,
  BytesAfterEnd,
  NoDocument,
  ResultTooLarge,
  OutputTooShort,
  BadClasses,
}
use Rattle.grammar.proofs.Builders.{node_field, end_of_document}
use Rattle.grammar.proofs.PaperTables.{p1_bytes, e_bytes}

abbrev table : List ℕ → Result Table Refusal
table bytes = read_table standard ascii_classes bytes

label : List ℕ → List ℕ
unfolding field_bytes
label name = field_bytes label_tag name

start : ℕ → List ℕ
unfolding field_bytes
start k = field_bytes start_tag (k ∷ [])

rule_field : ℕ → ℕ → List ℕ → List ℕ
unfolding field_bytes
rule_field k l content = field_bytes (rule_tag false) (k ∷ l ∷ content)

-- enough working words, all zero
enough : List ℕ
enough = replicate 16384 0

-- 1 before 18
work_before_classes : table_reads standard [] [] [] ≡ Err WorkTooShort
unfolding table_reads standard ascii_classes
work_before_classes = refl

-- 18 before 2, of a table and of a document
classes_before_length : table_reads standard [] (replicate 32769 0) enough ≡ Err BadClasses
unfolding table_reads standard ascii_classes loads enough
classes_before_length = refl

classes_before_document : document_reads standard [] DocumentFile (replicate 32769 0) enough ≡ Err BadClasses
unfolding document_reads standard ascii_classes loads enough
classes_before_document = refl

-- 1 before 2
work_before_length : table_reads standard ascii_classes (replicate 32769 0) [] ≡ Err WorkTooShort
unfolding table_reads standard ascii_classes
work_before_length = refl

-- 2 before 3
length_before_end : table (replicate 32769 0) ≡ Err InputTooLong
unfolding read_table standard
length_before_end = refl

-- 3 before 4: a foreign tag whose value runs past the end
end_before_tag : table (0x99 ∷ 0 ∷ 9 ∷ []) ≡ Err FieldPastEnd
unfolding read_table standard
end_before_tag = refl

-- 4 before 5: a name too long that also breaks the name rule
tag_before_name : table (label (replicate 64 0x2D)) ≡ Err BadField
unfolding read_table standard label
tag_before_name = refl

-- 5 before 6 in different fields: the earlier decides. (Both in one field: `name_before_repeat` of LetterCase.)
name_before_repeated : table (label (ascii "a") ++ label (ascii "-") ++ label (ascii "a")) ≡ Err BadName
unfolding read_table standard ascii_classes label ascii
name_before_repeated = refl

earlier_repeated : table (label (ascii "a") ++ label (ascii "a") ++ label (ascii "-")) ≡ Err Repeated
unfolding read_table standard ascii_classes label ascii
earlier_repeated = refl

-- 6 before 7: a 65th start that repeats one
repeated_before_count : table (joined_of start (numbers_below 64) ++ start 63) ≡ Err Repeated
unfolding read_table standard start joined_of numbers_below
repeated_before_count = refl

-- 7 before 8: a 65th start with a type above 63
count_before_range : table (joined_of start (numbers_below 64) ++ start 64) ≡ Err TooMany
unfolding read_table standard start joined_of numbers_below
count_before_range = refl

-- 8 before 9: a rule whose label is not among the labels and whose content is no expression
range_before_content : table (rule_field 0 0 (9 ∷ [])) ≡ Err OutOfRange
unfolding read_table standard rule_field
range_before_content = refl

-- 9 before 10: an unknown operator below 32 others
content_before_nesting : table (label (ascii "a") ++ rule_field 0 0 (replicate 32 5 ++ 8 ∷ [])) ≡ Err BadContent
unfolding read_table standard ascii_classes label rule_field ascii
content_before_nesting = refl

-- the same with the fault after the part that nests too deep
content_before_nesting_after :
    table (label (ascii "a") ++ rule_field 0 0 (3 ∷ 2 ∷ replicate 32 5 ++ 1 ∷ 8 ∷ [])) ≡ Err BadContent
unfolding read_table standard ascii_classes label rule_field ascii
content_before_nesting_after = refl

-- 9 before 10: a type out of range and a count of one are no expression either
type_before_nesting : table (label (ascii "a") ++ rule_field 0 0 (replicate 32 5 ++ 2 ∷ 64 ∷ [])) ≡ Err BadContent
unfolding read_table standard ascii_classes label rule_field ascii
type_before_nesting = refl

count_is_content : table (label (ascii "a") ++ rule_field 0 0 (4 ∷ 1 ∷ 1 ∷ [])) ≡ Err BadContent
unfolding read_table standard ascii_classes label rule_field ascii
count_is_content = refl

-- 10 before 12: too deep a nesting, with bytes after the end
nesting_before_rest : table (label (ascii "a") ++ rule_field 0 0 (replicate 32 5 ++ 1 ∷ []) ++ e_bytes ++ 0 ∷ []) ≡ Err NestedTooDeep
unfolding read_table standard ascii_classes label rule_field ascii e_bytes
nesting_before_rest = refl

-- 5 before 11: a name that breaks the rule on a node with over 200 children
name_before_tree : read_nodes standard ascii_classes (node_field "-" 201) ≡ Err BadName
unfolding read_nodes standard ascii_classes node_field
name_before_tree = refl

-- 11 before 12: the end comes before the tree is complete, and bytes follow it
tree_before_rest : read_nodes standard ascii_classes (node_field "a" 1 ++ end_of_document ++ 0 ∷ []) ≡ Err BadTree
unfolding read_nodes standard ascii_classes node_field end_of_document
tree_before_rest = refl

-- a node after a complete tree
after_the_tree : read_nodes standard ascii_classes (node_field "a" 0 ++ node_field "a" 0 ++ end_of_document) ≡ Err BadTree
unfolding read_nodes standard ascii_classes node_field end_of_document
after_the_tree = refl

-- the old table before the addition, to its end: its 12 before the addition's 3, and before the addition's 2
old_before_addition : widened standard ascii_classes local a_table (e_bytes ++ 0 ∷ []) [] [] enough ≡ Err BytesAfterEnd
unfolding widened standard ascii_classes e_bytes enough
old_before_addition = refl

old_before_length : widened standard ascii_classes local a_table [] (replicate 32769 0) [] enough ≡ Err FieldPastEnd
unfolding widened standard ascii_classes enough
old_before_length = refl

-- reading before 13, and 13 before 15
reading_before_widening : widened standard ascii_classes local a_table e_bytes (e_bytes ++ 0 ∷ []) [] enough ≡ Err BytesAfterEnd
unfolding widened standard ascii_classes e_bytes enough
reading_before_widening = refl

document_before_output : widened standard ascii_classes local a_table e_bytes e_bytes [] enough ≡ Err NoDocument
unfolding widened standard ascii_classes e_bytes enough
document_before_output = refl

-- a root with 64 children of different names: its sample has 65 types
wide_document : List ℕ
unfolding field_bytes node_field end_of_document joined_of numbers_below type_text
wide_document =
    node_field "a" 64 ++ joined_of (λ k. field_bytes (node_tag false) (0 ∷ type_text k)) (numbers_below 64) ++ end_of_document

-- 14 of the sample first, before 15
sample_before_output : widened standard ascii_classes local (a_document DocumentFile) e_bytes wide_document [] enough ≡ Err ResultTooLarge
unfolding widened standard ascii_classes e_bytes wide_document enough
sample_before_output = refl

-- a caller's label number is tried after its table
table_before_label : label_name standard ascii_classes (p1_bytes ++ 0 ∷ []) 1 enough ≡ Err BytesAfterEnd
unfolding label_name standard ascii_classes p1_bytes enough
table_before_label = refl

label_out_of_range : label_name standard ascii_classes p1_bytes 1 enough ≡ Err OutOfRange
unfolding label_name standard ascii_classes p1_bytes enough
label_out_of_range = refl

-- 15: a result of 17 bytes and an output of 16
output_too_short : widened standard ascii_classes local a_table p1_bytes e_bytes (replicate 16 0) enough ≡ Err OutputTooShort
unfolding widened standard ascii_classes p1_bytes e_bytes enough
output_too_short = refl

output_just_enough : widened standard ascii_classes local a_table p1_bytes e_bytes (replicate 17 0) enough ≡ Ok p1_bytes
unfolding widened standard ascii_classes p1_bytes e_bytes enough
output_just_enough = refl
