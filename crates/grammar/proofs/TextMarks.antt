-- Text marks, computed: the two tags of each file, who takes whom, which rules mark a pair or a result, samples and the lister.
use Prim.Native.Nat.{ℕ}
use mathlib.Core.Bool.{true, false}
use mathlib.Core.List.{List, [], ◌∷◌}
use mathlib.Core.Path.{◌≡◌, refl}
use Rattle.grammar.specs.Ascii.{ascii}
use Rattle.grammar.specs.Limits.{standard}
use Rattle.grammar.specs.Names.{ascii_classes}
use Rattle.grammar.specs.Content.{
  none,
  empty,
  type,
  sequence,
  choice,
  any_number,
  one_or_more,
  optional,
  []ᶜ,
  ◌∷ᶜ◌,
}
use Rattle.grammar.specs.Tree.{Tree}
use Rattle.grammar.specs.Table.{Rule, Table, empty_table}
use Rattle.grammar.specs.Membership.{lets_in}
use Rattle.grammar.specs.KindTests.{is_local, is_single_type}
use Rattle.grammar.specs.Kinds.{Kind, local, single_type}
use Rattle.grammar.specs.Least.{by_table}
use Rattle.std.specs.Prelude.{Result, Ok, Err}
use Rattle.grammar.specs.declared.Refusal.{Refusal}
use Rattle.grammar.specs.ReadTable.{read_table}
use Rattle.grammar.specs.ReadDocument.{read_document_file}
use Rattle.grammar.specs.WriteTable.{table_bytes}
use Rattle.grammar.specs.WriteDocument.{document_bytes}
use Rattle.grammar.specs.Sample.{sample}
use Rattle.grammar.specs.Widen.{widen}
use Rattle.grammar.specs.Listing.{listing}
use Rattle.grammar.specs.declared.Refusal.TheVariants.{BadField}
use Rattle.grammar.proofs.Builders.{rule, text_rule, starting_at0, tree, text_tree}

-- a table of one rule for text, and a document of one node with text
note_bytes : List ℕ
note_bytes = 0x10 ∷ 0x00 ∷ 0x01 ∷ 0x61 ∷ 0x11 ∷ 0x00 ∷ 0x01 ∷ 0x00 ∷ 0x13 ∷ 0x00 ∷ 0x03 ∷ 0x00 ∷ 0x00 ∷ 0x01 ∷ 0x1F ∷ 0x00 ∷ 0x00 ∷ []

note : Table
unfolding starting_at0
note = starting_at0 ("a" ∷ []) (text_rule 0 0 empty ∷ [])

note_reads : read_table standard ascii_classes note_bytes ≡ Ok note
unfolding read_table standard ascii_classes note_bytes note
note_reads = refl

note_written : table_bytes note ≡ note_bytes
unfolding table_bytes note note_bytes
note_written = refl

text_bytes : List ℕ
text_bytes = 0x32 ∷ 0x00 ∷ 0x02 ∷ 0x00 ∷ 0x61 ∷ 0x3F ∷ 0x00 ∷ 0x00 ∷ []

text_reads : read_document_file standard ascii_classes text_bytes ≡ Ok (text_tree "a" [])
unfolding read_document_file standard ascii_classes text_bytes text_tree
text_reads = refl

text_written : document_bytes (text_tree "a" []) ≡ text_bytes
unfolding document_bytes text_bytes text_tree
text_written = refl

-- 13 in a document and 32 in a table stay foreign
rule_in_document : read_document_file standard ascii_classes (0x13 ∷ 0x00 ∷ 0x02 ∷ 0x00 ∷ 0x61 ∷ 0x3F ∷ 0x00 ∷ 0x00 ∷ []) ≡ Err BadField
unfolding read_document_file standard ascii_classes
rule_in_document = refl

node_in_table : read_table standard ascii_classes (0x32 ∷ 0x00 ∷ 0x03 ∷ 0x00 ∷ 0x00 ∷ 0x01 ∷ 0x1F ∷ 0x00 ∷ 0x00 ∷ []) ≡ Err BadField
unfolding read_table standard ascii_classes
node_in_table = refl

-- a rule 12 takes only nodes without text, a rule 13 both
plain : Table
unfolding starting_at0
plain = starting_at0 ("a" ∷ []) (rule 0 0 empty ∷ [])

plain_takes_plain : lets_in plain (tree "a" []) ≡ true
unfolding lets_in plain tree
plain_takes_plain = refl

plain_takes_no_text : lets_in plain (text_tree "a" []) ≡ false
unfolding lets_in plain text_tree
plain_takes_no_text = refl

note_takes_plain : lets_in note (tree "A" []) ≡ true
unfolding lets_in note tree
note_takes_plain = refl

note_takes_text : lets_in note (text_tree "A" []) ≡ true
unfolding lets_in note text_tree
note_takes_text = refl

-- a rule 12 and a rule 13 of one type and label are two rules
both : Table
unfolding starting_at0
both = starting_at0 ("a" ∷ []) (rule 0 0 empty ∷ text_rule 0 0 empty ∷ [])

both_not_local : is_local both ≡ false
unfolding is_local both
both_not_local = refl

both_not_single_type : is_single_type both ≡ false
unfolding is_single_type both
both_not_single_type = refl

-- list(card) with these further rules, widened by nothing
unfoldable list_with : List Rule → Table
unfolding starting_at0
list_with rules = starting_at0 ("list" ∷ "card" ∷ []) (rule 0 0 (type 1) ∷ rule 1 1 empty ∷ rules)

by_nothing : Kind → Table → Result Table Refusal
unfolding widen standard
by_nothing kind g = widen standard kind g (by_table empty_table)

unmarked_card : Table
unfolding starting_at0
unmarked_card = starting_at0 ("list" ∷ "card" ∷ []) (rule 0 0 (type 1) ∷ rule 1 1 empty ∷ [])

marked_card : Table
unfolding starting_at0
marked_card = starting_at0 ("list" ∷ "card" ∷ []) (rule 0 0 (type 1) ∷ text_rule 1 1 empty ∷ [])

-- a rule 13 whose own content reduces to none marks nothing, though its pair is fruitful
none_marks_nothing : by_nothing local (list_with (text_rule 1 1 (type 2) ∷ [])) ≡ Ok unmarked_card
unfolding by_nothing list_with unmarked_card
none_marks_nothing = refl

-- any number of none, and optional none, reduce to empty and mark; equal operands drop, the mark stays
repeated_none_marks : by_nothing local (list_with (text_rule 1 1 (any_number none) ∷ [])) ≡ Ok marked_card
unfolding by_nothing list_with marked_card
repeated_none_marks = refl

optional_none_marks : by_nothing single_type (list_with (text_rule 1 1 (optional (type 2)) ∷ [])) ≡ Ok marked_card
unfolding by_nothing list_with marked_card
optional_none_marks = refl

-- a rule 13 of the same label that is not reached marks nothing
unreached_local : by_nothing local (list_with (text_rule 2 1 empty ∷ [])) ≡ Ok unmarked_card
unfolding by_nothing list_with unmarked_card
unreached_local = refl

unreached_single_type : by_nothing single_type (list_with (text_rule 2 1 empty ∷ [])) ≡ Ok unmarked_card
unfolding by_nothing list_with unmarked_card
unreached_single_type = refl

-- nor one that is reached only through a none: list (card | (card, !))
through_none : Table
unfolding starting_at0
through_none =
    starting_at0 ("list" ∷ "card" ∷ [])
    (rule 0 0 (choice (type 1 ∷ᶜ sequence (type 2 ∷ᶜ none ∷ᶜ []ᶜ) ∷ᶜ []ᶜ)) ∷ rule 1 1 empty ∷ text_rule 2 1 empty ∷ [])

through_none_lem : by_nothing local through_none ≡ Ok unmarked_card
unfolding by_nothing through_none unmarked_card
through_none_lem = refl

-- block(floor(card), lift(card)) with text at the lift's card only: one label is one rule, two paths are two
block_table : Table
unfolding starting_at0
block_table =
    starting_at0 ("block" ∷ "floor" ∷ "lift" ∷ "card" ∷ [])
    (rule 0 0 (sequence (type 1 ∷ᶜ type 2 ∷ᶜ []ᶜ))
    ∷ rule 1 1 (type 3)
    ∷ rule 2 2 (type 4)
    ∷ rule 3 3 empty
    ∷ text_rule 4 3 empty
    ∷ [])

block_local : Table
unfolding starting_at0
block_local =
    starting_at0 ("block" ∷ "floor" ∷ "lift" ∷ "card" ∷ [])
    (rule 0 0 (sequence (type 1 ∷ᶜ type 2 ∷ᶜ []ᶜ)) ∷ rule 1 1 (type 3) ∷ rule 2 2 (type 3) ∷ text_rule 3 3 empty ∷ [])

block_local_lem : by_nothing local block_table ≡ Ok block_local
unfolding by_nothing block_table block_local
block_local_lem = refl

block_single_type : by_nothing single_type block_table ≡ Ok block_table
unfolding by_nothing block_table
block_single_type = refl

-- card with a key, or with text and a pin: joined, text may stand above the key too
join_table : Table
unfolding starting_at0
join_table =
    starting_at0 ("card" ∷ "key" ∷ "pin" ∷ []) (rule 0 0 (type 1) ∷ text_rule 0 0 (type 2) ∷ rule 1 1 empty ∷ rule 2 2 empty ∷ [])

joined : Table
unfolding starting_at0
joined =
    starting_at0 ("card" ∷ "key" ∷ "pin" ∷ []) (text_rule 0 0 (choice (type 1 ∷ᶜ type 2 ∷ᶜ []ᶜ)) ∷ rule 1 1 empty ∷ rule 2 2 empty ∷ [])

join_single_type : by_nothing single_type join_table ≡ Ok joined
unfolding by_nothing join_table joined
join_single_type = refl

text_above_key : Tree
unfolding text_tree tree
text_above_key = text_tree "card" (tree "key" [] ∷ [])

join_kept_apart : lets_in join_table text_above_key ≡ false
unfolding lets_in join_table text_above_key
join_kept_apart = refl

join_lets_in : lets_in joined text_above_key ≡ true
unfolding lets_in joined text_above_key
join_lets_in = refl

-- list(card, CARD#, card): one node with text, in any spelling, in the middle of a run, marks its path
cards : Tree
unfolding tree text_tree
cards = tree "list" (tree "card" [] ∷ text_tree "CARD" [] ∷ tree "card" [] ∷ [])

cards_sample : sample cards ≡ starting_at0 ("list" ∷ "card" ∷ []) (rule 0 0 (one_or_more (type 1)) ∷ text_rule 1 1 empty ∷ [])
unfolding sample cards starting_at0
cards_sample = refl

-- the lister, for list(card) and this document
old_file : List ℕ
unfolding table_bytes unmarked_card
old_file = table_bytes unmarked_card

new_file : List ℕ
unfolding document_bytes cards
new_file = document_bytes cards

printed : List ℕ
unfolding ascii
printed = ascii "local\nstart t0\nt0 list (t1|t1+)\nt1 card ()#\n"

lister_marks : listing standard ascii_classes old_file new_file ≡ printed
unfolding listing standard ascii_classes old_file new_file printed
lister_marks = refl
