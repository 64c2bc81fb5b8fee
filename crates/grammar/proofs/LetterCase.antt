-- Letter case, computed: which bytes become others, what repeats a label, what is let in, and which spelling is kept.
use Prim.Native.Nat.{ℕ, ◌+◌}
use mathlib.Core.Bool.{Bool, true, false, not}
use mathlib.Core.List.{List, [], ◌∷◌, ◌++◌, map}
use mathlib.Core.Path.{◌≡◌, refl}
use lib.Dec.{eqb}
use lib.ListN.{set}
use Rattle.grammar.specs.Ascii.{ascii}
use Rattle.grammar.specs.Lists.{any_pass, keep, numbers_below}
use Rattle.grammar.specs.Limits.{standard}
use Rattle.grammar.specs.Names.{Classes, ascii_classes, small_letter, same_name}
use Rattle.grammar.specs.Content.{none, empty, type, sequence, choice, []ᶜ, ◌∷ᶜ◌}
use Rattle.grammar.specs.Tree.{Tree}
use Rattle.grammar.specs.Table.{Table}
use Rattle.grammar.specs.Kinds.{local, single_type}
use Rattle.grammar.specs.Least.{by_document}
use Rattle.std.specs.Prelude.{Ok, Err}
use Rattle.grammar.specs.Fields.{field_bytes}
use Rattle.grammar.specs.ReadTable.{read_table, label_tag, table_end_tag}
use Rattle.grammar.specs.Membership.{lets_in}
use Rattle.grammar.specs.Sample.{sample}
use Rattle.grammar.specs.Widen.{widen}
use Rattle.grammar.specs.declared.Refusal.TheVariants.{BadName, Repeated}
use Rattle.grammar.proofs.Builders.{rule, starting_at0, tree}

-- of all bytes just A to Z become others, and these become a to z
capitals_become : keep (λ b. not (eqb (small_letter b) b)) (numbers_below 256) ≡ ascii "ABCDEFGHIJKLMNOPQRSTUVWXYZ"
unfolding keep small_letter numbers_below ascii
capitals_become = refl

become_small : map small_letter (ascii "ABCDEFGHIJKLMNOPQRSTUVWXYZ") ≡ ascii "abcdefghijklmnopqrstuvwxyz"
unfolding small_letter ascii
become_small = refl

-- bytes that differ by the same bit and are no letters stay apart: @ `, [ {, \ |, ] }, ^ ~, and all above 7F
some_joined : List ℕ → Bool
unfolding any_pass same_name
some_joined bytes = any_pass (λ b. same_name (b ∷ []) ((b + 0x20) ∷ [])) bytes

others_apart : some_joined (0x40 ∷ 0x5B ∷ 0x5C ∷ 0x5D ∷ 0x5E ∷ 0x5F ∷ map (λ b. 0x80 + b) (numbers_below 96)) ≡ false
unfolding some_joined numbers_below
others_apart = refl

-- the labels of a table that has no more
labelled : List (List ℕ) → List ℕ
unfolding field_bytes
labelled [] = field_bytes table_end_tag []
labelled (n ∷ ns) = field_bytes label_tag n ++ labelled ns

-- a label repeats another of the same letters
repeats : read_table standard ascii_classes (labelled (ascii "card" ∷ ascii "CaRD" ∷ [])) ≡ Err Repeated
unfolding read_table standard ascii_classes labelled ascii
repeats = refl

-- with A a letter and a none, a is no name, whether or not A is a label
no_small_a : Classes
unfolding ascii_classes
no_small_a = set ascii_classes 0x61 0

name_before_repeat : read_table standard no_small_a (labelled (ascii "A" ∷ ascii "a" ∷ [])) ≡ Err BadName
unfolding read_table standard no_small_a labelled ascii
name_before_repeat = refl

-- list(card)
card_table : Table
unfolding starting_at0
card_table = starting_at0 ("list" ∷ "card" ∷ []) (rule 0 0 (type 1) ∷ rule 1 1 empty ∷ [])

-- LIST(Card), and list(cord)
capitals : Tree
unfolding tree
capitals = tree "LIST" (tree "Card" [] ∷ [])

let_in : lets_in card_table capitals ≡ true
unfolding lets_in card_table capitals
let_in = refl

other_letter : lets_in card_table (tree "list" (tree "cord" [] ∷ [])) ≡ false
unfolding lets_in card_table tree
other_letter = refl

-- List(A(card), Card, a(CARD), LIST): equal names are one label, spelled as in the first of all nodes; equal paths are one type
mixed : Tree
unfolding tree
mixed =
    tree "List"
    (tree "A" (tree "card" [] ∷ []) ∷ tree "Card" [] ∷ tree "a" (tree "CARD" [] ∷ []) ∷ tree "LIST" [] ∷ [])

mixed_sample :
    sample mixed
    ≡ starting_at0 ("List" ∷ "A" ∷ "card" ∷ [])
    (rule 0 0 (sequence (type 1 ∷ᶜ type 3 ∷ᶜ type 1 ∷ᶜ type 4 ∷ᶜ []ᶜ))
    ∷ rule 1 1 (type 2)
    ∷ rule 2 2 empty
    ∷ rule 3 2 empty
    ∷ rule 4 0 empty
    ∷ [])
unfolding sample mixed starting_at0
mixed_sample = refl

-- LIST(CARD, DOOR) added to list(card): the old spelling stays, a new name comes as it is spelled
in_capitals : Tree
unfolding tree
in_capitals = tree "LIST" (tree "CARD" [] ∷ tree "DOOR" [] ∷ [])

widened : Table
unfolding starting_at0
widened =
    starting_at0 ("list" ∷ "card" ∷ "DOOR" ∷ [])
    (rule 0 0 (choice (type 1 ∷ᶜ sequence (type 1 ∷ᶜ type 2 ∷ᶜ []ᶜ) ∷ᶜ []ᶜ)) ∷ rule 1 1 empty ∷ rule 2 2 empty ∷ [])

old_spelling_local : widen standard local card_table (by_document in_capitals) ≡ Ok widened
unfolding widen standard card_table in_capitals widened
old_spelling_local = refl

old_spelling_single_type : widen standard single_type card_table (by_document in_capitals) ≡ Ok widened
unfolding widen standard card_table in_capitals widened
old_spelling_single_type = refl

-- also where the old table has no rule of that label, or only one that goes: door has no rule, card one whose content is none
unused_table : Table
unfolding starting_at0
unused_table = starting_at0 ("list" ∷ "card" ∷ "door" ∷ []) (rule 0 0 empty ∷ rule 1 1 none ∷ [])

unused_widened : Table
unfolding starting_at0
unused_widened =
    starting_at0 ("list" ∷ "card" ∷ "door" ∷ [])
    (rule 0 0 (choice (empty ∷ᶜ sequence (type 1 ∷ᶜ type 2 ∷ᶜ []ᶜ) ∷ᶜ []ᶜ)) ∷ rule 1 1 empty ∷ rule 2 2 empty ∷ [])

unused_spelling : widen standard local unused_table (by_document in_capitals) ≡ Ok unused_widened
unfolding widen standard unused_table in_capitals unused_widened
unused_spelling = refl
