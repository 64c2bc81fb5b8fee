-- The paper's example of the lister, to its last byte; a refusal; and a file that cannot be read.
use Prim.Native.Nat.{ℕ}
use mathlib.Core.List.{List, [], ◌∷◌, ◌++◌}
use mathlib.Core.Path.{◌≡◌, refl}
use Rattle.grammar.specs.Ascii.{ascii}
use Rattle.grammar.specs.Limits.{standard}
use Rattle.grammar.specs.Names.{ascii_classes}
use Rattle.grammar.specs.Content.{empty, type, sequence, any_number, optional, []ᶜ, ◌∷ᶜ◌}
use Rattle.grammar.specs.Table.{Table}
use Rattle.grammar.specs.WriteTable.{table_bytes}
use Rattle.grammar.specs.Listing.{listing}
use Rattle.grammar.proofs.Builders.{rule, starting_at0, node_field, end_of_document}

-- labels list, card, name, door; start 0; rules 0 list t1*, 1 card (t2,t3?), 2 name (), 3 door ()
unfoldable pub old_table : Table
unfolding starting_at0
old_table =
    starting_at0 ("list" ∷ "card" ∷ "name" ∷ "door" ∷ [])
    (rule 0 0 (any_number (type 1))
    ∷ rule 1 1 (sequence (type 2 ∷ᶜ optional (type 3) ∷ᶜ []ᶜ))
    ∷ rule 2 2 empty
    ∷ rule 3 3 empty
    ∷ [])

unfoldable pub old_file : List ℕ
unfolding table_bytes old_table
old_file = table_bytes old_table

-- list(card(name, zone))
unfoldable pub new_file : List ℕ
unfolding node_field end_of_document
new_file = node_field "list" 1 ++ node_field "card" 2 ++ node_field "name" 0 ++ node_field "zone" 0 ++ end_of_document

unfoldable pub printed : List ℕ
unfolding ascii
printed =
    ascii "local\nstart t0\nt0 list (t1*|t1)\nt1 card ((t2,t3?)|(t2,t4))\nt2 name ()\nt3 door ()\nt4 zone ()\n"

pub lister_example : listing standard ascii_classes old_file new_file ≡ printed
unfolding listing standard ascii_classes old_file new_file printed
lister_example = refl

pub lister_missing_document : listing standard ascii_classes old_file [] ≡ ascii "refused 3\n"
unfolding listing standard ascii_classes old_file ascii
lister_missing_document = refl

pub lister_refusal : listing standard ascii_classes (old_file ++ 0 ∷ []) new_file ≡ ascii "refused 12\n"
unfolding listing standard ascii_classes old_file new_file ascii
lister_refusal = refl
