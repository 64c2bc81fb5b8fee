-- Printed pages, computed: texts that go on, the end of a page, and what comes back.
use Prim.Native.Nat.{ℕ}
use mathlib.Core.List.{List, [], ◌∷◌, ◌++◌}
use mathlib.Core.Path.{◌≡◌, refl}
use lib.ListN.{length, replicate}
use Rattle.grammar.specs.Ascii.{ascii}
use Rattle.grammar.specs.Content.{Content, empty, type, sequence, optional, []ᶜ, ◌∷ᶜ◌}
use Rattle.grammar.specs.Table.{Rule, Table, empty_table}
use Rattle.grammar.specs.Listing.{Text}
use Rattle.grammar.specs.Pages.{Layout, page_layout, texts_of, rule_rows, table_rows, pages}
use Rattle.grammar.specs.ReadPages.{texts_shown}
use Rattle.grammar.proofs.Builders.{rule, text_rule, starting_at0}
use Rattle.grammar.proofs.ListerExample.{old_table}

-- columns of 2, 3 and 4
narrow : ℕ → Layout
narrow page = record { type = 2; name = 3; content = 4; page = page }

list_table : Table
unfolding starting_at0
list_table =
    starting_at0 ("list" ∷ "card" ∷ []) (rule 0 0 (sequence (type 1 ∷ᶜ optional (type 1) ∷ᶜ []ᶜ)) ∷ text_rule 1 1 empty ∷ [])

rows : Text
unfolding ascii
rows = ascii "t0 lis (t1,\n" ++ ascii "   t   t1?)\n" ++ ascii "t1 car ()# \n" ++ ascii "   d       \n"

-- The content of the first rule fills two lines, and takes no third. Four rows fill a page of four.
a_full_page : pages (narrow 4) list_table ≡ rows
unfolding pages narrow list_table rows ascii
a_full_page = refl

-- A rule goes on over the end of a page, and blank rows fill the last one.
over_the_end : pages (narrow 3) list_table ≡ rows ++ ascii "           \n           \n"
unfolding pages narrow list_table rows ascii
over_the_end = refl

comes_back : texts_shown (narrow 3) (pages (narrow 3) list_table) ≡ ascii "t0 list (t1,t1?)" ∷ ascii "t1 card ()#" ∷ []
unfolding texts_shown pages narrow list_table ascii
comes_back = refl

-- the page of the lister's example
first_rows : table_rows page_layout old_table
    ≡ ascii "t0  list                    t1*                                         \n"
    ∷ ascii "t1  card                    (t2,t3?)                                    \n"
    ∷ ascii "t2  name                    ()                                          \n"
    ∷ ascii "t3  door                    ()                                          \n"
    ∷ []
unfolding table_rows page_layout old_table ascii
first_rows = refl

one_page : length (pages page_layout old_table) ≡ 4380
unfolding pages page_layout old_table
one_page = refl

-- A content of 44 characters takes one row; with its mark, and with one character more, two.
full : Content
full = sequence (type 1 ∷ᶜ type 1 ∷ᶜ type 1 ∷ᶜ type 1 ∷ᶜ type 1 ∷ᶜ type 1 ∷ᶜ type 1 ∷ᶜ type 1 ∷ᶜ type 1 ∷ᶜ type 1 ∷ᶜ type 1 ∷ᶜ type 1 ∷ᶜ type 1 ∷ᶜ optional (type 1) ∷ᶜ []ᶜ)

fuller : Content
fuller = sequence (type 1 ∷ᶜ type 1 ∷ᶜ type 1 ∷ᶜ type 1 ∷ᶜ type 1 ∷ᶜ type 1 ∷ᶜ type 1 ∷ᶜ type 1 ∷ᶜ type 1 ∷ᶜ type 1 ∷ᶜ type 1 ∷ᶜ type 1 ∷ᶜ optional (type 1) ∷ᶜ optional (type 1) ∷ᶜ []ᶜ)

rows_for : Rule → List Text
unfolding rule_rows texts_of page_layout starting_at0
rows_for r = rule_rows page_layout (texts_of (starting_at0 ("a" ∷ []) []) r)

full_alone : rows_for (rule 0 0 full) ≡ ascii "t0  a                       (t1,t1,t1,t1,t1,t1,t1,t1,t1,t1,t1,t1,t1,t1?)\n" ∷ []
unfolding rows_for full ascii
full_alone = refl

mark_alone : rows_for (text_rule 0 0 full) ≡ ascii "t0  a                       (t1,t1,t1,t1,t1,t1,t1,t1,t1,t1,t1,t1,t1,t1?)\n" ∷ ascii "                            #                                           \n" ∷ []
unfolding rows_for full ascii
mark_alone = refl

one_more : rows_for (rule 0 0 fuller) ≡ ascii "t0  a                       (t1,t1,t1,t1,t1,t1,t1,t1,t1,t1,t1,t1,t1?,t1?\n" ∷ ascii "                            )                                           \n" ∷ []
unfolding rows_for fuller ascii
one_more = refl

-- t127 goes on
long_type : rows_for (rule 127 0 empty) ≡ ascii "t12 a                       ()                                          \n" ∷ ascii "7                                                                       \n" ∷ []
unfolding rows_for ascii
long_type = refl

-- so many rules of one row
of_rules : ℕ → Table
unfolding starting_at0
of_rules n = starting_at0 ("a" ∷ []) (replicate n (rule 0 0 empty))

sixty : length (pages page_layout (of_rules 60)) ≡ 4380
unfolding pages page_layout of_rules
sixty = refl

sixty_one : length (pages page_layout (of_rules 61)) ≡ 8760
unfolding pages page_layout of_rules
sixty_one = refl

no_rules : pages page_layout (of_rules 0) ≡ []
unfolding pages page_layout of_rules
no_rules = refl

nothing : pages page_layout empty_table ≡ []
unfolding pages page_layout
nothing = refl
