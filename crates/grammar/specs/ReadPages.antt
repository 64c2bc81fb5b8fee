-- Reading printed pages: the text of each rule that they show, from their bytes and the layout alone.
use Rattle.std.specs.Prelude.{ℕ, zero, suc, ◌+◌, Bool, true, false, List, [], ◌∷◌, ◌++◌, map, length, get_or, take, drop, eqb}
use Rattle.grammar.specs.Ascii.{ascii}
use Rattle.grammar.specs.Lists.{joined_of}
use Rattle.grammar.specs.Listing.{Text}
use Rattle.grammar.specs.Pages.{Layout, space}

-- Pages are cut into rows; `n` bounds their number.
unfoldable pub cut_within : ℕ → ℕ → Text → List Text
cut_within zero size text = []
cut_within (suc n) size [] = []
cut_within (suc n) size (b ∷ bs) = take size (b ∷ bs) ∷ cut_within n size (drop size (b ∷ bs))

unfoldable pub row_size : Layout → ℕ
row_size l = l.type + 1 + l.name + 1 + l.content + 1

unfoldable pub rows_in : Layout → Text → List Text
unfolding cut_within row_size
rows_in l text = cut_within (length text) (row_size l) text

-- A row that begins with `t` is the first of a rule; the rows up to the next such row are its others.
unfoldable pub is_first : Text → Bool
is_first row = eqb (get_or row 0 0) 0x74

unfoldable pub others_of : List Text → List Text
unfolding is_first
others_of [] = []
others_of (row ∷ rows) = elim (is_first row) [ true ↦ [] | false ↦ row ∷ others_of rows ]

unfoldable pub rows_by_rule : List Text → List (List Text)
unfolding is_first others_of
rows_by_rule [] = []
rows_by_rule (row ∷ rows) = elim (is_first row) [ true ↦ (row ∷ others_of rows) ∷ rows_by_rule rows | false ↦ rows_by_rule rows ]

-- a text without the spaces at its end
unfoldable pub with_space : ℕ → Text → Text
with_space b [] = elim (eqb b space) [ true ↦ [] | false ↦ b ∷ [] ]
with_space b (c ∷ cs) = b ∷ c ∷ cs

unfoldable pub unpadded : Text → Text
unfolding with_space
unpadded [] = []
unpadded (b ∷ bs) = with_space b (unpadded bs)

-- the text of a column of so many bytes, from a place in each row on: its lines joined, less padding
unfoldable pub column_text : (from width : ℕ) → List Text → Text
unfolding joined_of unpadded
column_text from width rows = unpadded (joined_of (λ row. take width (drop from row)) rows)

-- the columns' texts, joined with a space
unfoldable pub text_of_rows : Layout → List Text → Text
unfolding column_text ascii
text_of_rows l rows =
    column_text 0 l.type rows
    ++ ascii " "
    ++ column_text (l.type + 1) l.name rows
    ++ ascii " "
    ++ column_text (l.type + 1 + l.name + 1) l.content rows

-- the text of each rule that some pages show
unfoldable pub texts_shown : Layout → Text → List Text
unfolding rows_in rows_by_rule text_of_rows
texts_shown l text = map (text_of_rows l) (rows_by_rule (rows_in l text))
