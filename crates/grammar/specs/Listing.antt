-- The lister's text: a table as lines of ASCII.
use Rattle.std.specs.Prelude.{ℕ, zero, suc, ◌+◌, ◌/◌, ◌%◌, Bool, true, false, List, [], ◌∷◌, ◌++◌, get_or, ltb, Result, Ok, Err}
use Rattle.grammar.specs.Ascii.{ascii}
use Rattle.grammar.specs.Lists.{joined_of}
use Rattle.grammar.specs.Limits.{Limits}
use Rattle.grammar.specs.Names.{Classes}
use Rattle.grammar.specs.Content.{
  Content,
  none,
  empty,
  type,
  sequence,
  choice,
  any_number,
  one_or_more,
  optional,
  Contents,
  []ᶜ,
  ◌∷ᶜ◌,
}
use Rattle.grammar.specs.Table.{Rule, Table}
use Rattle.grammar.specs.Outcome.{number, ◌>>=◌}
use Rattle.grammar.specs.ReadTable.{read_table}
use Rattle.grammar.specs.Documents.{read_document}
use Rattle.grammar.specs.Kinds.{local}
use Rattle.grammar.specs.Least.{by_document}
use Rattle.grammar.specs.Widen.{widen}
use Rattle.grammar.specs.declared.Format.TheVariants.{DocumentFile}
use Rattle.grammar.specs.declared.Refusal.{Refusal}

abbrev pub Text : Type 0
Text = List ℕ

-- decimal digits; `n` bounds their number
unfoldable pub digits_within : ℕ → ℕ → Text
digits_within zero k = []
digits_within (suc n) k = elim (ltb k 10) [ true ↦ (0x30 + k) ∷ [] | false ↦ digits_within n (k / 10) ++ (0x30 + k % 10) ∷ [] ]

unfoldable pub decimal : ℕ → Text
unfolding digits_within
decimal k = digits_within (suc k) k

unfoldable pub type_text : ℕ → Text
unfolding decimal ascii
type_text k = ascii "t" ++ decimal k

-- (,) is sequence, (|) choice, () empty, ! none; suffixes *, +, ? are any number of, one or more of, optional.
unfoldable mutual
  unfolding type_text ascii

  pub content_text : Content → Text
  content_text none = ascii "!"
  content_text empty = ascii "()"
  content_text (type k) = type_text k
  content_text (sequence cs) = ascii "(" ++ separated (ascii ",") cs ++ ascii ")"
  content_text (choice cs) = ascii "(" ++ separated (ascii "|") cs ++ ascii ")"
  content_text (any_number c) = content_text c ++ ascii "*"
  content_text (one_or_more c) = content_text c ++ ascii "+"
  content_text (optional c) = content_text c ++ ascii "?"

  pub separated : Text → Contents → Text
  separated mark []ᶜ = []
  separated mark (c ∷ᶜ cs) = content_text c ++ continued mark cs

  pub continued : Text → Contents → Text
  continued mark []ᶜ = []
  continued mark (c ∷ᶜ cs) = mark ++ content_text c ++ continued mark cs

-- `start` and type for each start
unfoldable pub start_line : ℕ → Text
unfolding type_text ascii
start_line k = ascii "start " ++ type_text k ++ ascii "\n"

-- # directly after the content of a rule for text
unfoldable pub text_mark : Bool → Text
unfolding ascii
text_mark text = elim text [ true ↦ ascii "#" | false ↦ [] ]

-- type, name and content of a rule
unfoldable pub rule_text : Table → Rule → Text
unfolding type_text content_text text_mark ascii
rule_text g r =
    type_text r.type
    ++ ascii " "
    ++ get_or g.labels r.label []
    ++ ascii " "
    ++ content_text r.content
    ++ text_mark r.text

-- and for each rule they make a line
unfoldable pub rule_line : Table → Rule → Text
unfolding rule_text ascii
rule_line g r = rule_text g r ++ ascii "\n"

-- a first line `local`, the starts, the rules
unfoldable pub local_text : Table → Text
unfolding joined_of start_line rule_line ascii
local_text g = ascii "local\n" ++ joined_of start_line g.starts ++ joined_of (rule_line g) g.rules

-- A refusal prints one line only.
unfoldable pub refusal_line : Refusal → Text
unfolding decimal number ascii
refusal_line r = ascii "refused " ++ decimal (number r) ++ ascii "\n"

unfoldable pub outcome_text : Result Table Refusal → Text
unfolding local_text refusal_line
outcome_text (Ok g) = local_text g
outcome_text (Err r) = refusal_line r

-- What the lister prints for the bytes of `old.tbl` and `new.doc`, widened to local; a file that cannot be read counts as no bytes.
unfoldable pub listing : Limits → Classes → List ℕ → List ℕ → Text
unfolding outcome_text read_table read_document widen
listing lim classes old_file new_file =
    outcome_text do
      g ← read_table lim classes old_file
      d ← read_document lim classes DocumentFile new_file
      widen lim local g (by_document d)
