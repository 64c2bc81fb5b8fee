-- XML text: start tags, end tags, empty-element tags and white space around them, and nothing else; and which refusal comes first.
use Rattle.std.specs.Prelude.{ℕ, zero, suc, Bool, true, false, ◌&&◌, ◌||◌, not, List, [], ◌∷◌, length, eqb, leb, ltb, Result, Ok, Err}
use Rattle.std.proofs.Math.Option.{Option, none as nothing, some as just}
use Rattle.grammar.specs.Lists.{same_numbers}
use Rattle.grammar.specs.Limits.{Limits}
use Rattle.grammar.specs.Names.{Name, Classes, is_name}
use Rattle.grammar.specs.Tree.{Tree, node, Forest, []ᵗ, ◌∷ᵗ◌, trees}
use Rattle.grammar.specs.Outcome.{◌>>=◌, ◌>>◌, turn_back}
use Rattle.grammar.specs.declared.Refusal.{Refusal}
use Rattle.grammar.specs.declared.Refusal.TheVariants.{InputTooLong, BadName, BadTree, BadText, BadEndTag}

abbrev pub less_than : ℕ
less_than = 0x3C

abbrev pub slash : ℕ
slash = 0x2F

abbrev pub greater_than : ℕ
greater_than = 0x3E

-- space, tab, carriage return, line feed
unfoldable pub is_white : ℕ → Bool
is_white b = eqb b 0x20 || eqb b 0x09 || eqb b 0x0D || eqb b 0x0A

-- A name ends at white space, / or >.
unfoldable pub ends_name : ℕ → Bool
unfolding is_white
ends_name b = is_white b || eqb b slash || eqb b greater_than

-- the bytes behind white space at the front
unfoldable pub past_white : List ℕ → List ℕ
unfolding is_white
past_white [] = []
past_white (b ∷ bs) = elim (is_white b) [ true ↦ past_white bs | false ↦ b ∷ bs ]

-- the name at the front, and the bytes behind it
unfoldable pub name_front : List ℕ → Name
unfolding ends_name
name_front [] = []
name_front (b ∷ bs) = elim (ends_name b) [ true ↦ [] | false ↦ b ∷ name_front bs ]

unfoldable pub past_name : List ℕ → List ℕ
unfolding ends_name
past_name [] = []
past_name (b ∷ bs) = elim (ends_name b) [ true ↦ b ∷ bs | false ↦ past_name bs ]

pub data Tag : Type 0 where
  start_tag : Name → Tag
  empty_tag : Name → Tag
  end_tag : Name → Tag

-- a tag at the front, and the bytes behind it
abbrev pub FrontTag : Type 0
FrontTag = Option (Tag × List ℕ)

-- > ends this tag
unfoldable pub ended_by : Tag → List ℕ → FrontTag
ended_by tag [] = nothing
ended_by tag (b ∷ rest) = elim (eqb b greater_than) [ true ↦ just (tag, rest) | false ↦ nothing ]

-- behind its name and white space, > ends a start tag, and /> an empty-element tag
unfoldable pub element_end : Name → List ℕ → FrontTag
unfolding ended_by
element_end name [] = nothing
element_end name (b ∷ rest) =
    elim (eqb b slash) [ true ↦ ended_by (empty_tag name) rest | false ↦ ended_by (start_tag name) (b ∷ rest) ]

-- A tag, behind its <. An end tag begins with a slash, and behind its name and white space > ends it.
unfoldable pub front_tag : List ℕ → FrontTag
unfolding name_front past_name past_white ended_by element_end
front_tag [] = nothing
front_tag (b ∷ bs) =
    elim (eqb b slash) [
      | true ↦ ended_by (end_tag (name_front bs)) (past_white (past_name bs))
      | false ↦ element_end (name_front (b ∷ bs)) (past_white (past_name (b ∷ bs)))
    ]

infixr 40 ◌then◌
-- The tags of a text, front to back, up to its end or to a byte that is not allowed or a tag that is not whole.
pub data Tags : Type 0 where
  no_more : Tags
  not_allowed : Tags
  ◌then◌ : Tag → Tags → Tags

-- `n` bounds the number of tags
unfoldable pub tags_within : ℕ → List ℕ → Tags
unfolding past_white front_tag
tags_within zero bytes = no_more
tags_within (suc n) bytes =
    elim (past_white bytes) [
      | [] ↦ no_more
      | b ∷ inside ↦
          elim (eqb b less_than) [
            | true ↦ elim (front_tag inside) [ nothing ↦ not_allowed | just p ↦ p.0 then tags_within n p.1 ]
            | false ↦ not_allowed
          ]
    ]

-- each tag takes at least two bytes, so there are no more tags than bytes
unfoldable pub tags_of : List ℕ → Tags
unfolding tags_within
tags_of bytes = tags_within (length bytes) bytes

-- an element that is open: its name, and the trees complete below it
pub record Element : Type 0 where
  pub name : Name
  pub below : Forest

-- What is read so far: the open elements, innermost first, the root once it is complete, and how many nodes.
pub record Elements : Type 0 where
  pub opened : List Element
  pub root : Option Tree
  pub nodes : ℕ

abbrev pub no_elements : Elements
no_elements = record { opened = []; root = nothing; nodes = zero }

-- a forest with one tree more behind it
unfoldable pub followed_by : Forest → Tree → Forest
followed_by []ᵗ t = t ∷ᵗ []ᵗ
followed_by (u ∷ᵗ us) t = u ∷ᵗ followed_by us t

-- the tree of an element that is complete: XML text has no text marks
abbrev pub tree_for : Element → Tree
tree_for e = node (record { name = e.name; text = false }) e.below

-- one element more, inside the innermost
unfoldable pub opening : Name → Elements → Elements
opening name e = record { opened = record { name = name; below = []ᵗ } ∷ e.opened; root = e.root; nodes = suc e.nodes }

-- the innermost element is complete: the next tree below the one around it, or the root
unfoldable pub closing : Elements → Elements
unfolding followed_by
closing e =
    elim e.opened [
      | [] ↦ e
      | inner ∷ [] ↦ record { opened = []; root = just (tree_for inner); nodes = e.nodes }
      | inner ∷ around ∷ outer ↦
          record {
            opened = record { name = around.name; below = followed_by around.below (tree_for inner) } ∷ outer;
            root = e.root;
            nodes = e.nodes;
          }
    ]

-- the innermost element has no room for a child, or the tree is complete
unfoldable pub full : Limits → Elements → Bool
unfolding trees
full lim e =
    elim e.opened [
      | [] ↦ elim e.root [ nothing ↦ false | just t ↦ true ]
      | inner ∷ outer ↦ leb lim.children (trees inner.below)
    ]

-- The element is one node too many, lies too deep, is one child too many of its parent, or follows a complete tree.
unfoldable pub bad_element : Limits → Elements → Bool
unfolding full
bad_element lim e = leb lim.nodes e.nodes || leb lim.levels (length e.opened) || full lim e

-- An element: its name breaks the name rule, or is too long; then its place in the tree is tried.
unfoldable pub read_element : Limits → Classes → Elements → Name → Result Elements Refusal
unfolding is_name bad_element opening
read_element lim classes e name = do
  turn_back (not (is_name classes name && leb (length name) lim.name)) BadName
  turn_back (bad_element lim e) BadTree
  Ok (opening name e)

-- the innermost open element has this name, byte for byte
unfoldable pub names_innermost : Name → Elements → Bool
unfolding same_numbers
names_innermost name e = elim e.opened [ [] ↦ false | inner ∷ outer ↦ same_numbers name inner.name ]

unfoldable pub read_tag : Limits → Classes → Elements → Tag → Result Elements Refusal
unfolding read_element closing names_innermost
read_tag lim classes e (start_tag name) = read_element lim classes e name
read_tag lim classes e (empty_tag name) = read_element lim classes e name >>= λ more. Ok (closing more)
read_tag lim classes e (end_tag name) = do
  turn_back (not (names_innermost name e)) BadEndTag
  Ok (closing e)

-- The text ends: no element may be open, and the root must have come.
unfoldable pub root_of : Elements → Result Tree Refusal
root_of e =
    elim e.opened [
      | [] ↦ elim e.root [ nothing ↦ Err BadTree | just t ↦ Ok t ]
      | inner ∷ outer ↦ Err BadTree
    ]

-- the rest of a text, of which `e` is read
unfoldable pub read_tags : Limits → Classes → Elements → Tags → Result Tree Refusal
unfolding read_tag root_of
read_tags lim classes e no_more = root_of e
read_tags lim classes e not_allowed = Err BadText
read_tags lim classes e (tag then rest) = read_tag lim classes e tag >>= λ more. read_tags lim classes more rest

unfoldable pub read_text : Limits → Classes → List ℕ → Result Tree Refusal
unfolding read_tags tags_of
read_text lim classes bytes = do
  turn_back (ltb lim.input (length bytes)) InputTooLong
  read_tags lim classes no_elements (tags_of bytes)
