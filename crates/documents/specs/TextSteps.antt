-- The steps of reading XML text, as places: the next tag, and an element among those that are open.
use Rattle.std.specs.Prelude.{ℕ, zero, suc, ◌+◌, ◌-◌, ◌≤◌, ◌<◌}
use Rattle.std.specs.Prelude.{Option, Some, None, Result, Ok, Err}
use Rattle.std.specs.Prelude.{Bool, true, false, not, ◌&&◌, ◌||◌, List, ◌≡◌, eqb, leb, length, get_or, set, take, drop}
use Rattle.std.proofs.Math.Option.{none as nothing, some as just}
use Rattle.std.proofs.Math.Seq.{slice}
use Rattle.grammar.specs.Lists.{same_numbers}
use Rattle.grammar.specs.Limits.{Limits, child_limit}
use Rattle.grammar.specs.Names.{Name, Classes, is_name}
use Rattle.grammar.specs.ReadText.{
  greater_than,
  name_front,
  past_name,
  Tag,
  start_tag,
  empty_tag,
  end_tag,
  FrontTag,
  no_more,
  not_allowed,
  Tags,
  ◌then◌,
  tags_of,
  Elements,
  read_tags,
}
use Rattle.grammar.specs.Outcome.{◌>>=◌}
use Rattle.grammar.specs.declared.Refusal.{Refusal}
use Rattle.grammar.specs.ReadDocument.{Node}
use Rattle.grammar.specs.WriteDocument.{nodes_of}
use Rattle.grammar.specs.declared.Refusal.TheVariants.{BadName, BadTree, BadText}
use Rattle.documents.specs.declared.text.Tag.{Tag as TagHere}
use Rattle.documents.specs.declared.text.Tag.TheVariants.{Element, End}

-- > stands at a place
abbrev pub ends_tag : List ℕ → ℕ → Bool
ends_tag s at = not (leb (length s) at) && eqb (get_or s at 0) greater_than

-- a place, not before `at`, from which on the input is `rest`
pub record Forward (s : List ℕ) (at : ℕ) (rest : List ℕ) (to : ℕ) : Type 0 where
  pub order : at ≤ to
  pub within : to ≤ length s
  pub stands : drop to s ≡ rest

-- where the name that begins at a place ends
pub record NameEnd (s : List ℕ) (from to : ℕ) : Type 0 where
  pub order : from ≤ to
  pub within : to ≤ length s
  pub name : slice from to s ≡ name_front (drop from s)
  pub behind : drop to s ≡ past_name (drop from s)

-- the tag of an element: a start tag leaves it open
abbrev pub element_tag : Bool → Name → Tag
element_tag false name = empty_tag name
element_tag true name = start_tag name

-- a tag's name begins and ends here, and the text goes on at `next`
pub record TagPlaces (s : List ℕ) (at from to next : ℕ) : Type 0 where
  pub forward : at ≤ from
  pub order : from ≤ to
  pub ends : to < next
  pub within : next ≤ length s

-- the tag whose name begins at `at` is found
abbrev pub FrontIs : List ℕ → ℕ → FrontTag → TagHere → Type 0
FrontIs s at front (Element from to next stays) =
    TagPlaces s at from to next × (front ≡ just (element_tag stays (slice from to s), drop next s))
FrontIs s at front (End from to next) = TagPlaces s at from to next × (front ≡ just (end_tag (slice from to s), drop next s))

-- what is found of the tag whose name begins at `at`
abbrev pub FrontSays : List ℕ → ℕ → FrontTag → Result TagHere Refusal → Type 0
FrontSays s at front (Ok tag) = FrontIs s at front tag
FrontSays s at front (Err r) = (r ≡ BadText) × (front ≡ nothing)

-- the first of the tags from a place on is found
abbrev pub TagIs : List ℕ → ℕ → TagHere → Type 0
TagIs s at (Element from to next stays) =
    TagPlaces s (at + 1) from to next
    × (tags_of (drop at s) ≡ (element_tag stays (slice from to s) then tags_of (drop next s)))
TagIs s at (End from to next) =
    TagPlaces s (at + 1) from to next × (tags_of (drop at s) ≡ (end_tag (slice from to s) then tags_of (drop next s)))

-- what is found of the tags from a place on
abbrev pub TagSays : List ℕ → ℕ → Result (Option TagHere) Refusal → Type 0
TagSays s at (Ok None) = tags_of (drop at s) ≡ no_more
TagSays s at (Ok (Some tag)) = TagIs s at tag
TagSays s at (Err r) = (r ≡ BadText) × (tags_of (drop at s) ≡ not_allowed)

-- An element by numbers: its name, how many nodes are read and how many elements open, and whether the innermost is full.
unfoldable pub element_answer : Limits → Classes → Name → (nodes depth : ℕ) → Bool → Result (Unit {0}) Refusal
unfolding is_name
element_answer lim classes name nodes depth full =
    elim (is_name classes name && leb (length name) lim.name) [
      | false ↦ Err BadName
      | true ↦
          elim (leb lim.nodes nodes || leb lim.levels depth || full) [ true ↦ Err BadTree | false ↦ (Ok tt) ]
    ]

-- where the innermost open element stands among the nodes
abbrev pub innermost : (places : List ℕ) (depth : ℕ) → ℕ
innermost places depth = get_or places (depth - 1) 0

-- the innermost has no room for a child, or a complete tree stands there
abbrev pub full_at : (shapes places : List ℕ) (depth nodes : ℕ) → Bool
full_at shapes places zero nodes = not (eqb nodes 0)
full_at shapes places (suc d) nodes = leb child_limit (get_or shapes (innermost places (suc d)) 0)

-- the shapes when the innermost has one child more
abbrev pub one_child_more : (shapes places : List ℕ) (depth : ℕ) → List ℕ
one_child_more shapes places zero = shapes
one_child_more shapes places (suc d) =
    set shapes (innermost places (suc d)) (get_or shapes (innermost places (suc d)) 0 + 1)

-- the name of the innermost, as the arrays tell it
abbrev pub innermost_name : (s names sizes places : List ℕ) (depth : ℕ) → Name
innermost_name s names sizes places depth =
    take (get_or sizes (innermost places depth) 0) (drop (get_or names (innermost places depth) 0) s)

-- an end tag with this name closes the innermost
abbrev pub closes_at : (s names sizes places : List ℕ) (depth : ℕ) → Name → Bool
closes_at s names sizes places zero name = false
closes_at s names sizes places (suc d) name = same_numbers name (innermost_name s names sizes places (suc d))

-- the name of the innermost stands in the text
pub record InnermostHeld (s names sizes : List ℕ) (place : ℕ) : Type 0 where
  pub in_names : place < length names
  pub in_sizes : place < length sizes
  pub within : get_or names place 0 + get_or sizes place 0 ≤ length s

-- the end of a text by numbers: how many nodes are read, how many elements open
unfoldable pub text_end : ℕ → ℕ → Result (Unit {0}) Refusal
text_end nodes depth =
    elim (eqb depth 0) [
      | false ↦ Err BadTree
      | true ↦ elim (eqb nodes 0) [ true ↦ Err BadTree | false ↦ (Ok tt) ]
    ]

-- the nodes of the rest of a text, of which `e` is read
abbrev pub text_nodes : Limits → Classes → Elements → Tags → Result (List Node) Refusal
text_nodes lim classes e tags = read_tags lim classes e tags >>= λ d. Ok (nodes_of d)
