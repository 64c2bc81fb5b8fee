-- The steps of reading a document: the next field, and the open levels after a node.
use Rattle.std.specs.Prelude.{ℕ, zero, suc, ◌-◌, ◌%◌, ◌≤◌, ◌<◌}
use Rattle.std.specs.Prelude.{Option, Some, None, Result, Ok, Err}
use Rattle.std.specs.Prelude.{Bool, true, false, ◌||◌, List, [], ◌∷◌, ◌≡◌, eqb, leb, ltb, length, get_or, drop}
use Rattle.grammar.specs.Limits.{Limits, child_limit}
use Rattle.grammar.specs.Names.{Classes}
use Rattle.grammar.specs.Fields.{Field, Fields, fields_of}
use Rattle.grammar.specs.Outcome.{◌>>=◌}
use Rattle.grammar.specs.declared.Refusal.{Refusal}
use Rattle.grammar.specs.ReadDocument.{Node, Opened, closed, after_node, with_node, read_node, read_node_fields}
use Rattle.grammar.specs.declared.Refusal.TheVariants.{BadField, BadTree, BytesAfterEnd}
use Rattle.documents.specs.declared.documents.NodeField.{NodeField}
use Rattle.documents.specs.DocumentNodes.{node_from}

-- what an end field says: the size of its value, how many levels are open, how many bytes are left after it
unfoldable pub end_answer : ℕ → ℕ → ℕ → Result (Unit {0}) Refusal
end_answer size depth left =
    elim (eqb size 0) [
      | false ↦ Err BadField
      | true ↦
          elim (eqb depth 0) [
            | false ↦ Err BadTree
            | true ↦ elim (eqb left 0) [ false ↦ Err BytesAfterEnd | true ↦ (Ok tt) ]
          ]
    ]

-- bad_node by numbers: how many nodes are read, the children of the next, how many levels are open
abbrev pub bad_counts : Limits → ℕ → ℕ → ℕ → Bool
bad_counts lim nodes children depth = leb lim.nodes nodes || ltb lim.children children || ltb lim.levels depth || eqb depth 0

-- what is read so far has so many nodes and open levels
pub record Sized (o : Opened) (nodes depth : ℕ) : Type 0 where
  pub read : length o.nodes ≡ nodes
  pub open_levels : length o.to_come ≡ depth

-- the rest of a document, of which `o` is read
abbrev pub rest_of : Limits → Classes → Opened → Fields → Result (List Node) Refusal
rest_of = read_node_fields

-- the same, where the first field is no end
abbrev pub rest_with : Limits → Classes → Field → Fields → Opened → Result (List Node) Refusal
rest_with lim classes f rest o = read_node lim classes o f >>= λ more. rest_of lim classes more rest

-- A node is read: `whole` goes on behind it. Its name stands after `at`.
pub record NodeStep (lim : Limits) (classes : Classes) (s : List ℕ) (at nodes depth : ℕ) (whole : Opened → Result (List Node) Refusal)
    (from to shape : ℕ) : Type 0 where
  pub forward : at < from
  pub order : from ≤ to
  pub within : to ≤ length s
  pub room : nodes < lim.nodes
  pub some_level : 0 < depth
  pub level : depth ≤ lim.levels
  pub few : shape % 256 ≤ child_limit
  pub small : shape < 512
  pub goes : (o : Opened) → Sized o nodes depth
      → whole o
      ≡ rest_of lim classes (with_node o (node_from s from (to - from) shape)) (fields_of (drop to s))

-- what a field that is no end says of the rest of a document, `whole`, whatever was read before it
abbrev pub NodeSays : Limits → Classes → List ℕ → ℕ → ℕ → ℕ → (Opened → Result (List Node) Refusal) → Result NodeField Refusal
    → Type 0
NodeSays lim classes s at nodes depth whole (Ok n) = NodeStep lim classes s at nodes depth whole n.from n.to n.shape
NodeSays lim classes s at nodes depth whole (Err r) = (o : Opened) → Sized o nodes depth → whole o ≡ Err r

-- what a step says of it
abbrev pub StepSays : Limits → Classes → List ℕ → ℕ → ℕ → ℕ → (Opened → Result (List Node) Refusal) → Result (Option NodeField) Refusal
    → Type 0
StepSays lim classes s at nodes depth whole (Ok (Some n)) = NodeStep lim classes s at nodes depth whole n.from n.to n.shape
StepSays lim classes s at nodes depth whole (Ok None) = (o : Opened) → Sized o nodes depth → whole o ≡ Ok o.nodes
StepSays lim classes s at nodes depth whole (Err r) = (o : Opened) → Sized o nodes depth → whole o ≡ Err r

-- the open levels, innermost first: the array has them outermost first
unfoldable pub open_levels : List ℕ → ℕ → List ℕ
open_levels coming zero = []
open_levels coming (suc d) = get_or coming d 0 ∷ open_levels coming d

-- if levels are open, a node is to come on the innermost
pub record Open (coming : List ℕ) (depth : ℕ) : Type 0 where
  pub innermost : (d : ℕ) → depth ≡ suc d → 0 < get_or coming d 0

-- the levels left open when those with none to come are closed
pub record Closed (coming : List ℕ) (depth left : ℕ) : Type 0 where
  pub stays : Open coming left
  pub levels : open_levels coming left ≡ closed (open_levels coming depth)

-- the levels after a node with so many children
pub record LevelsAfter (coming : List ℕ) (depth children : ℕ) (coming' : List ℕ) (depth' : ℕ) : Type 0 where
  pub stays : Open coming' depth'
  pub levels_are : open_levels coming' depth' ≡ after_node children (open_levels coming depth)
