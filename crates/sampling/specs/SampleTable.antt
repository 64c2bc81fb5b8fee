-- The table of a sample, by arrays: the rule of each type, and whether it is written.
use Rattle.std.specs.Prelude.{ℕ, ◌≤◌, ◌<◌, List, [], ◌∷◌, ◌++◌, ◌≡◌, length, get_or, drop, Ok, Err, Result}
use Rattle.grammar.specs.Limits.{Limits, input_limit, child_limit}
use Rattle.grammar.specs.Table.{Rule}
use Rattle.grammar.specs.Fields.{field_bytes}
use Rattle.grammar.specs.ReadTable.{label_tag, start_tag}
use Rattle.grammar.specs.WriteTable.{table_bytes}
use Rattle.grammar.specs.Names.{Classes}
use Rattle.grammar.specs.Tree.{Tree}
use Rattle.grammar.specs.Sample.{sample}
use Rattle.grammar.specs.Widen.{sample_table}
use Rattle.grammar.specs.declared.Format.{Format}
use Rattle.grammar.specs.declared.Refusal.TheVariants.{ResultTooLarge}
use Rattle.grammar.specs.declared.TooLarge.{TooLarge}
use Rattle.documents.specs.declared.documents.DocumentIndex.{DocumentIndex}
use Rattle.documents.specs.DocumentNodes.{nodes_in, read_nodes_as, NodesIndexed}
use Rattle.writer.specs.Tables.{rest_bytes}
use Rattle.paths.specs.SampleNodes.{name_in, mark_at, kids_of, Whole, TypedTo}
use Rattle.sequences.specs.SampleContents.{NodesHeld, content_in}
use Rattle.sequences.specs.SampleTexts.{mark_in, text_in, MarksHeld}

-- the rule of a type
abbrev pub rule_in : (shapes parents types labels : List ℕ) → ℕ → ℕ → Rule
rule_in shapes parents types labels n k =
    record {
      type = k;
      label = get_or labels k 0;
      content = content_in parents types n k;
      text = text_in shapes types n k;
    }

-- the field of a label, by number
abbrev pub label_field : (s names sizes firsts : List ℕ) → ℕ → List ℕ
label_field s names sizes firsts l = field_bytes label_tag (name_in s names sizes (get_or firsts l 0))

-- the start, the rules and the end
abbrev pub start_bytes : (ℕ → Rule) → ℕ → List ℕ
start_bytes rule count = field_bytes start_tag (0 ∷ []) ++ rest_bytes rule count

-- the arrays hold what the rules are made of: the nodes, and the label of each type
pub record RulesHeld (shapes parents types labels : List ℕ) (n count : ℕ) : Type 0 where
  pub nodes : NodesHeld parents types n
  pub marks : MarksHeld shapes types n
  pub few : count ≤ 128
  pub labels_held : count ≤ length labels

-- the arrays hold the nodes of a tree and their types
pub record SampleHeld (s names sizes shapes parents types firsts : List ℕ) (n count : ℕ) : Type 0 where
  pub whole : Whole s names sizes parents n
  pub marks_are : (i : ℕ) → i < n → mark_in shapes i ≡ mark_at whole.list i
  pub typed : TypedTo whole.list whole.tree types firsts count n
  pub shapes_held : n ≤ length shapes
  pub types_held : n ≤ length types
  pub firsts_held : count ≤ length firsts

-- The sample of a document is written from the draft's beginning, and the rest of the draft is kept; or it is too large.
abbrev pub SampleDrafted : Limits → Tree → List ℕ → List ℕ → Result ℕ TooLarge → Type 0
SampleDrafted lim d before after (Ok n) =
    (sample_table lim d ≡ Ok (sample d))
    × (after ≡ table_bytes (sample d) ++ drop n before)
    × (n ≡ length (table_bytes (sample d)))
    × (n ≤ input_limit)
SampleDrafted lim d before after (Err over) = sample_table lim d ≡ Err ResultTooLarge

-- a document's nodes, read under some classes from some format, are those that an index holds
pub record HoldsNodes (lim : Limits) (s : List ℕ) (ix : DocumentIndex) : Type 0 where
  pub classes : Classes
  pub format : Format
  pub reads : read_nodes_as lim classes format s ≡ Ok (nodes_in s ix)
  pub indexed : NodesIndexed s ix.names ix.sizes ix.shapes ix.nodes

-- the arrays hold the nodes of a tree and their types, and no node has too many children
pub record SampleReady (s names sizes shapes parents types firsts : List ℕ) (n count : ℕ) : Type 0 where
  pub held : SampleHeld s names sizes shapes parents types firsts n count
  pub kids_few : (i : ℕ) → i < n → length (kids_of held.whole.list i) ≤ child_limit
