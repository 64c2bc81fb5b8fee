-- The length of a document, whatever its format, comes first; then its fields or its tags.
use Prim.Native.Nat.{ℕ, ◌≤◌, ◌<◌}
use mathlib.Core.Bool.{Bool, true}
use mathlib.Core.List.{List}
use mathlib.Core.Path.{◌≡◌, ap}
use lib.Dec.{ltb}
use lib.ListN.{length}
use borrow.Author.Tests.{lt-ltb, le-ltb}
use Rattle.grammar.specs.Limits.{Limits}
use Rattle.grammar.specs.Names.{Classes}
use Rattle.grammar.specs.Fields.{fields_of}
use Rattle.std.specs.Prelude.{Ok, Err}
use Rattle.grammar.specs.Outcome.{◌>>=◌, ◌>>◌, turn_back}
use Rattle.grammar.specs.ReadDocument.{nothing_read, read_node_fields, read_nodes}
use Rattle.grammar.specs.ReadText.{no_elements, tags_of, read_tags, read_text}
use Rattle.grammar.specs.WriteDocument.{nodes_of}
use Rattle.grammar.specs.declared.Format.{Format}
use Rattle.grammar.specs.declared.Format.TheVariants.{DocumentFile, XmlText}
use Rattle.grammar.specs.declared.Refusal.TheVariants.{InputTooLong}
use Rattle.documents.specs.DocumentNodes.{read_nodes_as}
use Rattle.documents.specs.DocumentSteps.{rest_of}
use Rattle.documents.specs.TextSteps.{text_nodes}

module _ (lim : Limits) (classes : Classes) (format : Format) (bytes : List ℕ) where
  pub document_long : lim.input < length bytes → read_nodes_as lim classes format bytes ≡ Err InputTooLong
  unfolding read_nodes read_text
  document_long h = go format
    where
      long : ltb lim.input (length bytes) ≡ true
      long = lt-ltb lim.input (length bytes) h

      go : (f : Format) → read_nodes_as lim classes f bytes ≡ Err InputTooLong
      go DocumentFile = ap (λ (b : Bool). turn_back b InputTooLong >> read_node_fields lim classes nothing_read (fields_of bytes)) long
      go XmlText =
          ap (λ (b : Bool). (turn_back b InputTooLong >> read_tags lim classes no_elements (tags_of bytes)) >>= λ d. Ok (nodes_of d)) long

module _ (lim : Limits) (classes : Classes) (bytes : List ℕ) (h : length bytes ≤ lim.input) where
  pub file_fields : read_nodes_as lim classes DocumentFile bytes ≡ rest_of lim classes nothing_read (fields_of bytes)
  unfolding read_nodes
  file_fields =
      ap (λ (b : Bool). turn_back b InputTooLong >> read_node_fields lim classes nothing_read (fields_of bytes))
      (le-ltb lim.input (length bytes) h)

  pub text_tags : read_nodes_as lim classes XmlText bytes ≡ text_nodes lim classes no_elements (tags_of bytes)
  unfolding read_text
  text_tags =
      ap (λ (b : Bool). (turn_back b InputTooLong >> read_tags lim classes no_elements (tags_of bytes)) >>= λ d. Ok (nodes_of d))
      (le-ltb lim.input (length bytes) h)
