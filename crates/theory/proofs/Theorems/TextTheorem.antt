-- Lists as XML text, beside document files of the same nodes. A file may be longer than an input may be, so the file is read under limits
-- that have room for it.
--     text_as_file    the tree read from a text is the one that the document file of its nodes gives
--     text_nodes      and the one that its nodes make
--     text_unmarked   XML text has no text marks
--     file_as_text    a tree without marks that a file gives is read from a text too, if that is not too long
--     tree_as_text    as every tree without marks within the limits is
use Prim.Native.Nat.{ℕ, ◌≤◌}
use mathlib.Core.Bool.{false}
use mathlib.Core.List.{List, Memᴰ}
use mathlib.Core.Path.{◌≡◌}
use lib.ListN.{length}
use Rattle.grammar.specs.Limits.{Limits, NoneAbove}
use Rattle.grammar.specs.Names.{Classes, Loads}
use Rattle.grammar.specs.Tree.{Tree}
use Rattle.std.specs.Prelude.{Ok}
use Rattle.grammar.specs.ReadDocument.{Node, tree_of, read_document_file}
use Rattle.grammar.specs.WriteDocument.{nodes_of, document_bytes}
use Rattle.grammar.specs.ReadText.{read_text}
use Rattle.grammar.specs.WriteText.{text_bytes}
use Rattle.grammar.specs.WithinLimits.{TreeWithin}
use Rattle.theory.proofs.Tables.RoomierLimits.{tree_roomier}
use Rattle.theory.proofs.Bytes.DocumentBytes.{tree_of_nodes, document_read_back}
use Rattle.theory.proofs.Bytes.DocumentWithin.{document_within}
use Rattle.theory.proofs.Bytes.TextWithin.{text_kept}
use Rattle.theory.proofs.Bytes.TextBytes.{text_read_back}

-- no node holds text
abbrev pub Unmarked : Tree → Type 0
Unmarked d = (n : Node) → Memᴰ n (nodes_of d) → n.head.text ≡ false

module _ (lim : Limits) (classes : Classes) where
  module _ (bytes : List ℕ) (d : Tree) (read : read_text lim classes bytes ≡ Ok d) where
    pub text_nodes : tree_of (nodes_of d) ≡ Ok d
    text_nodes = tree_of_nodes d

    pub text_as_file : (lim' : Limits) → NoneAbove lim lim' → length (document_bytes d) ≤ lim'.input
        → read_document_file lim' classes (document_bytes d) ≡ Ok d
    text_as_file lim' above size =
        document_read_back lim' classes d (record { tree = tree_roomier above (text_kept lim classes bytes d read).within; size = size })

    pub text_unmarked : Unmarked d
    text_unmarked = (text_kept lim classes bytes d read).plain

  module _ (loaded : Loads classes) (d : Tree) (unmarked : Unmarked d) (size : length (text_bytes d) ≤ lim.input) where
    pub tree_as_text : TreeWithin lim classes d → read_text lim classes (text_bytes d) ≡ Ok d
    tree_as_text within = text_read_back lim classes loaded d within unmarked size

    pub file_as_text : (bytes : List ℕ) → read_document_file lim classes bytes ≡ Ok d → read_text lim classes (text_bytes d) ≡ Ok d
    file_as_text bytes read = tree_as_text (document_within lim classes bytes d read).tree
