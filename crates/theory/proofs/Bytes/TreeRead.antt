-- The tree of a document that is read, in either format, is within the limits of trees.
use Prim.Native.Nat.{ℕ}
use mathlib.Core.List.{List}
use mathlib.Core.Path.{◌≡◌}
use Rattle.grammar.specs.Limits.{Limits}
use Rattle.grammar.specs.Names.{Classes}
use Rattle.grammar.specs.Tree.{Tree}
use Rattle.std.specs.Prelude.{Ok}
use Rattle.grammar.specs.Documents.{read_document}
use Rattle.grammar.specs.WithinLimits.{TreeWithin}
use Rattle.grammar.specs.declared.Format.{Format}
use Rattle.grammar.specs.declared.Format.TheVariants.{DocumentFile, XmlText}
use Rattle.theory.proofs.Bytes.DocumentWithin.{document_within}
use Rattle.theory.proofs.Bytes.TextWithin.{text_kept}

pub tree_within : (lim : Limits) (classes : Classes) (format : Format) (bytes : List ℕ) (d : Tree)
    → read_document lim classes format bytes ≡ Ok d → TreeWithin lim classes d
unfolding read_document
tree_within lim classes DocumentFile bytes d e = (document_within lim classes bytes d e).tree
tree_within lim classes XmlText bytes d e = (text_kept lim classes bytes d e).within
