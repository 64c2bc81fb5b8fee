-- A document comes as a document file or as XML text. The caller says which; nothing is guessed from the bytes.
use Rattle.std.specs.Prelude.{ℕ, true, false, List, eqb, Result}
use Rattle.grammar.specs.Limits.{Limits}
use Rattle.grammar.specs.Names.{Classes}
use Rattle.grammar.specs.Tree.{Tree}
use Rattle.grammar.specs.declared.Refusal.{Refusal}
use Rattle.grammar.specs.ReadDocument.{read_document_file}
use Rattle.grammar.specs.ReadText.{read_text}
use Rattle.grammar.specs.declared.Format.{Format}
use Rattle.grammar.specs.declared.Format.TheVariants.{DocumentFile, XmlText}

unfoldable pub read_document : Limits → Classes → Format → List ℕ → Result Tree Refusal
unfolding read_document_file read_text
read_document lim classes DocumentFile bytes = read_document_file lim classes bytes
read_document lim classes XmlText bytes = read_text lim classes bytes

-- the format that a number stands for in calls from C: 1 XML text, any other a document file
unfoldable pub format_numbered : ℕ → Format
format_numbered n = elim (eqb n 1) [ true ↦ XmlText | false ↦ DocumentFile ]
