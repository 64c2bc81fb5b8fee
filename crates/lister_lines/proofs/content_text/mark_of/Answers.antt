-- `mark_of` meets its contract: the marks are those of the definition.
use mathlib.Core.Path.{refl}
use Rattle.lister_lines.specs.Printing.{mark_of}
use Rattle.lister_lines.proofs.content_text.mark_of.Goals as goal

pub returns : goal.returns
unfolding mark_of
returns c = refl
