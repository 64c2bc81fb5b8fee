-- `blanks_after` meets its contract.
use mathlib.Core.Path.{refl}
use Rattle.grammar.specs.Pages.{blanks_after}
use Rattle.pages.proofs.sheets.blanks_after.Goals as goal

pub returns : goal.returns
unfolding blanks_after
returns c = refl
