-- `has` reads the bit that membership names.
use mathlib.Core.Path.{refl}
use Rattle.sets.specs.Sets.{member}
use Rattle.sets.proofs.words.has.Goals as goal

pub returns : goal.returns
unfolding member
returns c = refl
