use Rattle.std.proofs.Common.{rules}
use mathlib.Core.Path.{sym}
use Rattle.labels.specs.LabelKeys.{name_key}
use Rattle.labels.proofs.LabelKeyLaws.{key_empty}
use Rattle.labels.proofs.label_search.name_key.Goals as goal

pub returns-then-size-eq0 : goal.returns-then-size-eq0
returns-then-size-eq0 c = sym (key_empty _ c.if-size-eq0.true)

pub returns : goal.returns
unfolding name_key
returns c = search rules
