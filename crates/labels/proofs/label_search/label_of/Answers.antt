use native.Mathlib.Omega.{arith}
use mathlib.Core.Path.{◌∙◌}
use Rattle.reader.proofs.LabelSearch.{index_names, found_here, found_nowhere}
use Rattle.labels.proofs.LabelKeyLaws.{key_below, sought_first, sought_next}
use Rattle.labels.proofs.label_search.label_of.Goals as goal

pub bounds-by_key-key : goal.bounds-by_key-key
bounds-by_key-key c = omega (arith, key_below c.args.name.now, c.name_key.ensures, c.from-key.ensures)

pub loop-i-init : goal.loop-i-init
loop-i-init c = sought_first c.requires.1 (c.from-key.ensures ∙ c.name_key.ensures) c.from-i.ensures

pub returns-then-same_name : goal.returns-then-same_name
returns-then-same_name c =
    λ g x. found_here (index_names x c.label_count-labels.ensures) _ c.loop-i.i c.loop-i-test.true c.loop-i.invariant.passed cc

pub loop-i-preserved : goal.loop-i-preserved
loop-i-preserved c = sought_next c.requires.1 (omega arith) (cc) c.from-i-in-loop-i.ensures c.loop-i.invariant

pub returns : goal.returns
returns c =
    λ g x. found_nowhere (index_names x c.label_count-labels.ensures) _ (λ j h. c.loop-i.invariant.passed j (omega arith))
