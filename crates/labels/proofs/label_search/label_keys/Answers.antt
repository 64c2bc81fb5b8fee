use native.Mathlib.Omega.{arith}
use mathlib.Core.Path.{◌≡◌, ◌∙◌, ap₂}
use lib.ListN.{length-set}
use Rattle.theory.proofs.Lists.ListLaws.{set_up_to}
use Rattle.reader.specs.TableIndex.{part}
use Rattle.labels.specs.LabelKeys.{name_key, label_key}
use Rattle.labels.proofs.label_search.label_keys.Goals as goal

pub loop-i-preserved : goal.loop-i-preserved
loop-i-preserved c = (
  set_up_to _ _ _ (omega arith) (λ j y. y ≡ label_key c.args.table.now c.args.index.now j) c.loop-i.invariant.0
      (c.name_key.ensures ∙ ap₂ (λ f t. name_key (part c.args.table.now f t)) c.label_from-from.ensures c.label_to-to.ensures),
  omega (arith, length-set c.loop-i.keys c.loop-i.i c.name_key.result),
)
