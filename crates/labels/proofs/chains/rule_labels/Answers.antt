use native.Mathlib.Omega.{arith}
use mathlib.Core.Path.{◌≡◌}
use lib.ListN.{length-set}
use Rattle.theory.proofs.Lists.ListLaws.{set_up_to}
use Rattle.reader.specs.TableIndex.{rule_label}
use Rattle.labels.proofs.chains.rule_labels.Goals as goal

pub loop-i-preserved : goal.loop-i-preserved
loop-i-preserved c = (
  set_up_to _ _ _ (omega arith) (λ j y. y ≡ rule_label c.args.index.now j) c.loop-i.invariant.0 c.rule_label.ensures,
  omega (arith, length-set c.loop-i.labels c.loop-i.i c.rule_label.result),
)
