use Rattle.labels.proofs.ChainLaws.{chain_none}
use Rattle.labels.proofs.chains.chained.Goals as goal

pub loop-at-init : goal.loop-at-init
loop-at-init c = chain_none
