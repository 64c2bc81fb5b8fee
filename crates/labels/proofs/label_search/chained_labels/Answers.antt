use Rattle.labels.proofs.ChainLaws.{keyed_as}
use Rattle.labels.proofs.LabelKeyLaws.{labels_keyed}
use Rattle.labels.proofs.label_search.chained_labels.Goals as goal

pub chained-requires : goal.chained-requires
chained-requires c = keyed_as c.label_count.ensures c.label_keys-keys.ensures (labels_keyed c.requires.indexes)
