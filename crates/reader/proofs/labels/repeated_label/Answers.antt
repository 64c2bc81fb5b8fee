-- `labels::repeated_label` meets its contract: a label has the name if the name's place is below the number of labels.
use Rattle.reader.proofs.LabelSearch.{found_among, index_names}
use Rattle.reader.proofs.labels.repeated_label.Goals as goal

pub name_place-requires : goal.name_place-requires
name_place-requires c =
    record { list = c.requires.indexed.table.labels; at = index_names c.requires.indexed.indexes c.label_count-labels.ensures }

pub returns : goal.returns
returns c =
    λ g x. let names = index_names x c.label_count-labels.ensures in found_among names _ c.name_place.result (c.name_place.ensures g.labels names)
