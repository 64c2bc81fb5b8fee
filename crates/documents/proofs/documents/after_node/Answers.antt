-- `documents::after_node` meets its contract: the innermost level has one node less to come, and the children are a level of their own.
use mathlib.Core.Path.{◌∙◌}
use Rattle.documents.proofs.OpenLevels.{node_opens, inner}
use Rattle.documents.proofs.documents.after_node.Goals as goal

pub returns : goal.returns
returns c =
    let coming = c.args.coming.now in
    record {
      stays = c.closed_depth.ensures.stays;
      levels_are = c.closed_depth.ensures.levels ∙ node_opens coming c.args.depth c.args.children c.requires.0 c.requires.1 (inner coming c.args.depth c.requires.0 c.requires.2);
    }
