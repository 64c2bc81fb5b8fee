use mathlib.Core.Path.{refl}
use Rattle.node_types.proofs.StackLaws.{copied}
use Rattle.node_types.proofs.membership.bring.Goals as goal

pub returns-then-from-to : goal.returns-then-from-to
returns-then-from-to c = copied c.args.words.now c.args.from c.args.to (c.requires.1 c.if-from-to.true) c.requires.2 _ refl
