use Rattle.node_types.proofs.TypeLaws.{put_it}
use Rattle.node_types.proofs.membership.put_if.Goals as goal

pub returns-then-fits : goal.returns-then-fits
returns-then-fits c =
    put_it c.args.words.now _ c.args.base c.args.k c.requires.0 c.requires.1 c.args.fits c.if-fits.true c.put.ensures
