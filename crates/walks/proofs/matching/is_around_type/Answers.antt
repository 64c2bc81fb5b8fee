use Rattle.walks.proofs.WalkLaws.{at_below}
use Rattle.walks.proofs.matching.is_around_type.Goals as goal

pub bounds-content-at : goal.bounds-content-at
bounds-content-at c = at_below c.requires
