-- `is_listed` meets its contract: a list is empty where the next begins at its own place.
use Rattle.reducing.proofs.ListingLaws.{listed_old, listed_added}
use Rattle.reducing.proofs.type_lists.is_listed.Goals as goal

pub returns-then-k-lt128 : goal.returns-then-k-lt128
returns-then-k-lt128 c = λ of x. listed_old x _ c.if-k-lt128.true

pub returns : goal.returns
returns c = λ of x. listed_added x _ c.if-k-lt128.false c.requires
