-- `content_has` and `row_has` meet their contracts. The measure of a content is twice the bytes from its place on, that of a row one
-- more: every call goes on past a byte, but the one for the first of a row. Each return is a law of ProductiveLaws.
use Prim.Native.Nat.{◌+◌, ◌-◌, ◌*◌}
use lib.ListN.{length}
use Rattle.union.proofs.productive.+content_has_row_has.Given as goal

abbrev pub decreases-content_has : goal.decreases-content_has
decreases-content_has l = 2 * (length l.content.now - l.at)

abbrev pub decreases-row_has : goal.decreases-row_has
decreases-row_has l = 2 * (length l.content.now - l.at) + 1
