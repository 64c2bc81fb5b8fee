-- `met` and `met_row` meet their contracts. The measure of a content is twice the bytes from its place on, that of a row one more:
-- every call goes on past a byte, but the one for the first of a row. Each return is a law of MetLaws.
use Prim.Native.Nat.{◌+◌, ◌-◌, ◌*◌}
use lib.ListN.{length}
use Rattle.union.proofs.met.+met_met_row.Given as goal

abbrev pub decreases-met : goal.decreases-met
decreases-met l = 2 * (length l.content.now - l.at)

abbrev pub decreases-met_row : goal.decreases-met_row
decreases-met_row l = 2 * (length l.content.now - l.at) + 1
