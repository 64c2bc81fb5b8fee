-- `expression` and `operands` meet their contracts. The measure of an expression is twice the bytes from its place on, that of operands
-- one more: every call goes on past a byte, but the one for the first operand. Each return is a law of ExtentLaws.
use Prim.Native.Nat.{◌+◌, ◌-◌, ◌*◌}
use lib.ListN.{length}
use Rattle.reader.proofs.expressions.+expression_operands.Given as goal

abbrev pub decreases-expression : goal.decreases-expression
decreases-expression l = 2 * (length l.content.now - l.at)

abbrev pub decreases-operands : goal.decreases-operands
decreases-operands l = 2 * (length l.content.now - l.at) + 1
