-- `put_content` and `put_row` meet their contracts. The measure of a content is twice the bytes from its place on, that of a row one
-- more: every call goes on past a byte, but the one for the first of a row. Each return is a law of PrintSteps.
use Prim.Native.Nat.{◌+◌, ◌-◌, ◌*◌}
use lib.ListN.{length}
use Rattle.lister_lines.proofs.content_text.+put_content_put_row.Given as goal

abbrev pub decreases-put_content : goal.decreases-put_content
decreases-put_content l = 2 * (length l.content.now - l.at)

abbrev pub decreases-put_row : goal.decreases-put_row
decreases-put_row l = 2 * (length l.content.now - l.at) + 1
