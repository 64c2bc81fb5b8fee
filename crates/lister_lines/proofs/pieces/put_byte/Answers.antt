-- `put_byte` meets its contract.
use native.Mathlib.Omega.{arith}
use Rattle.writer.proofs.PutLaws.{put_one}
use Rattle.lister_lines.proofs.pieces.put_byte.Goals as goal

pub returns : goal.returns
returns c = put_one c.args.text.now c.args.at c.args.byte (omega arith)
