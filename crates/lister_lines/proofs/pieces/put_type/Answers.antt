-- `put_type` meets its contract.
use native.Mathlib.Omega.{arith}
use mathlib.Core.Path.{sym, ap}
use lib.ListN.{length}
use Rattle.theory.proofs.Bytes.ListedTexts.{type_is}
use Rattle.writer.proofs.PutLaws.{put_join}
use Rattle.lister_lines.proofs.PrintSteps.{put_as}
use Rattle.lister_lines.proofs.pieces.put_type.Goals as goal

pub put_byte-number-requires : goal.put_byte-number-requires
put_byte-number-requires c =
    let l = ap length (type_is c.args.k) in
    omega arith

pub put_decimal-requires : goal.put_decimal-requires
put_decimal-requires c =
    let l = ap length (type_is c.args.k) in
    omega arith

pub returns : goal.returns
returns c = put_as (sym (type_is c.args.k)) (put_join c.put_byte-number.ensures c.put_decimal.ensures)
