-- `put_decimal` meets its contract. The measure is the number.
use native.Mathlib.Omega.{arith}
use mathlib.Core.Path.{sym, ap}
use lib.ListN.{length}
use Rattle.writer.proofs.PutLaws.{put_join}
use Rattle.lister_lines.proofs.DecimalLaws.{decimal_one, decimal_more, more_size}
use Rattle.lister_lines.proofs.PrintSteps.{put_as}
use Rattle.lister_lines.proofs.pieces.+put_decimal.Goals as goal

pub put_byte-requires : goal.put_byte-requires
put_byte-requires t c =
    let l = ap length (decimal_one c.args.k c.if-k-lt10.true) in
    omega arith

pub returns-then-k-lt10 : goal.returns-then-k-lt10
returns-then-k-lt10 t c = put_as (sym (decimal_one c.args.k c.if-k-lt10.true)) c.put_byte.ensures

pub put_decimal-last-requires : goal.put_decimal-last-requires
put_decimal-last-requires t c =
    let l = c.if-k-lt10.false in
    let n = more_size c.args.k l in
    (omega arith, omega arith)

pub put_byte-requires-2 : goal.put_byte-requires-2
put_byte-requires-2 t c =
    let n = more_size c.args.k c.if-k-lt10.false in
    omega arith

pub returns : goal.returns
returns t c =
    put_as (sym (decimal_more c.args.k c.if-k-lt10.false)) (put_join c.put_decimal-last.ensures c.put_byte-2.ensures)
