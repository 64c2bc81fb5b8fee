-- `put_line` meets its contract: the bytes of the line, and the spaces behind them.
use native.Mathlib.Omega.{arith}
use mathlib.Core.Path.{refl}
use Rattle.lister_lines.proofs.PrintSteps.{put_as}
use Rattle.pages.proofs.LineLaws.{product_small, piece_is, line_filled}
use Rattle.pages.proofs.lines.put_line.Goals as goal

pub overflow_mul-i : goal.overflow_mul-i
overflow_mul-i c = omega (arith, product_small c.args.i c.args.width c.requires.1 c.requires.0)

pub returns : goal.returns
returns c =
    line_filled c.args.width c.args.text.now c.args.i c.requires.2
    (put_as (piece_is c.args.width c.args.text.now c.args.i c.min-from.ensures c.min-to.ensures) c.put_bytes-behind.ensures)
    (c.fill.ensures.after (λ y e. e)) refl
