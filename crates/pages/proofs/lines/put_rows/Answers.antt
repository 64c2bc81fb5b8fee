-- `put_rows` meets its contract. The loop's invariant: the rows before `i` are written.
use Prim.Native.Nat.{ℕ}
use native.Mathlib.Omega.{arith}
use mathlib.Core.Path.{◌≡◌, refl, subst}
use Rattle.grammar.specs.Lists.{joined_of, numbers_below}
use Rattle.grammar.specs.Pages.{page_layout, row_of}
use Rattle.writer.specs.Writing.{Put}
use Rattle.writer.proofs.PutLaws.{put_none}
use Rattle.pages.proofs.RowLaws.{row_long, rows_next}
use Rattle.pages.proofs.lines.put_rows.Goals as goal

pub loop-i-init : goal.loop-i-init
unfolding joined_of numbers_below
loop-i-init c = (refl, omega arith, λ t w. put_none c.args.out.now c.args.at (omega arith))

pub loop-i-preserved : goal.loop-i-preserved
loop-i-preserved c =
    let n = (c.put_row-end.ensures c.requires.0.texts_are c.requires.0.stand).next_is in
    let size = row_long c.requires.0.texts_are c.loop-i.i in (
      omega arith,
      omega arith,
      λ t w. rows_next t c.loop-i.i (c.loop-i.invariant.2 t w) (c.put_row-end.ensures t w),
    )

pub returns : goal.returns
returns c =
    let e : c.loop-i.i ≡ c.args.rows = omega arith in
    λ t w.
    subst (λ (n : ℕ). Put c.args.out.now c.args.at (joined_of (row_of page_layout t) (numbers_below n)) c.loop-i.out c.loop-i.end) e (c.loop-i.invariant.2 t w)
