-- `put_row` meets its contract.
use Prim.Native.Nat.{◌+◌}
use native.Mathlib.Omega.{arith}
use mathlib.Core.Path.{◌≡◌}
use Rattle.writer.proofs.PutLaws.{put_join}
use Rattle.pages.proofs.LineLaws.{line_end}
use Rattle.pages.proofs.RowLaws.{row_put}
use Rattle.pages.proofs.lines.put_row.Goals as goal

pub put_byte-gap-requires : goal.put_byte-gap-requires
put_byte-gap-requires c =
    let a1 : c.put_line-typed.result ≡ c.args.at + 3 = line_end 3 _ _ c.put_line-typed.ensures in
    omega arith

pub put_line-named-requires : goal.put_line-named-requires
put_line-named-requires c =
    let a1 : c.put_line-typed.result ≡ c.args.at + 3 = line_end 3 _ _ c.put_line-typed.ensures in
    (omega arith, c.requires.1, omega arith)

pub put_byte-second-requires : goal.put_byte-second-requires
put_byte-second-requires c =
    let a1 : c.put_line-typed.result ≡ c.args.at + 3 = line_end 3 _ _ c.put_line-typed.ensures in
    let a3 : c.put_line-named.result ≡ c.put_byte-gap.result + 23 = line_end 23 _ _ c.put_line-named.ensures in
    omega arith

pub put_line-told-requires : goal.put_line-told-requires
put_line-told-requires c =
    let a1 : c.put_line-typed.result ≡ c.args.at + 3 = line_end 3 _ _ c.put_line-typed.ensures in
    let a3 : c.put_line-named.result ≡ c.put_byte-gap.result + 23 = line_end 23 _ _ c.put_line-named.ensures in
    (omega arith, c.requires.1, omega arith)

pub put_byte-requires : goal.put_byte-requires
put_byte-requires c =
    let a1 : c.put_line-typed.result ≡ c.args.at + 3 = line_end 3 _ _ c.put_line-typed.ensures in
    let a3 : c.put_line-named.result ≡ c.put_byte-gap.result + 23 = line_end 23 _ _ c.put_line-named.ensures in
    let a5 : c.put_line-told.result ≡ c.put_byte-second.result + 44 = line_end 44 _ _ c.put_line-told.ensures in
    omega arith

pub returns : goal.returns
returns c =
    let a = c.put_line-typed.ensures in
    let b = c.put_byte-gap.ensures in
    let d = c.put_line-named.ensures in
    let e = c.put_byte-second.ensures in
    let f = c.put_line-told.ensures in
    let g = c.put_byte.ensures in
    λ t w.
    row_put t c.args.i w.type.bytes_are w.name.bytes_are w.content.bytes_are
    (put_join (put_join (put_join (put_join (put_join a b) d) e) f) g)
