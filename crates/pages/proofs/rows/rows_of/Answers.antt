-- `rows_of` meets its contract.
use Prim.Native.Nat.{◌+◌, ◌-◌, ◌/◌, max}
use native.Mathlib.Omega.{arith}
use mathlib.Core.Path.{◌≡◌, ◌∙◌}
use Rattle.pages.proofs.RowLaws.{rows_counted}
use Rattle.pages.proofs.rows.rows_of.Goals as goal

pub returns : goal.returns
returns c =
    let p = c.args.places in
    let whole : c.max-2.result ≡ max ((p.name + 2) / 3) (max ((p.content - p.name + 22) / 23) ((p.end - p.content + 43) / 44)) = cc in
    record { by_index = λ texts t w. whole ∙ rows_counted texts p t w; few = omega arith }
