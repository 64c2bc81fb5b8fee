-- `rules::for_text` meets its contract: a rule's tag stands five bytes before its content.
use Prim.Native.Nat.{◌-◌}
use native.Mathlib.Omega.{arith}
use mathlib.Core.Path.{◌∙◌, ap}
use lib.Dec.{eqb}
use lib.ListN.{get_or}
use Rattle.reader.proofs.TableIndexLaws.{rule_at, text_at}
use Rattle.reader.proofs.rules.for_text.Goals as goal

pub overflow_sub-result : goal.overflow_sub-result
overflow_sub-result c =
    let x = c.requires.0.indexes in
    let (r, at, w) = rule_at x c.args.rule c.requires.1 in
    omega (arith, (text_at x c.args.rule r at).0, c.content_from-from.ensures)

pub bounds-table-from : goal.bounds-table-from
bounds-table-from c =
    let x = c.requires.0.indexes in
    let (r, at, w) = rule_at x c.args.rule c.requires.1 in
    omega (arith, (text_at x c.args.rule r at).1, c.content_from-from.ensures)

pub returns : goal.returns
returns c =
    λ g q x at.
    ap (λ n. eqb (get_or c.args.table.now (n - 5) 0) 0x13) c.content_from-from.ensures
    ∙ (text_at x c.args.rule q at).2
