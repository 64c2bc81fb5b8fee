-- `gather_empty` meets its contract: the byte after the operands is the empty content.
use Prim.Native.Nat.{ℕ, ◌+◌, ◌<◌}
use native.Mathlib.Omega.{arith}
use mathlib.Core.List.{List, [], ◌∷◌}
use mathlib.Core.Option.{some as just}
use mathlib.Core.Path.{◌≡◌}
use lib.ListN.{length, take, set, length-set}
use lib.Seq.{take-set-le, get_or-set_same}
use Rattle.grammar.specs.Content.{empty}
use Rattle.theory.specs.Alternatives.{gathered}
use Rattle.reader.specs.ExprAt.{◌up_to◌, expr_at}
use Rattle.reader.proofs.ExprLaws.{operator_empty}
use Rattle.operands.specs.declared.drafts.OperandRow.{OperandRow}
use Rattle.operands.specs.Drafts.{Kept, Newest}
use Rattle.operands.proofs.FinishLaws.{alone_stands}
use Rattle.operands.proofs.GatherLaws.{newest_of, with_from}
use Rattle.emitting.proofs.emitter.gather_empty.Goals as goal

module _ (d : List ℕ) (row : OperandRow) (h : row.end < length d) where
  same-before : take row.end (set d row.end 1) ≡ take row.end d
  same-before = take-set-le row.end d row.end 1 (omega arith)

  empty_stands : expr_at (set d row.end 1) row.end ≡ just (empty up_to (row.end + 1))
  empty_stands =
      let l = length-set d row.end 1 in
      alone_stands (set d row.end 1) row.end 1 empty (omega arith) (get_or-set_same d row.end 1 0 h) operator_empty

  abbrev newest : Kept d row.base row.count row.end → Newest (set d row.end 1) row (row.end + 1)
  newest k = newest_of d (set d row.end 1) row (row.end + 1) empty same-before (length-set d row.end 1) k empty_stands

pub settle-requires : goal.settle-requires
settle-requires c = ((newest _ _ (omega arith) c.requires.0.kept, c.requires.1), c.requires.0.fits, c.requires.0.small)

pub returns : goal.returns
returns c =
    λ q m.
    let room = q.room in
    let fits = q.fits in
    let h : c.args.row.end < length c.args.draft.now = omega arith in
    with_from (gathered q.kept.list (empty ∷ [])) (same-before c.args.draft.now c.args.row h)
    (c.settle.ensures (newest c.args.draft.now c.args.row h q.kept) m)
