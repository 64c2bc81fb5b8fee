-- `fold_bytes` meets its contract. The loop's invariant: the rest folded from the number reached is what all are folded into.
use Prim.Native.Nat.{ℕ, ◌+◌, ◌-◌, ◌*◌, ◌%◌}
use native.Mathlib.Omega.{arith}
use mathlib.Core.Path.{sym, ◌∙◌, ap}
use lib.ListN.{take, drop}
use Rattle.operands.specs.Notes.{folded}
use Rattle.operands.proofs.NoteLaws.{fold_next, fold_done}
use Rattle.operands.proofs.drafts.fold_bytes.Goals as goal

pub loop-byte-preserved : goal.loop-byte-preserved
loop-byte-preserved c =
    let bytes = take (c.args.to - c.args.from) (drop c.args.from c.args.draft.now) in
    let i = c.loop-byte.byte-index in
    let h = c.loop-byte.print in (
      omega arith,
      ap (λ (b : ℕ). folded ((h * 31 + b) % 65536) (drop (i + 1) bytes)) c.from.ensures ∙ fold_next bytes i h c.loop-byte-test.true ∙ c.loop-byte.invariant.1,
    )

pub returns : goal.returns
returns c = sym (fold_done _ _ _ c.loop-byte-test.false) ∙ c.loop-byte.invariant.1
