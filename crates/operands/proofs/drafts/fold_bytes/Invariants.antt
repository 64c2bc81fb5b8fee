-- `fold_bytes` meets its contract. The loop's invariant: the rest folded from the number reached is what all are folded into.
use Prim.Native.Nat.{◌-◌, ◌<◌}
use mathlib.Core.Path.{◌≡◌}
use lib.ListN.{take, drop}
use Rattle.operands.specs.Notes.{folded}
use Rattle.operands.proofs.drafts.fold_bytes.Given as goal

abbrev pub invariant-loop-byte : goal.invariant-loop-byte
invariant-loop-byte l =
    let bytes = take (l.to - l.from) (drop l.from l.draft) in
    (l.print < 65536) × (folded l.print (drop l.byte-index bytes) ≡ folded 0 bytes)
