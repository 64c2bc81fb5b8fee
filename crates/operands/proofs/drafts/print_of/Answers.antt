-- `print_of` meets its contract.
use native.Mathlib.Omega.{arith}
use Prim.Native.Nat.{◌+◌, ◌-◌}
use mathlib.Core.Path.{◌∙◌}
use lib.ListN.{drop}
use Rattle.operands.proofs.NoteLaws.{print_short, print_long}
use Rattle.operands.proofs.drafts.print_of.Goals as goal

pub returns-then-to-from-lt-PRINTED : goal.returns-then-to-from-lt-PRINTED
returns-then-to-from-lt-PRINTED c =
    c.fold_bytes.ensures ∙ print_short (drop c.args.from c.args.draft.now) (c.args.to - c.args.from) c.if-to-from-lt-PRINTED.true

pub returns : goal.returns
returns c =
    c.fold_bytes-2.ensures
    ∙ print_long (drop c.args.from c.args.draft.now) (c.args.from + 16 - c.args.from) (c.args.to - c.args.from) (omega arith) c.if-to-from-lt-PRINTED.false
