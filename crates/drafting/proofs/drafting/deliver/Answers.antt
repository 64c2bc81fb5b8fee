-- `deliver` meets its contract: the refusal, too little room, or the bytes copied.
use Prim.Native.Nat.{ℕ}
use mathlib.Core.List.{List, ◌++◌}
use mathlib.Core.Path.{ap}
use lib.ListN.{drop}
use Rattle.reader.proofs.AnswerLaws.{handed_on}
use Rattle.drafting.proofs.DraftLaws as laws
use Rattle.drafting.proofs.drafting.deliver.Goals as goal

pub returns-then-out-n : goal.returns-then-out-n
returns-then-out-n c = λ o i. laws.no_room o c.args.draft.now c.args.out.now c.args.made i _ c.in_ok-n.was c.if-out-n.true

pub returns-in_err-n : goal.returns-in_err-n
returns-in_err-n c =
    λ o i.
    rw (handed_on c.from_residual.result c.from_residual.ensures) (laws.hands_refusal o c.args.draft.now c.args.out.now c.args.made i _ c.in_err-n.was)

pub returns : goal.returns
returns c =
    λ o i.
    laws.handed o c.args.draft.now c.args.out.now c.args.made i _ c.in_ok-n.was c.if-out-n.false _
    (ap (λ (l : List ℕ). l ++ drop c.in_ok-n.n c.args.out.now) c.copy_from_slice.ensures.after)
