-- `content_of_set` meets its contract.
use Rattle.contents.proofs.LoopLaws.{made_wide, made_kept, made_so}
use Rattle.reader.proofs.AnswerLaws.{handed_on}
use Rattle.contents.proofs.joining.content_of_set.Goals as goal

pub complete-requires : goal.complete-requires
complete-requires c = made_kept _ _ _ (c.gather_set.ensures c.requires.0) c.in_ok-gathered.was

pub returns-in_err-gathered : goal.returns-in_err-gathered
returns-in_err-gathered c =
    rw (handed_on c.from_residual.result c.from_residual.ensures)
    (λ q regular. made_wide _ _ _ (c.gather_set.ensures q) c.in_err-gathered.was _)

pub returns : goal.returns
returns c =
    λ q regular.
    made_so _ _ _ (c.complete.ensures (made_kept _ _ _ (c.gather_set.ensures q) c.in_ok-gathered.was)) regular
