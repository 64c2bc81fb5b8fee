-- `names::same_letter` meets its contract.
use Rattle.basis.proofs.LetterLaws.{letters_apart}
use Rattle.basis.proofs.names.same_letter.Goals as goal

pub returns-then-a-b-2 : goal.returns-then-a-b-2
returns-then-a-b-2 c = letters_apart _ _ c.if-a-b-2.true
