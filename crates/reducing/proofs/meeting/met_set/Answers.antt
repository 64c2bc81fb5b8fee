-- `met_set` meets its contract: a number is among others just where it is among each of them once.
use Prim.Native.Nat.{ℕ}
use mathlib.Core.Bool.{Bool}
use mathlib.Core.List.{List}
use mathlib.Core.Path.{◌∙◌, ap}
use Rattle.grammar.specs.Lists.{is_in}
use Rattle.sets.specs.Sets.{member}
use Rattle.union.specs.PairNumbers.{met_in}
use Rattle.reducing.proofs.MeetingLaws.{distinct_in}
use Rattle.reducing.proofs.meeting.met_set.Goals as goal

pub returns : goal.returns
returns c = (
  λ u x l.
      c.set_of.ensures.0
      ∙ ap {B = ℕ → Bool} (λ (list : List ℕ) (p : ℕ). is_in p list) (c.met_in_set.ensures.0 u x l)
      ∙ distinct_in (met_in u (member c.args.set.words 0)),
  c.set_of.ensures.1,
)
