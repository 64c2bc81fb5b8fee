-- `set_of` meets its contract.
use Prim.Native.Nat.{ℕ, ◌-◌}
use native.Mathlib.Omega.{arith}
use mathlib.Core.List.{List}
use mathlib.Core.Path.{◌≡◌, ◌∙◌, ap}
use lib.ListN.{take}
use Rattle.grammar.specs.Lists.{is_in}
use Rattle.sets.specs.Sets.{member, in_either}
use Rattle.sets.proofs.SetLaws.{member_zeros}
use Rattle.reducing.proofs.NumberLaws.{both_nothing}
use Rattle.reducing.proofs.meeting.set_of.Goals as goal

pub returns : goal.returns
returns c =
    let nothing_yet = ap (λ (w : List ℕ). member w 0) c.empty.ensures ∙ member_zeros 8 0 in
    let z : c.args.found.count - 0 ≡ c.args.found.count = omega arith in (
      c.with_part.ensures.0
          ∙ ap (λ (n : ℕ). in_either (λ p. is_in p (take n c.args.found.numbers)) (member c.empty.result.words 0)) z
          ∙ ap (in_either (λ p. is_in p (take c.args.found.count c.args.found.numbers))) nothing_yet
          ∙ both_nothing (λ p. is_in p (take c.args.found.count c.args.found.numbers)),
      c.with_part.ensures.1,
    )
