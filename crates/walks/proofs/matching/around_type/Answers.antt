use Prim.Native.Nat.{◌+◌}
use mathlib.Core.Path.{sym, ◌∙◌, ap}
use Rattle.grammar.specs.Limits.{large}
use Rattle.theory.specs.MarkedWalk.{Walked, is_marked}
use Rattle.reader.proofs.ContentAtLaws.{type_there, operand_there}
use Rattle.walks.specs.WalkAt.{walked}
use Rattle.walks.proofs.WalkLaws as laws
use Rattle.walks.proofs.matching.around_type.Goals as goal

pub typed-part-requires : goal.typed-part-requires
unfolding large
typed-part-requires c =
    let there = type_there large c.args.content.now (c.args.at + 1) (operand_there large _ _ c.requires.0 c.requires.1.operator) c.requires.1.type in
    (there.0, there.1, c.requires.2)

pub returns : goal.returns
unfolding is_marked
returns c =
    let operand = operand_there large c.args.content.now c.args.at c.requires.0 c.requires.1.operator in
    c.sealed.ensures
    ∙ laws.walk_around_type large _ _ c.requires.0 _ _ _ (walked c.typed-part.new.marks c.typed-part.result)
    (ap (λ (w : Walked). w.nullable) c.typed-part.ensures) c.requires.1.operator (laws.operator_small c.requires.0)
    (c.typed-part.ensures ∙ sym (laws.walk_type large _ _ operand _ _ _ c.requires.1.type))
