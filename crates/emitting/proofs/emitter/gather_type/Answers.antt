-- `gather_type` meets its contract: the result types of the type are those of its part of the list.
use mathlib.Core.Path.{refl}
use Rattle.operands.proofs.GatherLaws.{with_as, types_of}
use Rattle.emitting.proofs.emitter.gather_type.Goals as goal

pub returns : goal.returns
returns c =
    λ q s.
    with_as _ _ _ refl (types_of c.args.from.now c.args.results.now c.args.k _ _ c.from_or_zero-first.ensures c.from_or_zero-stop.ensures)
    (c.gather_types.ensures q s)
