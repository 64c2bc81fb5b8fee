use Prim.Native.Nat.{◌/◌, ◌<◌}
use native.Mathlib.Omega.{arith}
use mathlib.Core.Bool.{Bool, ◌&&◌}
use mathlib.Core.Path.{sym, ◌∙◌, ap}
use Rattle.sets.proofs.SetLaws.{member-words}
use Rattle.walks.specs.TypeSets.{set_at}
use Rattle.walks.proofs.matching.allowed.Goals as goal

pub returns-then-incoming : goal.returns-then-incoming
returns-then-incoming c =
    let small : c.args.k / 32 < 4 = omega arith in
    c.has.ensures
    ∙ sym (member-words c.args.words.now c.args.base 4 c.args.k small)
    ∙ sym (ap (λ (b : Bool). b && set_at c.args.words.now c.args.base c.args.k) c.if-incoming.true)
