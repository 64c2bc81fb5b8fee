-- `renumbered` meets its contract.
use Prim.Native.Nat.{◌<◌}
use native.Mathlib.Omega.{arith}
use mathlib.Core.Path.{◌≡◌}
use lib.ListN.{length, get_or}
use borrow.Author.Rules.{rules}
use Rattle.std.proofs.lemmas.Grind.{common_steps}
use Rattle.std.proofs.lemmas.List.Edits.{map_over_more}
use Rattle.forms.proofs.set_numbers.renumbered.Goals as goal

pub loop-n-preserved : goal.loop-n-preserved
loop-n-preserved c =
    let i = c.loop-n.n-index in
    let before = c.args.lists.numbers in
    let now = c.loop-n.n-items in
    let long : length before ≡ 256 = search rules in
    let below : i < 256 = search rules in
    let x : c.from.result ≡ get_or now i c.from.result = grind (arith, common_steps) in
    map_over_more (λ p. get_or c.args.numbers.of p 0) before now i c.from.result (omega arith) c.loop-n.invariant x
