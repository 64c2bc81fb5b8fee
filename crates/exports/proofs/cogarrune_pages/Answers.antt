-- `cogarrune_pages` meets its contract.
use Prim.Native.Nat.{◌≤◌}
use mathlib.Core.Path.{ap, subst}
use Rattle.grammar.specs.LimitSets.{size_limits, size_numbered}
use Rattle.grammar.specs.declared.Size.{Size}
use Rattle.grammar.specs.Calls.{after}
use Rattle.grammar.specs.Answers.{written_numbers}
use Rattle.grammar.specs.Promises.{Paging}
use Rattle.theory.proofs.Theorems.SizedPromises.{paging_sized}
use Rattle.pages.specs.MostBytes.{most_bytes}
use Rattle.exports.proofs.Apart.{retold}
use Rattle.exports.proofs.Lengths.{most_below}
use Rattle.exports.proofs.cogarrune_pages.Goals as goal

pub returns : goal.returns
returns c =
    let both = let size = size_numbered c.args.size in
    let named = c.size_numbered.ensures in
    let promised = paging_sized (ap size_limits named) c.pages.ensures.paging in
    let most = subst (λ (s : Size). (written_numbers c.pages.result).value ≤ most_bytes s) named c.pages.ensures.most in
    retold
    (λ n. Paging (size_limits size) c.args.classes.now c.args.table.now c.args.out.now c.args.work.now (after n c.pages.new.out c.pages.new.work)
    × (n.value ≤ most_bytes size))
    (written_numbers c.pages.result) _ c.of_written.ensures (most_below size most) (promised, most) in record { paging = both.0; most = both.1 }
