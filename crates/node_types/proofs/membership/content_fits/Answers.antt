use Prim.Native.Nat.{ℕ}
use mathlib.Core.Path.{sym, ◌∙◌, ap}
use Rattle.walks.specs.TypeSets.{tests_at}
use Rattle.walks.specs.WalkAt.{run_at}
use Rattle.node_types.proofs.membership.content_fits.Goals as goal

pub returns-then-count-eq0 : goal.returns-then-count-eq0
unfolding tests_at
returns-then-count-eq0 c =
    c.requires.3 ∙ sym (ap (λ (n : ℕ). run_at c.args.content.now (tests_at c.args.words.now c.args.top n)) c.if-count-eq0.true)
