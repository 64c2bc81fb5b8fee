use Prim.Native.Nat.{ℕ, ◌+◌}
use native.Mathlib.Omega.{arith}
use mathlib.Core.List.{List}
use mathlib.Core.Path.{refl, sym, ◌∙◌, subst}
use lib.ListN.{length}
use Rattle.grammar.specs.Content.{types_in}
use Rattle.kinds.proofs.SeenTypes.{none_seen}
use Rattle.kinds.proofs.StandingTypes.{TypesLeft, left_start, left_type, left_count, left_alone, left_end}
use Rattle.kinds.proofs.kinds.content_types.Goals as goal

pub loop-at-init : goal.loop-at-init
loop-at-init c = (refl, λ d e. left_start _ d _ (none_seen _ (length c.args.words.now) c.clear.ensures) e)

pub bounds-content-at-in-2 : goal.bounds-content-at-in-2
bounds-content-at-in-2 c =
    (left_type _ _ _ c.loop-at.at (c.loop-at.invariant.1 c.requires.0.content c.requires.0.bytes_are) (omega arith) (omega arith)).0

pub loop-at-preserved-in-2 : goal.loop-at-preserved-in-2
loop-at-preserved-in-2 c = (
  c.put.auto.words ∙ c.loop-at.invariant.0,
  λ d e.
      subst
      (λ (l : List ℕ). TypesLeft c.args.content.now l (types_in d) (c.loop-at.at + 2))
      (sym c.put.ensures)
      ((left_type _ _ _ c.loop-at.at (c.loop-at.invariant.1 d e) (omega arith) (omega arith)).1 _ c.from-k.ensures (omega arith)),
)

pub loop-at-preserved-then-operator-lt5 : goal.loop-at-preserved-then-operator-lt5
loop-at-preserved-then-operator-lt5 c =
    (c.loop-at.invariant.0, λ d e. (left_count _ _ _ c.loop-at.at (c.loop-at.invariant.1 d e) (omega arith) (omega arith) (omega arith)).1)

pub returns : goal.returns
returns c = λ d e. left_end _ _ _ c.loop-at.at (c.loop-at.invariant.1 d e) (omega arith)

pub loop-at-preserved : goal.loop-at-preserved
loop-at-preserved c = (
  c.loop-at.invariant.0,
  λ d e. left_alone _ _ _ c.loop-at.at (c.loop-at.invariant.1 d e) (omega arith) (λ q. absurd (omega arith)) (λ p q. absurd (omega arith)),
)
