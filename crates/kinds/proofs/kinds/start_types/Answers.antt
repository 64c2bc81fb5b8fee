use Prim.Native.Nat.{ℕ, ◌+◌}
use native.Mathlib.Omega.{arith}
use mathlib.Core.List.{List}
use mathlib.Core.Path.{◌≡◌, refl, sym, ◌∙◌, ap, subst}
use lib.ListN.{length}
use Rattle.reader.specs.TableIndex.{start_count}
use Rattle.sets.specs.Sets.{put_at}
use Rattle.kinds.proofs.SeenTypes.{SeenBelow, none_seen, seen_first, seen_next, seen_starts}
use Rattle.kinds.proofs.kinds.start_types.Goals as goal

pub loop-i-init : goal.loop-i-init
loop-i-init c = (refl, seen_first _ c.args.index.now (none_seen _ (length c.args.words.now) c.clear.ensures))

pub loop-i-preserved : goal.loop-i-preserved
loop-i-preserved c =
    let index = c.args.index.now in
    let i = c.loop-i.i in
    let small = c.requires.0.start i (omega arith) in (
      c.put.auto.words ∙ c.loop-i.invariant.0,
      subst
          (λ (l : List ℕ). SeenBelow l index (i + 1))
          (sym (c.put.ensures ∙ ap (put_at c.loop-i.words 0) c.start_type-start.ensures))
          (seen_next c.loop-i.words index i c.loop-i.invariant.1 (omega (arith, small))),
    )

pub returns : goal.returns
returns c =
    let all : c.loop-i.i ≡ start_count c.args.index.now = omega arith in
    λ s g x. seen_starts x c.loop-i.words (subst (SeenBelow c.loop-i.words c.args.index.now) all c.loop-i.invariant.1)
