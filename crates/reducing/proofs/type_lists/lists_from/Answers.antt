-- `lists_from` meets its contract. The loop's invariant: the lists of the types before `k` are laid down.
use Prim.Native.Nat.{ℕ}
use native.Mathlib.Omega.{arith}
use mathlib.Core.Path.{◌≡◌, refl, subst}
use Rattle.sets.specs.Sets.{member}
use Rattle.reducing.proofs.ListingLaws.{Filling, filling_start, filling_earlier, filling_next, filling_end}
use Rattle.reducing.proofs.type_lists.lists_from.Goals as goal

pub loop-k-init : goal.loop-k-init
loop-k-init c = filling_start c.args.v (member c.args.known.words 0) c.args.base

pub append_pairs-count-requires : goal.append_pairs-count-requires
append_pairs-count-requires c =
    let f = c.loop-k.invariant in
    (c.requires.0, f.all.filled, filling_earlier c.args.v (member c.args.known.words 0) c.args.base f)

pub loop-k-preserved : goal.loop-k-preserved
loop-k-preserved c =
    let f = c.loop-k.invariant in
    filling_next c.args.v (member c.args.known.words 0) c.args.base f _ _ _ c.loop-k-test.true c.append_pairs-count.ensures
    c.append_pairs-count.auto.numbers
    refl

pub returns : goal.returns
returns c =
    let known = member c.args.known.words 0 in
    let e : c.loop-k.k ≡ 128 = omega arith in
    filling_end c.args.v known c.args.base
    (subst (λ (n : ℕ). Filling c.args.v known c.args.base c.loop-k.from c.loop-k.numbers c.loop-k.count n) e c.loop-k.invariant)
