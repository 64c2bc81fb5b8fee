-- `fruitful_lists` meets its contract: the known pairs of a type are its fruitful pairs.
use native.Mathlib.Omega.{arith}
use Rattle.sets.specs.Sets.{member}
use Rattle.union.specs.PairNumbers.{fruitful_of}
use Rattle.reducing.specs.PairsListed.{pairs_in}
use Rattle.reducing.proofs.ListingLaws.{lists_both, pairs_fruitful}
use Prim.Native.Nat.{ℕ, ◌+◌}
use mathlib.Core.List.{List}
use mathlib.Core.Path.{◌≡◌, ◌∙◌, ap}
use Rattle.reducing.proofs.type_lists.fruitful_lists.Goals as goal

pub returns : goal.returns
returns c =
    λ old add u x e.
    let known = member c.load-known.result.words 0 in
    let is = ap (λ (w : List ℕ). member w 0) c.load-known.ensures ∙ e in
    lists_both (fruitful_of u) (λ k. pairs_in c.args.v known (0 + k)) (λ k. pairs_in c.args.v known (128 + k)) _ _
    c.lists_from-old.ensures
    c.lists_from-addition.ensures
    (λ k. let z : 0 + k ≡ k = omega arith in pairs_fruitful x known is (0 + k) ∙ ap (fruitful_of u) z)
    (λ k. pairs_fruitful x known is (128 + k))
