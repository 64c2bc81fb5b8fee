-- Places chained by their keys, from the last to the first: the chains from a place on (`ChainFrom`), and where there is none yet
-- (`chain_none`). Where keys are the same by another name, they are keys as well (`keyed_as`).
use Prim.Native.Nat.{ℕ, ◌+◌, ◌≤◌, ◌<◌}
use native.Mathlib.Omega.{arith}
use mathlib.Core.List.{List}
use mathlib.Core.Path.{◌≡◌, sym, subst}
use lib.ListN.{length, get_or, replicate, length-replicate, get_or-replicate}
use Rattle.labels.specs.Chains.{Keyed, PlaceFrom}

-- the places from `from` on are chained
pub record ChainFrom (key : ℕ → ℕ) (count from : ℕ) (next : List ℕ) : Type 0 where
  pub within : from ≤ count
  pub after : (i : ℕ) → from ≤ i → i < count → PlaceFrom key count (key i) (i + 1) (get_or next i 0)
  pub first : (k : ℕ) → k ≤ 128 → PlaceFrom key count k from (get_or next (128 + k) 0)
  pub room : length next ≡ 257

module _ {key : ℕ → ℕ} {count : ℕ} where
  pub chain_none : ChainFrom key count count (replicate 257 count)
  chain_none =
      record {
        within = omega arith;
        after = λ i l h. absurd (omega arith);
        first =
            λ k h.
            subst (PlaceFrom key count k count) (sym (get_or-replicate 257 (128 + k) count 0 (omega arith)))
            (record {
              onward = omega arith;
              within = omega arith;
              passed = λ j l m e. absurd (omega arith);
              found = λ b. absurd (omega arith);
            });
        room = length-replicate 257 count;
      }

-- the same keys by another name, for as many places by another name
module _ {key other : ℕ → ℕ} {count number : ℕ} (counted : number ≡ count) (same : (i : ℕ) → i < count → other i ≡ key i) where
  pub keyed_as : Keyed key count → Keyed other number
  keyed_as x =
      record {
        few = let few = x.few in omega arith;
        small = λ i h. let b : i < count = omega arith in let e = same i b in let small = x.small i b in omega arith;
      }
