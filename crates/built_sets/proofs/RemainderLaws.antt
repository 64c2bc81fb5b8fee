-- Remainders of a list by 128: `remainders_below` (they are below 128), `remainder_at` (one by one), `putting` (put into a set).
use Prim.Native.Nat.{ℕ, ◌+◌, ◌%◌, ◌≤◌, ◌<◌}
use mathlib.Core.Bool.{Bool, true, false, ◌||◌, false≢true}
use mathlib.Core.List.{List, [], ◌∷◌}
use mathlib.Core.Path.{◌≡◌, refl, sym, ap, ◌∙◌}
use native.Mathlib.Omega.{arith}
use lib.Dec.{eqb}
use lib.ListN.{length, get_or, take, length-map, get_or-map}
use lib.Seq.{take_all}
use borrow.Author.Tests.{eqb-true}
use Rattle.grammar.specs.Lists.{any_pass, is_in}
use Rattle.sets.specs.Sets.{put_at, put_all, AllBelow}
use Rattle.sets.proofs.BuiltSets.{put_all_next}
use Rattle.built_sets.specs.Remainders.{remainders}

pub remainders_below : (numbers : List ℕ) → AllBelow 128 (remainders numbers)
unfolding remainders is_in any_pass
remainders_below [] k h = absurd (false≢true h)
remainders_below (n ∷ ns) k h = go (eqb k (n % 128)) refl (remainders_below ns k)
  where
    go : (b : Bool) → eqb k (n % 128) ≡ b → (is_in k (remainders ns) ≡ true → k < 128) → k < 128
    go true e rest = let same = eqb-true k (n % 128) e in omega arith
    go false e rest = rest (sym (ap (λ (b : Bool). b || is_in k (remainders ns)) e) ∙ h)

pub length-remainders : (numbers : List ℕ) → length (remainders numbers) ≡ length numbers
unfolding remainders
length-remainders numbers = length-map numbers (λ n. n % 128)

pub remainder_at : (numbers : List ℕ) (i : ℕ) → get_or (remainders numbers) i 0 ≡ get_or numbers i 0 % 128
unfolding remainders
remainder_at numbers i = get_or-map (λ (n : ℕ). n % 128) numbers i 0

-- putting the remainders in, one after the other
module _ (words : List ℕ) (base : ℕ) (numbers : List ℕ) (i : ℕ) where
  pub remainder_put : i < length numbers
      → put_all words base (take (i + 1) (remainders numbers)) ≡ put_at (put_all words base (take i (remainders numbers))) base (get_or numbers i 0 % 128)
  remainder_put h =
      put_all_next words base (remainders numbers) i (rw length-remainders h) ∙ ap (put_at (put_all words base (take i (remainders numbers))) base) (remainder_at numbers i)

  pub remainders_put : length numbers ≤ i → put_all words base (take i (remainders numbers)) ≡ put_all words base (remainders numbers)
  remainders_put h = ap (put_all words base) (take_all i (remainders numbers) (rw length-remainders h))

-- both, for a loop that puts them in
pub ruleset putting = (remainder_put, remainders_put)
