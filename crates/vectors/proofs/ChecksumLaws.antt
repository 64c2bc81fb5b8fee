-- The checksum is a fold.
use Prim.Native.Nat.{ℕ}
use mathlib.Core.List.{List, [], ◌∷◌}
use mathlib.Core.Path.{◌≡◌, refl}
use Rattle.std.specs.List.{fold}
use Rattle.vectors.specs.Checksum.{next, sum_from, checksum}

sum_fold : (sum : ℕ) (items : List ℕ) → fold next sum items ≡ sum_from sum items
unfolding sum_from
sum_fold sum [] = refl
sum_fold sum (item ∷ items) = sum_fold (next sum item) items

pub checksum_fold : (items : List ℕ) → fold next 17 items ≡ checksum items
unfolding checksum
checksum_fold items = sum_fold 17 items
