-- Lists from a place on: a part that begins there, and the first elements apart.
use Prim.Native.Nat.{ℕ, ◌+◌, ◌-◌, ◌≤◌, ◌<◌}
use native.Mathlib.Numerals.{add-one}
use native.Mathlib.Omega.{arith}
use mathlib.Core.List.{List, ◌∷◌}
use mathlib.Core.Path.{◌≡◌, ◌∙◌, ap}
use lib.ListN.{length, get_or, take, drop}
use lib.Seq.{drop-cons, take-add, drop_at, length-take-le, slice}

-- the part of a list that begins at a place, by its length
pub slice_part : {A : Type 0} (f n : ℕ) (l : List A) → f ≤ length l → slice f (f + n) l ≡ take n (drop f l)
slice_part f n l h = ap (drop f) (take-add f n l) ∙ drop_at (take f l) (take n (drop f l)) f (length-take-le f l h)

pub slice_taken : {A : Type 0} (f t : ℕ) (l : List A) → f ≤ t → t ≤ length l → slice f t l ≡ take (t - f) (drop f l)
slice_taken f t l p q =
    let whole : t ≡ f + (t - f) = omega arith in
    ap (λ (k : ℕ). slice f k l) whole ∙ slice_part f (t - f) l (omega arith)

-- the bytes from a place on, the first of them apart
pub from_place : (s : List ℕ) (at : ℕ) → at < length s → drop at s ≡ get_or s at 0 ∷ drop (at + 1) s
from_place s at h = rw add-one (drop-cons s at 0 h)

pub from_place_two : (s : List ℕ) (at : ℕ) → at + 1 < length s → drop at s ≡ get_or s at 0 ∷ get_or s (at + 1) 0 ∷ drop (at + 2) s
from_place_two s at h =
    let two : at + 1 + 1 ≡ at + 2 = omega arith in
    from_place s at (omega arith)
    ∙ ap (λ (l : List ℕ). get_or s at 0 ∷ l) (from_place s (at + 1) h ∙ ap (λ (n : ℕ). get_or s (at + 1) 0 ∷ drop n s) two)
