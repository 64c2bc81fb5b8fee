-- XML text read byte by byte: white space, names, and names compared byte for byte.
use Prim.Native.Nat.{ℕ, zero, suc, ◌+◌, ◌-◌, ◌≤◌, ◌<◌}
use native.Mathlib.Numerals.{add-one}
use native.Mathlib.Omega.{arith}
use mathlib.Core.Bool.{Bool, true, false, ◌&&◌}
use mathlib.Core.List.{List, [], ◌∷◌}
use mathlib.Core.Path.{◌≡◌, refl, sym, ◌∙◌, ap}
use lib.Dec.{eqb, leb, ltb}
use lib.ListN.{length, get_or, drop, drop_of_length-le}
use lib.Seq.{slice, slice_empty, slice-cons}
use borrow.Author.Tests.{ltb-true, ltb-false, leb-true, leb-false}
use Rattle.std.specs.Prelude.{nat_eq}
use Rattle.std.specs.Cmp.Lexicographic.{pointwise}
use Rattle.grammar.specs.Lists.{same_numbers}
use Rattle.grammar.specs.ReadText.{is_white, ends_name, past_white, name_front, past_name}
use Rattle.basis.proofs.FromPlaces.{from_place}
use Rattle.documents.specs.TextSteps.{NameEnd}

module _ (s : List ℕ) (i : ℕ) where
  pub white_next : i < length s → is_white (get_or s i 0) ≡ true → past_white (drop i s) ≡ past_white (drop (i + 1) s)
  unfolding past_white
  white_next h e = rw (from_place s i h, e, past_white)

  pub white_stop : i < length s → is_white (get_or s i 0) ≡ false → drop i s ≡ past_white (drop i s)
  unfolding past_white
  white_stop h e = rw (from_place s i h, e, past_white)

  pub white_end : length s ≤ i → drop i s ≡ past_white (drop i s)
  unfolding past_white
  white_end h = rw (drop_of_length-le s h)

-- the bytes from one place up to another are in a name
abbrev pub Inside : List ℕ → (from to : ℕ) → Type 0
Inside s from to = (j : ℕ) → from ≤ j → j < to → ends_name (get_or s j 0) ≡ false

-- at this place a name ends, or the text does
abbrev pub Ends : List ℕ → ℕ → Type 0
Ends s to = to < length s → ends_name (get_or s to 0) ≡ true

pub inside_next : (s : List ℕ) (from i : ℕ) → Inside s from i → ends_name (get_or s i 0) ≡ false → Inside s from (i + 1)
inside_next s from i inside e j p q = go (ltb j i) refl
  where
    go : (b : Bool) → ltb j i ≡ b → ends_name (get_or s j 0) ≡ false
    go true w = inside j p (ltb-true j i w)
    go false w =
        let h = ltb-false j i w in
        let same : j ≡ i = omega arith in
        ap (λ (k : ℕ). ends_name (get_or s k 0)) same ∙ e

module _ (s : List ℕ) (to : ℕ) (within : to ≤ length s) (ends : Ends s to) where
  here : (name_front (drop to s) ≡ []) × (past_name (drop to s) ≡ drop to s)
  unfolding name_front past_name
  here = go (leb (length s) to) refl
    where
      go : (b : Bool) → leb (length s) to ≡ b → (name_front (drop to s) ≡ []) × (past_name (drop to s) ≡ drop to s)
      go true e = let h = leb-true (length s) to e in (rw (drop_of_length-le s h), rw (drop_of_length-le s h))
      go false e =
          let h = leb-false (length s) to e in
          (rw (from_place s to h, ends h, name_front), rw (from_place s to h, ends h, past_name))

  spans : (k from : ℕ) → from + k ≡ to → Inside s from to
      → (slice from to s ≡ name_front (drop from s)) × (drop to s ≡ past_name (drop from s))
  unfolding name_front past_name
  spans zero from e inside =
      let z : to ≡ from = omega arith in (
        ap (λ (n : ℕ). slice n to s) (sym z) ∙ slice_empty to s ∙ sym here.0 ∙ ap (λ (n : ℕ). name_front (drop n s)) z,
        sym here.1 ∙ ap (λ (n : ℕ). past_name (drop n s)) z,
      )
  spans (suc k) from e inside =
      let h : from < length s = omega arith in
      let next = spans k (from + 1) (omega arith) (λ j p q. inside j (omega arith) q) in
      let not_here = inside from (omega arith) (omega arith) in (
        slice-cons from to s 0 (omega arith) within
            ∙ ap (λ (n : ℕ). get_or s from 0 ∷ slice n to s) (sym (add-one from))
            ∙ ap (λ (l : List ℕ). get_or s from 0 ∷ l) next.0
            ∙ sym (rw (from_place s from h, not_here, name_front)),
        next.1 ∙ sym (rw (from_place s from h, not_here, past_name)),
      )

pub name_ends : (s : List ℕ) (from to : ℕ) → from ≤ to → to ≤ length s → Ends s to → Inside s from to → NameEnd s from to
name_ends s from to order within ends inside =
    let both = spans s to within ends (to - from) from (omega arith) inside in
    record { order = order; within = within; name = both.0; behind = both.1 }

-- what `==` says of two slices of bytes
pub same_bytes : (a b : List ℕ) → pointwise nat_eq a b ≡ same_numbers a b
unfolding same_numbers
same_bytes [] [] = refl
same_bytes [] (y ∷ b) = refl
same_bytes (x ∷ a) [] = refl
same_bytes (x ∷ a) (y ∷ b) = ap (λ (t : Bool). eqb x y && t) (same_bytes a b)
