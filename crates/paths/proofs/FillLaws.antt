-- A part of a list filled with one number, one after the other; looking for the first that is the same.
use Prim.Native.Nat.{ℕ, suc, ◌+◌, ◌-◌, ◌≤◌, ◌<◌}
use native.Mathlib.Omega.{arith}
use native.Mathlib.Numerals.{add-one}
use mathlib.Core.Bool.{Bool, true, false, ◌&&◌}
use mathlib.Core.List.{List, ◌++◌}
use mathlib.Core.Path.{◌≡◌, sym, ◌∙◌, ap}
use lib.ListN.{length, length-append, length-replicate, get_or, take, drop, replicate, drop_of_length-le}
use lib.Seq.{drop-cons, length-take-le}
use lib.Dec.{eqb}
use borrow.Author.Tests.{eq-eqb, ne_eqb}
use Rattle.grammar.specs.Lists.{place}
use Rattle.grammar.specs.Names.{same_name}
use Rattle.theory.proofs.Lists.PlaceLaws.{place_yes, place_no}

-- so far
abbrev pub filled : List ℕ → ℕ → ℕ → ℕ → List ℕ
filled l from i v = take from l ++ replicate (i - from) v ++ drop i l

pub fill_long : (l : List ℕ) (from i v : ℕ) → from ≤ i → i ≤ length l → length (take from l ++ replicate (i - from) v) ≡ i
fill_long l from i v h k =
    let a = length-append (take from l) (replicate (i - from) v) in
    let b = length-take-le from l (omega arith) in
    let c = length-replicate (i - from) v in
    omega arith

-- the place of the first that is the same, looked for from front to back
module _ (same : ℕ → ℕ → Bool) (x t : ℕ) (l : List ℕ) (so_far : place same x l ≡ t + place same x (drop t l)) where
  pub find_here : t < length l → same x (get_or l t 0) ≡ true → t ≡ place same x l
  find_here h e =
      let p = so_far ∙ ap (λ (k : ℕ). t + k) (ap (place same x) (drop-cons l t 0 h) ∙ place_yes same x (get_or l t 0) (drop (suc t) l) e) in
      omega arith

  pub find_next : t < length l → same x (get_or l t 0) ≡ false → place same x l ≡ t + 1 + place same x (drop (t + 1) l)
  find_next h e =
      let p = so_far ∙ ap (λ (k : ℕ). t + k) (ap (place same x) (drop-cons l t 0 h) ∙ place_no same x (get_or l t 0) (drop (suc t) l) e) in
      rw add-one (omega arith)

  pub find_end : length l ≤ t → t ≡ place same x l
  unfolding place
  find_end h = let p = so_far ∙ ap (λ (r : List ℕ). t + place same x r) (drop_of_length-le l {i = t} h) in omega arith

-- equal keys and equal names
pub key_differs : (a b : ℕ) (r : Bool) → (a ≡ b → ⊥) → false ≡ (eqb a b && r)
key_differs a b r e = ap (λ (x : Bool). x && r) (sym (ne_eqb a b e))

pub key_agrees : (a b : ℕ) (s : List ℕ) (i m j n : ℕ) → a ≡ b
    → same_name (take (i + m - i) (drop i s)) (take (j + n - j) (drop j s)) ≡ (eqb a b && same_name (take m (drop i s)) (take n (drop j s)))
key_agrees a b s i m j n e =
    let x : i + m - i ≡ m = omega arith in
    let y : j + n - j ≡ n = omega arith in
    ap (λ (k : ℕ). same_name (take k (drop i s)) (take (j + n - j) (drop j s))) x
    ∙ ap (λ (k : ℕ). same_name (take m (drop i s)) (take k (drop j s))) y
    ∙ ap (λ (x : Bool). x && same_name (take m (drop i s)) (take n (drop j s))) (sym (eq-eqb a b e))
