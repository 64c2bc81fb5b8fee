-- Filling a slice front to back, each item settled by its place.
use Prim.Native.Nat.{ℕ, zero, suc, ◌+◌, ◌*◌, ◌/◌, ◌%◌, ◌≤◌, ◌<◌}
use native.Mathlib.Numerals.{add-one}
use native.Mathlib.Nat.{div-add-mod, mul-add-mod_self_left}
use native.Mathlib.Omega.{arith}
use mathlib.Core.List.{List, [], ◌∷◌, ◌++◌, append-nil}
use mathlib.Core.Path.{◌≡◌, refl, sym, ◌∙◌, ap}
use lib.ListN.{length, drop, set, replicate, length-append, drop_of_length-le}
use lib.Seq.{drop-cons, set_at, append_snoc}
use Rattle.std.proofs.lemmas.List.{replicate_more}
use Rattle.vectors.specs.CaseFile.{listed, output_byte}

-- so many items filled
abbrev pub filled_to : (ℕ → ℕ) → ℕ → List ℕ → List ℕ
filled_to f i items = listed f i ++ drop i items

pub length-listed : (f : ℕ → ℕ) (n : ℕ) → length (listed f n) ≡ n
unfolding listed
length-listed f zero = refl
length-listed f (suc n) = length-append (listed f n) (f n ∷ []) ∙ ap (λ (k : ℕ). k + 1) (length-listed f n) ∙ add-one n

module _ (f : ℕ → ℕ) (items : List ℕ) where
  pub none_filled : items ≡ filled_to f 0 items
  unfolding listed
  none_filled = refl

  pub filled_next : (i : ℕ) → i < length items → set (filled_to f i items) i (f i) ≡ filled_to f (i + 1) items
  unfolding listed
  filled_next i h =
      ap (λ (l : List ℕ). set (listed f i ++ l) i (f i)) (drop-cons items i 0 h)
      ∙ set_at (listed f i) _ (drop (suc i) items) (f i) i (length-listed f i)
      ∙ sym (append_snoc (listed f i) (f i) (drop (suc i) items))
      ∙ ap (λ (n : ℕ). filled_to f n items) (sym (add-one i))

  pub all_filled : (i : ℕ) → length items ≤ i → i ≤ length items → filled_to f i items ≡ listed f (length items)
  all_filled i h k =
      let e : i ≡ length items = omega arith in
      ap (λ (l : List ℕ). listed f i ++ l) (drop_of_length-le items h) ∙ append-nil (listed f i) ∙ ap (listed f) e

-- the byte at a place, computed without large products
pub output_byte_small : (i : ℕ) → (i % 256 * 7 + 165) % 256 ≡ output_byte i
output_byte_small i =
    let e : 165 + 7 * i ≡ 256 * (7 * (i / 256)) + (i % 256 * 7 + 165) = omega (arith, div-add-mod i 256) in
    sym (ap (λ (n : ℕ). n % 256) e ∙ mul-add-mod_self_left 256 (7 * (i / 256)) (i % 256 * 7 + 165))

-- so many times one item
pub listed_alike : (n x : ℕ) → replicate n x ≡ listed (λ i. x) n
unfolding listed
listed_alike zero x = refl
listed_alike (suc n) x =
    ap (λ (k : ℕ). replicate k x) (sym (add-one n)) ∙ sym (replicate_more n x) ∙ ap (λ (l : List ℕ). l ++ (x ∷ [])) (listed_alike n x)
