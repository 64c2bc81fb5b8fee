-- Numbers at the front of a list, each once:
--   among_any                looking for a number
--   new_room                 a number below the bound that is not among them has room after them
--   adds_old, adds_new       one number more, which is among them or not
--   adds_none, adds_join     no numbers more; some, and then others
--   adds_once                after that each stands there once
--   front_kept               the numbers that stood there before stand there still
use Prim.Native.Nat.{ℕ, zero, suc, ◌+◌, ◌<◌}
use native.Mathlib.Omega.{arith}
use native.Mathlib.Numerals.{add-one}
use mathlib.Core.Bool.{Bool, true, false, not, ◌||◌}
use mathlib.Core.List.Memᴰ
use mathlib.Core.List.{List, [], ◌∷◌, ◌++◌, append-nil, append_assoc, Memᴰ}
use mathlib.Core.Logic.{⊎_elim}
use mathlib.Core.Path.{◌≡◌, refl, sym, ◌∙◌, ap, ap₂, subst}
use lib.ListN.{length, get_or, set, take, drop, length-set, length-append}
use lib.Seq.{take-suc-set, take-take, take_at, length-take-le, get_or-drop}
use lib.Dec.{eqb}
use borrow.Author.Tests.{eqb-true, eq-eqb}
use Rattle.std.proofs.lemmas.Bool.Decides.{nat_tests}
use Rattle.std.specs.List.{list_any}
use Rattle.grammar.specs.Lists.{any_pass, keep, distinct, is_in}
use Rattle.theory.proofs.Lists.BoolLaws.{false_of, not_both}
use Rattle.theory.proofs.Lists.ListLaws.{kept, distinct_was, in_mem, eqb_decides, eqb_sym}
use Rattle.theory.proofs.Lists.DistinctLaws.{
  keep-distinct,
  distinct_again,
  distinct_left,
  distinct_grows,
  one_more_new,
  one_more_old,
}
use Rattle.sets.specs.Sets.{size}
use Rattle.sets.proofs.SizeLaws.{size_le, size-nothing, size-add}
use Rattle.union.specs.Walks.{Once, Adds}

eqb_turn : (m n : ℕ) → eqb m n ≡ eqb n m
eqb_turn m n = grind (arith, nat_tests)

-- the search of std looks for a number as `is_in` does
pub among_any : (p : ℕ) (l : List ℕ) → list_any (λ q. eqb q p) l ≡ is_in p l
unfolding is_in any_pass
among_any p [] = refl
among_any p (q ∷ l) = ap₂ ◌||◌ (eqb_turn q p) (among_any p l)

-- numbers that stand once, the first of them apart
module _ (x : ℕ) (xs : List ℕ) (e : distinct eqb (x ∷ xs) ≡ x ∷ xs) where
  abbrev unlike : ℕ → Bool
  unlike y = not (eqb x y)

  others : keep unlike (distinct eqb xs) ≡ xs
  unfolding distinct
  others = cc

  others_once : distinct eqb xs ≡ xs
  others_once =
      ap (distinct eqb) (sym others)
      ∙ sym (keep-distinct eqb unlike (λ y z e. ap unlike (eqb-true y z e)) (distinct eqb xs))
      ∙ ap (keep unlike) (distinct_again eqb eqb_decides xs)
      ∙ others

  first_new : is_in x xs ≡ false
  first_new =
      false_of (is_in x xs)
      (λ t.
      let m = subst (λ (l : List ℕ). Memᴰ x l) (sym others) (in_mem x xs t) in
      let k = (kept unlike (distinct eqb xs) m).1 in
      not_both k (ap not (eq-eqb x x refl)))

-- they are as many as the numbers below the bound that are among them
once_size : (n : ℕ) (xs : List ℕ) → distinct eqb xs ≡ xs → ((p : ℕ) → Memᴰ p xs → p < n)
    → length xs ≡ size (λ j. is_in j xs) n
unfolding is_in
once_size n [] e h = sym (size-nothing n)
once_size n (x ∷ xs) e h =
    ap suc (once_size n xs (others_once x xs e) (λ p m. h p (Memᴰ.tail m)))
    ∙ sym (size-add (λ j. is_in j xs) n x (h x (Memᴰ.head refl)) (first_new x xs e))

module _ (bound : ℕ) (list : List ℕ) (count : ℕ) (once : Once bound list count) where
  pub new_room : (p : ℕ) → p < bound → is_in p (take count list) ≡ false → count < length list
  new_room p h e =
      let s = once_size bound (take count list) once.once once.below in
      let a = size-add (λ j. is_in j (take count list)) bound p h e in
      let l = length-take-le count list once.held in
      let b = size_le (λ j. eqb j p || is_in j (take count list)) bound in
      let r = once.room in
      omega arith

  pub adds_old : (p : ℕ) → is_in p (take count list) ≡ true → Adds (take count list) (p ∷ []) list count
  unfolding is_in
  adds_old p e =
      record { all = sym (one_more_old eqb eqb_sym (take count list) p e ∙ once.once); held = once.held }

  pub adds_new : (p : ℕ) → is_in p (take count list) ≡ false → count < length list
      → Adds (take count list) (p ∷ []) (set list count p) (count + 1)
  unfolding is_in
  adds_new p e h =
      record {
        all =
            ap (λ (n : ℕ). take n (set list count p)) (add-one count)
            ∙ take-suc-set list count p h
            ∙ ap (λ (l : List ℕ). l ++ (p ∷ [])) (sym once.once)
            ∙ sym (one_more_new eqb eqb_sym (take count list) p e);
        held = rw length-set (omega arith);
      }

  pub adds_none : Adds (take count list) [] list count
  adds_none = record { all = sym (ap (distinct eqb) (append-nil (take count list)) ∙ once.once); held = once.held }

  pub adds_once : (more list' : List ℕ) (r : ℕ) → ((p : ℕ) → Memᴰ p more → p < bound) → Adds (take count list) more list' r
      → length list' ≡ length list → Once bound list' r
  adds_once more list' r h a e =
      let room = once.room in
      record {
        room = omega arith;
        held = a.held;
        once = ap (distinct eqb) a.all ∙ distinct_again eqb eqb_decides (take count list ++ more) ∙ sym a.all;
        below =
            λ p m.
            ⊎_elim (once.below p) (h p)
            (Memᴰ.append_cases (take count list)
            (distinct_was eqb (take count list ++ more) (subst (λ (l : List ℕ). Memᴰ p l) a.all m)));
      }

  -- what stood there stands there still, before all that was added
  pub front_kept : (more list' : List ℕ) (r : ℕ) → Adds (take count list) more list' r → take count list' ≡ take count list
  front_kept more list' r a =
      let g = distinct_grows eqb (take count list) more in
      let e = a.all ∙ g.1 ∙ ap (λ (l : List ℕ). l ++ g.0) once.once in
      let l = length-take-le count list once.held in
      let n = ap length e ∙ length-append (take count list) g.0 in
      let m = length-take-le r list' a.held in
      sym (take-take count r list' (omega arith)) ∙ ap (take count) e ∙ take_at (take count list) g.0 count l

pub adds_join : (numbers xs ys list list' : List ℕ) (count r : ℕ) → Adds numbers xs list count → Adds (take count list) ys list' r
    → Adds numbers (xs ++ ys) list' r
adds_join numbers xs ys list list' count r a b =
    record {
      all =
          b.all
          ∙ ap (λ (l : List ℕ). distinct eqb (l ++ ys)) a.all
          ∙ distinct_left eqb eqb_decides (numbers ++ xs) ys
          ∙ ap (distinct eqb) (append_assoc numbers xs ys);
      held = b.held;
    }

-- a part of numbers below a bound
pub part_below : (numbers : List ℕ) (bound : ℕ) → ((i : ℕ) → get_or numbers i 0 < bound) → (first n p : ℕ)
    → Memᴰ p (take n (drop first numbers)) → p < bound
part_below numbers bound h first n p m = go (drop first numbers) n (λ i. subst (λ (x : ℕ). x < bound) (sym (get_or-drop first numbers i 0)) (h (first + i))) m
  where
    go : (l : List ℕ) (n : ℕ) → ((i : ℕ) → get_or l i 0 < bound) → Memᴰ p (take n l) → p < bound
    go [] zero g m = elim m [ ]
    go [] (suc n) g m = elim m [ ]
    go (x ∷ l) zero g m = elim m [ ]
    go (x ∷ l) (suc n) g (Memᴰ.head e) = subst (λ (y : ℕ). y < bound) (sym e) (g zero)
    go (x ∷ l) (suc n) g (Memᴰ.tail t) = go l n (λ i. g (suc i)) t

pub adds_same : {numbers xs ys list : List ℕ} {count : ℕ} → xs ≡ ys → Adds numbers xs list count → Adds numbers ys list count
adds_same {numbers} {xs} {ys} {list} {count} e a = subst (λ (l : List ℕ). Adds numbers l list count) e a
