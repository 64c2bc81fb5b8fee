-- The pairs of a type by number: `pairs_are`: they are the numbers of the first rules of pairs of that type, ascending.
use Prim.Native.Nat.{ℕ, zero, suc}
use native.Mathlib.Omega.{arith}
use mathlib.Core.Bool.{Bool, true, false, not, ◌&&◌, and-true, and-false}
use mathlib.Core.List.{List, [], ◌∷◌, map, map-map}
use mathlib.Core.Path.{◌≡◌, refl, sym, ◌∙◌, ap, ap₂, fun_ext}
use lib.ListN.{length, get_or}
use lib.Dec.{eqb}
use borrow.Author.Tests.{eqb-true, eq-eqb, ne_eqb, not-true}
use Rattle.grammar.specs.Lists.{keep, distinct, place, numbers_from, numbers_below}
use Rattle.grammar.specs.Table.{Rule, Table}
use Rattle.grammar.specs.KindTests.{same_pair}
use Rattle.grammar.specs.Normalise.{pair_of, pairs_of}
use Rattle.theory.proofs.Lists.BoolLaws.{same_test, and_left}
use Rattle.theory.proofs.Lists.ListLaws.{keep_yes, keep_no, kept, keep-map, keep_both, map_on}
use Rattle.theory.proofs.Lists.PlaceLaws.{place_yes, place_no}
use Rattle.theory.proofs.Steps.NormaliseDocuments.{pair_refl}
use Rattle.theory.proofs.Tables.KindTests.{same_pair_sym}
use Rattle.union.specs.PairNumbers.{no_rule}

numbers_suc : (from n : ℕ) → numbers_from (suc from) n ≡ map suc (numbers_from from n)
unfolding numbers_from
numbers_suc from zero = refl
numbers_suc from (suc n) = ap (λ (l : List ℕ). suc from ∷ l) (numbers_suc (suc from) n)

eqb-suc : (m n : ℕ) → eqb (suc m) (suc n) ≡ eqb m n
eqb-suc m n =
    same_test (eqb (suc m) (suc n)) (eqb m n)
    (λ e. eq-eqb m n (let q = eqb-true (suc m) (suc n) e in omega arith), λ e. eq-eqb (suc m) (suc n) (ap suc (eqb-true m n e)))

module _ {A : Type 0} (same : A → A → Bool) (same_refl : (x : A) → same x x ≡ true)
    (same_sym : (x y : A) → same x y ≡ true → same y x ≡ true) (d : A) where
  flip : (x y : A) → same x y ≡ same y x
  flip x y = same_test (same x y) (same y x) (same_sym x y, same_sym y x)

  -- the number is that of the first of its kind
  abbrev is_first : List A → ℕ → Bool
  is_first xs q = eqb (place same (get_or xs q d) xs) q

  -- past the first element
  first_past : (P : A → Bool) (x : A) (xs : List A) (q : ℕ)
      → (P (get_or (x ∷ xs) (suc q) d) && is_first (x ∷ xs) (suc q))
      ≡ ((not (same x (get_or xs q d)) && P (get_or xs q d)) && is_first xs q)
  first_past P x xs q = go (same (get_or xs q d) x) refl (P (get_or xs q d))
    where
      y : A
      y = get_or xs q d

      go : (b : Bool) → same (get_or xs q d) x ≡ b → (p : Bool)
          → (p && eqb (place same (get_or xs q d) (x ∷ xs)) (suc q))
          ≡ ((not (same x (get_or xs q d)) && p) && eqb (place same (get_or xs q d) xs) q)
      go true e p =
          ap (λ (c : Bool). p && c)
          (ap (λ (n : ℕ). eqb n (suc q)) (place_yes same (get_or xs q d) x xs e) ∙ ne_eqb 0 (suc q) (λ z. omega arith))
          ∙ and-false p
          ∙ sym
          (ap (λ (c : Bool). (not c && p) && eqb (place same (get_or xs q d) xs) q) (flip x (get_or xs q d) ∙ e))
      go false e p =
          ap (λ (c : Bool). p && c)
          (ap (λ (n : ℕ). eqb n (suc q)) (place_no same (get_or xs q d) x xs e) ∙ eqb-suc (place same (get_or xs q d) xs) q)
          ∙ sym
          (ap (λ (c : Bool). (not c && p) && eqb (place same (get_or xs q d) xs) q) (flip x (get_or xs q d) ∙ e))

  pub firsts_are : (P : A → Bool) (xs : List A)
      → map (λ y. place same y xs) (keep P (distinct same xs))
      ≡ keep (λ q. P (get_or xs q d) && is_first xs q) (numbers_below (length xs))
  unfolding distinct numbers_below numbers_from keep
  firsts_are P [] = refl
  firsts_are P (x ∷ xs) = go (P x) refl (firsts_are (λ y. unlike y && P y) xs)
    where
      unlike : A → Bool
      unlike y = not (same x y)

      test : ℕ → Bool
      test q = P (get_or (x ∷ xs) q d) && is_first (x ∷ xs) q

      rest : map (λ y. place same y xs) (keep (λ y. unlike y && P y) (distinct same xs))
          ≡ keep (λ q. (unlike (get_or xs q d) && P (get_or xs q d)) && is_first xs q) (numbers_below (length xs))
          → map (λ y. place same y (x ∷ xs)) (keep P (keep unlike (distinct same xs)))
          ≡ keep test (numbers_from 1 (length xs))
      rest ih =
          ap (map (λ y. place same y (x ∷ xs))) (keep_both unlike P (distinct same xs))
          ∙ map_on (λ y. place same y (x ∷ xs)) (λ y. suc (place same y xs)) (keep (λ y. unlike y && P y) (distinct same xs))
          (λ y m.
          let k = (kept (λ z. unlike z && P z) (distinct same xs) m).1 in
          place_no same y x xs (flip y x ∙ not-true (same x y) (and_left (unlike y) (P y) k)))
          ∙ sym (map-map suc (λ y. place same y xs) (keep (λ y. unlike y && P y) (distinct same xs)))
          ∙ ap (map suc) ih
          ∙ ap (λ f. map suc (keep f (numbers_below (length xs)))) (sym (fun_ext (first_past P x xs)))
          ∙ sym (keep-map suc test (numbers_below (length xs)))
          ∙ ap (keep test) (sym (numbers_suc 0 (length xs)))

      here : (b : Bool) → P x ≡ b → test 0 ≡ b
      here b e =
          ap₂ ◌&&◌ e (ap (λ (n : ℕ). eqb n 0) (place_yes same x x xs (same_refl x)) ∙ eq-eqb 0 0 refl) ∙ and-true b

      go : (b : Bool) → P x ≡ b
          → map (λ y. place same y xs) (keep (λ y. unlike y && P y) (distinct same xs))
          ≡ keep (λ q. (unlike (get_or xs q d) && P (get_or xs q d)) && is_first xs q) (numbers_below (length xs))
          → map (λ y. place same y (x ∷ xs)) (keep P (x ∷ keep unlike (distinct same xs)))
          ≡ keep test (0 ∷ numbers_from 1 (length xs))
      go true e ih =
          ap (map (λ y. place same y (x ∷ xs))) (keep_yes P x (keep unlike (distinct same xs)) e)
          ∙ ap₂ ◌∷◌ (place_yes same x x xs (same_refl x)) (rest ih)
          ∙ sym (keep_yes test 0 (numbers_from 1 (length xs)) (here true e))
      go false e ih =
          ap (map (λ y. place same y (x ∷ xs))) (keep_no P x (keep unlike (distinct same xs)) e)
          ∙ rest ih
          ∙ sym (keep_no test 0 (numbers_from 1 (length xs)) (here false e))

-- so the pairs of a type
pub pairs_are : (u : Table) (k : ℕ)
    → pairs_of u k
    ≡ keep
    (λ q. eqb (get_or u.rules q no_rule).type k && eqb (pair_of u (get_or u.rules q no_rule)) q)
    (numbers_below (length u.rules))
unfolding pairs_of pair_of
pairs_are u k = firsts_are same_pair pair_refl same_pair_sym no_rule (λ (r : Rule). eqb r.type k) u.rules
