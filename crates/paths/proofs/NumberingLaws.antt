-- Numbering the elements of a list by first sight, over a test that is an equivalence: an element's number is its place among the
-- distinct ones, found while going through the list from front to back.
--   number_new, number_old : one more element is new where its place is past the end, else the distinct ones stay
--   number_stays   : the place found then is the place in the end
--   place_map, place_agree : numbers of images, and by tests that agree
use Prim.Native.Nat.{ℕ, ◌+◌, ◌≤◌, ◌<◌}
use native.Mathlib.Omega.{arith}
use native.Mathlib.Numerals.{add-one}
use mathlib.Core.Bool.{Bool, true, false}
use mathlib.Core.List.Memᴰ
use mathlib.Core.List.{List, [], ◌∷◌, ◌++◌, map, map-id, append_assoc, Memᴰ}
use mathlib.Core.Logic.{◌⊎◌, inl, inr}
use mathlib.Core.Path.{◌≡◌, refl, sym, ◌∙◌, ap}
use lib.ListN.{length, set, take}
use lib.Seq.{length-take-le, take-suc-set, take-set-le}
use Rattle.grammar.specs.Lists.{any_pass, distinct, place}
use Rattle.theory.proofs.Lists.ListLaws.{any_of}
use Rattle.theory.proofs.Lists.PlaceLaws.{place_some, place_none, place_most, place_front, place_end, place_image}
use Rattle.theory.proofs.Lists.DistinctLaws.{distinct_grows, one_more_new, one_more_old, among_distinct}

module _ {A : Type 0} (same : A → A → Bool) (same_refl : (x : A) → same x x ≡ true)
    (same_sym : (x y : A) → same x y ≡ true → same y x ≡ true)
    (same_trans : (x y z : A) → same x y ≡ true → same y z ≡ true → same x z ≡ true) where
  among : (x : A) (xs : List A) → any_pass (same x) (distinct same xs) ≡ any_pass (same x) xs
  among = among_distinct same same_sym same_trans same_refl

  pub number_new : (xs : List A) (y : A) → place same y (distinct same xs) ≡ length (distinct same xs)
      → distinct same (xs ++ (y ∷ [])) ≡ distinct same xs ++ (y ∷ [])
  number_new xs y e = one_more_new same same_sym xs y (sym (among y xs) ∙ place_none same y (distinct same xs) (omega arith))

  pub number_old : (xs : List A) (y : A) → place same y (distinct same xs) < length (distinct same xs)
      → distinct same (xs ++ (y ∷ [])) ≡ distinct same xs
  number_old xs y h = one_more_old same same_sym xs y (sym (among y xs) ∙ place_some same y (distinct same xs) h)

  pub number_stays : (xs : List A) (y : A) (zs : List A)
      → place same y (distinct same (xs ++ y ∷ zs)) ≡ place same y (distinct same xs)
  number_stays xs y zs =
      let (more, e) = distinct_grows same (xs ++ (y ∷ [])) zs in
      ap (λ (l : List A). place same y (distinct same l)) (sym (append_assoc xs (y ∷ []) zs))
      ∙ ap (place same y) e
      ∙ place_front same y (distinct same (xs ++ (y ∷ []))) more
      (among y (xs ++ (y ∷ [])) ∙ any_of (same y) (Memᴰ.append_right xs (Memᴰ.head refl)) (same_refl y))
      ∙ go (any_pass (same y) xs) refl
    where
      go : (b : Bool) → any_pass (same y) xs ≡ b → place same y (distinct same (xs ++ (y ∷ []))) ≡ place same y (distinct same xs)
      go true f = ap (place same y) (one_more_old same same_sym xs y f)
      go false f = ap (place same y) (one_more_new same same_sym xs y f) ∙ place_end same y (same_refl y) (distinct same xs)

pub place_map : {A B : Type 0} (f : A → B) (same : B → B → Bool) (x : A) (xs : List A)
    → place same (f x) (map f xs) ≡ place (λ y z. same (f y) (f z)) x xs
place_map f same x xs = sym (place_image f (λ y z. same (f y) (f z)) same x xs (λ y m. refl))

-- tests that agree find the same place
pub place_agree : {A : Type 0} (p q : A → A → Bool) (x : A) (xs : List A) → ((y : A) → Memᴰ y xs → p x y ≡ q x y)
    → place p x xs ≡ place q x xs
place_agree p q x xs h = place_image (λ y. y) p q x xs (λ y m. sym (h y m)) ∙ ap (place q x) (map-id xs)

-- one more in a list of distinct ones that grows in an array
pub record OneMore (same : ℕ → ℕ → Bool) (done : List ℕ) (x : ℕ) (firsts : List ℕ) (count more r : ℕ) : Type 0 where
  pub listed : take more (set firsts count x) ≡ distinct same (done ++ (x ∷ []))
  pub placed : r < more
  pub most : more ≤ count + 1
  pub grows : count ≤ more

pub one_more : (same : ℕ → ℕ → Bool) → ((x : ℕ) → same x x ≡ true) → ((x y : ℕ) → same x y ≡ true → same y x ≡ true)
    → ((x y z : ℕ) → same x y ≡ true → same y z ≡ true → same x z ≡ true) → (done : List ℕ) (x : ℕ) (firsts : List ℕ) (count more r : ℕ)
    → take count firsts ≡ distinct same done → count < length firsts → r ≡ place same x (distinct same done)
    → ((r ≡ count) × (more ≡ count + 1)) ⊎ ((r ≡ count → ⊥) × (more ≡ count)) → OneMore same done x firsts count more r
one_more same rf sm tr done x firsts count more r e h p (inl (a, b)) =
    let long : length (distinct same done) ≡ count = sym (ap length e) ∙ length-take-le count firsts (omega arith) in
    record {
      listed =
          ap (λ (k : ℕ). take k (set firsts count x)) (b ∙ add-one count)
          ∙ take-suc-set firsts count x h
          ∙ ap (λ (l : List ℕ). l ++ (x ∷ [])) e
          ∙ sym (number_new same rf sm tr done x (sym p ∙ a ∙ sym long));
      placed = omega arith;
      most = omega arith;
      grows = omega arith;
    }
one_more same rf sm tr done x firsts count more r e h p (inr (a, b)) =
    let long : length (distinct same done) ≡ count = sym (ap length e) ∙ length-take-le count firsts (omega arith) in
    let most = place_most same x (distinct same done) in
    let below : r < count = omega (arith, a) in
    record {
      listed =
          ap (λ (k : ℕ). take k (set firsts count x)) b
          ∙ take-set-le count firsts count x (omega arith)
          ∙ e
          ∙ sym (number_old same rf sm tr done x (omega arith));
      placed = omega arith;
      most = omega arith;
      grows = omega arith;
    }
