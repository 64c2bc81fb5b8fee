-- The place of an element, over a test of whether two are the same:
--     place_yes, place_no              in a list with one element more at the front
--     place_front, place_end           in joined lists
--     place_most, place_some, place_none, place_past
--                                      it is below the length where some element is the same, and else the length
--     place_found, place_of            what stands there
--     place_same, same_place           elements that are the same have one place
--     place_image                      the place of an image
use Prim.Native.Nat.{ℕ, zero, suc, ◌≤◌, ◌<◌}
use native.Mathlib.Omega.{arith}
use mathlib.Core.Bool.{Bool, true, false, false≢true}
use mathlib.Core.List.{List, [], ◌∷◌, ◌++◌, map, Memᴰ}
use mathlib.Core.Logic.{◌↔◌}
use mathlib.Core.Option.{Option, some as just}
use mathlib.Core.Path.{◌≡◌, refl, sym, ◌∙◌, ap, subst}
use lib.ListN.{length, get_elem?}
use Rattle.grammar.specs.Lists.{any_pass, place}
use Rattle.theory.proofs.Lists.BoolLaws.{or_false, same_test}
use Rattle.theory.proofs.Lists.ListLaws.{any_of, just_eq}

module _ {A : Type 0} where
  module _ (same : A → A → Bool) (x : A) where
    -- where the first is the same, or is not
    pub place_yes : (y : A) (ys : List A) → same x y ≡ true → place same x (y ∷ ys) ≡ zero
    unfolding place
    place_yes y ys e = rw (e, place)

    pub place_no : (y : A) (ys : List A) → same x y ≡ false → place same x (y ∷ ys) ≡ suc (place same x ys)
    unfolding place
    place_no y ys e = rw (e, place)

    pub place_most : (xs : List A) → place same x xs ≤ length xs
    unfolding place
    place_most [] = omega arith
    place_most (y ∷ ys) = go (same x y) refl (place_most ys)
      where
        go : (b : Bool) → same x y ≡ b → place same x ys ≤ length ys → place same x (y ∷ ys) ≤ length (y ∷ ys)
        go true e h = rw (e, place) (omega arith)
        go false e h = rw (e, place) (omega arith)

    pub place_some : (xs : List A) → place same x xs < length xs → any_pass (same x) xs ≡ true
    unfolding place any_pass
    place_some [] h = absurd (omega arith)
    place_some (y ∷ ys) h = go (same x y) refl (place_some ys)
      where
        go : (b : Bool) → same x y ≡ b → (place same x ys < length ys → any_pass (same x) ys ≡ true) → any_pass (same x) (y ∷ ys) ≡ true
        go true e ih = rw (e, any_pass)
        go false e ih = let p = place_no y ys e in rw (e, any_pass) (ih (omega arith))

    pub place_none : (xs : List A) → length xs ≤ place same x xs → any_pass (same x) xs ≡ false
    unfolding place any_pass
    place_none [] h = refl
    place_none (y ∷ ys) h = go (same x y) refl (place_none ys)
      where
        go : (b : Bool) → same x y ≡ b → (length ys ≤ place same x ys → any_pass (same x) ys ≡ false) → any_pass (same x) (y ∷ ys) ≡ false
        go true e ih = let p = place_yes y ys e in absurd (omega arith)
        go false e ih = let p = place_no y ys e in rw (e, any_pass) (ih (omega arith))

    pub place_past : (xs : List A) → any_pass (same x) xs ≡ false → place same x xs ≡ length xs
    unfolding place any_pass
    place_past [] e = refl
    place_past (y ∷ ys) e =
        let f = or_false (same x y) (any_pass (same x) ys) e in
        rw (f.0, place) (ap suc (place_past ys f.1))

    pub place_front : (xs ys : List A) → any_pass (same x) xs ≡ true → place same x (xs ++ ys) ≡ place same x xs
    unfolding place any_pass
    place_front [] ys e = absurd (false≢true e)
    place_front (z ∷ zs) ys e = go (same x z) refl (place_front zs ys)
      where
        go : (b : Bool) → same x z ≡ b → (any_pass (same x) zs ≡ true → place same x (zs ++ ys) ≡ place same x zs)
            → place same x (z ∷ zs ++ ys) ≡ place same x (z ∷ zs)
        go true q ih = rw (q, place)
        go false q ih = rw (q, place) (ap suc (ih (rw q at e)))

    -- its own place, where it is added at the end
    pub place_end : same x x ≡ true → (xs : List A) → place same x (xs ++ (x ∷ [])) ≡ place same x xs
    unfolding place
    place_end r [] = rw (r, place)
    place_end r (y ∷ ys) = go (same x y) refl (place_end r ys)
      where
        go : (b : Bool) → same x y ≡ b → place same x (ys ++ (x ∷ [])) ≡ place same x ys
            → place same x (y ∷ ys ++ (x ∷ [])) ≡ place same x (y ∷ ys)
        go true e ih = rw (e, place)
        go false e ih = rw (e, place) (ap suc ih)

  -- the place of an element that is found
  pub place_found : (same : A → A → Bool) (x : A) (xs : List A) → any_pass (same x) xs ≡ true
      → (y : A) × (get_elem? xs (place same x xs) ≡ just y) × (same x y ≡ true)
  unfolding any_pass place
  place_found same x [] e = absurd (false≢true e)
  place_found same x (y ∷ ys) e = go (same x y) refl (λ h. place_found same x ys h)
    where
      go : (b : Bool) → same x y ≡ b
          → (any_pass (same x) ys ≡ true → (z : A) × (get_elem? ys (place same x ys) ≡ just z) × (same x z ≡ true))
          → (z : A) × (get_elem? (y ∷ ys) (place same x (y ∷ ys)) ≡ just z) × (same x z ≡ true)
      go true q ih = (y, rw (q, place), q)
      go false q ih =
          let r = ih (rw q at e) in
          (r.0, rw (q, place) r.1, r.2)

  -- of a test that decides equality: an element that is listed stands at its place
  pub place_of : (same : A → A → Bool) → ((x y : A) → (same x y ≡ true) ↔ (x ≡ y)) → {x : A} {xs : List A} → Memᴰ x xs
      → get_elem? xs (place same x xs) ≡ just x
  place_of same decides {x} {xs} m =
      let (y, at, e) = place_found same x xs (any_of (same x) m ((decides x x).1 refl)) in
      at ∙ ap {B = Option A} just (sym ((decides x y).0 e))

  -- elements that are the same have one place, and elements found at one place are the same
  module _ (same : A → A → Bool) (same_sym : (x y : A) → same x y ≡ true → same y x ≡ true)
      (same_trans : (x y z : A) → same x y ≡ true → same y z ≡ true → same x z ≡ true) where
    pub place_same : (x y : A) → same x y ≡ true → (xs : List A) → place same x xs ≡ place same y xs
    unfolding place
    place_same x y e [] = refl
    place_same x y e (z ∷ zs) = go (same y z) refl (place_same x y e zs)
      where
        alike : same x z ≡ same y z
        alike = same_test (same x z) (same y z) (same_trans y x z (same_sym x y e), same_trans x y z e)

        go : (b : Bool) → same y z ≡ b → place same x zs ≡ place same y zs → place same x (z ∷ zs) ≡ place same y (z ∷ zs)
        go true q ih = rw (alike ∙ q, q, place)
        go false q ih = rw (alike ∙ q, q, place) (ap suc ih)

    pub same_place : (x y : A) (xs : List A) → any_pass (same x) xs ≡ true → any_pass (same y) xs ≡ true → place same x xs ≡ place same y xs
        → same x y ≡ true
    same_place x y xs p q e =
        let (u, at, xu) = place_found same x xs p in
        let (v, bt, yv) = place_found same y xs q in
        let w : u ≡ v = just_eq (sym bt ∙ subst (λ (i : ℕ). get_elem? xs i ≡ just u) e at) in
        same_trans x v y (subst (λ (z : A). same x z ≡ true) w xu) (same_sym y v yv)

module _ {A B : Type 0} where
  -- the place of an image, where images are the same just where their sources are
  pub place_image : (f : A → B) (p : A → A → Bool) (q : B → B → Bool) (x : A) (xs : List A)
      → ((y : A) → Memᴰ y xs → q (f x) (f y) ≡ p x y)
      → place p x xs ≡ place q (f x) (map f xs)
  unfolding place
  place_image f p q x [] h = refl
  place_image f p q x (y ∷ ys) h =
      go (p x y) refl (place_image f p q x ys (λ z m. h z (Memᴰ.tail m)))
    where
      go : (b : Bool) → p x y ≡ b → place p x ys ≡ place q (f x) (map f ys)
          → place p x (y ∷ ys) ≡ place q (f x) (map f (y ∷ ys))
      go true e ih = rw (e, h y (Memᴰ.head refl) ∙ e, place)
      go false e ih = rw (e, h y (Memᴰ.head refl) ∙ e, place) (ap suc ih)
