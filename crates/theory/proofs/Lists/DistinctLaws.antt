-- Keeping the first of elements that are the same.
--   distinct_on    : tests that agree on the elements
--   distinct_grows : what comes after only adds at the end
--   keep-distinct  : a test that takes the same for the same may come before or after
-- Of a test that is symmetric:
--   one_more_old, one_more_new : an element at the end is dropped if it is there, and stays if it is not
-- and transitive:
--   distinct-finer : the distinct ones of a finer test first make no difference
--   among_distinct : an element is among the distinct ones if it is among all
-- Of a test that decides equality:
--   distinct_again : distinct same (distinct same xs) ≡ distinct same xs
--   distinct_left  : distinct same (distinct same xs ++ ys) ≡ distinct same (xs ++ ys)
--   distinct_join  : lists with the same distinct elements, joined, have the same distinct elements
use mathlib.Core.Bool.{Bool, true, false, not, ◌&&◌, ◌||◌, and_comm, true≢false}
use mathlib.Core.List.{List, [], ◌∷◌, ◌++◌, append-nil, Memᴰ}
use mathlib.Core.Logic.{◌↔◌}
use mathlib.Core.Path.{◌≡◌, refl, sym, ◌∙◌, ap}
use Rattle.grammar.specs.Lists.{any_pass, keep, distinct}
use Rattle.theory.proofs.Lists.BoolLaws.{and_right, and_intro, false_of, not_both, or_false, same_test}
use Rattle.theory.proofs.Lists.ListLaws.{
  keep_yes,
  keep_no,
  keep_on,
  keep_both,
  any_found,
  any_of,
  distinct_was,
  distinct_has,
}

module _ {A : Type 0} where
  pub keep_append : (test : A → Bool) (xs ys : List A) → keep test (xs ++ ys) ≡ keep test xs ++ keep test ys
  unfolding keep
  keep_append test [] ys = refl
  keep_append test (x ∷ xs) ys = go (test x) refl (keep_append test xs ys)
    where
      go : (b : Bool) → test x ≡ b → keep test (xs ++ ys) ≡ keep test xs ++ keep test ys
          → keep test (x ∷ xs ++ ys) ≡ keep test (x ∷ xs) ++ keep test ys
      go true e ih = rw (keep_yes test x (xs ++ ys) e, keep_yes test x xs e) (ap (λ (l : List A). x ∷ l) ih)
      go false e ih = rw (keep_no test x (xs ++ ys) e, keep_no test x xs e) ih

  -- of two tests either may come first
  keep_swap : (p q : A → Bool) (xs : List A) → keep p (keep q xs) ≡ keep q (keep p xs)
  keep_swap p q xs =
      keep_both q p xs
      ∙ keep_on (λ x. q x && p x) (λ x. p x && q x) xs (λ x m. and_comm (q x) (p x))
      ∙ sym (keep_both p q xs)

  -- a test that lets through all that a later one does changes nothing
  pub keep_within : (p q : A → Bool) (xs : List A) → ((x : A) → p x ≡ true → q x ≡ true) → keep p (keep q xs) ≡ keep p xs
  keep_within p q xs h =
      keep_both q p xs
      ∙ keep_on (λ x. q x && p x) p xs
      (λ x m. same_test (q x && p x) (p x) (and_right (q x) (p x), λ e. and_intro (q x) (p x) (h x e) e))

  pub distinct_on : (p q : A → A → Bool) (xs : List A)
      → ((x y : A) → Memᴰ x xs → Memᴰ y xs → p x y ≡ q x y)
      → distinct p xs ≡ distinct q xs
  unfolding distinct
  distinct_on p q [] h = refl
  distinct_on p q (x ∷ xs) h =
      ap (λ (l : List A). x ∷ l)
      (ap (keep (λ y. not (p x y))) (distinct_on p q xs (λ y z m n. h y z (Memᴰ.tail m) (Memᴰ.tail n)))
      ∙ keep_on (λ y. not (p x y)) (λ y. not (q x y)) (distinct q xs)
      (λ y m. ap not (h x y (Memᴰ.head refl) (Memᴰ.tail (distinct_was q xs m)))))

  module _ (same : A → A → Bool) where
    pub distinct_grows : (xs ys : List A) → (more : List A) × (distinct same (xs ++ ys) ≡ distinct same xs ++ more)
    unfolding distinct
    distinct_grows [] ys = (distinct same ys, refl)
    distinct_grows (x ∷ xs) ys =
        let r = distinct_grows xs ys in
        let unlike : (A → Bool) = λ y. not (same x y) in (
          keep unlike r.0,
          ap (λ (l : List A). x ∷ l) (ap (keep unlike) r.1 ∙ keep_append unlike (distinct same xs) r.0),
        )

    pub keep-distinct : (p : A → Bool) → ((x y : A) → same x y ≡ true → p x ≡ p y) → (xs : List A)
        → keep p (distinct same xs) ≡ distinct same (keep p xs)
    unfolding distinct
    keep-distinct p alike [] = refl
    keep-distinct p alike (x ∷ xs) = go (p x) refl (keep-distinct p alike xs)
      where
        unlike : A → Bool
        unlike y = not (same x y)

        passed : p x ≡ false → (y : A) → p y ≡ true → unlike y ≡ true
        passed e y f = ap not (false_of (same x y) (λ s. not_both f (sym (alike x y s) ∙ e)))

        go : (b : Bool) → p x ≡ b → keep p (distinct same xs) ≡ distinct same (keep p xs)
            → keep p (distinct same (x ∷ xs)) ≡ distinct same (keep p (x ∷ xs))
        go true e ih =
            keep_yes p x (keep unlike (distinct same xs)) e
            ∙ ap (λ (l : List A). x ∷ l) (keep_swap p unlike (distinct same xs) ∙ ap (keep unlike) ih)
            ∙ sym (ap (distinct same) (keep_yes p x xs e))
        go false e ih =
            keep_no p x (keep unlike (distinct same xs)) e
            ∙ keep_within p unlike (distinct same xs) (passed e)
            ∙ ih
            ∙ sym (ap (distinct same) (keep_no p x xs e))

    distinct_right : (xs ys zs : List A) → distinct same ys ≡ distinct same zs
        → distinct same (xs ++ ys) ≡ distinct same (xs ++ zs)
    unfolding distinct
    distinct_right [] ys zs e = e
    distinct_right (x ∷ xs) ys zs e = ap (λ (l : List A). x ∷ keep (λ y. not (same x y)) l) (distinct_right xs ys zs e)

    kept_last : (x y : A) (ys : List A) → same x y ≡ false
        → keep (λ z. not (same x z)) (ys ++ (y ∷ [])) ≡ keep (λ z. not (same x z)) ys ++ (y ∷ [])
    unfolding keep
    kept_last x y ys e =
        keep_append (λ z. not (same x z)) ys (y ∷ [])
        ∙ ap (λ (l : List A). keep (λ z. not (same x z)) ys ++ l) (keep_yes (λ z. not (same x z)) y [] (ap not e))

    dropped_last : (x y : A) (ys : List A) → same x y ≡ true
        → keep (λ z. not (same x z)) (ys ++ (y ∷ [])) ≡ keep (λ z. not (same x z)) ys
    unfolding keep
    dropped_last x y ys e =
        keep_append (λ z. not (same x z)) ys (y ∷ [])
        ∙ ap (λ (l : List A). keep (λ z. not (same x z)) ys ++ l) (keep_no (λ z. not (same x z)) y [] (ap not e))
        ∙ append-nil (keep (λ z. not (same x z)) ys)

    module _ (same_sym : (x y : A) → same x y ≡ true → same y x ≡ true) where
      -- an element at the end: new, or there before
      pub one_more_new : (xs : List A) (y : A) → any_pass (same y) xs ≡ false
          → distinct same (xs ++ (y ∷ [])) ≡ distinct same xs ++ (y ∷ [])
      unfolding distinct any_pass
      one_more_new [] y e = refl
      one_more_new (x ∷ xs) y e =
          let f = or_false (same y x) (any_pass (same y) xs) e in
          ap (λ (l : List A). x ∷ l)
          (ap (keep (λ z. not (same x z))) (one_more_new xs y f.1)
          ∙ kept_last x y (distinct same xs) (false_of (same x y) (λ s. not_both (same_sym x y s) f.0)))

      pub one_more_old : (xs : List A) (y : A) → any_pass (same y) xs ≡ true → distinct same (xs ++ (y ∷ [])) ≡ distinct same xs
      unfolding distinct any_pass
      one_more_old [] y e = absurd (true≢false (sym e))
      one_more_old (x ∷ xs) y e = ap (λ (l : List A). x ∷ l) (go (any_pass (same y) xs) refl (λ f. one_more_old xs y f))
        where
          is_first : (a : Bool) → any_pass (same y) xs ≡ false → (a || any_pass (same y) xs) ≡ true → a ≡ true
          is_first true g h = refl
          is_first false g h = absurd (not_both h g)

          go : (b : Bool) → any_pass (same y) xs ≡ b → (any_pass (same y) xs ≡ true → distinct same (xs ++ (y ∷ [])) ≡ distinct same xs)
              → keep (λ z. not (same x z)) (distinct same (xs ++ (y ∷ []))) ≡ keep (λ z. not (same x z)) (distinct same xs)
          go true f ih = ap (keep (λ z. not (same x z))) (ih f)
          go false f ih =
              ap (keep (λ z. not (same x z))) (one_more_new xs y f)
              ∙ dropped_last x y (distinct same xs) (same_sym y x (is_first (same y x) f e))

      module _ (same_trans : (x y z : A) → same x y ≡ true → same y z ≡ true → same x z ≡ true) where
        pub distinct-finer : (finer : A → A → Bool) → ((x y : A) → finer x y ≡ true → same x y ≡ true) → (xs : List A)
            → distinct same (distinct finer xs) ≡ distinct same xs
        unfolding distinct
        distinct-finer finer f [] = refl
        distinct-finer finer f (x ∷ xs) =
            ap (λ (l : List A). x ∷ l)
            (keep-distinct unlike alike (keep apart (distinct finer xs))
            ∙ ap (distinct same) (keep_within unlike apart (distinct finer xs) within)
            ∙ sym (keep-distinct unlike alike (distinct finer xs))
            ∙ ap (keep unlike) (distinct-finer finer f xs))
          where
            unlike : A → Bool
            unlike y = not (same x y)

            apart : A → Bool
            apart y = not (finer x y)

            alike : (y z : A) → same y z ≡ true → unlike y ≡ unlike z
            alike y z s =
                ap not
                (same_test (same x y) (same x z) (λ e. same_trans x y z e s, λ e. same_trans x z y e (same_sym y z s)))

            within : (y : A) → unlike y ≡ true → apart y ≡ true
            within y e = ap not (false_of (finer x y) (λ s. not_both e (ap not (f x y s))))

        pub among_distinct : ((x : A) → same x x ≡ true) → (x : A) (xs : List A)
            → any_pass (same x) (distinct same xs) ≡ any_pass (same x) xs
        among_distinct same_refl x xs =
            same_test (any_pass (same x) (distinct same xs)) (any_pass (same x) xs) (
              λ e. let (y, m, s) = any_found (same x) (distinct same xs) e in any_of (same x) (distinct_was same xs m) s,
              λ e.
                  let (y, m, s) = any_found (same x) xs e in
                  let (z, o, t) = distinct_has same same_refl same_trans m in
                  any_of (same x) o (same_trans x y z s (same_sym z y t)),
            )

    module _ (decides : (x y : A) → (same x y ≡ true) ↔ (x ≡ y)) where
      -- what fails a test may go before as well
      keep_before : (p : A → Bool) (xs ys : List A) → keep p (distinct same (keep p xs ++ ys)) ≡ keep p (distinct same (xs ++ ys))
      keep_before p xs ys =
          keep-distinct p alike (keep p xs ++ ys)
          ∙ ap (distinct same)
          (keep_append p (keep p xs) ys
          ∙ ap (λ (l : List A). l ++ keep p ys) (keep_within p p xs (λ x e. e))
          ∙ sym (keep_append p xs ys))
          ∙ sym (keep-distinct p alike (xs ++ ys))
        where
          alike : (x y : A) → same x y ≡ true → p x ≡ p y
          alike x y s = ap p ((decides x y).0 s)

      pub distinct_left : (xs ys : List A) → distinct same (distinct same xs ++ ys) ≡ distinct same (xs ++ ys)
      unfolding distinct
      distinct_left [] ys = refl
      distinct_left (x ∷ xs) ys =
          ap (λ (l : List A). x ∷ l)
          (keep_before (λ y. not (same x y)) (distinct same xs) ys ∙ ap (keep (λ y. not (same x y))) (distinct_left xs ys))

      pub distinct_again : (xs : List A) → distinct same (distinct same xs) ≡ distinct same xs
      distinct_again xs =
          ap (distinct same) (sym (append-nil (distinct same xs))) ∙ distinct_left xs [] ∙ ap (distinct same) (append-nil xs)

      pub distinct_join : (xs ys us vs : List A) → distinct same xs ≡ distinct same us → distinct same ys ≡ distinct same vs
          → distinct same (xs ++ ys) ≡ distinct same (us ++ vs)
      distinct_join xs ys us vs e f =
          sym (distinct_left xs ys)
          ∙ ap (λ (l : List A). distinct same (l ++ ys)) e
          ∙ distinct_left us ys
          ∙ distinct_right us ys vs f
