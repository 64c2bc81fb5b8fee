-- Laws of lists for the forms by sets. Of what is kept, and of images:
--   map_itself                        a function that leaves each element of a list
--   keep_nothing                      nothing is kept where nothing passes the test
--   in_kept                           a number is kept of a list that has it just where it passes the test
-- Of lists by places: same_at, numbered, past_nothing; kept_below. Of distinct elements:
--   first_itself     an element of the distinct ones stands at its own place
--   distinct_append  of two lists joined: of the second those that are not in the first
--   distinct_all, distinct_image, distinct_longer
use Prim.Native.Nat.{ℕ, zero, suc, ◌+◌, ◌-◌, ◌≤◌}
use native.Mathlib.Omega.{arith}
use mathlib.Core.Bool.{Bool, true, false, not, ◌||◌}
use mathlib.Core.List.Memᴰ
use mathlib.Core.List.{
  List,
  [],
  ◌∷◌,
  ◌++◌,
  append_assoc,
  append-nil,
  map,
  map-id,
  Memᴰ,
}
use mathlib.Core.Logic.{◌↔◌, ⊎_elim}
use mathlib.Core.Option.{none as nothing, some as just}
use mathlib.Core.Path.{◌≡◌, refl, sym, ◌∙◌, ap, ap₂}
use lib.ListN.{length, length-append, get_elem?, get_or}
use borrow.Author.Tests.{not-true}
use Rattle.grammar.specs.Lists.{any_pass, keep, distinct, all_distinct, place, is_in, numbers_from, numbers_below}
use Rattle.theory.proofs.Lists.BoolLaws.{and_left, and_right, same_test, false_of, not_both, or_false}
use Rattle.theory.proofs.Lists.ListLaws.{
  any_of,
  keep_no,
  keep_all,
  keep_mem,
  kept,
  mem_at,
  numbers_below_lem,
  numbers_at,
  in_mem,
  mem_in,
  map_on,
  distinct-map,
  decided_sym,
  decided_trans,
  listed_from,
  numbers_joined,
  keep_on,
}
use Rattle.theory.proofs.Lists.DistinctLaws.{keep_append, keep_within, distinct_grows, distinct-finer}

module _ {A : Type 0} where
  pub keep_nothing : (test : A → Bool) (xs : List A) → ((x : A) → Memᴰ x xs → test x ≡ false) → keep test xs ≡ []
  unfolding keep
  keep_nothing test [] h = refl
  keep_nothing test (x ∷ xs) h =
      keep_no test x xs (h x (Memᴰ.head refl)) ∙ keep_nothing test xs (λ y m. h y (Memᴰ.tail m))

  -- past the end nothing stands
  pub past_nothing : (xs : List A) (i : ℕ) → length xs ≤ i → get_elem? xs i ≡ nothing
  past_nothing [] i h = refl
  past_nothing (x ∷ xs) zero h = absurd (omega arith)
  past_nothing (x ∷ xs) (suc i) h = past_nothing xs i (omega arith)

  -- lists that have the same at each place are equal
  pub same_at : (xs ys : List A) → length xs ≡ length ys
      → ((i : ℕ) (x y : A) → get_elem? xs i ≡ just x → get_elem? ys i ≡ just y → x ≡ y)
      → xs ≡ ys
  same_at [] [] l h = refl
  same_at [] (y ∷ ys) l h = absurd (omega arith)
  same_at (x ∷ xs) [] l h = absurd (omega arith)
  same_at (x ∷ xs) (y ∷ ys) l h =
      ap₂ ◌∷◌ (h zero x y refl refl) (same_at xs ys (omega arith) (λ i a b p q. h (suc i) a b p q))

  -- a list is what stands at its places
  pub numbered : (d : A) (xs : List A) → xs ≡ map (λ i. get_or xs i d) (numbers_below (length xs))
  unfolding numbers_below
  numbered d xs =
      listed_from (λ i. get_or xs i d) zero xs d (λ i h. let z : zero + i ≡ i = omega arith in ap (λ (k : ℕ). get_or xs k d) z)

  module _ (same : A → A → Bool) (same_refl : (x : A) → same x x ≡ true)
      (same_sym : (x y : A) → same x y ≡ true → same y x ≡ true) (d : A) where
    pub first_itself : (xs : List A) {x : A} → Memᴰ x (distinct same xs) → get_or xs (place same x xs) d ≡ x
    unfolding distinct place
    first_itself [] m = elim m [ ]
    first_itself (y ∷ ys) {x} m = ⊎_elim here (λ n. there n (λ o. first_itself ys o)) (Memᴰ.cases_cons m)
      where
        here : x ≡ y → get_or (y ∷ ys) (place same x (y ∷ ys)) d ≡ x
        here e = rw (ap (λ (z : A). same z y) e ∙ same_refl y, place) (sym e)

        there : Memᴰ x (keep (λ z. not (same y z)) (distinct same ys))
            → (Memᴰ x (distinct same ys) → get_or ys (place same x ys) d ≡ x) → get_or (y ∷ ys) (place same x (y ∷ ys)) d ≡ x
        there n ih =
            let (o, t) = kept (λ z. not (same y z)) (distinct same ys) n in
            let unlike = false_of (same x y) (λ s. not_both (same_sym x y s) (not-true (same y x) t)) in
            rw (unlike, place) (ih o)

  module _ (same : A → A → Bool) (decides : (x y : A) → (same x y ≡ true) ↔ (x ≡ y)) where
    -- the one is not the other, nor among some
    abbrev unlike : A → A → Bool
    unlike x y = not (same x y)

    abbrev new_to : List A → A → Bool
    new_to xs y = not (any_pass (same y) xs)

    new_apart : (x : A) (xs : List A) (y : A) → new_to (x ∷ xs) y ≡ true → unlike x y ≡ true
    unfolding any_pass
    new_apart x xs y e =
        let f = or_false (same y x) (any_pass (same y) xs) (not-true (any_pass (same y) (x ∷ xs)) e) in
        ap not (false_of (same x y) (λ s. not_both ((decides y x).1 (sym ((decides x y).0 s))) f.0))

    new_later : (x : A) (xs : List A) (y : A) → new_to (x ∷ xs) y ≡ true → new_to xs y ≡ true
    unfolding any_pass
    new_later x xs y e = ap not (or_false (same y x) (any_pass (same y) xs) (not-true (any_pass (same y) (x ∷ xs)) e)).1

    new_both : (x : A) (xs : List A) (y : A) → new_to xs y ≡ true → unlike x y ≡ new_to (x ∷ xs) y
    unfolding any_pass
    new_both x xs y e =
        same_test (unlike x y) (new_to (x ∷ xs) y)
        (λ t. ap not (none t), λ t. new_apart x xs y t)
      where
        none : unlike x y ≡ true → any_pass (same y) (x ∷ xs) ≡ false
        none t =
            ap₂ ◌||◌
            (false_of (same y x) (λ s. not_both ((decides x y).1 (sym ((decides y x).0 s))) (not-true (same x y) t)))
            (not-true (any_pass (same y) xs) e)

    pub distinct_append : (xs ys : List A)
        → distinct same (xs ++ ys) ≡ distinct same xs ++ keep (λ y. not (any_pass (same y) xs)) (distinct same ys)
    unfolding distinct any_pass
    distinct_append [] ys = sym (keep_all (new_to []) (distinct same ys) (λ y m. refl))
    distinct_append (x ∷ xs) ys =
        let new = keep (new_to xs) (distinct same ys) in
        ap (λ (l : List A). x ∷ l)
        (ap (keep (unlike x)) (distinct_append xs ys)
        ∙ keep_append (unlike x) (distinct same xs) new
        ∙ ap (λ (l : List A). keep (unlike x) (distinct same xs) ++ l)
        (keep_on (unlike x) (new_to (x ∷ xs)) new (λ y m. new_both x xs y (kept (new_to xs) (distinct same ys) m).1)
        ∙ keep_within (new_to (x ∷ xs)) (new_to xs) (distinct same ys) (new_later x xs)))

    -- what comes after takes nothing away
    pub distinct_longer : (xs ys zs : List A) → length (distinct same (xs ++ ys)) ≤ length (distinct same (xs ++ (ys ++ zs)))
    distinct_longer xs ys zs =
        let (more, e) = distinct_grows same (xs ++ ys) zs in
        let n =
        ap (λ (l : List A). length (distinct same l)) (sym (append_assoc xs ys zs))
        ∙ ap length e
        ∙ length-append (distinct same (xs ++ ys)) more
        in
        omega arith

  -- elements that all differ are the distinct ones
  pub distinct_all : (same : A → A → Bool) (xs : List A) → all_distinct same xs ≡ true → distinct same xs ≡ xs
  unfolding distinct all_distinct
  distinct_all same [] d = refl
  distinct_all same (x ∷ xs) d =
      let new = not (any_pass (same x) xs) in
      ap (λ (l : List A). x ∷ l)
      (ap (keep (λ y. not (same x y))) (distinct_all same xs (and_right new (all_distinct same xs) d))
      ∙ keep_all (λ y. not (same x y)) xs
      (λ y m.
      ap not
      (false_of (same x y)
      (λ e. not_both (any_of (same x) m e) (not-true (any_pass (same x) xs) (and_left new (all_distinct same xs) d))))))

module _ {A B : Type 0} where
  -- equal elements may go before their images are told apart
  module _ (p : A → A → Bool) (p_decides : (x y : A) → (p x y ≡ true) ↔ (x ≡ y)) (q : B → B → Bool)
      (q_decides : (x y : B) → (q x y ≡ true) ↔ (x ≡ y)) (f : A → B) where
    pub distinct_image : (xs : List A) → distinct q (map f (distinct p xs)) ≡ distinct q (map f xs)
    distinct_image xs =
        distinct-map f q (distinct p xs)
        ∙ ap (map f)
        (distinct-finer (λ x y. q (f x) (f y)) (λ x y. decided_sym q q_decides (f x) (f y))
        (λ x y z. decided_trans q q_decides (f x) (f y) (f z))
        p
        (λ x y e. (q_decides (f x) (f y)).1 (ap f ((p_decides x y).0 e)))
        xs)
        ∙ sym (distinct-map f q xs)

pub map_itself : {A : Type 0} (f : A → A) (xs : List A) → ((x : A) → Memᴰ x xs → f x ≡ x) → map f xs ≡ xs
map_itself f xs h = map_on f (λ x. x) xs h ∙ map-id xs

pub in_kept : (test : ℕ → Bool) (n : ℕ) (ns : List ℕ) → Memᴰ n ns → is_in n (keep test ns) ≡ test n
in_kept test n ns m =
    same_test (is_in n (keep test ns)) (test n)
    (λ e. (kept test ns (in_mem n (keep test ns) e)).1, λ e. mem_in (keep_mem test m e))

-- what is kept of the numbers below a bound, told by a larger bound
pub kept_below : (test : ℕ → Bool) (n m : ℕ) → n ≤ m
    → keep (λ p. is_in p (keep test (numbers_below n))) (numbers_below m) ≡ keep test (numbers_below n)
unfolding numbers_below
kept_below test n m h =
    let few : List ℕ = keep test (numbers_below n) in
    let z : m ≡ n + (m - n) = omega arith in
    ap (λ (k : ℕ). keep (λ p. is_in p few) (numbers_below k)) z
    ∙ ap (keep (λ p. is_in p few)) (numbers_joined zero n (m - n))
    ∙ keep_append (λ p. is_in p few) (numbers_below n) (numbers_from (zero + n) (m - n))
    ∙ ap₂ ◌++◌ (keep_on (λ p. is_in p few) test (numbers_below n) (λ p o. in_kept test p (numbers_below n) o))
    (keep_nothing (λ p. is_in p few) (numbers_from (zero + n) (m - n))
    (λ p o.
    false_of (is_in p few)
    (λ e.
    let low = (numbers_below_lem n p).0 (kept test (numbers_below n) (in_mem p few e)).0 in
    let (i, at) = mem_at o in
    let high = numbers_at (zero + n) (m - n) i at in
    omega arith)))
    ∙ append-nil few
