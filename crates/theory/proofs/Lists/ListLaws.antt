-- What the words of grammar's Lists mean, in terms of membership and positions. Of any lists:
--     any_found, any_of, any_append, all_at, all_of, all_append    tests of elements
--     kept, keep_mem, keep_on, keep_both                      what is kept
--     distinct_was, distinct_has, distinct_mem                the distinct elements
--     at_mem, mem_at, at_below, below_at, at_joined, at_else  what stands at a place
--     differ_at, all_differ, distinct_new, distinct_end       lists of which all elements are distinct
--     joined_from, joined_mem, joined_append, joined_on       lists of lists, joined
--     map_on, map_at, at_map, take-map, drop-map              images; part_of
--     related_map, related_at, related_mem                    lists related element by element
-- Of numbers: in_mem, mem_in, in_append, taken_mem, set_all, set_up_to, same_numbers_lem, and AllIn (all of one list are in another);
-- numbers_below_lem, numbers_joined, numbers_split, numbers_next, numbers_end, joined_next, listed_from, one_place.
use Prim.Native.Nat.{ℕ, zero, suc, ◌+◌, ◌-◌, ◌≤◌, ◌<◌}
use native.Mathlib.Omega.{arith}
use native.Mathlib.Numerals.{add-one}
use mathlib.Core.Bool.{Bool, true, false, not, ◌&&◌, ◌||◌, or_assoc, false≢true}
use mathlib.Core.List.Memᴰ
use mathlib.Core.List.{
  List,
  [],
  ◌∷◌,
  ◌++◌,
  append_assoc,
  append-nil,
  Memᴰ,
  map,
  Forall₂,
}
use mathlib.Core.Logic.{◌↔◌, ◌⊎◌, inl, inr, ⊎_elim}
use mathlib.Core.Option.{Option, none as nothing, some as just}
use mathlib.Core.Path.{◌≡◌, refl, sym, ◌∙◌, ap, ap₂, subst}
use lib.Dec.{eqb}
use lib.ListN.{length, get_elem?, get_or, set, take, drop, replicate}
use lib.Seq.{get_or-set_same, get_or-set_other}
use borrow.Author.Count.{below_more}
use borrow.Author.Tests.{eqb-true, eqb-false, eq-eqb, not-true}
use Rattle.grammar.specs.Lists.{
  any_pass,
  all_pass,
  keep,
  distinct,
  all_distinct,
  joined_of,
  is_in,
  same_numbers,
  numbers_from,
  numbers_below,
}
use Rattle.grammar.specs.ReadTable.{is_empty}
use Rattle.theory.proofs.Lists.BoolLaws.{
  and_left,
  and_right,
  and_intro,
  or_cases,
  or_left,
  or_right,
  not_both,
  passes_or_fails,
  false_of,
  or_false,
}

module _ {A : Type 0} where
  pub any_found : (test : A → Bool) (xs : List A) → any_pass test xs ≡ true → (x : A) × Memᴰ x xs × (test x ≡ true)
  unfolding any_pass
  any_found test [] e = absurd (false≢true e)
  any_found test (x ∷ xs) e =
      ⊎_elim
      (λ p. (x, Memᴰ.head refl, p))
      (λ q. let r = any_found test xs q in (r.0, Memᴰ.tail r.1, r.2))
      (or_cases (test x) (any_pass test xs) e)

  pub any_of : (test : A → Bool) {x : A} {xs : List A} → Memᴰ x xs → test x ≡ true → any_pass test xs ≡ true
  unfolding any_pass
  any_of test (Memᴰ.head {x = y} {xs = ys} e) p = or_left (test y) (any_pass test ys) (ap test (sym e) ∙ p)
  any_of test (Memᴰ.tail {x = y} {xs = ys} m) p = or_right (test y) (any_pass test ys) (any_of test m p)

  pub any_append : (test : A → Bool) (xs ys : List A) → any_pass test (xs ++ ys) ≡ (any_pass test xs || any_pass test ys)
  unfolding any_pass
  any_append test [] ys = refl
  any_append test (x ∷ xs) ys =
      ap (λ (b : Bool). test x || b) (any_append test xs ys) ∙ sym (or_assoc (test x) (any_pass test xs) (any_pass test ys))

  pub all_at : (test : A → Bool) {x : A} {xs : List A} → all_pass test xs ≡ true → Memᴰ x xs → test x ≡ true
  unfolding all_pass
  all_at test e (Memᴰ.head {x = y} {xs = ys} q) = ap test q ∙ and_left (test y) (all_pass test ys) e
  all_at test e (Memᴰ.tail {x = y} {xs = ys} m) = all_at test (and_right (test y) (all_pass test ys) e) m

  pub all_of : (test : A → Bool) (xs : List A) → ((x : A) → Memᴰ x xs → test x ≡ true) → all_pass test xs ≡ true
  unfolding all_pass
  all_of test [] h = refl
  all_of test (x ∷ xs) h =
      and_intro (test x) (all_pass test xs) (h x (Memᴰ.head refl)) (all_of test xs (λ y m. h y (Memᴰ.tail m)))

  pub all_append : (test : A → Bool) (xs ys : List A) → all_pass test (xs ++ ys) ≡ (all_pass test xs && all_pass test ys)
  unfolding all_pass
  all_append test [] ys = refl
  all_append test (x ∷ xs) ys = go (test x) (all_append test xs ys)
    where
      go : (b : Bool) → all_pass test (xs ++ ys) ≡ (all_pass test xs && all_pass test ys)
          → (b && all_pass test (xs ++ ys)) ≡ (b && all_pass test xs && all_pass test ys)
      go true e = e
      go false e = refl

  pub keep_yes : (test : A → Bool) (x : A) (xs : List A) → test x ≡ true → keep test (x ∷ xs) ≡ x ∷ keep test xs
  unfolding keep
  keep_yes test x xs e = rw (e, keep)

  pub keep_no : (test : A → Bool) (x : A) (xs : List A) → test x ≡ false → keep test (x ∷ xs) ≡ keep test xs
  unfolding keep
  keep_no test x xs e = rw (e, keep)

  pub kept : (test : A → Bool) (xs : List A) {x : A} → Memᴰ x (keep test xs) → Memᴰ x xs × (test x ≡ true)
  unfolding keep
  kept test [] m = elim m [ ]
  kept test (y ∷ ys) {x} m = go (passes_or_fails (test y)) (λ n. kept test ys n)
    where
      later : Memᴰ x ys × (test x ≡ true) → Memᴰ x (y ∷ ys) × (test x ≡ true)
      later r = (Memᴰ.tail r.0, r.1)

      go : (test y ≡ true) ⊎ (test y ≡ false) → (Memᴰ x (keep test ys) → Memᴰ x ys × (test x ≡ true))
          → Memᴰ x (y ∷ ys) × (test x ≡ true)
      go (inl e) ih =
          ⊎_elim
          (λ q. (Memᴰ.head q, ap test q ∙ e))
          (λ n. later (ih n))
          (Memᴰ.cases_cons (subst (λ l. Memᴰ x l) (keep_yes test y ys e) m))
      go (inr e) ih = later (ih (subst (λ l. Memᴰ x l) (keep_no test y ys e) m))

  pub keep_mem : (test : A → Bool) {x : A} {xs : List A} → Memᴰ x xs → test x ≡ true → Memᴰ x (keep test xs)
  keep_mem test (Memᴰ.head {x = y} {xs = ys} q) p =
      rw (keep_yes test y ys (ap test (sym q) ∙ p)) (Memᴰ.head q)
  keep_mem test {x} (Memᴰ.tail {x = y} {xs = ys} m) p = go (passes_or_fails (test y)) (keep_mem test m p)
    where
      go : (test y ≡ true) ⊎ (test y ≡ false) → Memᴰ x (keep test ys) → Memᴰ x (keep test (y ∷ ys))
      go (inl e) ih = rw (keep_yes test y ys e) (Memᴰ.tail ih)
      go (inr e) ih = rw (keep_no test y ys e) ih

  -- tests that agree on the elements keep the same
  pub keep_on : (p q : A → Bool) (xs : List A) → ((x : A) → Memᴰ x xs → p x ≡ q x) → keep p xs ≡ keep q xs
  unfolding keep
  keep_on p q [] h = refl
  keep_on p q (x ∷ xs) h = go (q x) refl (keep_on p q xs (λ y m. h y (Memᴰ.tail m)))
    where
      go : (b : Bool) → q x ≡ b → keep p xs ≡ keep q xs → keep p (x ∷ xs) ≡ keep q (x ∷ xs)
      go true e ih = rw (h x (Memᴰ.head refl) ∙ e, e, keep) (ap (λ (l : List A). x ∷ l) ih)
      go false e ih = rw (h x (Memᴰ.head refl) ∙ e, e, keep) ih

  -- one test after the other
  pub keep_both : (p q : A → Bool) (xs : List A) → keep q (keep p xs) ≡ keep (λ x. p x && q x) xs
  unfolding keep
  keep_both p q [] = refl
  keep_both p q (x ∷ xs) = go (p x) refl (q x) refl (keep_both p q xs)
    where
      go : (a : Bool) → p x ≡ a → (b : Bool) → q x ≡ b → keep q (keep p xs) ≡ keep (λ y. p y && q y) xs
          → keep q (keep p (x ∷ xs)) ≡ keep (λ y. p y && q y) (x ∷ xs)
      go true e true f ih = rw (e, f, keep) (ap (λ (l : List A). x ∷ l) ih)
      go true e false f ih = rw (e, f, keep) ih
      go false e b f ih = rw (e, keep) ih

  -- what is distinct was there, and each element has one that is the same among the distinct
  pub distinct_was : (same : A → A → Bool) (xs : List A) {x : A} → Memᴰ x (distinct same xs) → Memᴰ x xs
  unfolding distinct
  distinct_was same [] m = m
  distinct_was same (y ∷ ys) m =
      ⊎_elim
      (λ q. Memᴰ.head q)
      (λ n. Memᴰ.tail (distinct_was same ys (kept (λ z. not (same y z)) (distinct same ys) n).0))
      (Memᴰ.cases_cons m)

  module _ (same : A → A → Bool) (same_refl : (x : A) → same x x ≡ true)
      (same_trans : (x y z : A) → same x y ≡ true → same y z ≡ true → same x z ≡ true) where
    pub distinct_has : {x : A} {xs : List A} → Memᴰ x xs → (y : A) × Memᴰ y (distinct same xs) × (same y x ≡ true)
    unfolding distinct
    distinct_has {x} (Memᴰ.head {x = y} q) = (y, Memᴰ.head refl, ap (same y) q ∙ same_refl y)
    distinct_has {x} (Memᴰ.tail {x = z} {xs = zs} m) = go (distinct_has m)
      where
        go : (y : A) × Memᴰ y (distinct same zs) × (same y x ≡ true)
            → (y : A) × Memᴰ y (distinct same (z ∷ zs)) × (same y x ≡ true)
        go r =
            ⊎_elim
            (λ e. (z, Memᴰ.head refl, same_trans z r.0 x e r.2))
            (λ e.
            (r.0, Memᴰ.tail (keep_mem (λ w. not (same z w)) r.1 (ap not e)), r.2))
            (passes_or_fails (same z r.0))

  -- a test that decides equality is symmetric and transitive
  module _ (same : A → A → Bool) (decides : (x y : A) → (same x y ≡ true) ↔ (x ≡ y)) where
    pub decided_sym : (x y : A) → same x y ≡ true → same y x ≡ true
    decided_sym x y e = (decides y x).1 (sym ((decides x y).0 e))

    pub decided_trans : (x y z : A) → same x y ≡ true → same y z ≡ true → same x z ≡ true
    decided_trans x y z p q = (decides x z).1 ((decides x y).0 p ∙ (decides y z).0 q)

  -- each element is then among the distinct
  pub distinct_mem : (same : A → A → Bool) → ((x y : A) → (same x y ≡ true) ↔ (x ≡ y)) → {x : A} {xs : List A} → Memᴰ x xs
      → Memᴰ x (distinct same xs)
  distinct_mem same decides {x} m =
      let r = distinct_has same (λ y. (decides y y).1 refl) (decided_trans same decides) m in
      Memᴰ.cast (sym ((decides r.0 x).0 r.2)) r.1

  -- a list that is not empty has an element
  pub some_mem : (xs : List A) → not (is_empty xs) ≡ true → (x : A) × Memᴰ x xs
  some_mem [] e = absurd (false≢true e)
  some_mem (x ∷ xs) e = (x, Memᴰ.head refl)

  pub mem_some : {x : A} {xs : List A} → Memᴰ x xs → not (is_empty xs) ≡ true
  mem_some (Memᴰ.head e) = refl
  mem_some (Memᴰ.tail m) = refl

  -- positions
  pub at_mem : (xs : List A) (i : ℕ) {x : A} → get_elem? xs i ≡ just x → Memᴰ x xs
  at_mem [] i e = absurd (no_thing e)
    where
      no_thing : {x : A} → ◌≡◌ {A = Option A} nothing (just x) → ⊥
      no_thing e = let z : ◌≡◌ {A = ℕ} 0 1 = cc in omega arith
  at_mem (y ∷ ys) zero {x} e = let q : x ≡ y = cc in Memᴰ.head q
  at_mem (y ∷ ys) (suc i) e = Memᴰ.tail (at_mem ys i e)

  pub mem_at : {x : A} {xs : List A} → Memᴰ x xs → (i : ℕ) × (get_elem? xs i ≡ just x)
  mem_at (Memᴰ.head q) = (zero, ap just (sym q))
  mem_at (Memᴰ.tail m) = let r = mem_at m in (suc r.0, r.1)

  pub at_below : (xs : List A) (i : ℕ) {x : A} → get_elem? xs i ≡ just x → i < length xs
  at_below [] i e = let z : ◌≡◌ {A = ℕ} 0 1 = cc in omega arith
  at_below (y ∷ ys) zero e = omega arith
  at_below (y ∷ ys) (suc i) e = let h = at_below ys i e in omega arith

  pub below_at : (xs : List A) (i : ℕ) → i < length xs → (x : A) × (get_elem? xs i ≡ just x)
  below_at [] i h = absurd (omega arith)
  below_at (y ∷ ys) zero h = (y, refl)
  below_at (y ∷ ys) (suc i) h = below_at ys i (omega arith)

  pub at_joined : (xs ys : List A) (i : ℕ) → i < length xs → get_elem? (xs ++ ys) i ≡ get_elem? xs i
  at_joined [] ys i h = absurd (omega arith)
  at_joined (x ∷ xs) ys zero h = refl
  at_joined (x ∷ xs) ys (suc i) h = at_joined xs ys i (omega arith)

  pub at_front : (xs ys : List A) (i : ℕ) {x : A} → get_elem? xs i ≡ just x → get_elem? (xs ++ ys) i ≡ just x
  at_front xs ys i e = at_joined xs ys i (at_below xs i e) ∙ e

  pub just_eq : {x y : A} → ◌≡◌ {A = Option A} (just x) (just y) → y ≡ x
  just_eq e = cc

  first_differs : (same : A → A → Bool) (z : A) (zs : List A) {y : A} → not (any_pass (same z) zs) ≡ true → Memᴰ y zs → same z y ≡ true → ⊥
  first_differs same z zs n m e = not_both (any_of (same z) m e) (not-true (any_pass (same z) zs) n)

  -- no two elements are the same, by positions
  module _ (same : A → A → Bool) (same_sym : (x y : A) → same x y ≡ true → same y x ≡ true) where
    pub differ_at : (xs : List A) (i j : ℕ) (x y : A) → all_distinct same xs ≡ true → get_elem? xs i ≡ just x → get_elem? xs j ≡ just y
        → same x y ≡ true → i ≡ j
    unfolding all_distinct
    differ_at [] i j x y d p q e = let z : ◌≡◌ {A = ℕ} 0 1 = cc in omega arith
    differ_at (z ∷ zs) zero zero x y d p q e = refl
    differ_at (z ∷ zs) zero (suc j) x y d p q e = absurd (first_differs same z zs (and_left (not (any_pass (same z) zs)) (all_distinct same zs) d) (at_mem zs j q) (subst (λ w. same w y ≡ true) (just_eq p) e))
    differ_at (z ∷ zs) (suc i) zero x y d p q e =
        absurd (first_differs same z zs (and_left (not (any_pass (same z) zs)) (all_distinct same zs) d) (at_mem zs i p) (subst (λ w. same w x ≡ true) (just_eq q) (same_sym x y e)))
    differ_at (z ∷ zs) (suc i) (suc j) x y d p q e = ap suc (differ_at zs i j x y (and_right (not (any_pass (same z) zs)) (all_distinct same zs) d) p q e)

  -- and the other way round
  pub all_differ : (same : A → A → Bool) (xs : List A)
      → ((i j : ℕ) (x y : A) → get_elem? xs i ≡ just x → get_elem? xs j ≡ just y → same x y ≡ true → i ≡ j)
      → all_distinct same xs ≡ true
  unfolding all_distinct
  all_differ same [] h = refl
  all_differ same (z ∷ zs) h =
      and_intro
      (not (any_pass (same z) zs))
      (all_distinct same zs)
      (ap not (false_of (any_pass (same z) zs) first))
      (all_differ same zs (λ i j x y p q e. let r = h (suc i) (suc j) x y p q e in omega arith))
    where
      first : any_pass (same z) zs ≡ true → ⊥
      first e =
          let r = any_found (same z) zs e in
          let i = mem_at r.1 in
          let never = h zero (suc i.0) z r.0 refl i.1 r.2 in
          omega arith

module _ {A B : Type 0} where
  pub joined_from : (f : A → List B) (xs : List A) {y : B} → Memᴰ y (joined_of f xs) → (x : A) × Memᴰ x xs × Memᴰ y (f x)
  unfolding joined_of
  joined_from f [] m = elim m [ ]
  joined_from f (x ∷ xs) m =
      ⊎_elim
      (λ p. (x, Memᴰ.head refl, p))
      (λ q. let r = joined_from f xs q in (r.0, Memᴰ.tail r.1, r.2))
      (Memᴰ.append_cases (f x) m)

  pub joined_mem : (f : A → List B) {x : A} {xs : List A} {y : B} → Memᴰ x xs → Memᴰ y (f x) → Memᴰ y (joined_of f xs)
  unfolding joined_of
  joined_mem f {y = y} (Memᴰ.head {xs = zs} q) m = Memᴰ.append_left (joined_of f zs) (subst (λ z. Memᴰ y (f z)) q m)
  joined_mem f (Memᴰ.tail {x = z} n) m = Memᴰ.append_right (f z) (joined_mem f n m)

  -- functions that agree on the elements
  pub map_on : (f g : A → B) (xs : List A) → ((x : A) → Memᴰ x xs → f x ≡ g x) → map f xs ≡ map g xs
  map_on f g [] h = refl
  map_on f g (x ∷ xs) h = ap₂ ◌∷◌ (h x (Memᴰ.head refl)) (map_on f g xs (λ y m. h y (Memᴰ.tail m)))

  pub joined_on : (f g : A → List B) (xs : List A) → ((x : A) → Memᴰ x xs → f x ≡ g x) → joined_of f xs ≡ joined_of g xs
  unfolding joined_of
  joined_on f g [] h = refl
  joined_on f g (x ∷ xs) h = ap₂ ◌++◌ (h x (Memᴰ.head refl)) (joined_on f g xs (λ y m. h y (Memᴰ.tail m)))

-- each element of a list has a property
module _ {A : Type 0} (P : A → Type 0) where
  abbrev pub Each : List A → Type 0
  Each xs = (x : A) → Memᴰ x xs → P x

  pub each_none : Each []
  each_none x m = elim m [ ]

  pub each_cons : (x : A) (xs : List A) → P x → Each xs → Each (x ∷ xs)
  each_cons x xs p h y m = ⊎_elim (λ e. subst P (sym e) p) (h y) (Memᴰ.cases_cons m)

  pub each_append : (xs ys : List A) → Each xs → Each ys → Each (xs ++ ys)
  each_append xs ys p q y m = ⊎_elim (p y) (q y) (Memᴰ.append_cases xs m)

  -- one element more at the end
  pub each_end : (xs : List A) (x : A) → Each xs → P x → Each (xs ++ (x ∷ []))
  each_end xs x h p = each_append xs (x ∷ []) h (each_cons x [] p each_none)

  -- so many times one element
  pub each_replicate : (n : ℕ) (x : A) → P x → Each (replicate n x)
  each_replicate zero x p = each_none
  each_replicate (suc n) x p = each_cons x (replicate n x) p (each_replicate n x p)

-- numbers
pub in_mem : (n : ℕ) (ns : List ℕ) → is_in n ns ≡ true → Memᴰ n ns
unfolding is_in
in_mem n ns e = let r = any_found (eqb n) ns e in Memᴰ.cast (eqb-true n r.0 r.2) r.1

pub mem_in : {n : ℕ} {ns : List ℕ} → Memᴰ n ns → is_in n ns ≡ true
unfolding is_in
mem_in {n} m = any_of (eqb n) m (eq-eqb n n refl)

pub in_append : (n : ℕ) (ms ns : List ℕ) → is_in n (ms ++ ns) ≡ (is_in n ms || is_in n ns)
unfolding is_in
in_append n ms ns = any_append (eqb n) ms ns

-- the number at a place is among the first
pub taken_mem : (l : List ℕ) (i n : ℕ) → i < n → i < length l → Memᴰ (get_or l i 0) (take n l)
taken_mem [] i n h k = absurd (omega arith)
taken_mem (x ∷ l) i zero h k = absurd (omega arith)
taken_mem (x ∷ l) zero (suc n) h k = Memᴰ.head refl
taken_mem (x ∷ l) (suc i) (suc n) h k = Memᴰ.tail (taken_mem l i n (omega arith) (omega arith))

pub zeros_at : (n i : ℕ) → ◌≡◌ {A = ℕ} (get_or (replicate n 0) i 0) 0
zeros_at zero i = refl
zeros_at (suc n) zero = refl
zeros_at (suc n) (suc i) = zeros_at n i

-- one number set anew, in a list of which all numbers have a property, and in one of which those so far have one
module _ (l : List ℕ) (i v : ℕ) (h : i < length l) where
  pub set_all : (P : ℕ → Type 0) → ((j : ℕ) → P (get_or l j 0)) → P v → (j : ℕ) → P (get_or (set l i v) j 0)
  set_all P old new j =
      ⊎_elim
      (λ e. subst (λ (k : ℕ). P (get_or (set l i v) k 0)) (sym (eqb-true j i e)) (subst P (sym (get_or-set_same l i v 0 h)) new))
      (λ e. subst P (sym (get_or-set_other l i j v 0 (eqb-false j i e))) (old j))
      (passes_or_fails (eqb j i))

  pub set_up_to : (P : ℕ → ℕ → Type 0) → ((j : ℕ) → j < i → P j (get_or l j 0)) → P i v → (j : ℕ) → j < i + 1
      → P j (get_or (set l i v) j 0)
  set_up_to P old new =
      below_more (λ j. P j (get_or (set l i v) j 0)) i
      (λ j k. subst (P j) (sym (get_or-set_other l i j v 0 (omega arith))) (old j k))
      (subst (P i) (sym (get_or-set_same l i v 0 h)) new)

-- all numbers of one list are in another
abbrev pub AllIn : List ℕ → List ℕ → Type 0
AllIn ks = Each (λ k. Memᴰ k ks)

pub all_in_none : (ks : List ℕ) → AllIn ks []
all_in_none ks = each_none (λ k. Memᴰ k ks)

pub all_in_append : (ks u v : List ℕ) → AllIn ks u → AllIn ks v → AllIn ks (u ++ v)
all_in_append ks = each_append (λ k. Memᴰ k ks)

pub same_numbers_lem : (ms ns : List ℕ) → same_numbers ms ns ≡ true → ms ≡ ns
unfolding same_numbers
same_numbers_lem [] [] e = refl
same_numbers_lem [] (n ∷ ns) e = absurd (false≢true e)
same_numbers_lem (m ∷ ms) [] e = absurd (false≢true e)
same_numbers_lem (m ∷ ms) (n ∷ ns) e =
    let p = eqb-true m n (and_left (eqb m n) (same_numbers ms ns) e) in
    let q = same_numbers_lem ms ns (and_right (eqb m n) (same_numbers ms ns) e) in
    cc

pub same_numbers_refl : (ns : List ℕ) → same_numbers ns ns ≡ true
unfolding same_numbers
same_numbers_refl [] = refl
same_numbers_refl (n ∷ ns) = and_intro (eqb n n) (same_numbers ns ns) (eq-eqb n n refl) (same_numbers_refl ns)

pub numbers_decide : (ms ns : List ℕ) → (same_numbers ms ns ≡ true) ↔ (ms ≡ ns)
numbers_decide ms ns = (same_numbers_lem ms ns, λ e. rw e (same_numbers_refl ns))

-- where the test of one element decides its fact: some element has it, every element has it
module _ {A : Type 0} {P : A → Type 0} (test : A → Bool) (xs : List A) (decides : (x : A) → (test x ≡ true) ↔ P x) where
  pub any_decides : (any_pass test xs ≡ true) ↔ ((x : A) × Memᴰ x xs × P x)
  any_decides = (
    λ e.
        let r = any_found test xs e in
        (r.0, r.1, (decides r.0).0 r.2),
    λ r. any_of test r.1 ((decides r.0).1 r.2),
  )

  pub all_decides : (all_pass test xs ≡ true) ↔ ((x : A) → Memᴰ x xs → P x)
  all_decides = (λ e x m. (decides x).0 (all_at test e m), λ h. all_of test xs (λ x m. (decides x).1 (h x m)))

-- an element at the end of distinct ones
module _ {A : Type 0} (same : A → A → Bool) (same_sym : (x y : A) → same x y ≡ true → same y x ≡ true) where
  apart : {x : A} {xs : List A} (y : A) (ys : List A) → Memᴰ x xs → all_distinct same (xs ++ y ∷ ys) ≡ true → same x y ≡ true → ⊥
  unfolding all_distinct
  apart y ys (Memᴰ.head {x = z} {xs = zs} q) d e =
      let n = and_left (not (any_pass (same z) (zs ++ y ∷ ys))) (all_distinct same (zs ++ y ∷ ys)) d in
      not_both
      (any_of (same z) (Memᴰ.append_right zs (Memᴰ.head refl)) (ap (λ (w : A). same w y) (sym q) ∙ e))
      (not-true (any_pass (same z) (zs ++ y ∷ ys)) n)
  apart y ys (Memᴰ.tail {x = z} {xs = zs} m) d e =
      apart y ys m (and_right (not (any_pass (same z) (zs ++ y ∷ ys))) (all_distinct same (zs ++ y ∷ ys)) d) e

  pub distinct_new : (xs : List A) (y : A) (ys : List A) → all_distinct same (xs ++ y ∷ ys) ≡ true → any_pass (same y) xs ≡ false
  distinct_new xs y ys d =
      false_of (any_pass (same y) xs) (λ e. let r = any_found (same y) xs e in apart y ys r.1 d (same_sym y r.0 r.2))

  pub distinct_end : (xs : List A) (y : A) → all_distinct same xs ≡ true → any_pass (same y) xs ≡ false
      → all_distinct same (xs ++ (y ∷ [])) ≡ true
  unfolding all_distinct
  distinct_end [] y d n = refl
  distinct_end (x ∷ xs) y d n =
      let p = or_false (same y x) (any_pass (same y) xs) n in
      let older = not-true (any_pass (same x) xs) (and_left (not (any_pass (same x) xs)) (all_distinct same xs) d) in
      and_intro
      (not (any_pass (same x) (xs ++ (y ∷ []))))
      (all_distinct same (xs ++ (y ∷ [])))
      (ap not (false_of (any_pass (same x) (xs ++ (y ∷ []))) (λ e. unlike older p.0 e)))
      (distinct_end xs y (and_right (not (any_pass (same x) xs)) (all_distinct same xs) d) p.1)
    where
      unlike : any_pass (same x) xs ≡ false → same y x ≡ false → any_pass (same x) (xs ++ (y ∷ [])) ≡ true → ⊥
      unlike older newer e =
          let r = any_found (same x) (xs ++ (y ∷ [])) e in
          ⊎_elim
          (λ m. not_both (any_of (same x) m r.2) older)
          (λ m. not_both (same_sym x y (any_one r.0 m r.2)) newer)
          (Memᴰ.append_cases xs r.1)
        where
          any_one : (z : A) → Memᴰ z (y ∷ []) → same x z ≡ true → same x y ≡ true
          any_one z (Memᴰ.head q) s = ap (same x) (sym q) ∙ s
          any_one z (Memᴰ.tail m) s = elim m [ ]

pub joined_append : {A B : Type 0} (f : A → List B) (xs ys : List A) → joined_of f (xs ++ ys) ≡ joined_of f xs ++ joined_of f ys
unfolding joined_of
joined_append f [] ys = refl
joined_append {A} {B} f (x ∷ xs) ys =
    ap (λ (zs : List B). f x ++ zs) (joined_append f xs ys) ∙ sym (append_assoc (f x) (joined_of f xs) (joined_of f ys))

pub joined_end : {A B : Type 0} (f : A → List B) (xs : List A) (x : A) → joined_of f (xs ++ (x ∷ [])) ≡ joined_of f xs ++ f x
unfolding joined_of
joined_end {A} {B} f xs x = joined_append f xs (x ∷ []) ∙ ap (λ (l : List B). joined_of f xs ++ l) (append-nil (f x))

pub eqb_decides : (m n : ℕ) → (eqb m n ≡ true) ↔ (m ≡ n)
eqb_decides m n = (eqb-true m n, eq-eqb m n)

pub eqb_sym : (m n : ℕ) → eqb m n ≡ true → eqb n m ≡ true
eqb_sym = decided_sym eqb eqb_decides

-- the numbers below a bound
pub numbers_within : (from n : ℕ) {k : ℕ} → Memᴰ k (numbers_from from n) → (from ≤ k) × (k < from + n)
unfolding numbers_from
numbers_within from zero m = elim m [ ]
numbers_within from (suc n) {k} m =
    ⊎_elim
    (λ e. omega arith)
    (λ q. let r = numbers_within (suc from) n q in omega arith)
    (Memᴰ.cases_cons m)

from_numbers : (from n k : ℕ) → from ≤ k → k < from + n → Memᴰ k (numbers_from from n)
unfolding numbers_from
from_numbers from zero k p q = absurd (omega arith)
from_numbers from (suc n) k p q =
    ⊎_elim
    (λ e. Memᴰ.head (eqb-true k from e))
    (λ e. let other = eqb-false k from e in Memᴰ.tail (from_numbers (suc from) n k (omega (arith, other)) (omega arith)))
    (passes_or_fails (eqb k from))

pub numbers_below_lem : (n k : ℕ) → Memᴰ k (numbers_below n) ↔ (k < n)
unfolding numbers_below
numbers_below_lem n k =
    (λ m. let r = numbers_within zero n m in omega arith, λ h. from_numbers zero n k (omega arith) (omega arith))

from_differ : (from n : ℕ) → all_distinct eqb (numbers_from from n) ≡ true
unfolding numbers_from all_distinct
from_differ from zero = refl
from_differ from (suc n) =
    and_intro
    (not (any_pass (eqb from) (numbers_from (suc from) n)))
    (all_distinct eqb (numbers_from (suc from) n))
    (ap not (false_of (any_pass (eqb from) (numbers_from (suc from) n)) first))
    (from_differ (suc from) n)
  where
    first : any_pass (eqb from) (numbers_from (suc from) n) ≡ true → ⊥
    first e =
        let r = any_found (eqb from) (numbers_from (suc from) n) e in
        let same = eqb-true from r.0 r.2 in
        let above = numbers_within (suc from) n r.1 in
        omega arith

pub numbers_differ : (n : ℕ) → all_distinct eqb (numbers_below n) ≡ true
unfolding numbers_below
numbers_differ n = from_differ zero n

pub one_place : (ns : List ℕ) (i j : ℕ) {m n : ℕ} → all_distinct eqb ns ≡ true → get_elem? ns i ≡ just m → get_elem? ns j ≡ just n → m ≡ n → i ≡ j
one_place ns i j {m} {n} d p q e = differ_at eqb eqb_sym ns i j m n d p q (eq-eqb m n e)

module _ {A : Type 0} where
  -- what is kept of different elements differs
  pub keep_differ : (same : A → A → Bool) (test : A → Bool) (xs : List A) → all_distinct same xs ≡ true
      → all_distinct same (keep test xs) ≡ true
  unfolding all_distinct keep
  keep_differ same test [] d = refl
  keep_differ same test (x ∷ xs) d = go (passes_or_fails (test x)) (keep_differ same test xs (and_right new (all_distinct same xs) d))
    where
      new : Bool
      new = not (any_pass (same x) xs)

      first : any_pass (same x) (keep test xs) ≡ true → ⊥
      first e =
          let r = any_found (same x) (keep test xs) e in
          first_differs same x xs (and_left new (all_distinct same xs) d) (kept test xs r.1).0 r.2

      go : (test x ≡ true) ⊎ (test x ≡ false) → all_distinct same (keep test xs) ≡ true
          → all_distinct same (keep test (x ∷ xs)) ≡ true
      go (inl e) ih =
          rw (keep_yes test x xs e)
          (and_intro (not (any_pass (same x) (keep test xs))) (all_distinct same (keep test xs)) (ap not (false_of (any_pass (same x) (keep test xs)) first)) ih)
      go (inr e) ih = rw (keep_no test x xs e) ih

  -- what one of two tests keeps is no more than both keep
  pub keep_either : (p q : A → Bool) (xs : List A) → length (keep (λ x. p x || q x) xs) ≤ length (keep p xs) + length (keep q xs)
  unfolding keep
  keep_either p q [] = omega arith
  keep_either p q (x ∷ xs) = go (p x) (q x) refl refl (keep_either p q xs)
    where
      either : A → Bool
      either y = p y || q y

      go : (a b : Bool) → p x ≡ a → q x ≡ b → length (keep either xs) ≤ length (keep p xs) + length (keep q xs)
          → length (keep either (x ∷ xs)) ≤ length (keep p (x ∷ xs)) + length (keep q (x ∷ xs))
      go true true e d ih = rw (e, d, keep) (omega arith)
      go true false e d ih = rw (e, d, keep) (omega arith)
      go false true e d ih = rw (e, d, keep) (omega arith)
      go false false e d ih = rw (e, d, keep) (omega arith)

  -- the element at a place, or else another
  pub at_else : (xs : List A) (i : ℕ) (d : A) {x : A} → get_elem? xs i ≡ just x → get_or xs i d ≡ x
  at_else [] i d e = let z : ◌≡◌ {A = ℕ} 0 1 = cc in absurd (omega arith)
  at_else (x ∷ xs) zero d e = sym (just_eq e)
  at_else (x ∷ xs) (suc i) d e = at_else xs i d e

  pub at_or_else : (xs : List A) (i : ℕ) (d : A) → i < length xs → get_elem? xs i ≡ just (get_or xs i d)
  at_or_else xs i d h = let (x, e) = below_at xs i h in e ∙ ap just (sym (at_else xs i d e))

module _ {A B : Type 0} where
  -- mapped elements, by positions
  pub map_at : (f : A → B) (xs : List A) (i : ℕ) {x : A} → get_elem? xs i ≡ just x → get_elem? (map f xs) i ≡ just (f x)
  map_at f [] i e = let z : ◌≡◌ {A = ℕ} 0 1 = cc in absurd (omega arith)
  map_at f (y ∷ ys) zero e = ap (λ z. just (f z)) (sym (just_eq e))
  map_at f (y ∷ ys) (suc i) e = map_at f ys i e

  pub at_map : (f : A → B) (xs : List A) (i : ℕ) {y : B} → get_elem? (map f xs) i ≡ just y
      → (x : A) × (get_elem? xs i ≡ just x) × (f x ≡ y)
  at_map f [] i e = let z : ◌≡◌ {A = ℕ} 0 1 = cc in absurd (omega arith)
  at_map f (x ∷ xs) zero e = (x, refl, sym (just_eq e))
  at_map f (x ∷ xs) (suc i) e = at_map f xs i e

  -- lists whose elements are related in order
  module _ {R : A → B → Type 0} where
    pub related_map : (f : A → B) (xs : List A) → ((x : A) → Memᴰ x xs → R x (f x)) → Forall₂ R xs (map f xs)
    related_map f [] h = Forall₂.nil
    related_map f (x ∷ xs) h = Forall₂.cons (h x (Memᴰ.head refl)) (related_map f xs (λ y m. h y (Memᴰ.tail m)))

    pub related_turn : {S : B → A → Type 0} → ((x : A) (y : B) → R x y → S y x) → {xs : List A} {ys : List B} → Forall₂ R xs ys
        → Forall₂ S ys xs
    related_turn turn Forall₂.nil = Forall₂.nil
    related_turn turn (Forall₂.cons {a = x} {b = y} r rs) = Forall₂.cons (turn x y r) (related_turn turn rs)

    pub related_length : {xs : List A} {ys : List B} → Forall₂ R xs ys → length xs ≡ length ys
    related_length Forall₂.nil = refl
    related_length (Forall₂.cons r rs) = ap suc (related_length rs)

    pub related_at : {xs : List A} {ys : List B} → Forall₂ R xs ys → (i : ℕ) {y : B} → get_elem? ys i ≡ just y
        → (x : A) × (get_elem? xs i ≡ just x) × R x y
    related_at Forall₂.nil i e = let z : ◌≡◌ {A = ℕ} 0 1 = cc in absurd (omega arith)
    related_at (Forall₂.cons {a = x} r rs) zero e = (x, refl, subst (λ y. R x y) (sym (just_eq e)) r)
    related_at (Forall₂.cons r rs) (suc i) e = related_at rs i e

    pub related_mem : {xs : List A} {ys : List B} → Forall₂ R xs ys → {y : B} → Memᴰ y ys → (x : A) × Memᴰ x xs × R x y
    related_mem {xs} rs m =
        let at = mem_at m in
        let r = related_at rs at.0 at.1 in
        (r.0, at_mem xs at.0 r.1, r.2)

-- the first elements of a mapped list, and those after them
pub take-map : {A B : Type 0} (f : A → B) (k : ℕ) (xs : List A) → take k (map f xs) ≡ map f (take k xs)
take-map f zero xs = refl
take-map f (suc k) [] = refl
take-map {B = B} f (suc k) (x ∷ xs) = ap (λ (l : List B). f x ∷ l) (take-map f k xs)

pub drop-map : {A B : Type 0} (f : A → B) (k : ℕ) (xs : List A) → drop k (map f xs) ≡ map f (drop k xs)
drop-map f zero xs = refl
drop-map f (suc k) [] = refl
drop-map f (suc k) (x ∷ xs) = drop-map f k xs

-- a part by where it begins and how long it is
pub part_of : (s : List ℕ) (from size : ℕ) → take (from + size - from) (drop from s) ≡ take size (drop from s)
part_of s from size = let z : from + size - from ≡ size = omega arith in ap (λ (n : ℕ). take n (drop from s)) z

pub any_map : {A B : Type 0} (f : A → B) (test : B → Bool) (xs : List A) → any_pass test (map f xs) ≡ any_pass (λ x. test (f x)) xs
unfolding any_pass
any_map f test [] = refl
any_map f test (x ∷ xs) = ap (λ (b : Bool). test (f x) || b) (any_map f test xs)

pub keep-map : {A B : Type 0} (f : A → B) (test : B → Bool) (xs : List A) → keep test (map f xs) ≡ map f (keep (λ x. test (f x)) xs)
unfolding keep
keep-map f test [] = refl
keep-map {A} f test (x ∷ xs) = go (passes_or_fails (test (f x))) (keep-map f test xs)
  where
    go : (test (f x) ≡ true) ⊎ (test (f x) ≡ false) → keep test (map f xs) ≡ map f (keep (λ x. test (f x)) xs)
        → keep test (map f (x ∷ xs)) ≡ map f (keep (λ x. test (f x)) (x ∷ xs))
    go (inl e) ih =
        keep_yes test (f x) (map f xs) e
        ∙ ap (λ (l : List _). f x ∷ l) ih
        ∙ ap (map f) (sym (keep_yes (λ (y : A). test (f y)) x xs e))
    go (inr e) ih = keep_no test (f x) (map f xs) e ∙ ih ∙ ap (map f) (sym (keep_no (λ (y : A). test (f y)) x xs e))

-- what stands at a place of numbers that ascend one by one
pub numbers_at : (from n i : ℕ) {k : ℕ} → get_elem? (numbers_from from n) i ≡ just k → k ≡ from + i
unfolding numbers_from
numbers_at from zero i e = let z : ◌≡◌ {A = ℕ} 0 1 = cc in absurd (omega arith)
numbers_at from (suc n) zero e = let q = just_eq e in omega arith
numbers_at from (suc n) (suc i) e = let q = numbers_at (suc from) n i e in omega arith

pub numbers_length : (from n : ℕ) → length (numbers_from from n) ≡ n
unfolding numbers_from
numbers_length from zero = refl
numbers_length from (suc n) = ap suc (numbers_length (suc from) n)

-- numbers, and those that follow
pub numbers_joined : (a m k : ℕ) → numbers_from a (m + k) ≡ numbers_from a m ++ numbers_from (a + m) k
unfolding numbers_from
numbers_joined a zero k =
    let z : zero + k ≡ k = omega arith in
    let y : a ≡ a + zero = omega arith in
    ap₂ numbers_from y z
numbers_joined a (suc m) k =
    let z : suc m + k ≡ suc (m + k) = omega arith in
    let y : suc a + m ≡ a + suc m = omega arith in
    ap (numbers_from a) z
    ∙ ap (λ (l : List ℕ). a ∷ l)
    (numbers_joined (suc a) m k ∙ ap (λ (b : ℕ). numbers_from (suc a) m ++ numbers_from b k) y)

-- before one and after it
pub numbers_split : (n i : ℕ) → i < n → (later : List ℕ) × (numbers_below n ≡ numbers_below i ++ i ∷ later)
unfolding numbers_below numbers_from
numbers_split n i h =
    let z : n ≡ i + suc (n - suc i) = omega arith in
    let y : zero + i ≡ i = omega arith in (
      numbers_from (suc i) (n - suc i),
      ap (numbers_from zero) z
          ∙ numbers_joined zero i (suc (n - suc i))
          ∙ ap (λ (k : ℕ). numbers_from zero i ++ numbers_from k (suc (n - suc i))) y,
    )

pub numbers_next : (a n : ℕ) → numbers_from a (suc n) ≡ numbers_from a n ++ ((a + n) ∷ [])
unfolding numbers_from
numbers_next a n = ap (numbers_from a) (sym (add-one n)) ∙ numbers_joined a n 1

pub numbers_end : (n : ℕ) → numbers_below (n + 1) ≡ numbers_below n ++ (n ∷ [])
unfolding numbers_below
numbers_end n =
    let z : zero + n ≡ n = omega arith in
    ap (numbers_from zero) (add-one n) ∙ numbers_next zero n ∙ ap (λ (k : ℕ). numbers_from zero n ++ (k ∷ [])) z

pub joined_next : {B : Type 0} (f : ℕ → List B) (n : ℕ)
    → joined_of f (numbers_below (n + 1)) ≡ joined_of f (numbers_below n) ++ f n
joined_next f n = ap (joined_of f) (numbers_end n) ∙ joined_end f (numbers_below n) n

-- a list is what stands at its places
pub listed_from : {A : Type 0} (f : ℕ → A) (a : ℕ) (xs : List A) (d : A) → ((j : ℕ) → j < length xs → f (a + j) ≡ get_or xs j d)
    → xs ≡ map f (numbers_from a (length xs))
unfolding numbers_from
listed_from f a [] d h = refl
listed_from f a (x ∷ xs) d h =
    let z : a + 0 ≡ a = omega arith in
    ap₂ ◌∷◌ (sym (h zero (omega arith)) ∙ ap f z)
    (listed_from f (suc a) xs d (λ j l. let q : suc a + j ≡ a + suc j = omega arith in ap f q ∙ h (suc j) (omega arith)))

-- nothing stands at a place only past the end
pub past_end : {A : Type 0} (xs : List A) (i : ℕ) → get_elem? xs i ≡ nothing → length xs ≤ i
past_end [] i e = omega arith
past_end (x ∷ xs) zero e = let z : ◌≡◌ {A = ℕ} 0 1 = cc in absurd (omega arith)
past_end (x ∷ xs) (suc i) e = let h = past_end xs i e in omega arith

-- the distinct images
pub distinct-map : {A B : Type 0} (f : A → B) (same : B → B → Bool) (xs : List A)
    → distinct same (map f xs) ≡ map f (distinct (λ x y. same (f x) (f y)) xs)
unfolding distinct
distinct-map f same [] = refl
distinct-map {A} {B} f same (x ∷ xs) =
    ap (λ (l : List B). f x ∷ l)
    (ap (keep (λ y. not (same (f x) y))) (distinct-map f same xs)
    ∙ keep-map f (λ y. not (same (f x) y)) (distinct (λ x y. same (f x) (f y)) xs))

-- all is kept where all pass the test
pub keep_all : {A : Type 0} (test : A → Bool) (xs : List A) → ((x : A) → Memᴰ x xs → test x ≡ true) → keep test xs ≡ xs
unfolding keep
keep_all test [] h = refl
keep_all {A} test (x ∷ xs) h =
    keep_yes test x xs (h x (Memᴰ.head refl)) ∙ ap (λ (l : List A). x ∷ l) (keep_all test xs (λ y m. h y (Memᴰ.tail m)))

pub keep_shorter : {A : Type 0} (test : A → Bool) (xs : List A) → length (keep test xs) ≤ length xs
unfolding keep
keep_shorter test [] = omega arith
keep_shorter test (x ∷ xs) = go (passes_or_fails (test x)) (keep_shorter test xs)
  where
    go : (test x ≡ true) ⊎ (test x ≡ false) → length (keep test xs) ≤ length xs → length (keep test (x ∷ xs)) ≤ length (x ∷ xs)
    go (inl e) ih = rw (keep_yes test x xs e) (omega arith)
    go (inr e) ih = rw (keep_no test x xs e) (omega arith)
