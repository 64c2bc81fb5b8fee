-- Lists of which no two elements are alike, by their positions (NoTwoRules and DistinctNames are of this form):
--     no_two_append      two such lists, nothing of the one like anything of the other
--     no_two_keep        what is kept of such a list
--     no_two_map         a list of images
--     no_two_distinct    the distinct elements of any list
use Prim.Native.Nat.{ℕ, zero, suc}
use native.Mathlib.Omega.{arith}
use mathlib.Core.Bool.{Bool, true, false, not}
use mathlib.Core.List.Memᴰ
use mathlib.Core.List.{
  List,
  [],
  ◌∷◌,
  ◌++◌,
  map,
  Memᴰ,
}
use mathlib.Core.Logic.{◌⊎◌, inl, inr, ⊎_elim}
use mathlib.Core.Option.{some}
use mathlib.Core.Path.{◌≡◌, refl, sym, ap, subst}
use lib.ListN.{get_elem?}
use borrow.Author.Tests.{not-true}
use Rattle.grammar.specs.Lists.{keep, distinct}
use Rattle.theory.proofs.Lists.BoolLaws.{not_both, passes_or_fails}
use Rattle.theory.proofs.Lists.ListLaws.{keep_yes, keep_no, kept, at_mem, mem_at, just_eq, at_map}

module _ {A : Type 0} where
  abbrev pub NoTwo : (A → A → Type 0) → List A → Type 0
  NoTwo Alike xs = (i j : ℕ) (x y : A) → get_elem? xs i ≡ some x → get_elem? xs j ≡ some y → Alike x y → i ≡ j

  -- nothing of the one list is like anything of the other
  pub record Apart (Alike : A → A → Type 0) (xs ys : List A) : Type 0 where
    pub forth : (x y : A) → Memᴰ x xs → Memᴰ y ys → Alike x y → ⊥
    pub back : (x y : A) → Memᴰ x xs → Memᴰ y ys → Alike y x → ⊥

  module _ (Alike : A → A → Type 0) where
    pub no_two_nil : NoTwo Alike []
    no_two_nil i j x y p q a = let z : ◌≡◌ {A = ℕ} 0 1 = cc in omega arith

    pub no_two_cons : (x : A) (xs : List A) → Apart Alike (x ∷ []) xs → NoTwo Alike xs → NoTwo Alike (x ∷ xs)
    no_two_cons z zs d h zero zero x y p q a = refl
    no_two_cons z zs d h zero (suc j) x y p q a =
        absurd (d.forth x y (Memᴰ.head (just_eq p)) (at_mem zs j q) a)
    no_two_cons z zs d h (suc i) zero x y p q a =
        absurd (d.back y x (Memᴰ.head (just_eq q)) (at_mem zs i p) a)
    no_two_cons z zs d h (suc i) (suc j) x y p q a = ap suc (h i j x y p q a)

    pub no_two_tail : (x : A) (xs : List A) → NoTwo Alike (x ∷ xs) → NoTwo Alike xs
    no_two_tail z zs h i j x y p q a = let e = h (suc i) (suc j) x y p q a in omega arith

    pub no_two_head : (x : A) (xs : List A) → NoTwo Alike (x ∷ xs) → Apart Alike (x ∷ []) xs
    no_two_head z zs h =
        record {
          forth = λ x y m n a. let at = mem_at n in let e = h zero (suc at.0) x y (first m) at.1 a in omega arith;
          back = λ x y m n a. let at = mem_at n in let e = h (suc at.0) zero y x at.1 (first m) a in omega arith;
        }
      where
        first : {x : A} → Memᴰ x (z ∷ []) → get_elem? (z ∷ zs) zero ≡ some x
        first (Memᴰ.head e) = ap some (sym e)
        first (Memᴰ.tail m) = elim m [ ]

    pub no_two_append : (xs ys : List A) → NoTwo Alike xs → NoTwo Alike ys → Apart Alike xs ys → NoTwo Alike (xs ++ ys)
    no_two_append [] ys h k d = k
    no_two_append (x ∷ xs) ys h k d =
        no_two_cons x (xs ++ ys)
        (record {
          forth =
              λ y z m n a.
              ⊎_elim
              (λ p. (no_two_head x xs h).forth y z m p a)
              (λ p. d.forth y z (among m) p a)
              (Memᴰ.append_cases xs n);
          back =
              λ y z m n a.
              ⊎_elim
              (λ p. (no_two_head x xs h).back y z m p a)
              (λ p. d.back y z (among m) p a)
              (Memᴰ.append_cases xs n);
        })
        (no_two_append xs ys (no_two_tail x xs h) k
        (record { forth = λ y z m. d.forth y z (Memᴰ.tail m); back = λ y z m. d.back y z (Memᴰ.tail m) }))
      where
        among : {y : A} → Memᴰ y (x ∷ []) → Memᴰ y (x ∷ xs)
        among (Memᴰ.head e) = Memᴰ.head e
        among (Memᴰ.tail m) = elim m [ ]

    pub no_two_keep : (test : A → Bool) (xs : List A) → NoTwo Alike xs → NoTwo Alike (keep test xs)
    unfolding keep
    no_two_keep test [] h = h
    no_two_keep test (x ∷ xs) h = go (passes_or_fails (test x)) (no_two_keep test xs (no_two_tail x xs h))
      where
        go : (test x ≡ true) ⊎ (test x ≡ false) → NoTwo Alike (keep test xs) → NoTwo Alike (keep test (x ∷ xs))
        go (inl e) ih =
            subst (λ (l : List A). NoTwo Alike l) (sym (keep_yes test x xs e))
            (no_two_cons x (keep test xs)
            (record {
              forth = λ y z m n. (no_two_head x xs h).forth y z m (kept test xs n).0;
              back = λ y z m n. (no_two_head x xs h).back y z m (kept test xs n).0;
            })
            ih)
        go (inr e) ih = subst (λ (l : List A). NoTwo Alike l) (sym (keep_no test x xs e)) ih

  -- where elements that are alike in one way are alike in another
  pub no_two_weaken : (Alike Same : A → A → Type 0) (xs : List A) → NoTwo Same xs
      → ((x y : A) → Memᴰ x xs → Memᴰ y xs → Alike x y → Same x y) → NoTwo Alike xs
  no_two_weaken Alike Same xs h k i j x y p q a = h i j x y p q (k x y (at_mem xs i p) (at_mem xs j q) a)

  pub no_two_distinct : (same : A → A → Bool) → ((x y : A) → same x y ≡ true → same y x ≡ true) → (xs : List A)
      → NoTwo (λ x y. same x y ≡ true) (distinct same xs)
  unfolding distinct
  no_two_distinct same same_sym [] = no_two_nil (λ x y. same x y ≡ true)
  no_two_distinct same same_sym (x ∷ xs) =
      no_two_cons (λ y z. same y z ≡ true) x (keep (λ y. not (same x y)) (distinct same xs))
      (record {
        forth = λ y z m n a. differs y z m n a;
        back = λ y z m n a. differs y z m n (same_sym z y a);
      })
      (no_two_keep (λ y z. same y z ≡ true) (λ y. not (same x y)) (distinct same xs) (no_two_distinct same same_sym xs))
    where
      differs : (y z : A) → Memᴰ y (x ∷ []) → Memᴰ z (keep (λ w. not (same x w)) (distinct same xs)) → same y z ≡ true
          → ⊥
      differs y z (Memᴰ.head e) n a =
          not_both (subst (λ (w : A). same w z ≡ true) e a)
          (not-true (same x z) (kept (λ w. not (same x w)) (distinct same xs) n).1)
      differs y z (Memᴰ.tail m) n a = elim m [ ]

module _ {A B : Type 0} where
  pub no_two_map : (f : A → B) (Alike : B → B → Type 0) (xs : List A) → NoTwo (λ x y. Alike (f x) (f y)) xs
      → NoTwo Alike (map f xs)
  no_two_map f Alike xs h i j x y p q a =
      let (u, eu, fu) = at_map f xs i p in
      let (v, ev, fv) = at_map f xs j q in
      h i j u v eu ev (subst (λ (z : B). Alike (f u) z) (sym fv) (subst (λ (z : B). Alike z y) (sym fu) a))
