-- Rounds, each adding types to the known ones:
--     rounds_keep      what every round keeps holds of what the rounds end with
--     rounds_start     what was known at the start is known at the end
--     rounds_hold      what holds of the types at the start, and of the types that a round adds, holds of all at the end
--     rounds_closed    the rounds end where one adds nothing, if a round adds only new types, and of a fixed list of types that
--                      is no longer than the number of rounds
--     closed_has       where a round adds nothing, all that it would add if it were new is known
--     not_known_lem        the types that `not_known` gives are those that are not known
use Prim.Native.Nat.{ℕ, zero, suc, ◌+◌, ◌≤◌, ◌<◌}
use native.Mathlib.Omega.{arith}
use mathlib.Core.Bool.{Bool, true, false, not}
use mathlib.Core.List.Memᴰ
use mathlib.Core.List.{
  List,
  [],
  ◌∷◌,
  ◌++◌,
  Memᴰ,
}
use mathlib.Core.Logic.{◌↔◌, ◌⊎◌, inl, inr, ⊎_elim}
use mathlib.Core.Path.{◌≡◌, refl, sym, ◌∙◌, ap, subst}
use lib.ListN.{length}
use lib.Dec.{eqb}
use borrow.Author.Tests.{not-true}
use Rattle.grammar.specs.Lists.{keep, distinct, is_in}
use Rattle.grammar.specs.Reduce.{rounds, not_known}
use Rattle.theory.proofs.Lists.BoolLaws.{false_of, not_both, passes_or_fails}
use Rattle.theory.proofs.Lists.ListLaws.{
  keep_yes,
  keep_no,
  kept,
  keep_mem,
  distinct_was,
  in_mem,
  mem_in,
  keep_shorter,
  distinct_mem,
  eqb_decides,
  AllIn,
}

-- a stricter test keeps fewer
module _ {A : Type 0} (strict lax : A → Bool) (stricter : (x : A) → strict x ≡ true → lax x ≡ true) where
  -- one element more, where the difference is at least i
  fewer_at : (i : ℕ) (x : A) (xs : List A) → i + length (keep strict xs) ≤ length (keep lax xs)
      → i + length (keep strict (x ∷ xs)) ≤ length (keep lax (x ∷ xs))
  fewer_at i x xs h = go (passes_or_fails (strict x)) (passes_or_fails (lax x))
    where
      go : (strict x ≡ true) ⊎ (strict x ≡ false) → (lax x ≡ true) ⊎ (lax x ≡ false)
          → i + length (keep strict (x ∷ xs)) ≤ length (keep lax (x ∷ xs))
      go (inl p) (inl q) = rw (keep_yes strict x xs p, keep_yes lax x xs q) (omega arith)
      go (inl p) (inr q) = absurd (not_both (stricter x p) q)
      go (inr p) (inl q) = rw (keep_no strict x xs p, keep_yes lax x xs q) (omega arith)
      go (inr p) (inr q) = rw (keep_no strict x xs p, keep_no lax x xs q) h

  keep_fewer : (xs : List A) → 0 + length (keep strict xs) ≤ length (keep lax xs)
  unfolding keep
  keep_fewer [] = omega arith
  keep_fewer (x ∷ xs) = fewer_at 0 x xs (keep_fewer xs)

  keep_less : {x : A} {xs : List A} → Memᴰ x xs → strict x ≡ false → lax x ≡ true
      → 1 + length (keep strict xs) ≤ length (keep lax xs)
  keep_less (Memᴰ.head {x = y} {xs = ys} e) p q =
      let h = keep_fewer ys in
      rw (keep_no strict y ys (ap strict (sym e) ∙ p), keep_yes lax y ys (ap lax (sym e) ∙ q)) (omega arith)
  keep_less (Memᴰ.tail {x = y} {xs = ys} m) p q = fewer_at 1 y ys (keep_less m p q)

-- a number that is not among some
absent : (k : ℕ) (ks : List ℕ) → (Memᴰ k ks → ⊥) → not (is_in k ks) ≡ true
absent k ks h = ap not (false_of (is_in k ks) (λ e. h (in_mem k ks e)))

absent_is : (k : ℕ) (ks : List ℕ) → not (is_in k ks) ≡ true → Memᴰ k ks → ⊥
absent_is k ks e m = not_both (mem_in m) (not-true (is_in k ks) e)

pub not_known_lem : (known types : List ℕ) (k : ℕ)
    → Memᴰ k (not_known known types) ↔ (Memᴰ k types × (Memᴰ k known → ⊥))
unfolding not_known
not_known_lem known types k = (there, back)
  where
    there : Memᴰ k (distinct eqb (keep (λ l. not (is_in l known)) types)) → Memᴰ k types × (Memᴰ k known → ⊥)
    there m =
        let n = kept (λ l. not (is_in l known)) types (distinct_was eqb (keep (λ l. not (is_in l known)) types) m) in
        (n.0, absent_is k known n.1)

    back : Memᴰ k types × (Memᴰ k known → ⊥) → Memᴰ k (distinct eqb (keep (λ l. not (is_in l known)) types))
    back p =
        distinct_mem eqb eqb_decides (keep_mem (λ l. not (is_in l known)) p.0 (absent k known p.1))

module _ (newly : List ℕ → List ℕ) where
  -- where a round adds nothing, what it would add if it were new is known
  pub closed_has : (known : List ℕ) (k : ℕ) → newly known ≡ []
      → ((Memᴰ k known → ⊥) → Memᴰ k (newly known)) → Memᴰ k known
  closed_has known k e h =
      ⊎_elim
      (λ t. in_mem k known t)
      (λ f. nothing (subst (λ (l : List ℕ). Memᴰ k l) e (h (λ m. not_both (mem_in m) f))))
      (passes_or_fails (is_in k known))
    where
      nothing : Memᴰ k [] → Memᴰ k known
      nothing m = elim m [ ]

  rounds_over : (n : ℕ) (known : List ℕ) → newly known ≡ [] → rounds (suc n) newly known ≡ known
  unfolding rounds
  rounds_over n known e = rw (e, rounds)

  rounds_on : (n : ℕ) (known : List ℕ) {k : ℕ} {ks : List ℕ} → newly known ≡ k ∷ ks
      → rounds (suc n) newly known ≡ rounds n newly (known ++ (k ∷ ks))
  unfolding rounds
  rounds_on n known e = rw (e, rounds)

  pub rounds_keep : (Q : List ℕ → Type 0) → ((known : List ℕ) → Q known → Q (known ++ newly known)) → (n : ℕ) (known : List ℕ)
      → Q known
      → Q (rounds n newly known)
  unfolding rounds
  rounds_keep Q step zero known q = q
  rounds_keep Q step (suc n) known q = go (newly known) refl (λ l p. rounds_keep Q step n l p)
    where
      go : (ks : List ℕ) → newly known ≡ ks → ((l : List ℕ) → Q l → Q (rounds n newly l)) → Q (rounds (suc n) newly known)
      go [] e ih = rw (rounds_over n known e) q
      go (k ∷ ks) e ih =
          rw (rounds_on n known e) (ih (known ++ (k ∷ ks)) (subst (λ (l : List ℕ). Q (known ++ l)) e (step known q)))

  pub rounds_start : (n : ℕ) (known : List ℕ) → AllIn (rounds n newly known) known
  rounds_start n known = rounds_keep (λ l. AllIn l known) (λ l p k m. Memᴰ.append_left (newly l) (p k m)) n known (λ k m. m)

  pub rounds_hold : (P : ℕ → Type 0)
      → ((known : List ℕ) → ((k : ℕ) → Memᴰ k known → P k) → (k : ℕ) → Memᴰ k (newly known) → P k)
      → (n : ℕ) (known : List ℕ)
      → ((k : ℕ) → Memᴰ k known → P k)
      → (k : ℕ) → Memᴰ k (rounds n newly known)
      → P k
  rounds_hold P step =
      rounds_keep
      (λ l. (k : ℕ) → Memᴰ k l → P k)
      (λ l p k m. ⊎_elim (λ n. p k n) (λ n. step l p k n) (Memᴰ.append_cases l m))

  module _ (bound : List ℕ) (new : (known : List ℕ) (k : ℕ) → Memᴰ k (newly known) → Memᴰ k known → ⊥)
      (bounded : (known : List ℕ) → AllIn bound (newly known)) where
    -- how many of the bound are not known
    left : List ℕ → ℕ
    left known = length (keep (λ k. not (is_in k known)) bound)

    fewer_left : (known ks : List ℕ) {k : ℕ} → Memᴰ k (newly known) → Memᴰ k ks → left (known ++ ks) < left known
    unfolding left
    fewer_left known ks {k} m n =
        let h =
        keep_less (λ l. not (is_in l (known ++ ks))) (λ l. not (is_in l known))
        (λ l e. absent l known (λ p. absent_is l (known ++ ks) e (Memᴰ.append_left ks p)))
        (bounded known k m)
        (ap not (mem_in (Memᴰ.append_right known n)))
        (absent k known (new known k m))
        in
        omega arith

    closed_left : (n : ℕ) (known : List ℕ) → left known ≤ n → newly (rounds n newly known) ≡ []
    unfolding rounds
    closed_left zero known h = go (newly known) refl
      where
        go : (ks : List ℕ) → newly known ≡ ks → newly known ≡ []
        go [] e = e
        go (k ∷ ks) e =
            let f = fewer_left known (k ∷ ks) (rw e (Memᴰ.head refl)) (Memᴰ.head {x = k} refl) in
            absurd (omega arith)
    closed_left (suc n) known h = go (newly known) refl (λ l p. closed_left n l p)
      where
        go : (ks : List ℕ) → newly known ≡ ks → ((l : List ℕ) → left l ≤ n → newly (rounds n newly l) ≡ [])
            → newly (rounds (suc n) newly known) ≡ []
        go [] e ih = rw (rounds_over n known e) e
        go (k ∷ ks) e ih =
            let f = fewer_left known (k ∷ ks) (rw e (Memᴰ.head refl)) (Memᴰ.head {x = k} refl) in
            rw (rounds_on n known e) (ih (known ++ (k ∷ ks)) (omega arith))

    pub rounds_closed : (n : ℕ) (known : List ℕ) → length bound ≤ n → newly (rounds n newly known) ≡ []
    unfolding left
    rounds_closed n known h =
        let l = keep_shorter (λ k. not (is_in k known)) bound in
        closed_left n known (omega arith)
