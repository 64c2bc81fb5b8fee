-- How many numbers below n are in a set. Main statements: `size-add` (a new number below n makes it one more), `size_le` (it is at
-- most n), `size_grows` (a larger set that has a number more has a larger size): n - size p n is a measure of what is still outside.
use Prim.Native.Nat.{ℕ, zero, suc, ◌*◌, ◌≤◌, ◌<◌, zero-le, suc-le-suc}
use mathlib.Core.Bool.{Bool, true, false, false≢true}
use mathlib.Core.List.{List}
use mathlib.Core.Path.{◌≡◌, refl, sym, ap, ◌∙◌}
use native.Mathlib.Nat.{le_refl, le_trans, le-suc, not-suc-le-zero}
use native.Mathlib.Omega.{arith}
use lib.Dec.{eqb}
use lib.ListN.{length}
use borrow.Author.Tests.{eqb-true, eqb-false}
use Rattle.sets.proofs.SetLaws.{add_other, add_itself}
use Rattle.sets.specs.Sets.{member, size, add, nothing, Compares}

-- one number more looked at
pub size_in : (p : ℕ → Bool) (n : ℕ) → p n ≡ true → size p (suc n) ≡ suc (size p n)
unfolding size
size_in p n e = rw (e, size)

pub size_out : (p : ℕ → Bool) (n : ℕ) → p n ≡ false → size p (suc n) ≡ size p n
unfolding size
size_out p n e = rw (e, size)

-- at most n
pub size_le : (p : ℕ → Bool) (n : ℕ) → size p n ≤ n
unfolding size
size_le p zero = zero-le
size_le p (suc n) = go (p n) refl (size_le p n)
  where
    go : (b : Bool) → p n ≡ b → size p n ≤ n → size p (suc n) ≤ suc n
    go true e h = rw (size_in p n e) (suc-le-suc h)
    go false e h = rw (size_out p n e) (le_trans h (le-suc n))

pub size-nothing : (n : ℕ) → size nothing n ≡ 0
unfolding size
size-nothing zero = refl
size-nothing (suc n) = size-nothing n

-- sets that agree below n
pub size_same : (p q : ℕ → Bool) (n : ℕ) → ((j : ℕ) → j < n → p j ≡ q j) → size p n ≡ size q n
unfolding size
size_same p q zero h = refl
size_same p q (suc n) h = go (p n) refl (size_same p q n (λ j l. h j (le_trans l (le-suc n))))
  where
    go : (b : Bool) → p n ≡ b → size p n ≡ size q n → size p (suc n) ≡ size q (suc n)
    go true e s = size_in p n e ∙ ap suc s ∙ sym (size_in q n (sym (h n (le_refl (suc n))) ∙ e))
    go false e s = size_out p n e ∙ s ∙ sym (size_out q n (sym (h n (le_refl (suc n))) ∙ e))

-- a larger set
pub size_more : (p q : ℕ → Bool) (n : ℕ) → ((j : ℕ) → j < n → p j ≡ true → q j ≡ true) → size p n ≤ size q n
unfolding size
size_more p q zero h = zero-le
size_more p q (suc n) h = go (p n) (q n) refl refl (size_more p q n (λ j l. h j (le_trans l (le-suc n))))
  where
    go : (b c : Bool) → p n ≡ b → q n ≡ c → size p n ≤ size q n → size p (suc n) ≤ size q (suc n)
    go true true e f s = rw (size_in p n e, size_in q n f) (suc-le-suc s)
    go true false e f s = absurd (false≢true (sym f ∙ h n (le_refl (suc n)) e))
    go false true e f s = rw (size_out p n e, size_in q n f) (le_trans s (le-suc (size q n)))
    go false false e f s = rw (size_out p n e, size_out q n f) s

-- a larger set that has a number more
pub size_grows : (p q : ℕ → Bool) (n k : ℕ) → ((j : ℕ) → j < n → p j ≡ true → q j ≡ true) → k < n → p k ≡ false → q k ≡ true
    → size p n < size q n
size_grows p q zero k h l pk qk = absurd (not-suc-le-zero l)
size_grows p q (suc n) k h l pk qk = here (eqb k n) refl (size_grows p q n k (λ j i. h j (le_trans i (le-suc n))))
  where
    later : (b c : Bool) → p n ≡ b → q n ≡ c → size p n < size q n → size p (suc n) < size q (suc n)
    later true true e f s = rw (size_in p n e, size_in q n f) (suc-le-suc s)
    later true false e f s = absurd (false≢true (sym f ∙ h n (le_refl (suc n)) e))
    later false true e f s = rw (size_out p n e, size_in q n f) (le_trans s (le-suc (size q n)))
    later false false e f s = rw (size_out p n e, size_out q n f) s

    here : (b : Bool) → eqb k n ≡ b → (k < n → p k ≡ false → q k ≡ true → size p n < size q n) → size p (suc n) < size q (suc n)
    here true e s =
        let at : k ≡ n = eqb-true k n e in
        rw (size_out p n (ap p (sym at) ∙ pk), size_in q n (ap q (sym at) ∙ qk))
        (suc-le-suc (size_more p q n (λ j i. h j (le_trans i (le-suc n)))))
    here false e s = let d = eqb-false k n e in later (p n) (q n) refl refl (s (omega arith) pk qk)

-- a new number below n
pub size-add : (p : ℕ → Bool) (n k : ℕ) → k < n → p k ≡ false → size (add k p) n ≡ suc (size p n)
size-add p zero k l e = absurd (not-suc-le-zero l)
size-add p (suc n) k l e = here (eqb k n) refl (size-add p n k)
  where
    later : (b : Bool) → p n ≡ b → (n ≡ k → ⊥) → size (add k p) n ≡ suc (size p n) → size (add k p) (suc n) ≡ suc (size p (suc n))
    later true f d s = size_in (add k p) n (add_other p k n d ∙ f) ∙ ap suc s ∙ sym (ap suc (size_in p n f))
    later false f d s = size_out (add k p) n (add_other p k n d ∙ f) ∙ s ∙ sym (ap suc (size_out p n f))

    here : (b : Bool) → eqb k n ≡ b → (k < n → p k ≡ false → size (add k p) n ≡ suc (size p n)) → size (add k p) (suc n) ≡ suc (size p (suc n))
    here true f s =
        let at : k ≡ n = eqb-true k n f in
        size_in (add k p) n (ap (add k p) (sym at) ∙ add_itself p k)
        ∙ ap suc (size_same (add k p) p n (λ j i. add_other p k j (λ q. omega arith)) ∙ sym (size_out p n (ap p (sym at) ∙ e)))
    here false f s = let d = eqb-false k n f in later (p n) refl (λ q. d (sym q)) (s (omega arith) e)

-- a set that has all of another's members, and is not the same, has more
pub size_compares : {a b : List ℕ} {r : Bool} → Compares a b r → ((j : ℕ) → member a 0 j ≡ true → member b 0 j ≡ true) → r ≡ false
    → size (member a 0) (32 * length a) < size (member b 0) (32 * length a)
size_compares {a} {b} c h e =
    let (k, below, apart) = c.differ e in
    go k below apart (member a 0 k) (member b 0 k) refl refl
  where
    go : (k : ℕ) → k < 32 * length a → (member a 0 k ≡ member b 0 k → ⊥) → (s t : Bool) → member a 0 k ≡ s → member b 0 k ≡ t
        → size (member a 0) (32 * length a) < size (member b 0) (32 * length a)
    go k below apart true true p q = absurd (apart (p ∙ sym q))
    go k below apart true false p q = absurd (apart (p ∙ sym (h k p)))
    go k below apart false true p q = size_grows (member a 0) (member b 0) (32 * length a) k (λ j l. h j) below p q
    go k below apart false false p q = absurd (apart (p ∙ sym q))
