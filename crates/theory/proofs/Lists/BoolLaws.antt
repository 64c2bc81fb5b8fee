-- Tests and the facts that they decide: and_left, and_right, and_intro, or_cases, or_left, or_right, or_false, and of tests made of
-- tests and_decides, or_decides, unless_decides.
use mathlib.Core.Bool.{Bool, true, false, not, ◌&&◌, ◌||◌, true≢false, false≢true}
use mathlib.Core.Logic.{◌↔◌, ◌⊎◌, inl, inr, ⊎_elim}
use mathlib.Core.Path.{◌≡◌, refl, sym, ◌∙◌, ap}

pub and_left : (a b : Bool) → (a && b) ≡ true → a ≡ true
and_left true b e = refl
and_left false b e = e

pub and_right : (a b : Bool) → (a && b) ≡ true → b ≡ true
and_right true b e = e
and_right false b e = absurd (false≢true e)

pub and_intro : (a b : Bool) → a ≡ true → b ≡ true → (a && b) ≡ true
and_intro true b p q = q
and_intro false b p q = p

pub or_cases : (a b : Bool) → (a || b) ≡ true → (a ≡ true) ⊎ (b ≡ true)
or_cases true b e = inl refl
or_cases false b e = inr e

pub or_left : (a b : Bool) → a ≡ true → (a || b) ≡ true
or_left true b p = refl
or_left false b p = absurd (false≢true p)

pub or_right : (a b : Bool) → b ≡ true → (a || b) ≡ true
or_right true b p = refl
or_right false b p = p

pub or_false : (a b : Bool) → (a || b) ≡ false → (a ≡ false) × (b ≡ false)
or_false true b e = absurd (true≢false e)
or_false false b e = (refl, e)

-- a test fails where it cannot pass
pub false_of : (a : Bool) → (a ≡ true → ⊥) → a ≡ false
false_of true h = absurd (h refl)
false_of false h = refl

pub not_both : {a : Bool} → a ≡ true → a ≡ false → ⊥
not_both p q = true≢false (sym p ∙ q)

-- a test passes or fails
pub passes_or_fails : (a : Bool) → (a ≡ true) ⊎ (a ≡ false)
passes_or_fails true = inl refl
passes_or_fails false = inr refl

-- two tests of one fact are equal
pub same_test : (a b : Bool) → (a ≡ true) ↔ (b ≡ true) → a ≡ b
same_test true b e = sym (e.0 refl)
same_test false true e = e.1 refl
same_test false false e = refl

-- a test that is made of tests decides what is made of their facts
pub and_decides : (a b : Bool) {A B : Type 0} → (a ≡ true) ↔ A → (b ≡ true) ↔ B → ((a && b) ≡ true) ↔ (A × B)
and_decides a b p q = (λ e. (p.0 (and_left a b e), q.0 (and_right a b e)), λ h. and_intro a b (p.1 h.0) (q.1 h.1))

-- the first, or not the second
pub unless_decides : (a b : Bool) {A B : Type 0} → (a ≡ true) ↔ A → (b ≡ true) ↔ B
    → (elim a as (λ x. Bool) [ true ↦ true | false ↦ not b ] ≡ true) ↔ (B → A)
unless_decides true b p q = (λ e y. p.0 refl, λ h. refl)
unless_decides false b p q =
    (λ e y. absurd (not_both e (ap not (q.1 y))), λ h. ap not (false_of b (λ t. false≢true (p.1 (h (q.0 t))))))

pub or_none : (a b : Bool) → a ≡ false → b ≡ false → (a || b) ≡ false
or_none a b p q = rw (p, q)

-- the second of three first
pub or_turn : (a b c : Bool) → (a || (b || c)) ≡ ((b || a) || c)
or_turn true true c = refl
or_turn true false c = refl
or_turn false true c = refl
or_turn false false c = refl

pub or_decides : (a b : Bool) {A B : Type 0} → (a ≡ true) ↔ A → (b ≡ true) ↔ B → ((a || b) ≡ true) ↔ (A ⊎ B)
or_decides a b p q = (
  λ e. ⊎_elim (λ h. inl (p.0 h)) (λ h. inr (q.0 h)) (or_cases a b e),
  λ h. ⊎_elim (λ x. or_left a b (p.1 x)) (λ y. or_right a b (q.1 y)) h,
)
