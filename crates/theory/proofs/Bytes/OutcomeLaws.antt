-- Going on with what is given: when steps in a row give something, and what each of them gave.
use Prim.Native.Nat.{ℕ}
use native.Mathlib.Omega.{arith}
use mathlib.Core.Bool.{Bool, true, false}
use mathlib.Core.Logic.{◌↔◌}
use mathlib.Core.Path.{◌≡◌, refl, sym, ◌∙◌, ap, subst}
use Rattle.std.specs.Prelude.{Result, Ok, Err}
use Rattle.grammar.specs.Outcome.{Gives, ◌>>=◌, ◌>>◌, turn_back}
use Rattle.grammar.specs.declared.Refusal.{Refusal}

pub given_then : {A B : Type 0} (o : Result A Refusal) (a : A) (next : A → Result B Refusal) → o ≡ Ok a → (o >>= next) ≡ next a
given_then {A} o a next e = ap (λ (x : Result A Refusal). x >>= next) e

pub no_fault : {B : Type 0} (b : Bool) (r : Refusal) (next : Result B Refusal) → b ≡ false → (turn_back b r >> next) ≡ next
no_fault b r next e = ap (λ (x : Bool). turn_back x r >> next) e

pub was_given : {A B : Type 0} (o : Result A Refusal) (next : A → Result B Refusal) (b : B) → (o >>= next) ≡ Ok b
    → (a : A) × (o ≡ Ok a) × (next a ≡ Ok b)
was_given (Err r) next b e = let z : ◌≡◌ {A = ℕ} 0 1 = cc in absurd (omega arith)
was_given (Ok a) next b e = (a, refl, e)

pub had_no_fault : {B : Type 0} (t : Bool) (r : Refusal) (next : Result B Refusal) (b : B) → (turn_back t r >> next) ≡ Ok b
    → (t ≡ false) × (next ≡ Ok b)
had_no_fault true r next b e = let z : ◌≡◌ {A = ℕ} 0 1 = cc in absurd (omega arith)
had_no_fault false r next b e = (refl, e)

pub given_eq : {A : Type 0} {a b : A} → ◌≡◌ {A = Result A Refusal} (Ok a) (Ok b) → a ≡ b
given_eq e = cc

-- only one thing was given
pub gives_this : {A : Type 0} {o : Result A Refusal} (Is : A → Type 0) {a : A} → o ≡ Ok a → Gives o Is ↔ Is a
gives_this Is {a} e =
    (λ g. subst Is (given_eq (sym g.was_given ∙ e)) g.is, λ i. record { thing = a; was_given = e; is = i })

pub gives_then : {A B : Type 0} (o : Result A Refusal) (f : A → B) (Is : B → Type 0) → Gives (o >>= λ a. Ok (f a)) Is ↔ Gives o (λ a. Is (f a))
gives_then o f Is = (
  λ g.
      let (a, p, q) = was_given o (λ a. Ok (f a)) g.thing g.was_given in
      record { thing = a; was_given = p; is = subst Is (sym (given_eq q)) g.is },
  λ g. record { thing = f g.thing; was_given = given_then o g.thing (λ a. Ok (f a)) g.was_given; is = g.is },
)
