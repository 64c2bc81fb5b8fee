-- The answer that an outcome has, and back; faults in a row: the first one is the refusal; and steps in a row.
use Prim.Native.Nat.{ℕ}
use native.Mathlib.Omega.{arith}
use mathlib.Core.Bool.{Bool, true}
use mathlib.Core.List.{List}
use mathlib.Core.Path.{◌≡◌, refl, ap}
use lib.ListN.{length}
use Rattle.std.specs.Prelude.{Result, Ok, Err, IsErr, IsErrAnd}
use Rattle.grammar.specs.Outcome.{◌>>=◌, ◌>>◌, turn_back}
use Rattle.grammar.specs.Answers.{reading, written}
use Rattle.grammar.specs.declared.Refusal.{Refusal}

pub fault : {B : Type 0} (b : Bool) (r : Refusal) (next : Result B Refusal) → b ≡ true → (turn_back b r >> next) ≡ Err r
fault b r next e = ap (λ (x : Bool). turn_back x r >> next) e

module _ {A : Type 0} where
  pub readable : (o : Result A Refusal) (a : A) → o ≡ Ok a → reading o ≡ Ok tt
  unfolding reading
  readable o a e = ap reading e

  pub unreadable : (o : Result A Refusal) (r : Refusal) → o ≡ Err r → reading o ≡ Err r
  unfolding reading
  unreadable o r e = ap reading e

  pub was_readable : (o : Result A Refusal) → reading o ≡ Ok tt → (a : A) × (o ≡ Ok a)
  unfolding reading
  was_readable (Ok a) e = (a, refl)
  was_readable (Err r) e = let z : ◌≡◌ {A = ℕ} 0 1 = cc in absurd (omega arith)

  pub was_unreadable : (o : Result A Refusal) (r : Refusal) → reading o ≡ Err r → o ≡ Err r
  unfolding reading
  was_unreadable (Ok a) r e = let z : ◌≡◌ {A = ℕ} 0 1 = cc in absurd (omega arith)
  was_unreadable (Err q) r e = cc

  -- an outcome that was refused gives nothing
  pub never_given : (o : Result A Refusal) (r : Refusal) (a : A) → o ≡ Err r → o ≡ Ok a → ⊥
  never_given o r a p q = let z : ◌≡◌ {A = ℕ} 0 1 = cc in omega arith

-- the outcome that an answer about bytes written is of
pub written_length : (o : Result (List ℕ) Refusal) (n : ℕ) → written o ≡ Ok n → (bytes : List ℕ) × (o ≡ Ok bytes) × (n ≡ length bytes)
unfolding written
written_length (Ok bytes) n e = (bytes, refl, cc)
written_length (Err r) n e = let z : ◌≡◌ {A = ℕ} 0 1 = cc in absurd (omega arith)

pub written_refused : (o : Result (List ℕ) Refusal) (r : Refusal) → written o ≡ Err r → o ≡ Err r
unfolding written
written_refused (Ok bytes) r e = let z : ◌≡◌ {A = ℕ} 0 1 = cc in absurd (omega arith)
written_refused (Err q) r e = cc

-- two readings, a step with both, and the last step apart
pub both_then_last : {A B C D : Type 0} (x : Result A Refusal) (y : Result B Refusal) (w : A → B → Result C Refusal) (k : C → Result D Refusal)
    → (x >>= λ a. (y >>= λ b. (w a b >>= k))) ≡ ((x >>= λ a. (y >>= λ b. w a b)) >>= k)
both_then_last (Err r) y w k = refl
both_then_last (Ok a) (Err r) w k = refl
both_then_last (Ok a) (Ok b) w k = refl

-- what `?` hands on is the error that came
pub handed_on : {A E : Type 0} (r : Result A E) {e : E} → IsErr r × IsErrAnd r (λ x. x ≡ e) → r ≡ Err e
handed_on (Ok a) h = let none = h.1 in absurd none
handed_on (Err x) h = ap Err h.1
