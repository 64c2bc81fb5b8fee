-- An answer settles both of its parts: no value reaches 2^32, so quotient and remainder give the numbers back. (Of a length written,
-- Lengths has that; of a name's place, PlaceLaws.)
--   retold : what holds of the numbers holds of the parts of the answer
use Rattle.grammar.specs.declared.Refusal.{Refusal}
use Rattle.std.specs.Prelude.{Result, Ok, Err, Bool, true, false}
use Prim.Native.Nat.{ℕ, ◌/◌, ◌%◌, ◌<◌}
use native.Mathlib.Omega.{arith}
use mathlib.Core.Path.{◌≡◌, sym, ◌∙◌, ap, ap₂, subst}
use Rattle.grammar.specs.Answers.{Numbers, refused_by, reading_numbers, verdict_numbers}
use Rattle.exports.specs.Exported.{told, parted}

parted-told : (n : Numbers) → n.value < 4294967296 → parted (told n) ≡ n
unfolding parted
parted-told n h =
    let first : told n / 4294967296 ≡ n.refusal = omega arith in
    let second : told n % 4294967296 ≡ n.value = omega arith in
    ap₂ (λ (r v : ℕ). record { refusal = r; value = v }) first second

pub retold : (P : Numbers → Type 0) (n : Numbers) (answer : ℕ) → answer ≡ told n → n.value < 4294967296 → P n → P (parted answer)
retold P n answer e h = subst P (sym (ap parted e ∙ parted-told n h))

pub reading_below : (a : Result (Unit {0}) Refusal) → (reading_numbers a).value < 4294967296
unfolding reading_numbers refused_by
reading_below (Ok tt) = omega arith
reading_below (Err r) = omega arith

pub verdict_below : (a : Result Bool Refusal) → (verdict_numbers a).value < 4294967296
unfolding verdict_numbers refused_by
verdict_below (Ok true) = omega arith
verdict_below (Ok false) = omega arith
verdict_below (Err r) = omega arith
