-- The paper's numbers tell answers apart: a refusal's number is not 0 and no other refusal's, so an answer's numbers settle its outcome.
use Prim.Native.Nat.{ℕ, ◌<◌}
use native.Mathlib.Omega.{arith}
use mathlib.Core.Bool.{Bool, true, false}
use mathlib.Core.List.{List, [], ◌∷◌}
use mathlib.Core.Path.{◌≡◌, refl, sym, ◌∙◌, ap}
use lib.ListN.{length, get_or}
use Rattle.std.specs.Prelude.{Result, Ok, Err}
use Rattle.grammar.specs.Outcome.{number}
use Rattle.grammar.specs.Answers.{
  Numbers,
  refused_by,
  reading_numbers,
  verdict_numbers,
  written_numbers,
  numbers_of,
  bit,
  reading,
  verdict,
  written,
}
use Rattle.grammar.specs.declared.Refusal.{Refusal}
use Rattle.grammar.specs.declared.Refusal.TheVariants.{
  WorkTooShort,
  InputTooLong,
  FieldPastEnd,
  BadField,
  BadName,
  Repeated,
  TooMany,
  OutOfRange,
  BadContent,
  NestedTooDeep,
  BadTree,
  BytesAfterEnd,
  NoDocument,
  ResultTooLarge,
  OutputTooShort,
  BadText,
  BadEndTag,
  BadClasses,
}

pub number_positive : (r : Refusal) → 0 < number r
unfolding number
number_positive WorkTooShort = omega arith
number_positive InputTooLong = omega arith
number_positive FieldPastEnd = omega arith
number_positive BadField = omega arith
number_positive BadName = omega arith
number_positive Repeated = omega arith
number_positive TooMany = omega arith
number_positive OutOfRange = omega arith
number_positive BadContent = omega arith
number_positive NestedTooDeep = omega arith
number_positive BadTree = omega arith
number_positive BytesAfterEnd = omega arith
number_positive NoDocument = omega arith
number_positive ResultTooLarge = omega arith
number_positive OutputTooShort = omega arith
number_positive BadText = omega arith
number_positive BadEndTag = omega arith
number_positive BadClasses = omega arith

-- the refusals by their numbers; the first stands at those of none
numbered : List Refusal
numbered =
    WorkTooShort
    ∷ WorkTooShort
    ∷ InputTooLong
    ∷ FieldPastEnd
    ∷ BadField
    ∷ BadName
    ∷ Repeated
    ∷ TooMany
    ∷ OutOfRange
    ∷ BadContent
    ∷ NestedTooDeep
    ∷ BadTree
    ∷ BytesAfterEnd
    ∷ NoDocument
    ∷ ResultTooLarge
    ∷ OutputTooShort
    ∷ BadText
    ∷ BadEndTag
    ∷ BadClasses
    ∷ []

refusal_of : ℕ → Refusal
refusal_of n = get_or numbered n WorkTooShort

number_back : (r : Refusal) → refusal_of (number r) ≡ r
unfolding number refusal_of numbered
number_back WorkTooShort = refl
number_back InputTooLong = refl
number_back FieldPastEnd = refl
number_back BadField = refl
number_back BadName = refl
number_back Repeated = refl
number_back TooMany = refl
number_back OutOfRange = refl
number_back BadContent = refl
number_back NestedTooDeep = refl
number_back BadTree = refl
number_back BytesAfterEnd = refl
number_back NoDocument = refl
number_back ResultTooLarge = refl
number_back OutputTooShort = refl
number_back BadText = refl
number_back BadEndTag = refl
number_back BadClasses = refl

pub number_same : (q r : Refusal) → number q ≡ number r → q ≡ r
number_same q r e = sym (number_back q) ∙ ap refusal_of e ∙ number_back r

-- the numbers of an answer are those of its outcome
pub reading_numbers_lem : {A : Type 0} (o : Result A Refusal) → reading_numbers (reading o) ≡ numbers_of (λ a. 1) o
unfolding reading_numbers reading numbers_of
reading_numbers_lem (Ok a) = refl
reading_numbers_lem (Err r) = refl

pub verdict_numbers_lem : (o : Result Bool Refusal) → verdict_numbers (verdict o) ≡ numbers_of bit o
unfolding verdict_numbers verdict numbers_of bit
verdict_numbers_lem (Ok true) = refl
verdict_numbers_lem (Ok false) = refl
verdict_numbers_lem (Err r) = refl

pub written_numbers_lem : (o : Result (List ℕ) Refusal) → written_numbers (written o) ≡ numbers_of length o
unfolding written_numbers written numbers_of
written_numbers_lem (Ok bytes) = refl
written_numbers_lem (Err r) = refl

-- and settle it
module _ {A : Type 0} (value : A → ℕ) where
  pub numbers_given : (o : Result A Refusal) → (numbers_of value o).refusal ≡ 0 → (a : A) × (o ≡ Ok a)
  unfolding numbers_of refused_by
  numbers_given (Ok a) e = (a, refl)
  numbers_given (Err r) e = let p = number_positive r in absurd (omega arith)

  pub numbers_refused : (o : Result A Refusal) (r : Refusal) → numbers_of value o ≡ refused_by r → o ≡ Err r
  unfolding numbers_of refused_by
  numbers_refused (Ok a) r e =
      let p = number_positive r in
      let z : 0 ≡ number r = ap (λ (n : Numbers). n.refusal) e in
      absurd (omega arith)
  numbers_refused (Err q) r e = ap Err (number_same q r (ap (λ (n : Numbers). n.refusal) e))

pub was_written : (o : Result (List ℕ) Refusal) (n : ℕ) → written_numbers (Ok n) ≡ numbers_of length o
    → (bytes : List ℕ) × (o ≡ Ok bytes) × (n ≡ length bytes)
unfolding written_numbers numbers_of refused_by
was_written (Ok bytes) n e = (bytes, refl, ap (λ (m : Numbers). m.value) e)
was_written (Err r) n e =
    let p = number_positive r in
    let z : 0 ≡ number r = ap (λ (m : Numbers). m.refusal) e in
    absurd (omega arith)

pub was_unwritten : (o : Result (List ℕ) Refusal) (r : Refusal) → written_numbers (Err r) ≡ numbers_of length o → o ≡ Err r
unfolding written_numbers
was_unwritten o r e = numbers_refused length o r (sym e)
