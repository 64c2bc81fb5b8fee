-- Numbers and types as text, and how long they are:
--   decimal_one, decimal_more : a number of one digit, of more ; more_size, decimal_size, type_size : how long
--   number_small : a refusal's number
use Prim.Native.Nat.{ℕ, zero, suc, ◌+◌, ◌/◌, ◌%◌, ◌≤◌, ◌<◌}
use native.Mathlib.Omega.{arith}
use mathlib.Core.Bool.{true, false}
use mathlib.Core.List.{List, [], ◌∷◌, ◌++◌}
use mathlib.Core.Logic.{◌⊎◌, inl, inr}
use mathlib.Core.Path.{◌≡◌, sym, ◌∙◌, ap}
use lib.ListN.{length, length-append}
use lib.Dec.{ltb}
use borrow.Author.Tests.{ltb-true, ltb-false, lt-ltb, le-ltb}
use Rattle.grammar.specs.Outcome.{number}
use Rattle.grammar.specs.declared.Refusal.{Refusal}
use Rattle.grammar.specs.declared.Refusal.TheVariants.{
  WorkTooShort,
  InputTooLong,
  FieldPastEnd,
  BadField,
  BadName,
  Repeated,
  TooMany,
  OutOfRange,
  BadContent,
  NestedTooDeep,
  BadTree,
  BytesAfterEnd,
  NoDocument,
  ResultTooLarge,
  OutputTooShort,
  BadText,
  BadEndTag,
  BadClasses,
}
use Rattle.grammar.specs.Listing.{digits_within, decimal, type_text}
use Rattle.theory.proofs.Lists.BoolLaws.{passes_or_fails}
use Rattle.theory.proofs.Bytes.ListedTexts.{digits_one, digits_more, type_is}

pub decimal_one : (k : ℕ) → k < 10 → decimal k ≡ (0x30 + k) ∷ []
unfolding decimal
decimal_one k h = digits_one k k (lt-ltb k 10 h)

-- digits do not change where their bound is larger
digits_enough : (n m k : ℕ) → k < n → k < m → digits_within n k ≡ digits_within m k
digits_enough zero m k h l = absurd (omega arith)
digits_enough (suc n) zero k h l = absurd (omega arith)
digits_enough (suc n) (suc m) k h l =
    go (passes_or_fails (ltb k 10)) (λ q. digits_enough n m (k / 10) (omega arith) (omega arith))
  where
    go : (ltb k 10 ≡ true) ⊎ (ltb k 10 ≡ false) → (10 ≤ k → digits_within n (k / 10) ≡ digits_within m (k / 10))
        → digits_within (suc n) k ≡ digits_within (suc m) k
    go (inl t) others = digits_one n k t ∙ sym (digits_one m k t)
    go (inr t) others =
        digits_more n k t
        ∙ ap (λ (x : List ℕ). x ++ ((0x30 + k % 10) ∷ [])) (others (ltb-false k 10 t))
        ∙ sym (digits_more m k t)

pub decimal_more : (k : ℕ) → 10 ≤ k → decimal k ≡ decimal (k / 10) ++ ((0x30 + k % 10) ∷ [])
unfolding decimal
decimal_more k l =
    digits_more k k (le-ltb k 10 l)
    ∙ ap (λ (x : List ℕ). x ++ ((0x30 + k % 10) ∷ [])) (digits_enough k (suc (k / 10)) (k / 10) (omega arith) (omega arith))

pub more_size : (k : ℕ) → 10 ≤ k → length (decimal k) ≡ length (decimal (k / 10)) + 1
more_size k l = ap length (decimal_more k l) ∙ length-append (decimal (k / 10)) ((0x30 + k % 10) ∷ [])

-- one digit more than the number without its last
one_longer : (k most : ℕ) → (10 ≤ k → length (decimal (k / 10)) ≤ most) → length (decimal k) ≤ most + 1
one_longer k most others = go (passes_or_fails (ltb k 10))
  where
    go : (ltb k 10 ≡ true) ⊎ (ltb k 10 ≡ false) → length (decimal k) ≤ most + 1
    go (inl t) = omega (arith, ap length (decimal_one k (ltb-true k 10 t)))
    go (inr t) =
        let l = ltb-false k 10 t in
        let h = others l in
        let e = more_size k l in
        omega arith

pub decimal_size : (k : ℕ) → k < 1000 → length (decimal k) ≤ 3
decimal_size k h =
    one_longer k 2 (λ l. one_longer (k / 10) 1 (λ l. one_longer (k / 10 / 10) 0 (λ l. absurd (omega arith))))

pub type_size : (k : ℕ) → k < 128 → length (type_text k) ≤ 4
type_size k h = omega (arith, decimal_size k (omega arith), ap length (type_is k))

pub number_small : (r : Refusal) → number r < 19
unfolding number
number_small WorkTooShort = omega arith
number_small InputTooLong = omega arith
number_small FieldPastEnd = omega arith
number_small BadField = omega arith
number_small BadName = omega arith
number_small Repeated = omega arith
number_small TooMany = omega arith
number_small OutOfRange = omega arith
number_small BadContent = omega arith
number_small NestedTooDeep = omega arith
number_small BadTree = omega arith
number_small BytesAfterEnd = omega arith
number_small NoDocument = omega arith
number_small ResultTooLarge = omega arith
number_small OutputTooShort = omega arith
number_small BadText = omega arith
number_small BadEndTag = omega arith
number_small BadClasses = omega arith
