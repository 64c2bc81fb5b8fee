-- Contents as bytes, operator first.
use Rattle.std.specs.Prelude.{ℕ, zero, suc, Bool, true, ◌&&◌, not, List, [], ◌∷◌, ◌++◌, length, leb, ltb, Result, Ok, Err}
use Rattle.std.proofs.Math.Option.{Option, none as nothing, some as just}
use Rattle.std.proofs.Math.ListN.{get_elem?}
use Rattle.grammar.specs.Lists.{same_numbers}
use Rattle.grammar.specs.Limits.{Limits}
use Rattle.grammar.specs.Content.{
  Content,
  none,
  empty,
  type,
  sequence,
  choice,
  any_number,
  one_or_more,
  optional,
  Contents,
  []ᶜ,
  ◌∷ᶜ◌,
  operand_count,
  nesting,
}
use Rattle.grammar.specs.Outcome.{◌>>=◌, ◌>>◌, turn_back}
use Rattle.grammar.specs.declared.Refusal.{Refusal}
use Rattle.grammar.specs.declared.Refusal.TheVariants.{BadContent, NestedTooDeep}

-- 00 none; 01 empty; 02 type, then its number; 03 sequence, 04 choice, each with a count byte, then the operands; 05 any number of;
-- 06 one or more of; 07 optional.
unfoldable mutual
  unfolding operand_count

  pub content_bytes : Content → List ℕ
  content_bytes none = 0 ∷ []
  content_bytes empty = 1 ∷ []
  content_bytes (type k) = 2 ∷ k ∷ []
  content_bytes (sequence cs) = 3 ∷ operand_count cs ∷ operand_bytes cs
  content_bytes (choice cs) = 4 ∷ operand_count cs ∷ operand_bytes cs
  content_bytes (any_number c) = 5 ∷ content_bytes c
  content_bytes (one_or_more c) = 6 ∷ content_bytes c
  content_bytes (optional c) = 7 ∷ content_bytes c

  pub operand_bytes : Contents → List ℕ
  operand_bytes []ᶜ = []
  operand_bytes (c ∷ᶜ cs) = content_bytes c ++ operand_bytes cs

-- byte-equal contents
unfoldable pub same_content : Content → Content → Bool
unfolding content_bytes same_numbers
same_content c d = same_numbers (content_bytes c) (content_bytes d)

-- what the byte of an operator is followed by: nothing; a type number; a count and operands; one operand
pub data Operator : Type 0 where
  alone : Content → Operator
  numbered : (ℕ → Content) → Operator
  counted : (Contents → Content) → Operator
  single : (Content → Content) → Operator

-- the operators in the order of their numbers, from 00
unfoldable pub operators : List Operator
operators =
    alone none
    ∷ alone empty
    ∷ numbered type
    ∷ counted sequence ∷ counted choice ∷ single any_number ∷ single one_or_more ∷ single optional ∷ []

-- what was found at the front of some bytes, with the bytes after it
abbrev pub Parsed : Type 0 → Type 0
Parsed A = Option (A × List ℕ)

abbrev pub found : {A B : Type 0} → (A → B) → Parsed A → Parsed B
found f nothing = nothing
found f (just p) = just (f p.0, p.1)

-- The expression at the front of some bytes. Any count and any type number are taken here, and looked at after. `n` bounds the walk.
unfoldable mutual
  unfolding operators

  pub expression_within : ℕ → List ℕ → Parsed Content
  expression_within zero bytes = nothing
  expression_within (suc n) [] = nothing
  expression_within (suc n) (b ∷ rest) =
      elim (get_elem? operators b) [
        | nothing ↦ nothing
        | just (alone c) ↦ just (c, rest)
        | just (numbered f) ↦ elim rest [ [] ↦ nothing | k ∷ after ↦ just (f k, after) ]
        | just (counted f) ↦ elim rest [ [] ↦ nothing | k ∷ after ↦ found f (operands_within n k after) ]
        | just (single f) ↦ found f (expression_within n rest)
      ]

  -- so many expressions, one after the other
  pub operands_within : ℕ → ℕ → List ℕ → Parsed Contents
  operands_within zero k bytes = nothing
  operands_within (suc n) zero bytes = just ([]ᶜ, bytes)
  operands_within (suc n) (suc k) bytes =
      elim (expression_within n bytes)
      [ nothing ↦ nothing | just p ↦ found (λ cs. p.0 ∷ᶜ cs) (operands_within n k p.1) ]

-- every step of the walk but the last takes a byte
unfoldable pub expression_of : List ℕ → Parsed Content
unfolding expression_within
expression_of bytes = expression_within (length bytes) bytes

-- counts of 2 or more within the limit, and types in range
unfoldable mutual
  unfolding operand_count

  pub is_proper : Limits → Content → Bool
  is_proper lim none = true
  is_proper lim empty = true
  is_proper lim (type k) = ltb k lim.types
  is_proper lim (sequence cs) = leb 2 (operand_count cs) && leb (operand_count cs) lim.operands && are_proper lim cs
  is_proper lim (choice cs) = leb 2 (operand_count cs) && leb (operand_count cs) lim.operands && are_proper lim cs
  is_proper lim (any_number c) = is_proper lim c
  is_proper lim (one_or_more c) = is_proper lim c
  is_proper lim (optional c) = is_proper lim c

  pub are_proper : Limits → Contents → Bool
  are_proper lim []ᶜ = true
  are_proper lim (c ∷ᶜ cs) = is_proper lim c && are_proper lim cs

-- the bytes are exactly one expression
abbrev pub whole : Parsed Content → Result Content Refusal
whole nothing = Err BadContent
whole (just (c, [])) = Ok c
whole (just (c, b ∷ rest)) = Err BadContent

unfoldable pub read_content : Limits → List ℕ → Result Content Refusal
unfolding expression_of is_proper nesting
read_content lim bytes = do
  c ← whole (expression_of bytes)
  turn_back (not (is_proper lim c)) BadContent
  turn_back (ltb lim.nesting (nesting c)) NestedTooDeep
  Ok c
