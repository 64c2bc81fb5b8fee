-- How long a content's text may be: with one byte more, at most three times the content's bytes.
use Prim.Native.Nat.{ℕ, ◌+◌, ◌*◌, ◌≤◌}
use native.Mathlib.Omega.{arith}
use mathlib.Core.Bool.{true}
use mathlib.Core.List.{[], ◌∷◌}
use mathlib.Core.Path.{◌≡◌}
use lib.ListN.{length, length-append}
use Rattle.grammar.specs.Limits.{large}
use Rattle.grammar.specs.Content.{
  Content,
  none,
  empty,
  type,
  sequence,
  choice,
  any_number,
  one_or_more,
  optional,
  Contents,
  []ᶜ,
  ◌∷ᶜ◌,
}
use Rattle.grammar.specs.ReadContent.{content_bytes, operand_bytes, is_proper, are_proper}
use Rattle.grammar.specs.Listing.{content_text, type_text, separated, continued}
use Rattle.reader.proofs.ExtentLaws.{proper_number, proper_sequence, proper_choice, proper_first}
use Rattle.lister_lines.proofs.DecimalLaws.{type_size}

small_type : (k : ℕ) → is_proper large (type k) ≡ true → length (type_text k) ≤ 4
unfolding large
small_type k e = type_size k (omega (arith, proper_number large k e))

mutual
  unfolding content_text content_bytes is_proper

  pub content_short : (c : Content) → is_proper large c ≡ true → length (content_text c) + 1 ≤ 3 * length (content_bytes c)
  content_short none e = omega arith
  content_short empty e = omega arith
  content_short (type k) e = omega (arith, small_type k e)
  content_short (sequence cs) e =
      let h = separated_short 0x2C cs (proper_sequence large cs e).2 in
      let l = length-append (0x28 ∷ separated (0x2C ∷ []) cs) (0x29 ∷ []) in
      omega arith
  content_short (choice cs) e =
      let h = separated_short 0x7C cs (proper_choice large cs e).2 in
      let l = length-append (0x28 ∷ separated (0x7C ∷ []) cs) (0x29 ∷ []) in
      omega arith
  content_short (any_number c) e = omega (arith, content_short c e, length-append (content_text c) (0x2A ∷ []))
  content_short (one_or_more c) e = omega (arith, content_short c e, length-append (content_text c) (0x2B ∷ []))
  content_short (optional c) e = omega (arith, content_short c e, length-append (content_text c) (0x3F ∷ []))

  separated_short : (mark : ℕ) (cs : Contents) → are_proper large cs ≡ true
      → length (separated (mark ∷ []) cs) ≤ 3 * length (operand_bytes cs)
  separated_short mark []ᶜ e = omega arith
  separated_short mark (c ∷ᶜ cs) e =
      let (first, others) = proper_first large c cs e in
      let h = content_short c first in
      let o = continued_short mark cs others in
      let l = length-append (content_text c) (continued (mark ∷ []) cs) in
      let m = length-append (content_bytes c) (operand_bytes cs) in
      omega arith

  continued_short : (mark : ℕ) (cs : Contents) → are_proper large cs ≡ true
      → length (continued (mark ∷ []) cs) ≤ 3 * length (operand_bytes cs)
  continued_short mark []ᶜ e = omega arith
  continued_short mark (c ∷ᶜ cs) e =
      let (first, others) = proper_first large c cs e in
      let h = content_short c first in
      let o = continued_short mark cs others in
      let l = length-append (mark ∷ content_text c) (continued (mark ∷ []) cs) in
      let m = length-append (content_bytes c) (operand_bytes cs) in
      omega arith
