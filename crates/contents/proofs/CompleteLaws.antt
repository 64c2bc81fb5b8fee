-- A finished content is too large or is stored, by what the reader's walk finds of its bytes:
--   made_long, made_improper, made_deep : more bytes than a content may have; not proper, so a choice too wide; nested too deep
--   made_fine : otherwise it is stored
-- and so for a caller that gathers from source contents one after the other: start_kept, the empty list at the front of the draft.
use Prim.Native.Nat.{ℕ, ◌-◌, ◌≤◌, ◌<◌}
use native.Mathlib.Omega.{arith}
use mathlib.Core.Bool.{true, false, ◌||◌}
use mathlib.Core.List.{List, []}
use mathlib.Core.Logic.{◌⊎◌, inl, inr}
use mathlib.Core.Option.{some as just}
use mathlib.Core.Path.{◌≡◌, sym, ◌∙◌, ap}
use lib.ListN.{length, take, drop}
use lib.Seq.{take-take}
use lib.Dec.{ltb}
use borrow.Author.Tests.{lt-ltb, le-ltb, ltb-true, ltb-false}
use Rattle.grammar.specs.Limits.{Limits, large, content_limit, operand_limit, nesting_limit}
use Rattle.grammar.specs.Content.{
  Content,
  none,
  empty,
  type,
  sequence,
  choice,
  any_number,
  one_or_more,
  optional,
  Contents,
  []ᶜ,
  ◌∷ᶜ◌,
  nesting,
}
use Rattle.grammar.specs.ReadContent.{content_bytes, is_proper, are_proper}
use Rattle.grammar.specs.Size.{widest_choice, widest_of, content_too_large}
use Rattle.theory.specs.Conditions.{Regular}
use Rattle.theory.proofs.Lists.BoolLaws.{or_left, or_right, or_none, not_both, passes_or_fails}
use Rattle.theory.proofs.Contents.CountedContents.{counted_proper}
use Rattle.reader.specs.ExprAt.{◌up_to◌, expr_at}
use Rattle.std.specs.Prelude.{None}
use Rattle.reader.specs.Extents.{proper_at, upto}
use Rattle.reader.proofs.ExprLaws.{same_placed, expr_kept, expr_written, expr_bytes, expr_forward}
use Rattle.reader.proofs.ExtentLaws.{proper_yes, proper_no, proper_sequence, proper_choice, proper_first}
use Rattle.operands.specs.Drafts.{Kept}
use Rattle.contents.specs.Completing.{Stored}
use Rattle.operands.proofs.WideLaws.{one_long, one_wide, unfit_large}
use Rattle.emitting.proofs.EmitLaws.{fresh_row}

-- a proper content has no choice too wide
module _ (lim : Limits) where
  mutual
    unfolding is_proper widest_choice

    pub proper_narrow : (c : Content) → is_proper lim c ≡ true → widest_choice c ≤ lim.operands
    proper_narrow none p = omega arith
    proper_narrow empty p = omega arith
    proper_narrow (type k) p = omega arith
    proper_narrow (sequence cs) p = all_narrow cs (proper_sequence lim cs p).2
    proper_narrow (choice cs) p =
        let (two, few, each) = proper_choice lim cs p in
        let others = all_narrow cs each in
        omega arith
    proper_narrow (any_number c) p = proper_narrow c p
    proper_narrow (one_or_more c) p = proper_narrow c p
    proper_narrow (optional c) p = proper_narrow c p

    pub all_narrow : (cs : Contents) → are_proper lim cs ≡ true → widest_of cs ≤ lim.operands
    all_narrow []ᶜ p = omega arith
    all_narrow (c ∷ᶜ cs) p =
        let (first, others) = proper_first lim c cs p in
        let a = proper_narrow c first in
        let b = all_narrow cs others in
        omega arith

module _ (d : List ℕ) (c : Content) (last : ℕ) (stands : expr_at d 0 ≡ just (c up_to last)) where
  -- the part of the draft that the content takes
  abbrev part : List ℕ
  part = take (last - 0) (drop 0 d)

  part_is : part ≡ take last d
  part_is = let z : last - 0 ≡ last = omega arith in ap (λ (n : ℕ). take n d) z

  part_stands : expr_at part 0 ≡ just (c up_to last)
  part_stands = expr_kept d part 0 c last (sym (take-take last last d (omega arith)) ∙ ap (take last) (sym part_is)) stands

  pub made_inside : last ≤ length d
  made_inside = (expr_forward d 0 c last stands).1

  pub made_long : content_limit < last → content_too_large large c ≡ true
  made_long h =
      let w = expr_written d 0 c last stands in
      unfit_large c (one_long content_limit c (omega arith))

  pub made_improper : Regular c → proper_at large part 0 ≡ None → content_too_large large c ≡ true
  unfolding large
  made_improper r e = go (passes_or_fails (ltb operand_limit (widest_choice c)))
    where
      go : (ltb operand_limit (widest_choice c) ≡ true) ⊎ (ltb operand_limit (widest_choice c) ≡ false) → content_too_large large c ≡ true
      go (inl t) = unfit_large c (one_wide content_limit c (ltb-true operand_limit (widest_choice c) t))
      go (inr t) =
          absurd
          (not_both (counted_proper c large r.counted (ltb-false operand_limit (widest_choice c) t) r.below)
          (proper_no large part 0 e c last part_stands))

  found : (next n : ℕ) → proper_at large part 0 ≡ upto next n → (is_proper large c ≡ true) × (nesting c ≡ n)
  found next n e =
      let y = proper_yes large part 0 next n e in
      let same = same_placed (sym y.1 ∙ part_stands) in
      (ap (is_proper large) (sym same.0) ∙ y.2, ap nesting (sym same.0) ∙ y.3)

  pub made_deep : (next n : ℕ) → proper_at large part 0 ≡ upto next n → 32 < n → content_too_large large c ≡ true
  unfolding content_too_large large
  made_deep next n e h =
      let f = found next n e in
      or_left (ltb content_limit (length (content_bytes c)) || ltb nesting_limit (nesting c)) (ltb operand_limit (widest_choice c))
      (or_right (ltb content_limit (length (content_bytes c))) (ltb nesting_limit (nesting c)) (lt-ltb nesting_limit (nesting c) (omega arith)))

  pub made_fine : (next n : ℕ) → proper_at large part 0 ≡ upto next n → n ≤ nesting_limit → last ≤ content_limit → Stored d c last
  unfolding content_too_large large
  made_fine next n e h l =
      let f = found next n e in
      let w = expr_written d 0 c last stands in
      let narrow = proper_narrow large c f.0 in
      let z : last - 0 ≡ last = omega arith in
      record {
        bytes = sym part_is ∙ expr_bytes d 0 c last stands;
        fits =
            or_none (ltb content_limit (length (content_bytes c)) || ltb nesting_limit (nesting c)) (ltb operand_limit (widest_choice c))
            (or_none (ltb content_limit (length (content_bytes c))) (ltb nesting_limit (nesting c)) (le-ltb content_limit (length (content_bytes c)) (omega arith))
            (le-ltb nesting_limit (nesting c) (omega arith)))
            (le-ltb operand_limit (widest_choice c) narrow);
        small = l;
        inside = made_inside;
      }

-- where a caller starts
abbrev pub start_kept : (d : List ℕ) → 2 ≤ length d → Kept d 2 0 2
start_kept d h = record { list = []; row = fresh_row d 2 h }
