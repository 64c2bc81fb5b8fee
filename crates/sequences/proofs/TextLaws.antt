-- Whether any node of a type holds text, found node by node:
--   text_none : no node yet ; text_other, text_plain : one more node, of another type or without text
--   text_found : a node of the type with text ; text_absent : no node is left
use Prim.Native.Nat.{ℕ, ◌+◌, ◌<◌}
use native.Mathlib.Omega.{arith}
use mathlib.Core.Bool.{Bool, true, false}
use mathlib.Core.List.{List}
use mathlib.Core.Path.{◌≡◌, sym}
use lib.Dec.{eqb}
use lib.ListN.{get_or}
use borrow.Author.Tests.{eq-eqb, eqb-true}
use borrow.Author.Count.{below_more}
use Rattle.grammar.specs.Lists.{keep, numbers_below}
use Rattle.theory.proofs.Lists.BoolLaws.{false_of, not_both}
use Rattle.theory.proofs.Lists.ListLaws.{any_found, any_of, kept, keep_mem, numbers_below_lem}
use Rattle.sequences.specs.SampleTexts.{mark_in, text_in}

module _ (shapes types : List ℕ) (k : ℕ) where
  abbrev of_type : ℕ → Bool
  of_type j = eqb (get_or types j 0) k

  -- the nodes of the type up to here hold no text
  abbrev pub NoText : ℕ → Type 0
  NoText i = (j : ℕ) → j < i → get_or types j 0 ≡ k → mark_in shapes j ≡ false

  pub text_none : NoText 0
  text_none j h = absurd (omega arith)

  module _ {i : ℕ} (so_far : NoText i) where
    pub text_other : (get_or types i 0 ≡ k → ⊥) → NoText (i + 1)
    text_other e = below_more (λ j. get_or types j 0 ≡ k → mark_in shapes j ≡ false) i so_far (λ o. absurd (e o))

    pub text_plain : mark_in shapes i ≡ false → NoText (i + 1)
    text_plain e = below_more (λ j. get_or types j 0 ≡ k → mark_in shapes j ≡ false) i so_far (λ o. e)

  module _ (n : ℕ) where
    pub text_found : (i : ℕ) → i < n → get_or types i 0 ≡ k → mark_in shapes i ≡ true → true ≡ text_in shapes types n k
    text_found i h o e =
        sym (any_of (mark_in shapes) (keep_mem of_type ((numbers_below_lem n i).1 h) (eq-eqb (get_or types i 0) k o)) e)

    pub text_absent : NoText n → false ≡ text_in shapes types n k
    text_absent none =
        sym
        (false_of (text_in shapes types n k)
        (λ e.
        let (i, m, on) = any_found (mark_in shapes) (keep of_type (numbers_below n)) e in
        let (o, t) = kept of_type (numbers_below n) m in
        not_both on (none i ((numbers_below_lem n i).0 o) (eqb-true (get_or types i 0) k t))))
