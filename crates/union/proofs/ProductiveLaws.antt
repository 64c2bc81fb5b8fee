-- Whether the content at a place has alternatives, operator by operator and operand by operand.
use Prim.Native.Nat.{ℕ, zero, suc, ◌+◌, ◌-◌, ◌≤◌, ◌<◌}
use native.Mathlib.Omega.{arith}
use mathlib.Core.Bool.{Bool, true, false, ◌&&◌, ◌||◌}
use mathlib.Core.List.{List}
use mathlib.Core.Option.{Option, some as just}
use mathlib.Core.Path.{◌≡◌, refl, sym, ◌∙◌, ap, ap₂}
use lib.ListN.{length, get_or, get_elem?}
use Rattle.grammar.specs.Content.{none, empty, type, sequence, choice, any_number, one_or_more, optional, ◌∷ᶜ◌}
use Rattle.grammar.specs.ReadContent.{operators}
use Rattle.theory.specs.Alternatives.{has_alts, all_have_alts, one_has_alts}
use Rattle.reader.specs.ExprAt.{Placed, ◌up_to◌, placed, expr_at, exprs_at}
use Rattle.reader.proofs.ExprLaws.{
  placed_from,
  expr_alone,
  expr_numbered,
  expr_counted,
  expr_single,
  exprs_none,
  exprs_more,
  operator_none,
  operator_empty,
  operator_type,
  operator_sequence,
  operator_choice,
  operator_any_number,
  operator_one_or_more,
  operator_optional,
}
use Rattle.union.specs.Walks.{has_at, has_row_at}

-- what is found through an operator, from what was found of its operand
pub placed_through : {A B C D : Type 0} (f : A → B) (g : B → C) (h : A → D) (back : D → C) (p : Option (Placed A)) (d : D) (next : ℕ)
    → ((a : A) → g (f a) ≡ back (h a))
    → placed h p ≡ just (d up_to next) → placed g (placed f p) ≡ just (back d up_to next)
placed_through f g h back p d next same e =
    let r = placed_from h p d next e in
    ap (λ q. placed g (placed f q)) r.1 ∙ ap (λ c. just (c up_to next)) (same r.0 ∙ ap back r.2)

module _ (test : ℕ → Bool) (s : List ℕ) (at : ℕ) where
  pub has_none : at < length s → get_or s at 0 ≡ 0 → has_at test s at ≡ just (false up_to (at + 1))
  unfolding has_alts
  has_none h e = ap (placed (has_alts test)) (expr_alone s at h none (ap (get_elem? operators) e ∙ operator_none))

  pub has_empty : at < length s → get_or s at 0 ≡ 1 → has_at test s at ≡ just (true up_to (at + 1))
  unfolding has_alts
  has_empty h e = ap (placed (has_alts test)) (expr_alone s at h empty (ap (get_elem? operators) e ∙ operator_empty))

  pub has_type : at + 1 < length s → get_or s at 0 ≡ 2 → has_at test s at ≡ just (test (get_or s (at + 1) 0) up_to (at + 2))
  unfolding has_alts
  has_type h e = ap (placed (has_alts test)) (expr_numbered s at h type (ap (get_elem? operators) e ∙ operator_type))

  module _ (all one : Bool) (next : ℕ) (inside : at + 1 < length s)
      (row : has_row_at test s (at + 2) (get_or s (at + 1) 0) ≡ just ((all, one) up_to next)) where
    pub has_sequence : get_or s at 0 ≡ 3 → has_at test s at ≡ just (all up_to next)
    unfolding has_alts
    has_sequence e =
        ap (placed (has_alts test)) (expr_counted s at inside sequence (ap (get_elem? operators) e ∙ operator_sequence))
        ∙ placed_through sequence (has_alts test) (λ cs. (all_have_alts test cs, one_has_alts test cs)) (λ (p : Bool × Bool). p.0)
        (exprs_at s (at + 2) (get_or s (at + 1) 0)) (all, one) next (λ cs. refl) row

    pub has_choice : get_or s at 0 ≡ 4 → has_at test s at ≡ just (one up_to next)
    unfolding has_alts
    has_choice e =
        ap (placed (has_alts test)) (expr_counted s at inside choice (ap (get_elem? operators) e ∙ operator_choice))
        ∙ placed_through choice (has_alts test) (λ cs. (all_have_alts test cs, one_has_alts test cs)) (λ (p : Bool × Bool). p.1)
        (exprs_at s (at + 2) (get_or s (at + 1) 0)) (all, one) next (λ cs. refl) row

  module _ (has : Bool) (next : ℕ) (inside : at < length s) (operand : has_at test s (at + 1) ≡ just (has up_to next)) where
    pub has_any_number : get_or s at 0 ≡ 5 → has_at test s at ≡ just (true up_to next)
    unfolding has_alts
    has_any_number e =
        ap (placed (has_alts test)) (expr_single s at inside any_number (ap (get_elem? operators) e ∙ operator_any_number))
        ∙ placed_through any_number (has_alts test) (has_alts test) (λ (b : Bool). true) (expr_at s (at + 1)) has next (λ c. refl) operand

    pub has_one_or_more : get_or s at 0 ≡ 6 → has_at test s at ≡ just (has up_to next)
    unfolding has_alts
    has_one_or_more e =
        ap (placed (has_alts test)) (expr_single s at inside one_or_more (ap (get_elem? operators) e ∙ operator_one_or_more))
        ∙ placed_through one_or_more (has_alts test) (has_alts test) (λ (b : Bool). b) (expr_at s (at + 1)) has next (λ c. refl) operand

    pub has_optional : get_or s at 0 ≡ 7 → has_at test s at ≡ just (true up_to next)
    unfolding has_alts
    has_optional e =
        ap (placed (has_alts test)) (expr_single s at inside optional (ap (get_elem? operators) e ∙ operator_optional))
        ∙ placed_through optional (has_alts test) (has_alts test) (λ (b : Bool). true) (expr_at s (at + 1)) has next (λ c. refl) operand

  pub row_none : has_row_at test s at zero ≡ just ((true, false) up_to at)
  unfolding has_alts
  row_none = ap (placed (λ cs. (all_have_alts test cs, one_has_alts test cs))) (exprs_none s at)

  pub row_more : (n : ℕ) (has : Bool) (middle : ℕ) (all one : Bool) (next : ℕ) → has_at test s at ≡ just (has up_to middle)
      → has_row_at test s middle n ≡ just ((all, one) up_to next)
      → has_row_at test s at (suc n) ≡ just ((has && all, has || one) up_to next)
  unfolding has_alts
  row_more n has middle all one next h r =
      let f = placed_from (has_alts test) (expr_at s at) has middle h in
      let o = placed_from (λ cs. (all_have_alts test cs, one_has_alts test cs)) (exprs_at s middle n) (all, one) next r in
      ap (placed (λ cs. (all_have_alts test cs, one_has_alts test cs)))
      (exprs_more s at n f.0 middle f.1 ∙ ap (placed (λ cs. f.0 ∷ᶜ cs)) o.1)
      ∙ ap (λ (p : Bool × Bool). just (p up_to next))
      (ap₂ (λ (b : Bool) (q : Bool × Bool). (b && q.0, b || q.1)) f.2 o.2)

  -- the same as a walk meets them
  pub has_around : (has : Bool) (next : ℕ) → at < length s → has_at test s (at + 1) ≡ just (has up_to next) → 5 ≤ get_or s at 0
      → get_or s at 0 ≤ 7 → (get_or s at 0 ≡ 6 → ⊥) → has_at test s at ≡ just (true up_to next)
  has_around has next inside operand low high other = go (get_or s at 0 - 5) refl
    where
      go : (k : ℕ) → get_or s at 0 - 5 ≡ k → has_at test s at ≡ just (true up_to next)
      go zero e = has_any_number has next inside operand (omega arith)
      go (suc zero) e = absurd (other (omega arith))
      go (suc (suc k)) e = has_optional has next inside operand (omega arith)

  pub row_next : (n : ℕ) (has : Bool) (middle : ℕ) (all one a o : Bool) (next : ℕ) → (n ≡ 0 → ⊥)
      → has_at test s at ≡ just (has up_to middle)
      → has_row_at test s middle (n - 1) ≡ just ((all, one) up_to next)
      → a ≡ (has && all)
      → o ≡ (has || one)
      → has_row_at test s at n ≡ just ((a, o) up_to next)
  row_next n has middle all one a o next some h r p q =
      let e : n ≡ suc (n - 1) = omega arith in
      ap (has_row_at test s at) e
      ∙ row_more (n - 1) has middle all one next h r
      ∙ ap₂ (λ (x y : Bool). just ((x, y) up_to next)) (sym p) (sym q)
