-- Expressions one after the other, as lists:
--   exprs_join : some expressions and some after them are all of them; exprs_one_more : one more at the end
--   exprs_uncons : the first of some, and the others; exprs_only : the one where there is one
use Prim.Native.Nat.{ℕ, zero, suc, ◌+◌}
use native.Mathlib.Omega.{arith}
use mathlib.Core.List.{List, [], ◌∷◌, ◌++◌}
use mathlib.Core.Option.{some as just}
use mathlib.Core.Path.{◌≡◌, refl, sym, ◌∙◌, ap}
use Rattle.grammar.specs.Content.{Content, Contents, []ᶜ, ◌∷ᶜ◌, operands}
use Rattle.reader.specs.ExprAt.{◌up_to◌, placed, expr_at, exprs_at}
use Rattle.reader.proofs.ExprLaws.{exprs_none, exprs_more, exprs_first, exprs_end}

module _ (s : List ℕ) where
  pub exprs_join : (m n at mid next : ℕ) (xs ys : List Content) → exprs_at s at m ≡ just (operands xs up_to mid)
      → exprs_at s mid n ≡ just (operands ys up_to next) → exprs_at s at (m + n) ≡ just (operands (xs ++ ys) up_to next)
  unfolding operands
  exprs_join zero n at mid next [] ys e f =
      let q = exprs_end s at []ᶜ mid e in
      let z : 0 + n ≡ n = omega arith in
      ap (exprs_at s at) z ∙ ap (λ (k : ℕ). exprs_at s k n) (sym q.1) ∙ f
  exprs_join zero n at mid next (x ∷ xs) ys e f =
      let q = exprs_end s at (x ∷ᶜ operands xs) mid e in
      let z : ◌≡◌ {A = ℕ} 0 1 = cc q.0 in
      absurd (omega arith)
  exprs_join (suc m) n at mid next [] ys e f =
      let q = exprs_first s at m []ᶜ mid e in
      let z : ◌≡◌ {A = ℕ} 0 1 = cc q.both in
      absurd (omega arith)
  exprs_join (suc m) n at mid next (x ∷ xs) ys e f =
      let q = exprs_first s at m (x ∷ᶜ operands xs) mid e in
      let a : q.first ≡ x = cc q.both in
      let b : q.others ≡ operands xs = cc q.both in
      let z : suc m + n ≡ suc (m + n) = omega arith in
      ap (exprs_at s at) z
      ∙ exprs_more s at (m + n) q.first q.middle q.first_at
      ∙ ap (placed (λ cs. q.first ∷ᶜ cs))
      (exprs_join m n q.middle mid next xs ys
      (q.others_at ∙ ap (λ (cs : Contents). just (cs up_to mid)) b)
      f)
      ∙ ap (λ (c : Content). just ((c ∷ᶜ operands (xs ++ ys)) up_to next)) a

  pub exprs_one : (at next : ℕ) (x : Content) → expr_at s at ≡ just (x up_to next)
      → exprs_at s at 1 ≡ just (operands (x ∷ []) up_to next)
  unfolding operands
  exprs_one at next x e =
      exprs_more s at zero x next e ∙ ap (placed (λ cs. x ∷ᶜ cs)) (exprs_none s next)

  pub exprs_one_more : (n at mid next : ℕ) (xs : List Content) (x : Content) → exprs_at s at n ≡ just (operands xs up_to mid)
      → expr_at s mid ≡ just (x up_to next) → exprs_at s at (n + 1) ≡ just (operands (xs ++ (x ∷ [])) up_to next)
  exprs_one_more n at mid next xs x e f = exprs_join n 1 at mid next xs (x ∷ []) e (exprs_one mid next x f)

  pub record Uncons (at n : ℕ) (xs : List Content) (next : ℕ) : Type 0 where
    pub first : Content
    pub others : List Content
    pub middle : ℕ
    pub both : xs ≡ first ∷ others
    pub first_at : expr_at s at ≡ just (first up_to middle)
    pub others_at : exprs_at s middle n ≡ just (operands others up_to next)

  pub exprs_uncons : (at n : ℕ) (xs : List Content) (next : ℕ) → exprs_at s at (suc n) ≡ just (operands xs up_to next)
      → Uncons at n xs next
  unfolding operands
  exprs_uncons at n [] next e =
      let q = exprs_first s at n []ᶜ next e in
      let z : ◌≡◌ {A = ℕ} 0 1 = cc q.both in
      absurd (omega arith)
  exprs_uncons at n (x ∷ xs) next e =
      let q = exprs_first s at n (x ∷ᶜ operands xs) next e in
      let a : q.first ≡ x = cc q.both in
      let b : q.others ≡ operands xs = cc q.both in
      record {
        first = x;
        others = xs;
        middle = q.middle;
        both = refl;
        first_at = q.first_at ∙ ap (λ (c : Content). just (c up_to q.middle)) a;
        others_at = q.others_at ∙ ap (λ (cs : Contents). just (cs up_to next)) b;
      }

  pub exprs_none_left : (at : ℕ) (xs : List Content) (next : ℕ) → exprs_at s at zero ≡ just (operands xs up_to next)
      → (xs ≡ []) × (next ≡ at)
  unfolding operands
  exprs_none_left at [] next e = (refl, (exprs_end s at []ᶜ next e).1)
  exprs_none_left at (x ∷ xs) next e =
      let q = exprs_end s at (x ∷ᶜ operands xs) next e in
      let z : ◌≡◌ {A = ℕ} 0 1 = cc q.0 in
      absurd (omega arith)

  -- just one
  pub exprs_only : (at : ℕ) (xs : List Content) (next : ℕ) → exprs_at s at 1 ≡ just (operands xs up_to next)
      → (x : Content) × (xs ≡ x ∷ []) × (expr_at s at ≡ just (x up_to next))
  exprs_only at xs next e =
      let q = exprs_uncons at zero xs next e in
      let o = exprs_none_left q.middle q.others next q.others_at in (
        q.first,
        q.both ∙ ap (λ (l : List Content). q.first ∷ l) o.0,
        q.first_at ∙ ap (λ (m : ℕ). just (q.first up_to m)) (sym o.1),
      )
