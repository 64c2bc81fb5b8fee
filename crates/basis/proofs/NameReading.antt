-- The tests of a name and of two names, by their parts.
use Rattle.std.proofs.Common.{ℕ, suc, Bool, true, false, ◌&&◌, List, [], ◌∷◌, length, get_or, eqb, leb, zip, ◌≡◌, refl, sym, ◌∙◌, ap, arith}
use Rattle.std.specs.List.{list_all}
use borrow.Author.Tests.{eq-eqb, ne_eqb}
use Rattle.grammar.specs.Lists.{all_pass}
use Rattle.grammar.specs.Names.{Classes, is_name, small_letter, same_name}

-- a byte that may stand after the first
abbrev pub later : Classes → ℕ → Bool
later classes c = leb 1 (get_or classes c 0)

-- two bytes that agree after A to Z become a to z
abbrev pub same_letter : ℕ → ℕ → Bool
same_letter x y = eqb (small_letter x) (small_letter y)

module _ (classes : Classes) where
  pub name_empty : (s : List ℕ) → length s ≡ 0 → false ≡ is_name classes s
  unfolding is_name
  name_empty [] h = refl
  name_empty (b ∷ bs) h = absurd (omega arith)

  module _ (s : List ℕ) (b : ℕ) (bs : List ℕ) (e : s ≡ b ∷ bs) where
    pub name_first : get_or classes b 0 ≡ 2 → all_pass (later classes) bs ≡ is_name classes s
    unfolding is_name
    name_first h = sym (ap (is_name classes) e ∙ ap (λ (t : Bool). t && all_pass (later classes) bs) (eq-eqb _ _ h))

    pub name_not_first : (get_or classes b 0 ≡ 2 → ⊥) → false ≡ is_name classes s
    unfolding is_name
    name_not_first h = sym (ap (is_name classes) e ∙ ap (λ (t : Bool). t && all_pass (later classes) bs) (ne_eqb _ _ h))

pub same_by_letters : (a b : List ℕ) → length a ≡ length b → list_all (λ p. same_letter p.0 p.1) (zip a b) ≡ same_name a b
unfolding same_name
same_by_letters [] [] h = refl
same_by_letters [] (y ∷ b) h = absurd (omega arith)
same_by_letters (x ∷ a) [] h = absurd (omega arith)
same_by_letters (x ∷ a) (y ∷ b) h = ap (λ (t : Bool). same_letter x y && t) (same_by_letters a b (omega arith))

pub same_lengths : (a b : List ℕ) → (length a ≡ length b → ⊥) → same_name a b ≡ false
unfolding same_name
same_lengths [] [] h = absurd (h refl)
same_lengths [] (y ∷ b) h = refl
same_lengths (x ∷ a) [] h = refl
same_lengths (x ∷ a) (y ∷ b) h = go (same_letter x y) (same_lengths a b (λ e. h (ap suc e)))
  where
    go : (t : Bool) → same_name a b ≡ false → (t && same_name a b) ≡ false
    go true e = e
    go false e = refl
