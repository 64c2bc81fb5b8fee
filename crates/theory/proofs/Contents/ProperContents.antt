-- Proper contents:
--     proper_operands    when a sequence or a choice is proper: from 2 operands to as many as the limit allows, all proper
--     proper_below       the types of a proper content are below the limit
use Prim.Native.Nat.{ℕ, ◌≤◌, ◌<◌}
use mathlib.Core.Bool.{Bool, true, ◌&&◌}
use mathlib.Core.List.Memᴰ
use mathlib.Core.List.{Memᴰ}
use mathlib.Core.Logic.{◌↔◌, ⊎_elim}
use mathlib.Core.Path.{◌≡◌, subst, sym}
use lib.Dec.{leb}
use borrow.Author.Tests.{leb-true, le-leb, ltb-true}
use Rattle.grammar.specs.Limits.{Limits}
use Rattle.grammar.specs.Content.{
  Content,
  none,
  empty,
  type,
  sequence,
  choice,
  any_number,
  one_or_more,
  optional,
  Contents,
  []ᶜ,
  ◌∷ᶜ◌,
  types_in,
  types_in_all,
  operand_count,
}
use Rattle.grammar.specs.ReadContent.{is_proper, are_proper}
use Rattle.theory.proofs.Lists.BoolLaws.{and_left, and_right, and_intro}

pub proper_operands : (lim : Limits) (cs : Contents)
    → ((leb 2 (operand_count cs) && leb (operand_count cs) lim.operands && are_proper lim cs) ≡ true)
    ↔ ((2 ≤ operand_count cs) × (operand_count cs ≤ lim.operands) × (are_proper lim cs ≡ true))
proper_operands lim cs = (
  λ e.
      let n = and_left (some && few) (are_proper lim cs) e in
      (leb-true 2 (operand_count cs) (and_left some few n), leb-true (operand_count cs) lim.operands (and_right some few n), and_right (some && few) (are_proper lim cs) e),
  λ h.
      and_intro (some && few) (are_proper lim cs)
      (and_intro some few (le-leb 2 (operand_count cs) h.0) (le-leb (operand_count cs) lim.operands h.1))
      h.2,
)
  where
    some : Bool
    some = leb 2 (operand_count cs)

    few : Bool
    few = leb (operand_count cs) lim.operands

mutual
  unfolding is_proper are_proper types_in types_in_all

  pub proper_below : (c : Content) (lim : Limits) → is_proper lim c ≡ true → (k : ℕ) → Memᴰ k (types_in c) → k < lim.types
  proper_below none lim e k m = elim m [ ]
  proper_below empty lim e k m = elim m [ ]
  proper_below (type l) lim e k m =
      subst (λ (z : ℕ). z < lim.types) (sym (Memᴰ.eq_of_singleton m)) (ltb-true l lim.types e)
  proper_below (sequence cs) lim e k m = proper_below_all cs lim ((proper_operands lim cs).0 e).2 k m
  proper_below (choice cs) lim e k m = proper_below_all cs lim ((proper_operands lim cs).0 e).2 k m
  proper_below (any_number c) lim e k m = proper_below c lim e k m
  proper_below (one_or_more c) lim e k m = proper_below c lim e k m
  proper_below (optional c) lim e k m = proper_below c lim e k m

  proper_below_all : (cs : Contents) (lim : Limits) → are_proper lim cs ≡ true → (k : ℕ) → Memᴰ k (types_in_all cs)
      → k < lim.types
  proper_below_all []ᶜ lim e k m = elim m [ ]
  proper_below_all (c ∷ᶜ cs) lim e k m =
      ⊎_elim
      (λ p. proper_below c lim (and_left (is_proper lim c) (are_proper lim cs) e) k p)
      (λ q. proper_below_all cs lim (and_right (is_proper lim c) (are_proper lim cs) e) k q)
      (Memᴰ.append_cases (types_in c) m)
