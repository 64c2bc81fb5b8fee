-- The innermost open element, where none is open and where some are.
use Prim.Native.Nat.{ℕ, zero, suc, ◌+◌, ◌<◌}
use native.Mathlib.Omega.{arith}
use mathlib.Core.Bool.{not, true, false, true≢false}
use mathlib.Core.List.{List}
use mathlib.Core.Path.{◌≡◌, refl, sym, ap}
use lib.Dec.{eqb, leb}
use lib.ListN.{length, get_or, set, take, drop, length-set}
use Rattle.grammar.specs.Limits.{child_limit}
use Rattle.grammar.specs.Lists.{same_numbers}
use Rattle.grammar.specs.Names.{Name}
use Rattle.documents.specs.TextSteps.{innermost, full_at, one_child_more, closes_at}

module _ (shapes places : List ℕ) where
  pub full_outside : (depth nodes : ℕ) → depth ≡ 0 → not (eqb nodes 0) ≡ full_at shapes places depth nodes
  full_outside zero nodes e = refl
  full_outside (suc d) nodes e = absurd (omega arith)

  pub full_inside : (depth nodes p : ℕ) → 0 < depth → p ≡ innermost places depth
      → leb child_limit (get_or shapes p 0) ≡ full_at shapes places depth nodes
  full_inside zero nodes p h e = absurd (omega arith)
  full_inside (suc d) nodes p h e = ap (λ (x : ℕ). leb child_limit (get_or shapes x 0)) e

  pub child_outside : (depth : ℕ) → depth ≡ 0 → shapes ≡ one_child_more shapes places depth
  child_outside zero e = refl
  child_outside (suc d) e = absurd (omega arith)

  pub child_inside : (depth p : ℕ) → 0 < depth → p ≡ innermost places depth
      → set shapes p (get_or shapes p 0 + 1) ≡ one_child_more shapes places depth
  child_inside zero p h e = absurd (omega arith)
  child_inside (suc d) p h e = ap (λ (x : ℕ). set shapes x (get_or shapes x 0 + 1)) e

  pub child_length : (depth : ℕ) → length (one_child_more shapes places depth) ≡ length shapes
  child_length zero = refl
  child_length (suc d) = length-set shapes (innermost places (suc d)) (get_or shapes (innermost places (suc d)) 0 + 1)

-- what is closed was open
pub closed_some : (s names sizes places : List ℕ) (depth : ℕ) (name : Name) → closes_at s names sizes places depth name ≡ true → 0 < depth
closed_some s names sizes places zero name e = absurd (true≢false (sym e))
closed_some s names sizes places (suc d) name e = omega arith

module _ (s names sizes places : List ℕ) (name : Name) where
  pub closes_outside : (depth : ℕ) → depth ≡ 0 → false ≡ closes_at s names sizes places depth name
  closes_outside zero e = refl
  closes_outside (suc d) e = absurd (omega arith)

  pub closes_inside : (depth p : ℕ) → 0 < depth → p ≡ innermost places depth
      → same_numbers name (take (get_or sizes p 0) (drop (get_or names p 0) s)) ≡ closes_at s names sizes places depth name
  closes_inside zero p h e = absurd (omega arith)
  closes_inside (suc d) p h e = ap (λ (x : ℕ). same_numbers name (take (get_or sizes x 0) (drop (get_or names x 0) s))) e
