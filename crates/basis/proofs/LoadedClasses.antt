-- Whether classes load, rule by rule.
use Prim.Native.Nat.{ℕ}
use mathlib.Core.Bool.{Bool, true, false, not, ◌&&◌}
use mathlib.Core.Path.{◌≡◌, sym, ◌∙◌, ap, ap₂}
use lib.Dec.{eqb, leb}
use lib.ListN.{length, get_or}
use borrow.Author.Tests.{eq-eqb, not-true, not-false}
use Rattle.grammar.specs.Ascii.{ascii}
use Rattle.grammar.specs.Lists.{any_pass, all_pass, numbers_below}
use Rattle.grammar.specs.Names.{Classes, never_in_names, loads, Loads}
use Rattle.theory.proofs.Lists.ListLaws.{all_append}

module _ (classes : Classes) where
  -- a byte has class 0
  abbrev pub zero_at : ℕ → Bool
  zero_at b = eqb (get_or classes b 0) 0

  -- the rules one by one
  pub by_rules : loads classes
      ≡ (eqb (length classes) 256 && all_pass (λ c. leb c 2) classes && any_pass (λ c. eqb c 2) classes
      && (all_pass zero_at (numbers_below 0x21) && all_pass zero_at (ascii "()|,*+?!<>/=")))
  unfolding loads never_in_names
  by_rules =
      ap (λ (t : Bool). eqb (length classes) 256 && all_pass (λ c. leb c 2) classes && any_pass (λ c. eqb c 2) classes && t)
      (all_append zero_at (numbers_below 0x21) (ascii "()|,*+?!<>/="))

  -- where all but the last holds, the last settles it
  pub by_marks : length classes ≡ 256 → all_pass (λ c. leb c 2) classes ≡ true → any_pass (λ c. eqb c 2) classes ≡ true
      → all_pass zero_at (numbers_below 0x21) ≡ true → all_pass zero_at (ascii "()|,*+?!<>/=") ≡ loads classes
  by_marks sized each some low =
      sym
      (by_rules
      ∙ ap₂ (λ (x y : Bool). x && y) (ap₂ (λ (x y : Bool). x && y) (ap₂ (λ (x y : Bool). x && y) (eq-eqb _ _ sized) each) some)
      (ap (λ (x : Bool). x && all_pass zero_at (ascii "()|,*+?!<>/=")) low))

-- what a test found
pub does_load : (classes : Classes) {r : Bool} → r ≡ loads classes → not r ≡ false → Loads classes
does_load classes {r} e n = sym e ∙ not-false r n

pub does_not_load : (classes : Classes) {r : Bool} → r ≡ loads classes → not r ≡ true → loads classes ≡ false
does_not_load classes {r} e n = sym e ∙ not-true r n
