-- Sets of pairs that stand in lent words, eight words each, one after the other.
use Rattle.std.specs.Prelude.{ℕ, ◌*◌, ◌≤◌, ◌<◌, Bool, ◌≡◌, length, Option, Some, None}
use mathlib.Core.List.{List, Memᴰ}
use Rattle.std.proofs.Math.Option.{some as just}
use Rattle.std.proofs.Math.ListN.{get_elem?}
use Rattle.grammar.specs.Lists.{keep, is_in, numbers_below}
use Rattle.grammar.specs.SingleTypeForm.{TypeSet}
use Rattle.sets.specs.Sets.{set_of_eight_at}

-- the set of a number
abbrev pub set_in : List ℕ → ℕ → ℕ → Bool
set_in words i = set_of_eight_at words (8 * i)

-- its numbers ascend, and are below 256
abbrev pub Ascending : TypeSet → Type 0
Ascending s = keep (λ p. is_in p s) (numbers_below 256) ≡ s

-- These sets stand in the words.
pub record SetsHeld (words : List ℕ) (sets : List TypeSet) : Type 0 where
  pub few : length sets ≤ 128
  pub room : 1024 ≤ length words
  pub set : (i : ℕ) (s : TypeSet) → get_elem? sets i ≡ just s → set_in words i ≡ (λ p. is_in p s)
  pub ascending : (s : TypeSet) → Memᴰ s sets → Ascending s

-- These sets stand in the words, and are so many, at most `most`; or they are more.
abbrev pub SetsCounted : (most : ℕ) → List ℕ → List TypeSet → Option ℕ → Type 0
SetsCounted most words sets None = most < length sets
SetsCounted most words sets (Some n) = (n ≡ length sets) × (n ≤ most) × SetsHeld words sets
