-- Which classes load, tried on the rules' edges.
--     ascii_load    the classes of the base load: one computed test over all of them
use Prim.Native.Nat.{ℕ}
use mathlib.Core.Bool.{Bool, true, false}
use mathlib.Core.List.{[], ◌∷◌, ◌++◌, map}
use mathlib.Core.Path.{◌≡◌, refl}
use lib.ListN.{replicate, set, take}
use Rattle.grammar.specs.Lists.{any_pass, is_in, numbers_below}
use Rattle.grammar.specs.Names.{Classes, ascii_classes, never_in_names, loads, Loads}

pub ascii_load : Loads ascii_classes
unfolding loads ascii_classes
ascii_load = refl

-- a byte less, a byte more, none
one_less : loads (take 255 ascii_classes) ≡ false
unfolding loads ascii_classes
one_less = refl

one_more : loads (ascii_classes ++ 0 ∷ []) ≡ false
unfolding loads ascii_classes
one_more = refl

no_classes : loads [] ≡ false
unfolding loads
no_classes = refl

-- a class of 3, and no class of 2
a_three : loads (set ascii_classes 0x41 3) ≡ false
unfolding loads ascii_classes
a_three = refl

no_two : loads (replicate 0x30 0 ++ replicate 10 1 ++ replicate 198 0) ≡ false
unfolding loads
no_two = refl

-- each byte that is in no name, alone, as 1 and as 2
changed : ℕ → ℕ → Bool
unfolding loads ascii_classes
changed class b = loads (set ascii_classes b class)

never_first : any_pass (changed 2) never_in_names ≡ false
unfolding changed never_in_names any_pass
never_first = refl

never_later : any_pass (changed 1) never_in_names ≡ false
unfolding changed never_in_names any_pass
never_later = refl

-- which these are, by their numbers
never_are :
    never_in_names
    ≡ 0x00 ∷ 0x01 ∷ 0x02 ∷ 0x03 ∷ 0x04 ∷ 0x05 ∷ 0x06 ∷ 0x07 ∷ 0x08 ∷ 0x09 ∷ 0x0A ∷ 0x0B ∷ 0x0C ∷ 0x0D ∷ 0x0E ∷ 0x0F ∷
    0x10 ∷ 0x11 ∷ 0x12 ∷ 0x13 ∷ 0x14 ∷ 0x15 ∷ 0x16 ∷ 0x17 ∷ 0x18 ∷ 0x19 ∷ 0x1A ∷ 0x1B ∷ 0x1C ∷ 0x1D ∷ 0x1E ∷ 0x1F ∷
    0x20 ∷ 0x28 ∷ 0x29 ∷ 0x7C ∷ 0x2C ∷ 0x2A ∷ 0x2B ∷ 0x3F ∷ 0x21 ∷ 0x3C ∷ 0x3E ∷ 0x2F ∷ 0x3D ∷ []
unfolding never_in_names
never_are = refl

-- every other byte may be a letter: number sign, quotation mark, ampersand, and all bytes from 7F among them
all_but_these : Classes
unfolding is_in never_in_names numbers_below
all_but_these = map (λ b. elim (is_in b never_in_names) [ true ↦ 0 | false ↦ 2 ]) (numbers_below 256)

all_but_these_load : Loads all_but_these
unfolding loads all_but_these
all_but_these_load = refl
