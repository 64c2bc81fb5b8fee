-- Equality of names is an equivalence. What stands above uses only this of it.
use mathlib.Core.Bool.{true}
use mathlib.Core.List.{List, map}
use mathlib.Core.Path.{◌≡◌, subst}
use Prim.Native.Nat.{ℕ}
use Rattle.grammar.specs.Lists.{same_numbers}
use Rattle.grammar.specs.Names.{Name, small_letter, same_name, SameName}
use Rattle.theory.proofs.Lists.ListLaws.{same_numbers_lem, same_numbers_refl}

-- equal names are one name in small letters
pub name_small_letters : (m n : Name) → SameName m n → map small_letter m ≡ map small_letter n
unfolding same_name
name_small_letters m n e = same_numbers_lem (map small_letter m) (map small_letter n) e

pub name_refl : (n : Name) → SameName n n
unfolding same_name
name_refl n = same_numbers_refl (map small_letter n)

pub name_sym : (m n : Name) → SameName m n → SameName n m
unfolding same_name
name_sym m n e =
    subst (λ (k : List ℕ). same_numbers k (map small_letter m) ≡ true) (name_small_letters m n e) (name_refl m)

pub name_trans : (l m n : Name) → SameName l m → SameName m n → SameName l n
unfolding same_name
name_trans l m n p q = subst (λ (k : List ℕ). same_numbers (map small_letter l) k ≡ true) (name_small_letters m n q) p
