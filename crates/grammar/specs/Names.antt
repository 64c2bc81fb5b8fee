-- Names, when two are equal, and which byte strings are names.
use Rattle.std.specs.Prelude.{ℕ, ◌+◌, Bool, true, false, ◌&&◌, ◌||◌, List, [], ◌∷◌, ◌++◌, map, ◌≡◌, length, get_or, eqb, leb}
use Rattle.grammar.specs.Ascii.{ascii}
use Rattle.grammar.specs.Lists.{any_pass, all_pass, same_numbers, numbers_below}

abbrev pub Name : Type 0
Name = List ℕ

unfoldable pub is_capital : ℕ → Bool
is_capital b = leb 0x41 b && leb b 0x5A

-- A to Z become a to z; every other byte stays.
unfoldable pub small_letter : ℕ → ℕ
unfolding is_capital
small_letter b = elim (is_capital b) [ true ↦ b + 0x20 | false ↦ b ]

-- Names are equal when they agree after A to Z become a to z. All else that compares names goes through this definition.
unfoldable pub same_name : Name → Name → Bool
unfolding same_numbers small_letter
same_name m n = same_numbers (map small_letter m) (map small_letter n)

abbrev pub SameName : Name → Name → Type 0
SameName m n = same_name m n ≡ true

-- The class of each byte: 0 never in a name, 1 not first, 2 anywhere. A landlord's classes are lent with every call.
abbrev pub Classes : Type 0
Classes = List ℕ

-- the first byte is of class 2, and no byte is of class 0
unfoldable pub is_name : Classes → List ℕ → Bool
unfolding all_pass
is_name classes [] = false
is_name classes (b ∷ bs) = eqb (get_or classes b 0) 2 && all_pass (λ c. leb 1 (get_or classes c 0)) bs

-- Bytes 00 to 20, and ( ) | , * + ? ! < > / =, are in no name.
unfoldable pub never_in_names : List ℕ
unfolding numbers_below ascii
never_in_names = numbers_below 0x21 ++ ascii "()|,*+?!<>/="

-- Classes load if there are 256, each is 0, 1 or 2, at least one is 2, and the bytes that are in no name have 0.
unfoldable pub loads : Classes → Bool
unfolding all_pass any_pass never_in_names
loads classes =
    eqb (length classes) 256
    && all_pass (λ c. leb c 2) classes
    && any_pass (λ c. eqb c 2) classes
    && all_pass (λ b. eqb (get_or classes b 0) 0) never_in_names

abbrev pub Loads : Classes → Type 0
Loads classes = loads classes ≡ true

unfoldable pub is_letter : ℕ → Bool
unfolding is_capital
is_letter b = is_capital b || (leb 0x61 b && leb b 0x7A)

unfoldable pub is_digit : ℕ → Bool
is_digit b = leb 0x30 b && leb b 0x39

-- Letters and underscore stand anywhere; digits, hyphen and period not first; no other byte.
unfoldable pub class_of : ℕ → ℕ
unfolding is_letter is_digit
class_of b =
    elim (is_letter b || eqb b 0x5F) [
      | true ↦ 2
      | false ↦ elim (is_digit b || eqb b 0x2D || eqb b 0x2E) [ true ↦ 1 | false ↦ 0 ]
    ]

-- the classes of the base, which the lister uses
unfoldable pub ascii_classes : Classes
unfolding class_of numbers_below
ascii_classes = map class_of (numbers_below 256)
