-- Sets of small numbers as bits of words of 32 bits: number k of the set at base stands in word base + k / 32, as bit k % 32.
use Rattle.std.specs.Prelude.{ℕ, zero, suc, ◌+◌, ◌*◌, ◌/◌, ◌%◌, ◌^◌, ◌<◌}
use Rattle.std.specs.Prelude.{List, [], ◌∷◌, ◌++◌, Bool, true, false, ◌||◌, ◌≡◌, eqb, length, get_or, set, take, drop}
use Rattle.std.specs.Int.Bits.{bit_or}
use Rattle.grammar.specs.Lists.{is_in}

-- is bit k of x set?
unfoldable pub bit_of : ℕ → ℕ → Bool
bit_of x k = eqb (x / 2 ^ k % 2) 1

-- is k in the set at base?
unfoldable pub member : List ℕ → ℕ → ℕ → Bool
unfolding bit_of
member words base k = bit_of (get_or words (base + k / 32) 0) (k % 32)

-- the words after k is put into the set at base
unfoldable pub put_at : List ℕ → ℕ → ℕ → List ℕ
put_at words base k = set words (base + k / 32) (bit_or (get_or words (base + k / 32) 0) (2 ^ (k % 32)))

-- the words after each of the numbers is put into the set at base, in turn
unfoldable pub put_all : List ℕ → ℕ → List ℕ → List ℕ
put_all words base [] = words
put_all words base (k ∷ ks) = put_all (put_at words base k) base ks

-- the n words that stand at base
unfoldable pub words_at : List ℕ → ℕ → ℕ → List ℕ
words_at words base n = take n (drop base words)

-- the set of numbers below 128 that stands at base
abbrev pub set_at : List ℕ → ℕ → ℕ → Bool
set_at words base = member (words_at words base 4) 0

-- the set of numbers below 256 that stands at base
abbrev pub set_of_eight_at : List ℕ → ℕ → ℕ → Bool
set_of_eight_at words base = member (words_at words base 8) 0

-- the words after `new` is laid down at base
unfoldable pub store_at : List ℕ → ℕ → List ℕ → List ℕ
store_at words base new = take base words ++ new ++ drop (base + length new) words

-- the words of the two sets' union
unfoldable pub union_of : List ℕ → List ℕ → List ℕ
union_of [] ys = ys
union_of (x ∷ xs) [] = x ∷ xs
union_of (x ∷ xs) (y ∷ ys) = bit_or x y ∷ union_of xs ys

-- sets as tests: nothing, one number more, and both sets' numbers
abbrev pub nothing : ℕ → Bool
nothing j = false

abbrev pub add : ℕ → (ℕ → Bool) → (ℕ → Bool)
add k p j = eqb j k || p j

abbrev pub in_either : (ℕ → Bool) → (ℕ → Bool) → (ℕ → Bool)
in_either p q j = p j || q j

-- each of the numbers is below m
abbrev pub AllBelow : ℕ → List ℕ → Type 0
AllBelow m numbers = (k : ℕ) → is_in k numbers ≡ true → k < m

-- the set of n words at base has just these numbers: it says yes for each of them and for no other number below 32 * n
abbrev pub HasJust : List ℕ → ℕ → ℕ → List ℕ → Type 0
HasJust words base n numbers = (k : ℕ) → k < 32 * n → member words base k ≡ is_in k numbers

-- how many numbers below n are in the set
unfoldable pub size : (ℕ → Bool) → ℕ → ℕ
size p zero = 0
size p (suc n) = elim (p n) [ true ↦ suc (size p n) | false ↦ size p n ]

-- r says whether two sets at word 0 are the same
pub record Compares (a b : List ℕ) (r : Bool) : Type 0 where
  pub same : r ≡ true → a ≡ b
  pub differ : r ≡ false → (k : ℕ) × (k < 32 * length a) × (member a 0 k ≡ member b 0 k → ⊥)

-- r says whether the set at word 0 is empty
pub record Empties (a : List ℕ) (r : Bool) : Type 0 where
  pub none : r ≡ true → member a 0 ≡ nothing
  pub one : r ≡ false → (k : ℕ) × (k < 32 * length a) × (member a 0 k ≡ true)

-- the n words at base may have changed, no other word has
pub record KeptAround (base n : ℕ) (before after : List ℕ) : Type 0 where
  pub front : take base after ≡ take base before
  pub back : drop (base + n) after ≡ drop (base + n) before

-- the set of four words at base may have changed, no other word has
abbrev pub OthersKept : ℕ → List ℕ → List ℕ → Type 0
OthersKept base = KeptAround base 4
