-- Card 3: a set that is built from numbers has just these, whatever the number of its words. Main statements: `by_value_has_just`,
-- `in_words_has_just` (in lent words, where an empty set stood), `put_all_front` and `put_all_back` (no other word changes).
use Prim.Native.Nat.{ℕ, zero, suc, ◌+◌, ◌*◌, ◌/◌, ◌≤◌, ◌<◌}
use mathlib.Core.Bool.{Bool, false, ◌||◌, or_assoc, or_comm, or-false, or-true}
use mathlib.Core.List.{List, [], ◌∷◌}
use mathlib.Core.Path.{◌≡◌, refl, sym, ap, ◌∙◌}
use native.Mathlib.Numerals.{add-one}
use native.Mathlib.Omega.{arith}
use lib.Dec.{eqb}
use lib.ListN.{length, get_or, take, drop, replicate, length-replicate}
use lib.Seq.{take-set-le, drop-set-lt}
use Rattle.grammar.specs.Lists.{any_pass, is_in}
use Rattle.sets.specs.Sets.{member, put_at, put_all, words_at, AllBelow, HasJust}
use Rattle.sets.proofs.SetLaws.{length_put, member_put, member-words, member_zeros, add_itself}

-- ---- numbers of a list

below_first : (m k : ℕ) (ks : List ℕ) → AllBelow m (k ∷ ks) → k < m
unfolding is_in any_pass
below_first m k ks below = below k (add_itself (λ j. is_in j ks) k)

below_rest : (m k : ℕ) (ks : List ℕ) → AllBelow m (k ∷ ks) → AllBelow m ks
unfolding is_in any_pass
below_rest m k ks below j h = below j (ap (λ (b : Bool). eqb j k || b) h ∙ or-true (eqb j k))

-- ---- putting them in

pub length-put_all : (words : List ℕ) (base : ℕ) (numbers : List ℕ) → length (put_all words base numbers) ≡ length words
unfolding put_all
length-put_all words base [] = refl
length-put_all words base (k ∷ ks) = length-put_all (put_at words base k) base ks ∙ length_put words base k

-- it adds them and nothing else
pub member-put_all : (words : List ℕ) (base n : ℕ) (numbers : List ℕ) → base + n ≤ length words → AllBelow (32 * n) numbers
    → (j : ℕ) → member (put_all words base numbers) base j ≡ (is_in j numbers || member words base j)
unfolding put_all is_in any_pass
member-put_all words base n [] room below j = refl
member-put_all words base n (k ∷ ks) room below j =
    let first : k < 32 * n = below_first (32 * n) k ks below in
    member-put_all (put_at words base k) base n ks (rw length_put room) (below_rest (32 * n) k ks below) j
    ∙ ap (λ (p : ℕ → Bool). is_in j ks || p j) (member_put words base k (omega (arith, first)))
    ∙ sym (or_assoc (is_in j ks) (eqb j k) (member words base j))
    ∙ ap (λ (b : Bool). b || member words base j) (or_comm (is_in j ks) (eqb j k))

-- one number after the other
pub put_all_none : (words : List ℕ) (base : ℕ) → put_all words base [] ≡ words
unfolding put_all
put_all_none words base = refl

pub put_all_next : (words : List ℕ) (base : ℕ) (numbers : List ℕ) (i : ℕ) → i < length numbers
    → put_all words base (take (i + 1) numbers) ≡ put_at (put_all words base (take i numbers)) base (get_or numbers i 0)
unfolding put_all
put_all_next words base numbers i h = ap (λ (n : ℕ). put_all words base (take n numbers)) (add-one i) ∙ go words numbers i h
  where
    go : (words numbers : List ℕ) (i : ℕ) → i < length numbers
        → put_all words base (take (suc i) numbers) ≡ put_at (put_all words base (take i numbers)) base (get_or numbers i 0)
    go words [] i h = absurd (omega arith)
    go words (k ∷ ks) zero h = refl
    go words (k ∷ ks) (suc i) h = go (put_at words base k) ks i (omega arith)

-- no word before base changes, and none after the words of the set
pub put_all_front : (words : List ℕ) (base : ℕ) (numbers : List ℕ) → take base (put_all words base numbers) ≡ take base words
unfolding put_all put_at
put_all_front words base [] = refl
put_all_front words base (k ∷ ks) =
    put_all_front (put_at words base k) base ks ∙ take-set-le base words (base + k / 32) _ (omega arith)

pub put_all_back : (words : List ℕ) (base n : ℕ) (numbers : List ℕ) → AllBelow (32 * n) numbers
    → drop (base + n) (put_all words base numbers) ≡ drop (base + n) words
unfolding put_all put_at
put_all_back words base n [] below = refl
put_all_back words base n (k ∷ ks) below =
    let first : k < 32 * n = below_first (32 * n) k ks below in
    put_all_back (put_at words base k) base n ks (below_rest (32 * n) k ks below)
    ∙ drop-set-lt (base + n) words (base + k / 32) _ (omega (arith, first))

-- ---- what was built has just these

-- in lent words
pub in_words_has_just : (words : List ℕ) (base n : ℕ) (numbers : List ℕ) → base + n ≤ length words → words_at words base n ≡ replicate n 0
    → AllBelow (32 * n) numbers → HasJust (put_all words base numbers) base n numbers
in_words_has_just words base n numbers room empty below j h =
    let none : member words base j ≡ false =
    sym (member-words words base n j (omega arith))
    ∙ ap (λ (w : List ℕ). member w 0 j) empty
    ∙ ap (λ (p : ℕ → Bool). p j) (member_zeros n 0) in
    member-put_all words base n numbers room below j ∙ ap (λ (b : Bool). is_in j numbers || b) none ∙ or-false (is_in j numbers)

-- by value
pub by_value_has_just : (n : ℕ) (numbers : List ℕ) → AllBelow (32 * n) numbers → HasJust (put_all (replicate n 0) 0 numbers) 0 n numbers
by_value_has_just n numbers below j h =
    member-put_all (replicate n 0) 0 n numbers (rw length-replicate (omega arith)) below j
    ∙ ap (λ (p : ℕ → Bool). is_in j numbers || p j) (member_zeros n 0)
    ∙ or-false (is_in j numbers)
