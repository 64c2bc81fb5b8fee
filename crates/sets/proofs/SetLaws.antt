-- Sets in words, as tests on numbers. Main statements: `member_put` (putting k in adds k and nothing else), `words_stored`,
-- `stored_kept` (what is laid down stands there, the words around it are kept), `words_before`, `words_after` (words stay where those
-- around them stay), `member-words` (a set that is taken out has the members it had), `member_zeros`, `member_union`, and
-- `words_differ` (different words of 32 bits have different members).
use Prim.Native.Nat.{ℕ, zero, suc, ◌+◌, ◌*◌, ◌-◌, ◌/◌, ◌%◌, ◌^◌, ◌≤◌, ◌<◌}
use mathlib.Core.Bool.{Bool, true, false, ◌||◌, or_comm}
use mathlib.Core.List.{List, [], ◌∷◌, ◌++◌}
use mathlib.Core.Path.{◌≡◌, refl, sym, ap, ap₂, ◌∙◌, fun_ext}
use native.Mathlib.Nat.{zero-add, suc-add, le_refl, mod-lt, zero-lt-suc}
use native.Mathlib.Omega.{arith}
use lib.Bits.{bit_or, or_zero_r}
use lib.Dec.{eqb}
use lib.ListN.{length, get_or, set, take, drop, replicate, length-set, length-append, length-take, length-drop}
use lib.Seq.{
  get_or-set_same,
  get_or-set_other,
  get_or-take,
  get_or-drop,
  take_at,
  drop_at,
  length-take-le,
  take-append-le,
  drop-append-le,
  drop-drop,
  take-take,
  drop-append-add,
}
use borrow.Author.Tests.{eqb-true, eqb-false, eq-eqb, ne_eqb}
use Rattle.sets.specs.Sets.{bit_of, member, put_at, words_at, set_of_eight_at, store_at, union_of, nothing, add, in_either, Compares, Empties, KeptAround}
use Rattle.sets.proofs.BitLaws.{bit_or_lem, bit_one, bit_zero, bits_differ, one_shifted}

-- ---- one number more

-- a number other than k
pub add_other : (p : ℕ → Bool) (k j : ℕ) → (j ≡ k → ⊥) → add k p j ≡ p j
add_other p k j d = ap (λ (b : Bool). b || p j) (ne_eqb j k d)

pub add_itself : (p : ℕ → Bool) (k : ℕ) → add k p k ≡ true
add_itself p k = ap (λ (b : Bool). b || p k) (eq-eqb k k refl)

-- ---- putting a number in

pub length_put : (words : List ℕ) (base k : ℕ) → length (put_at words base k) ≡ length words
unfolding put_at
length_put words base k = length-set words (base + k / 32) (bit_or (get_or words (base + k / 32) 0) (2 ^ (k % 32)))

-- numbers of one word are told apart by their bits
same_bit : (j k : ℕ) → j / 32 ≡ k / 32 → eqb (j % 32) (k % 32) ≡ eqb j k
same_bit j k e = go (eqb j k) refl
  where
    go : (b : Bool) → eqb j k ≡ b → eqb (j % 32) (k % 32) ≡ b
    go true h = eq-eqb (j % 32) (k % 32) (ap (λ (n : ℕ). n % 32) (eqb-true j k h))
    go false h = ne_eqb (j % 32) (k % 32) (λ q. eqb-false j k h (omega arith))

-- a number that stands in another word is kept
pub put_elsewhere : (words : List ℕ) (base k other j : ℕ) → (other + j / 32 ≡ base + k / 32 → ⊥)
    → member (put_at words base k) other j ≡ member words other j
unfolding member put_at
put_elsewhere words base k other j d = ap (λ (x : ℕ). bit_of x (j % 32)) (get_or-set_other words (base + k / 32) (other + j / 32) _ 0 d)

put_here : (words : List ℕ) (base k j : ℕ) → base + k / 32 < length words → j / 32 ≡ k / 32
    → member (put_at words base k) base j ≡ (eqb j k || member words base j)
unfolding member put_at
put_here words base k j h e =
    let at = base + k / 32 in
    ap (λ (n : ℕ). bit_of (get_or (set words at (bit_or (get_or words at 0) (2 ^ (k % 32)))) (base + n) 0) (j % 32)) e
    ∙ ap (λ (x : ℕ). bit_of x (j % 32)) (get_or-set_same words at (bit_or (get_or words at 0) (2 ^ (k % 32))) 0 h)
    ∙ bit_or_lem (get_or words at 0) (2 ^ (k % 32)) (j % 32)
    ∙ or_comm (bit_of (get_or words at 0) (j % 32)) (bit_of (2 ^ (k % 32)) (j % 32))
    ∙ ap₂ ◌||◌ (bit_one (k % 32) (j % 32) ∙ same_bit j k e) (ap (λ (n : ℕ). bit_of (get_or words (base + n) 0) (j % 32)) (sym e))

-- putting k in adds k and nothing else
pub member_put : (words : List ℕ) (base k : ℕ) → base + k / 32 < length words
    → member (put_at words base k) base ≡ add k (member words base)
member_put words base k h = fun_ext (λ j. go j (eqb (j / 32) (k / 32)) refl)
  where
    go : (j : ℕ) (b : Bool) → eqb (j / 32) (k / 32) ≡ b → member (put_at words base k) base j ≡ (eqb j k || member words base j)
    go j true e = put_here words base k j h (eqb-true (j / 32) (k / 32) e)
    go j false e =
        let d = eqb-false (j / 32) (k / 32) e in
        put_elsewhere words base k base j (λ q. d (omega arith))
        ∙ ap (λ (b : Bool). b || member words base j) (sym (ne_eqb j k (λ q. d (ap (λ (n : ℕ). n / 32) q))))

-- ---- the n words at a base

pub length-words : (words : List ℕ) (base n : ℕ) → base + n ≤ length words → length (words_at words base n) ≡ n
unfolding words_at
length-words words base n h = length-take-le n (drop base words) (rw length-drop (omega arith))

pub word_of : (words : List ℕ) (base n i : ℕ) → i < n → get_or (words_at words base n) i 0 ≡ get_or words (base + i) 0
unfolding words_at
word_of words base n i h = get_or-take n (drop base words) i 0 h ∙ get_or-drop base words i 0

-- a set that is taken out has the members it had
pub member-words : (words : List ℕ) (base n k : ℕ) → k / 32 < n → member (words_at words base n) 0 k ≡ member words base k
unfolding member
member-words words base n k h =
    ap (λ (x : ℕ). bit_of x (k % 32)) (ap (λ (i : ℕ). get_or (words_at words base n) i 0) (zero-add (k / 32)) ∙ word_of words base n (k / 32) h)

-- ---- laying words down

pub length_store : (words : List ℕ) (base : ℕ) (new : List ℕ) → base + length new ≤ length words
    → length (store_at words base new) ≡ length words
unfolding store_at
length_store words base new h = simp (length-append, length-take, length-drop) (omega arith)

pub take_store : (words : List ℕ) (base : ℕ) (new : List ℕ) (n : ℕ) → base + length new ≤ length words → n ≤ base
    → take n (store_at words base new) ≡ take n words
unfolding store_at
take_store words base new n h q =
    take-append-le n (take base words ++ new) (drop (base + length new) words) (simp (length-append, length-take) (omega arith))
    ∙ take-append-le n (take base words) new (simp length-take (omega arith))
    ∙ take-take n base words q

pub drop_store : (words : List ℕ) (base : ℕ) (new : List ℕ) (n : ℕ) → base + length new ≤ length words → base + length new ≤ n
    → drop n (store_at words base new) ≡ drop n words
unfolding store_at
drop_store words base new n h q =
    let front : length (take base words ++ new) ≡ base + length new = simp (length-append, length-take) (omega arith) in
    let more = n - (base + length new) in
    let e : base + length new + more ≡ n = omega arith in
    ap (λ (m : ℕ). drop m (take base words ++ new ++ drop (base + length new) words)) (sym e ∙ ap (λ (m : ℕ). m + more) (sym front))
    ∙ drop-append-add (take base words ++ new) (drop (base + length new) words) more
    ∙ drop-drop more (base + length new) words
    ∙ ap (λ (m : ℕ). drop m words) e

-- what is laid down stands there
pub words_store : (words : List ℕ) (base : ℕ) (new : List ℕ) (n : ℕ) → base + length new ≤ length words → length new ≡ n
    → words_at (store_at words base new) base n ≡ new
unfolding words_at store_at
words_store words base new n h e =
    let front : length (take base words) ≡ base = length-take-le base words (omega arith) in
    ap (take n)
    (drop-append-le base (take base words ++ new) (drop (base + length new) words) (simp (length-append, length-take) (omega arith))
    ∙ ap (λ (l : List ℕ). l ++ drop (base + length new) words) (drop_at (take base words) new base front))
    ∙ take_at new (drop (base + length new) words) n e

-- the n words at a base lie within the first base + n
words_of_take : (l : List ℕ) (base n : ℕ) → words_at (take (base + n) l) base n ≡ words_at l base n
unfolding words_at
words_of_take l zero n = ap (λ (m : ℕ). take n (take m l)) (zero-add n) ∙ take-take n n l (le_refl n)
words_of_take [] (suc base) n = ap (λ (m : ℕ). take n (drop (suc base) (take {A = ℕ} m []))) (suc-add base n)
words_of_take (x ∷ l) (suc base) n =
    ap (λ (m : ℕ). take n (drop (suc base) (take m (x ∷ l)))) (suc-add base n) ∙ words_of_take l base n

-- the m words at a place stay where the words stay that they are among: the first n, or those after the first n
pub words_before : (before after : List ℕ) (n other m : ℕ) → take n after ≡ take n before → other + m ≤ n
    → words_at after other m ≡ words_at before other m
words_before before after n other m e h =
    let first : take (other + m) after ≡ take (other + m) before =
    sym (take-take (other + m) n after h) ∙ ap (take (other + m)) e ∙ take-take (other + m) n before h in
    sym (words_of_take after other m) ∙ ap (λ (l : List ℕ). words_at l other m) first ∙ words_of_take before other m

pub words_after : (before after : List ℕ) (n other m : ℕ) → drop n after ≡ drop n before → n ≤ other
    → words_at after other m ≡ words_at before other m
unfolding words_at
words_after before after n other m e h =
    let more = other - n in
    let at : n + more ≡ other = omega arith in
    let rest : (l : List ℕ) → drop more (drop n l) ≡ drop other l = λ l. drop-drop more n l ∙ ap (λ (k : ℕ). drop k l) at in
    ap (take m) (sym (rest after) ∙ ap (drop more) e ∙ rest before)

-- sets that stand before or after are kept
pub store_before : (words : List ℕ) (base : ℕ) (new : List ℕ) (other n : ℕ) → base + length new ≤ length words → other + n ≤ base
    → words_at (store_at words base new) other n ≡ words_at words other n
store_before words base new other n h q =
    words_before words (store_at words base new) base other n (take_store words base new base h (le_refl base)) q

pub store_after : (words : List ℕ) (base : ℕ) (new : List ℕ) (other n : ℕ) → base + length new ≤ length words → base + length new ≤ other
    → words_at (store_at words base new) other n ≡ words_at words other n
store_after words base new other n h q =
    words_after words (store_at words base new) other other n (drop_store words base new other h q) (le_refl other)

-- ---- a set of n words that is laid down stands there, and the others are kept

module _ (words : List ℕ) (base n : ℕ) (set after : List ℕ) (room : base + n ≤ length words) (long : length set ≡ n)
    (stored : after ≡ store_at words base set) where
  pub words_stored : words_at after base n ≡ set
  words_stored = ap (λ (l : List ℕ). words_at l base n) stored ∙ words_store words base set n (omega arith) long

  pub stored_kept : KeptAround base n words after
  stored_kept =
      record {
        front = ap (take base) stored ∙ take_store words base set base (omega arith) (le_refl base);
        back = ap (drop (base + n)) stored ∙ drop_store words base set (base + n) (omega arith) (omega arith);
      }

-- ---- sets of eight words

pub eight_before : {base n : ℕ} {before after : List ℕ} → KeptAround base n before after → (other : ℕ) → other + 8 ≤ base
    → set_of_eight_at after other ≡ set_of_eight_at before other
eight_before {base} {n} {before} {after} k other h =
    ap (λ (w : List ℕ). member w 0) (words_before before after base other 8 k.front h)

pub eight_after : (before after : List ℕ) (n other : ℕ) → drop n after ≡ drop n before → n ≤ other
    → set_of_eight_at after other ≡ set_of_eight_at before other
eight_after before after n other e h = ap (λ (w : List ℕ). member w 0) (words_after before after n other 8 e h)

pub eight_set : (words : List ℕ) (base : ℕ) (set after : List ℕ) → base + 8 ≤ length words → length set ≡ 8 → after ≡ store_at words base set
    → set_of_eight_at after base ≡ member set 0
eight_set words base set after room eight stored = ap (λ (w : List ℕ). member w 0) (words_stored words base 8 set after room eight stored)

-- ---- no member, and both sets' members

zero_word : (n i : ℕ) → ◌≡◌ {A = ℕ} (get_or (replicate n 0) i 0) 0
zero_word zero i = refl
zero_word (suc n) zero = refl
zero_word (suc n) (suc i) = zero_word n i

pub member_zeros : (n base : ℕ) → member (replicate n 0) base ≡ nothing
unfolding member
member_zeros n base = fun_ext (λ k. ap (λ (x : ℕ). bit_of x (k % 32)) (zero_word n (base + k / 32)) ∙ bit_zero (k % 32))

pub word_union : (a b : List ℕ) (i : ℕ) → get_or (union_of a b) i 0 ≡ bit_or (get_or a i 0) (get_or b i 0)
unfolding union_of
word_union [] b i = refl
word_union (x ∷ a) [] i = sym (or_zero_r (get_or (x ∷ a) i 0))
word_union (x ∷ a) (y ∷ b) zero = refl
word_union (x ∷ a) (y ∷ b) (suc i) = word_union a b i

pub member_union : (a b : List ℕ) (base : ℕ) → member (union_of a b) base ≡ in_either (member a base) (member b base)
unfolding member
member_union a b base =
    fun_ext (λ k. ap (λ (x : ℕ). bit_of x (k % 32)) (word_union a b (base + k / 32))
    ∙ bit_or_lem (get_or a (base + k / 32) 0) (get_or b (base + k / 32) 0) (k % 32))

pub length_union : (a b : List ℕ) → length a ≡ length b → length (union_of a b) ≡ length a
unfolding union_of
length_union [] b e = sym e
length_union (x ∷ a) [] e = refl
length_union (x ∷ a) (y ∷ b) e = ap suc (length_union a b (omega arith))

-- ---- the same sets

-- if two words of 32 bits differ, then some number is in the one set and not in the other
pub words_differ : (a b : List ℕ) (i : ℕ) → i < length a → get_or a i 0 < 2 ^ 32 → get_or b i 0 < 2 ^ 32 → (get_or a i 0 ≡ get_or b i 0 → ⊥)
    → (k : ℕ) × (k < 32 * length a) × (member a 0 k ≡ member b 0 k → ⊥)
unfolding member
words_differ a b i h ha hb d =
    let (bit, below, apart) = bits_differ 32 (get_or a i 0) (get_or b i 0) ha hb d in
    let k = 32 * i + bit in
    let word : 0 + k / 32 ≡ i = omega arith in
    let rest : k % 32 ≡ bit = omega arith in
    let at : (l : List ℕ) → bit_of (get_or l (0 + k / 32) 0) (k % 32) ≡ bit_of (get_or l i 0) bit
    = λ l. ap₂ (λ (m n : ℕ). bit_of (get_or l m 0) n) word rest in
    (k, omega arith, λ q. apart (sym (at a) ∙ q ∙ at b))

-- a set is empty if it is the same as one of zeros
pub empties : (a zeros : List ℕ) (n : ℕ) (r : Bool) → zeros ≡ replicate n 0 → Compares a zeros r → Empties a r
empties a zeros n r z c =
    let none : member zeros 0 ≡ nothing = ap (λ (l : List ℕ). member l 0) z ∙ member_zeros n 0 in
    record {
      none = λ e. ap (λ (l : List ℕ). member l 0) (c.same e) ∙ none;
      one = λ e.
          let (k, below, apart) = c.differ e in
          (k, below, true_of (member a 0 k) (λ f. apart (f ∙ sym (ap (λ (p : ℕ → Bool). p k) none))));
    }
  where
    true_of : (t : Bool) → (t ≡ false → ⊥) → t ≡ true
    true_of true h = refl
    true_of false h = absurd (h refl)

-- ---- as the code computes

pub put_code : (words : List ℕ) (base k : ℕ)
    → set words (base + k / 32) (bit_or (get_or words (base + k / 32) 0) (1 * 2 ^ (k % 32) % 2 ^ 32)) ≡ put_at words base k
unfolding put_at
put_code words base k =
    ap (λ (x : ℕ). set words (base + k / 32) (bit_or (get_or words (base + k / 32) 0) x)) (one_shifted (k % 32) (mod-lt k (zero-lt-suc 31)))

-- at word 0
pub has_first : (words : List ℕ) (k : ℕ) → eqb (get_or words (k / 32) 0 / 2 ^ (k % 32) % 2) 1 ≡ member words 0 k
unfolding member
has_first words k = ap (λ (i : ℕ). bit_of (get_or words i 0) (k % 32)) (sym (zero-add (k / 32)))

pub put_first : (words : List ℕ) (k : ℕ)
    → set words (k / 32) (bit_or (get_or words (k / 32) 0) (1 * 2 ^ (k % 32) % 2 ^ 32)) ≡ put_at words 0 k
put_first words k =
    ap (λ (i : ℕ). set words i (bit_or (get_or words i 0) (1 * 2 ^ (k % 32) % 2 ^ 32))) (sym (zero-add (k / 32))) ∙ put_code words 0 k
