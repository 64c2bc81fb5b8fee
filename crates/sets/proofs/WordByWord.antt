-- Words one by one, as the code of a set of few words reads and writes them. Main statements: `words_union`, `words_from_lem`,
-- `words_to`, `word_differs` and `all_same` say that this is the union, the words at a base, the words after storing, and whether
-- two sets are the same.
use Prim.Native.Nat.{ℕ, zero, suc, ◌+◌, ◌-◌, ◌^◌, ◌≤◌, ◌<◌}
use mathlib.Core.Bool.{Bool, true, false, false≢true}
use mathlib.Core.List.{List, [], ◌∷◌, ◌++◌}
use lib.Bits.{bit_or}
use mathlib.Core.Path.{◌≡◌, refl, sym, ap, ap₂, ◌∙◌, subst}
use native.Mathlib.Nat.{le_of_eq}
use native.Mathlib.Omega.{arith}
use native.Mathlib.Numerals.{add-one, add-two, add-three}
use mir.Val.{Fits}
use mir.Syntax.{w32}
use lib.Dec.{eqb}
use lib.ListN.{length, get_or, set, take, drop}
use borrow.Rule.Slice.PartMut.{put_mid}
use Rattle.std.proofs.Common.{append_assoc}
use lib.Seq.{sets, sets-eq, drop-cons, take_all, ext_get_or, drop-drop}
use borrow.Author.Tests.{eqb-true, eqb-false}
use Rattle.sets.proofs.SetLaws.{words_differ, word_union, length_union}
use Rattle.sets.specs.Sets.{words_at, store_at, union_of, Compares}

-- the n words from i on, one by one
abbrev pub words_from : ℕ → List ℕ → ℕ → List ℕ
words_from zero l i = []
words_from (suc n) l i = get_or l i 0 ∷ words_from n l (suc i)

pub words_from_lem : (n : ℕ) (l : List ℕ) (i : ℕ) → i + n ≤ length l → words_from n l i ≡ words_at l i n
unfolding words_at
words_from_lem zero l i h = refl
words_from_lem (suc n) l i h =
    ap (λ (r : List ℕ). get_or l i 0 ∷ r) (words_from_lem n l (suc i) (omega arith)) ∙ ap (take (suc n)) (sym (drop-cons l i 0 (omega arith)))

pub all_words : (n : ℕ) (l : List ℕ) → length l ≡ n → words_from n l 0 ≡ l
unfolding words_at
all_words n l e = words_from_lem n l 0 (omega arith) ∙ take_all n l (le_of_eq e)

-- ---- the union

pub words_union : (n : ℕ) (a b : List ℕ) → length a ≡ n → length b ≡ n → union_of (words_from n a 0) (words_from n b 0) ≡ union_of a b
words_union n a b p q = ap₂ union_of (all_words n a p) (all_words n b q)

-- ---- loading and storing

pub words_to : (n : ℕ) (words : List ℕ) (base : ℕ) (s : List ℕ) → base + n ≤ length words → length s ≡ n
    → sets words base (words_from n s 0) ≡ store_at words base s
unfolding store_at
words_to n words base s h e = ap (sets words base) (all_words n s e) ∙ sets-eq s words base (omega arith)

-- ---- whether two sets are the same

-- a word of the code has 32 bits
pub in_word : {x : ℕ} → Fits w32 x → x < 2 ^ 32
in_word f = f.fits

-- two words differ
pub word_differs : (a b : List ℕ) (i : ℕ) → i < length a → get_or a i 0 < 2 ^ 32 → get_or b i 0 < 2 ^ 32 → (get_or a i 0 ≡ get_or b i 0 → ⊥)
    → Compares a b false
word_differs a b i h ha hb d = record { same = λ q. absurd (false≢true q); differ = λ q. words_differ a b i h ha hb d }

-- the first n words are the same
abbrev pub SameBefore : ℕ → List ℕ → List ℕ → Type 0
SameBefore n a b = (i : ℕ) → i < n → get_or a i 0 ≡ get_or b i 0

pub same_next : (n : ℕ) (a b : List ℕ) → SameBefore n a b → get_or a n 0 ≡ get_or b n 0 → SameBefore (n + 1) a b
same_next n a b before here i h = go (eqb i n) refl
  where
    go : (t : Bool) → eqb i n ≡ t → get_or a i 0 ≡ get_or b i 0
    go true e = subst (λ (k : ℕ). get_or a k 0 ≡ get_or b k 0) (sym (eqb-true i n e)) here
    go false e = let d = eqb-false i n e in before i (omega arith)

-- all of the n words are the same
pub all_same : (a b : List ℕ) (n : ℕ) → length a ≡ n → length b ≡ n → SameBefore n a b → Compares a b true
all_same a b n p q e =
    record { same = λ t. ext_get_or 0 a b (p ∙ sym q) (λ i h. e i (omega arith)); differ = λ t. absurd (false≢true (sym t)) }

-- n words joined one by one are the union
pub joined_union : (n : ℕ) (a b joined : List ℕ) → length a ≡ n → length b ≡ n → length joined ≡ n
    → ((i : ℕ) → i < n → get_or joined i 0 ≡ bit_or (get_or a i 0) (get_or b i 0)) → joined ≡ union_of a b
joined_union n a b joined p q r each =
    ext_get_or 0 joined (union_of a b) (r ∙ sym (length_union a b (p ∙ sym q) ∙ p)) (λ i h. each i (omega arith) ∙ sym (word_union a b i))

-- words that are not the same differ in one
abbrev OneDiffers : ℕ → List ℕ → List ℕ → Type 0
OneDiffers n a b = (i : ℕ) × (i < n) × (get_or a i 0 ≡ get_or b i 0 → ⊥)

differs_next : (n x y : ℕ) (a b : List ℕ) (t : Bool) → eqb x y ≡ t → ((x ∷ a) ≡ (y ∷ b) → ⊥) → ((a ≡ b → ⊥) → OneDiffers n a b) → OneDiffers (suc n) (x ∷ a) (y ∷ b)
differs_next n x y a b false e d rest = (0, omega arith, eqb-false x y e)
differs_next n x y a b true e d rest =
    let (i, h, apart) = rest (λ s. d (ap₂ ◌∷◌ (eqb-true x y e) s)) in
    (suc i, omega arith, apart)

pub one_differs : (n : ℕ) (a b : List ℕ) → length a ≡ n → length b ≡ n → (a ≡ b → ⊥) → OneDiffers n a b
one_differs zero [] [] p q d = absurd (d refl)
one_differs zero [] (y ∷ b) p q d = absurd (omega arith)
one_differs zero (x ∷ a) b p q d = absurd (omega arith)
one_differs (suc n) [] b p q d = absurd (omega arith)
one_differs (suc n) (x ∷ a) [] p q d = absurd (omega arith)
one_differs (suc n) (x ∷ a) (y ∷ b) p q d = differs_next n x y a b (eqb x y) refl d (one_differs n a b (omega arith) (omega arith))

-- r says whether the words are the same
pub compared : (n : ℕ) (a b : List ℕ) (r : Bool) → length a ≡ n → length b ≡ n → ((i : ℕ) → i < n → get_or a i 0 < 2 ^ 32) → ((i : ℕ) → i < n → get_or b i 0 < 2 ^ 32)
    → (r ≡ true → a ≡ b) → (r ≡ false → a ≡ b → ⊥) → Compares a b r
compared n a b r p q ha hb same other =
    record {
      same = same;
      differ = λ t. let (i, h, apart) = one_differs n a b p q (other t) in words_differ a b i (omega arith) (ha i h) (hb i h) apart;
    }

-- words copied to the base are laid down there
pub put_stored : (base n : ℕ) (words s copied : List ℕ) → length s ≡ n → copied ≡ s → put_mid base (base + n - base) words copied ≡ store_at words base s
unfolding store_at
put_stored base n words s copied e same =
    let room : base + n - base ≡ length s = omega arith in
    ap₂ (λ (c : List ℕ) (k : ℕ). take base words ++ (c ++ drop k (drop base words))) same room
    ∙ ap (λ (l : List ℕ). take base words ++ (s ++ l)) (drop-drop (length s) base words)
    ∙ sym (append_assoc (take base words) s (drop (base + length s) words))

-- four words set one by one
pub four_stored : (words : List ℕ) (base : ℕ) (s : List ℕ) → base + 4 ≤ length words → length s ≡ 4
    → set (set (set (set words base (get_or s 0 0)) (base + 1) (get_or s 1 0)) (base + 2) (get_or s 2 0)) (base + 3) (get_or s 3 0)
    ≡ store_at words base s
four_stored words base s h e = rw (add-one, add-two, add-three) (words_to 4 words base s h e)
