-- The notes of operands:
--   print_small   a fingerprint is below `prints`; fold_next, fold_done, print_short, print_long : it is folded byte by byte
--   note_print, note_before : what a note holds
--   noted_none, noted_more, noted_front : no operand yet; one more; the words after a row do not matter
--   lent_from, with_lent, lent_is, lent_words, lent_after, lent_before, lent_long : words lent from a place on, and as they come back
--   no_upto       too large is no list of operands
use Prim.Native.Nat.{ℕ, suc, ◌+◌, ◌-◌, ◌*◌, ◌/◌, ◌%◌, ◌≤◌, ◌<◌}
use native.Mathlib.Omega.{arith}
use native.Mathlib.Numerals.{add-one}
use mathlib.Core.List.{List, [], ◌∷◌, ◌++◌, append-nil}
use mathlib.Core.Path.{◌≡◌, refl, sym, ◌∙◌, ap, ap₂}
use lib.ListN.{length, get_or, take, drop, set, length-append, length-set, length-take, length-drop, drop_of_length-le}
use lib.Seq.{length-take-le, take_all, drop-cons, take-take, take-append-le, take-suc-set, take_at, drop_at}
use Rattle.std.specs.Prelude.{Result, Err, Ok}
use Rattle.grammar.specs.declared.TooLarge.{TooLarge}
use Rattle.operands.specs.declared.drafts.Gathering.{Gathering}
use Rattle.grammar.specs.Limits.{operand_limit}
use Rattle.grammar.specs.Content.{Content, operands}
use Rattle.grammar.specs.ReadContent.{content_bytes, operand_bytes}
use Rattle.operands.specs.Notes.{prints, folded, fingerprint, note, notes_of, Noted}

folded_small : (h : ℕ) (bs : List ℕ) → h < prints → folded h bs < prints
unfolding folded
folded_small h [] l = l
folded_small h (b ∷ bs) l = folded_small ((h * 31 + b) % prints) bs (omega arith)

pub print_small : (print : ℕ) (bs : List ℕ) → print ≡ fingerprint bs → print < prints
unfolding fingerprint
print_small print bs e =
    let h : fingerprint bs < prints = folded_small 0 (take 16 bs) (omega arith) in
    omega arith

-- the fingerprint is folded byte by byte
module _ (bytes : List ℕ) (i h : ℕ) where
  pub fold_next : i < length bytes → folded ((h * 31 + get_or bytes i 0) % prints) (drop (i + 1) bytes) ≡ folded h (drop i bytes)
  unfolding folded
  fold_next k =
      ap (λ (n : ℕ). folded ((h * 31 + get_or bytes i 0) % prints) (drop n bytes)) (add-one i)
      ∙ sym (ap (folded h) (drop-cons bytes i 0 k))

  pub fold_done : length bytes ≤ i → folded h (drop i bytes) ≡ h
  unfolding folded
  fold_done k = ap (folded h) (drop_of_length-le bytes k)

pub print_short : (l : List ℕ) (n : ℕ) → n < 16 → folded 0 (take n l) ≡ fingerprint (take n l)
unfolding fingerprint
print_short l n h =
    let t = length-take n l in
    ap (folded 0) (sym (take_all 16 (take n l) (omega arith)))

pub print_long : (l : List ℕ) (m n : ℕ) → m ≡ 16 → 16 ≤ n → folded 0 (take m l) ≡ fingerprint (take n l)
unfolding fingerprint
print_long l m n e h = ap (λ (k : ℕ). folded 0 (take k l)) e ∙ ap (folded 0) (sym (take-take 16 n l h))

module _ (m before : ℕ) (bs : List ℕ) (e : m ≡ note before bs) (h : before < prints) where
  pub note_print : m / prints ≡ fingerprint bs
  unfolding note
  note_print = let q : m ≡ fingerprint bs * prints + before = e in omega arith

  pub note_before : m % prints ≡ before
  unfolding note
  note_before = let q : m ≡ fingerprint bs * prints + before = e in omega arith

-- one more operand, one more note
notes_more : (before : ℕ) (ds : List Content) (x : Content)
    → notes_of before (ds ++ (x ∷ [])) ≡ notes_of before ds ++ (note (before + length (operand_bytes (operands ds))) (content_bytes x) ∷ [])
unfolding notes_of operands operand_bytes
notes_more before [] x =
    let z : before ≡ before + 0 = omega arith in
    ap (λ (k : ℕ). note k (content_bytes x) ∷ []) z
notes_more before (d ∷ ds) x =
    let a = length-append (content_bytes d) (operand_bytes (operands ds)) in
    let z : before + length (content_bytes d) + length (operand_bytes (operands ds))
    ≡ before + length (content_bytes d ++ operand_bytes (operands ds)) = omega arith in
    ap (λ (l : List ℕ). note before (content_bytes d) ∷ l) (notes_more (before + length (content_bytes d)) ds x)
    ∙ ap (λ (k : ℕ). note before (content_bytes d) ∷ (notes_of (before + length (content_bytes d)) ds ++ (note k (content_bytes x) ∷ []))) z

pub noted_none : (notes : List ℕ) → operand_limit ≤ length notes → Noted notes []
unfolding notes_of
noted_none notes h = record { room = h; there = refl }

module _ (notes : List ℕ) (ds : List Content) (s : Noted notes ds) where
  pub noted_more : (count v : ℕ) (x : Content) → count ≡ length ds → count < operand_limit
      → v ≡ note (length (operand_bytes (operands ds))) (content_bytes x) → Noted (set notes count v) (ds ++ (x ∷ []))
  noted_more count v x e h is =
      let l = length-set notes count v in
      let r = s.room in
      let z : length (operand_bytes (operands ds)) ≡ 0 + length (operand_bytes (operands ds)) = omega arith in
      let n : length (ds ++ (x ∷ [])) ≡ suc count = length-append ds (x ∷ []) ∙ add-one (length ds) ∙ ap suc (sym e) in
      record {
        room = omega arith;
        there =
            ap (λ (k : ℕ). take k (set notes count v)) n
            ∙ take-suc-set notes count v (omega arith)
            ∙ ap₂ (λ (l : List ℕ) (k : ℕ). l ++ (k ∷ [])) (ap (λ (k : ℕ). take k notes) e ∙ s.there)
            (is ∙ ap (λ (k : ℕ). note k (content_bytes x)) z)
            ∙ sym (notes_more 0 ds x);
      }

  pub noted_front : (part : List ℕ) → length ds ≤ operand_limit → Noted (take operand_limit notes ++ part) ds
  noted_front part h =
      let l = length-take-le operand_limit notes s.room in
      let a = length-append (take operand_limit notes) part in
      record {
        room = omega arith;
        there =
            take-append-le (length ds) (take operand_limit notes) part (omega arith)
            ∙ take-take (length ds) operand_limit notes h
            ∙ s.there;
      }

-- the part of some words that is lent from a place on, and the words with that part as it comes back
abbrev pub lent_from : ℕ → List ℕ → List ℕ
lent_from n l = take (length l - n) (drop n l)

abbrev pub with_lent : (n : ℕ) (l part : List ℕ) → List ℕ
with_lent n l part = take n l ++ (part ++ drop (length l - n) (drop n l))

module _ (n : ℕ) (l : List ℕ) (h : n ≤ length l) where
  pub lent_is : lent_from n l ≡ drop n l
  lent_is =
      let d = length-drop n l in
      take_all (length l - n) (drop n l) (omega arith)

  pub lent_words : length (lent_from n l) ≡ length l - n
  lent_words = ap length lent_is ∙ length-drop n l

  module _ (part : List ℕ) (e : length part ≡ length (lent_from n l)) where
    pub lent_after : drop n (with_lent n l part) ≡ part
    lent_after =
        let d = length-drop n l in
        let z : length (drop n l) ≤ length l - n = omega arith in
        drop_at (take n l) (part ++ drop (length l - n) (drop n l)) n (length-take-le n l h)
        ∙ ap (λ (r : List ℕ). part ++ r) (drop_of_length-le (drop n l) z)
        ∙ append-nil part

    pub lent_before : take n (with_lent n l part) ≡ take n l
    lent_before = take_at (take n l) (part ++ drop (length l - n) (drop n l)) n (length-take-le n l h)

    pub lent_long : length (with_lent n l part) ≡ length l
    lent_long =
        let d = length-drop n l in
        let r = length-drop (length l - n) (drop n l) in
        let w = lent_words in
        let t = length-take-le n l h in
        let a = length-append part (drop (length l - n) (drop n l)) in
        let b = length-append (take n l) (part ++ drop (length l - n) (drop n l)) in
        omega arith

pub no_upto : {over : TooLarge} {g : Gathering} {A : Type 0} → ◌≡◌ {A = Result Gathering TooLarge} (Err over) (Ok g) → A
no_upto e = let z : ◌≡◌ {A = ℕ} 0 1 = cc e in absurd (omega arith)
