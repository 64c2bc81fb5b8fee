-- The fields of an input, with no bound on their number. A field that was written is read back:
--   fields_of_lem : fields_of (field_bytes tag value ++ rest) ≡ (record { tag = tag; value = value } then fields_of rest)
-- (The two length bytes of `field_bytes` are numbers: they are bytes where the value has fewer than 65536.)
-- And what is read was written so, if the bytes are below 256, and is as long in any case: `fields_were`.
use Prim.Native.Nat.{ℕ, zero, suc, ◌+◌, ◌*◌, ◌/◌, ◌%◌, ◌≤◌, ◌<◌}
use native.Mathlib.Omega.{arith}
use mathlib.Core.Bool.{Bool, true, false}
use mathlib.Core.List.{List, [], ◌∷◌, ◌++◌, Memᴰ}
use mathlib.Core.Path.{◌≡◌, refl, sym, ◌∙◌, ap, ap₂}
use lib.ListN.{length, take, drop, length-append, length-drop, take-append-drop}
use lib.Seq.{length-take-le, take-append_seam, drop-append_seam}
use lib.Dec.{leb}
use borrow.Author.Tests.{leb-true, leb-false, le-leb, lt-leb}
use Rattle.grammar.specs.Fields.{Field, Fields, no_bytes, past_end, ◌then◌, fields_within, fields_of, field_bytes}

-- the field at the front of an input, given the fields of a shorter one
fields_step : (n tag high low : ℕ) (rest : List ℕ) → high * 256 + low ≤ length rest
    → fields_within (suc n) (tag ∷ high ∷ low ∷ rest)
    ≡ (record { tag = tag; value = take (high * 256 + low) rest } then fields_within n (drop (high * 256 + low) rest))
unfolding fields_within
fields_step n tag high low rest h = rw (le-leb (high * 256 + low) (length rest) h, fields_within)

fields_end : (n tag high low : ℕ) (rest : List ℕ) → length rest < high * 256 + low
    → fields_within (suc n) (tag ∷ high ∷ low ∷ rest) ≡ past_end
unfolding fields_within
fields_end n tag high low rest h = rw (lt-leb (high * 256 + low) (length rest) h, fields_within)

-- the bound on the number of fields does not matter once it is the number of bytes
enough : (n m : ℕ) (s : List ℕ) → length s ≤ n → length s ≤ m → fields_within n s ≡ fields_within m s
unfolding fields_within
enough zero zero s p q = refl
enough zero (suc m) [] p q = refl
enough zero (suc m) (t ∷ s) p q = absurd (omega arith)
enough (suc n) zero [] p q = refl
enough (suc n) zero (t ∷ s) p q = absurd (omega arith)
enough (suc n) (suc m) [] p q = refl
enough (suc n) (suc m) (t ∷ []) p q = refl
enough (suc n) (suc m) (t ∷ h ∷ []) p q = refl
enough (suc n) (suc m) (t ∷ h ∷ l ∷ s) p q =
    let d = length-drop (h * 256 + l) s in
    go (leb (h * 256 + l) (length s)) refl (enough n m (drop (h * 256 + l) s) (omega arith) (omega arith))
  where
    go : (b : Bool) → leb (h * 256 + l) (length s) ≡ b → fields_within n (drop (h * 256 + l) s) ≡ fields_within m (drop (h * 256 + l) s)
        → fields_within (suc n) (t ∷ h ∷ l ∷ s) ≡ fields_within (suc m) (t ∷ h ∷ l ∷ s)
    go true e r =
        let k = leb-true (h * 256 + l) (length s) e in
        fields_step n t h l s k
        ∙ ap (λ (fs : Fields). record { tag = t; value = take (h * 256 + l) s } then fs) r
        ∙ sym (fields_step m t h l s k)
    go false e r =
        let k = leb-false (h * 256 + l) (length s) e in
        fields_end n t h l s k ∙ sym (fields_end m t h l s k)

pub fields_within_lem : (n : ℕ) (bytes : List ℕ) → length bytes ≤ n → fields_within n bytes ≡ fields_of bytes
unfolding fields_of
fields_within_lem n bytes h = enough n (length bytes) bytes h (omega arith)

pub fields_empty : fields_of [] ≡ no_bytes
unfolding fields_of
fields_empty = refl

pub fields_tag : (tag : ℕ) → fields_of (tag ∷ []) ≡ past_end
unfolding fields_of
fields_tag tag = refl

pub fields_half : (tag high : ℕ) → fields_of (tag ∷ high ∷ []) ≡ past_end
unfolding fields_of
fields_half tag high = refl

module _ (tag high low : ℕ) (rest : List ℕ) where
  pub fields_front : high * 256 + low ≤ length rest
      → fields_of (tag ∷ high ∷ low ∷ rest)
      ≡ (record { tag = tag; value = take (high * 256 + low) rest } then fields_of (drop (high * 256 + low) rest))
  unfolding fields_of
  fields_front h =
      let d = length-drop (high * 256 + low) rest in
      fields_step (suc (suc (length rest))) tag high low rest h
      ∙ ap
      (λ (fs : Fields). record { tag = tag; value = take (high * 256 + low) rest } then fs)
      (fields_within_lem (suc (suc (length rest))) (drop (high * 256 + low) rest) (omega arith))

  pub fields_past : length rest < high * 256 + low → fields_of (tag ∷ high ∷ low ∷ rest) ≡ past_end
  unfolding fields_of
  fields_past h = fields_end (suc (suc (length rest))) tag high low rest h

-- what is written is read back
pub fields_of_lem : (tag : ℕ) (value rest : List ℕ)
    → fields_of (field_bytes tag value ++ rest) ≡ (record { tag = tag; value = value } then fields_of rest)
unfolding field_bytes
fields_of_lem tag value rest =
    let high = length value / 256 in
    let low = length value % 256 in
    let n : high * 256 + low ≡ length value = omega arith in
    let l = length-append value rest in
    fields_front tag high low (value ++ rest) (omega arith)
    ∙ ap
    (λ (k : ℕ). record { tag = tag; value = take k (value ++ rest) } then fields_of (drop k (value ++ rest)))
    n
    ∙ ap₂
    (λ (v left : List ℕ). record { tag = tag; value = v } then fields_of left)
    (take-append_seam value rest)
    (drop-append_seam value rest)

abbrev pub AreBytes : List ℕ → Type 0
AreBytes bytes = (b : ℕ) → Memᴰ b bytes → b < 256

-- a field at the front of some bytes, and the bytes after it
pub record Front (bytes : List ℕ) (f : Field) (more : Fields) : Type 0 where
  pub rest : List ℕ
  pub size : length bytes ≡ length (field_bytes f.tag f.value ++ rest)
  pub written : AreBytes bytes → bytes ≡ field_bytes f.tag f.value ++ rest
  pub after : more ≡ fields_of rest

-- what is read was written so
pub fields_were : (bytes : List ℕ) (f : Field) (more : Fields) → fields_of bytes ≡ (f then more) → Front bytes f more
unfolding field_bytes
fields_were [] f more e = let z : ◌≡◌ {A = ℕ} 0 1 = cc fields_empty in absurd (omega arith)
fields_were (t ∷ []) f more e = let z : ◌≡◌ {A = ℕ} 0 1 = cc (fields_tag t) in absurd (omega arith)
fields_were (t ∷ h ∷ []) f more e = let z : ◌≡◌ {A = ℕ} 0 1 = cc (fields_half t h) in absurd (omega arith)
fields_were (t ∷ h ∷ l ∷ s) f more e = go (leb (h * 256 + l) (length s)) refl
  where
    value : List ℕ
    value = take (h * 256 + l) s

    rest : List ℕ
    rest = drop (h * 256 + l) s

    lengths : h * 256 + l ≤ length s → AreBytes (t ∷ h ∷ l ∷ s) → t ∷ h ∷ l ∷ s ≡ field_bytes t value ++ rest
    lengths k small =
        let low = small l (Memᴰ.tail (Memᴰ.tail (Memᴰ.head refl))) in
        let n = length-take-le (h * 256 + l) s k in
        let high_is : h ≡ length value / 256 = omega arith in
        let low_is : l ≡ length value % 256 = omega arith in
        let whole = sym (take-append-drop (h * 256 + l) s) in
        λ i. t ∷ high_is i ∷ low_is i ∷ whole i

    go : (b : Bool) → leb (h * 256 + l) (length s) ≡ b → Front (t ∷ h ∷ l ∷ s) f more
    go false q = let z : ◌≡◌ {A = ℕ} 0 1 = cc (fields_past t h l s (leb-false (h * 256 + l) (length s) q)) in absurd (omega arith)
    go true q =
        let k = leb-true (h * 256 + l) (length s) q in
        let w = fields_front t h l s k in
        let front : record { tag = t; value = value } ≡ f = cc in
        let front_bytes = ap (λ (x : Field). field_bytes x.tag x.value ++ rest) front in
        let whole = ap length (sym (take-append-drop (h * 256 + l) s)) in
        record {
          rest = rest;
          size = ap (λ (n : ℕ). suc (suc (suc n))) whole ∙ ap length front_bytes;
          written = λ small. lengths k small ∙ front_bytes;
          after = cc;
        }

pub fields_none : (bytes : List ℕ) → fields_of bytes ≡ no_bytes → bytes ≡ []
fields_none [] e = refl
fields_none (t ∷ []) e = let z : ◌≡◌ {A = ℕ} 0 1 = cc (fields_tag t) in absurd (omega arith)
fields_none (t ∷ h ∷ []) e = let z : ◌≡◌ {A = ℕ} 0 1 = cc (fields_half t h) in absurd (omega arith)
fields_none (t ∷ h ∷ l ∷ s) e = go (leb (h * 256 + l) (length s)) refl
  where
    go : (b : Bool) → leb (h * 256 + l) (length s) ≡ b → (t ∷ h ∷ l ∷ s) ≡ []
    go true q = let z : ◌≡◌ {A = ℕ} 0 1 = cc (fields_front t h l s (leb-true (h * 256 + l) (length s) q)) in absurd (omega arith)
    go false q = let z : ◌≡◌ {A = ℕ} 0 1 = cc (fields_past t h l s (leb-false (h * 256 + l) (length s) q)) in absurd (omega arith)
