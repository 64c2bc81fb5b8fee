-- The field at a place is the first field of the input from there on:
--   field_found : field_at s at ≡ Found tag from to → FoundField s at tag from to
--   field_none : field_at s at ≡ NoBytes → (length s ≤ at) × (fields_of (drop at s) ≡ no_bytes)
--   field_past : field_at s at ≡ PastEnd → (at < length s) × (fields_of (drop at s) ≡ past_end)
use Prim.Native.Nat.{ℕ, ◌+◌, ◌≤◌, ◌<◌}
use native.Mathlib.Omega.{arith}
use mathlib.Core.Bool.{Bool, true, false}
use mathlib.Core.List.{List, [], ◌∷◌}
use mathlib.Core.Path.{◌≡◌, refl, sym, ◌∙◌, ap, ap₂}
use lib.Dec.{leb}
use lib.ListN.{length, get_or, drop, drop_of_length-le, length-drop}
use lib.Seq.{drop-drop, slice}
use borrow.Author.Tests.{leb-true, leb-false, le-leb, lt-leb}
use Rattle.grammar.specs.Fields.{no_bytes, past_end, ◌then◌, fields_of, field_bytes}
use Rattle.theory.proofs.Bytes.FieldBytes.{fields_empty, fields_tag, fields_half, fields_front, fields_past}
use Rattle.basis.proofs.FromPlaces.{slice_part, from_place, from_place_two}
use Rattle.reader.specs.declared.fields.FieldAt.TheVariants.{Found, NoBytes, PastEnd}
use Rattle.reader.specs.FieldAt.{field_at, size_at}

-- the definition, case by case
module _ (s : List ℕ) (at : ℕ) where
  pub at_end : length s ≤ at → field_at s at ≡ NoBytes
  unfolding field_at
  at_end h = rw (le-leb (length s) at h, field_at)

  pub at_past : at < length s → length s < at + 3 + size_at s at → field_at s at ≡ PastEnd
  unfolding field_at
  at_past h k = rw (lt-leb (length s) at h, lt-leb (at + 3 + size_at s at) (length s) k, field_at)

  pub at_found : at + 3 + size_at s at ≤ length s → field_at s at ≡ Found (get_or s at 0) (at + 3) (at + 3 + size_at s at)
  unfolding field_at
  at_found k = let h : at < length s = omega arith in rw (lt-leb (length s) at h, le-leb (at + 3 + size_at s at) (length s) k, field_at)

-- the bytes of a field
pub field_length : (tag : ℕ) (value : List ℕ) → length (field_bytes tag value) ≡ 3 + length value
unfolding field_bytes
field_length tag value = omega arith

module _ (s : List ℕ) (at : ℕ) where
  three : at + 3 ≤ length s → drop at s ≡ get_or s at 0 ∷ get_or s (at + 1) 0 ∷ get_or s (at + 2) 0 ∷ drop (at + 3) s
  three h =
      let next : at + 2 + 1 ≡ at + 3 = omega arith in
      from_place_two s at (omega arith)
      ∙ ap (λ (l : List ℕ). get_or s at 0 ∷ get_or s (at + 1) 0 ∷ l)
      (from_place s (at + 2) (omega arith) ∙ ap (λ (n : ℕ). get_or s (at + 2) 0 ∷ drop n s) next)

  long : at + 3 ≤ length s → length s < at + 3 + size_at s at → fields_of (drop at s) ≡ past_end
  long h k =
      let d = length-drop (at + 3) s in
      ap fields_of (three h) ∙ fields_past (get_or s at 0) (get_or s (at + 1) 0) (get_or s (at + 2) 0) (drop (at + 3) s) (omega arith)

  -- a header that is not whole
  short : at < length s → length s < at + 3 → fields_of (drop at s) ≡ past_end
  short h k = let d = length-drop at s in go (drop at s) (omega arith) (omega arith)
    where
      go : (l : List ℕ) → 0 < length l → length l < 3 → fields_of l ≡ past_end
      go [] p q = absurd (omega arith)
      go (t ∷ []) p q = fields_tag t
      go (t ∷ u ∷ []) p q = fields_half t u
      go (t ∷ u ∷ v ∷ l) p q = absurd (omega arith)

  whole : at + 3 + size_at s at ≤ length s
      → fields_of (drop at s)
      ≡ (record { tag = get_or s at 0; value = slice (at + 3) (at + 3 + size_at s at) s } then fields_of (drop (at + 3 + size_at s at) s))
  whole h =
      let n = size_at s at in
      let d = length-drop (at + 3) s in
      ap fields_of (three (omega arith))
      ∙ fields_front (get_or s at 0) (get_or s (at + 1) 0) (get_or s (at + 2) 0) (drop (at + 3) s) (omega arith)
      ∙ ap₂
      (λ (v left : List ℕ). record { tag = get_or s at 0; value = v } then fields_of left)
      (sym (slice_part (at + 3) n s (omega arith)))
      (drop-drop n (at + 3) s)

-- a field was found at a place
pub record FoundField (s : List ℕ) (at tag from to : ℕ) : Type 0 where
  pub tagged : tag ≡ get_or s at 0
  pub begins : from ≡ at + 3
  pub order : from ≤ to
  pub within : to ≤ length s
  pub fields : fields_of (drop at s) ≡ (record { tag = tag; value = slice from to s } then fields_of (drop to s))

module _ (s : List ℕ) (at : ℕ) where
  pub field_found : {tag from to : ℕ} → field_at s at ≡ Found tag from to → FoundField s at tag from to
  field_found {tag} {from} {to} e = go (leb (length s) at) refl (leb (at + 3 + size_at s at) (length s)) refl
    where
      go : (a : Bool) → leb (length s) at ≡ a → (b : Bool) → leb (at + 3 + size_at s at) (length s) ≡ b → FoundField s at tag from to
      go true p b q = let z : ◌≡◌ {A = ℕ} 0 1 = cc (at_end s at (leb-true (length s) at p)) in absurd (omega arith)
      go false p false q =
          let z : ◌≡◌ {A = ℕ} 0 1 =
          cc (at_past s at (leb-false (length s) at p) (leb-false (at + 3 + size_at s at) (length s) q)) in
          absurd (omega arith)
      go false p true q =
          let h = leb-true (at + 3 + size_at s at) (length s) q in
          let w = at_found s at h in
          let tag_is : tag ≡ get_or s at 0 = cc in
          let from_is : from ≡ at + 3 = cc in
          let to_is : to ≡ at + 3 + size_at s at = cc in
          record {
            tagged = tag_is;
            begins = from_is;
            order = omega arith;
            within = omega arith;
            fields = as_named tag_is from_is to_is (whole s at h);
          }
        where
          as_named : {a b c : ℕ} → tag ≡ a → from ≡ b → to ≡ c
              → fields_of (drop at s) ≡ (record { tag = a; value = slice b c s } then fields_of (drop c s))
              → fields_of (drop at s) ≡ (record { tag = tag; value = slice from to s } then fields_of (drop to s))
          as_named p q r w = rw (p, q, r) w

  pub field_none : field_at s at ≡ NoBytes → (length s ≤ at) × (fields_of (drop at s) ≡ no_bytes)
  field_none e = go (leb (length s) at) refl (leb (at + 3 + size_at s at) (length s)) refl
    where
      go : (a : Bool) → leb (length s) at ≡ a → (b : Bool) → leb (at + 3 + size_at s at) (length s) ≡ b
          → (length s ≤ at) × (fields_of (drop at s) ≡ no_bytes)
      go true p b q =
          let h = leb-true (length s) at p in
          (h, ap fields_of (drop_of_length-le s h) ∙ fields_empty)
      go false p false q =
          let z : ◌≡◌ {A = ℕ} 0 1 =
          cc (at_past s at (leb-false (length s) at p) (leb-false (at + 3 + size_at s at) (length s) q)) in
          absurd (omega arith)
      go false p true q = let z : ◌≡◌ {A = ℕ} 0 1 = cc (at_found s at (leb-true (at + 3 + size_at s at) (length s) q)) in absurd (omega arith)

  pub field_past : field_at s at ≡ PastEnd → (at < length s) × (fields_of (drop at s) ≡ past_end)
  field_past e = go (leb (length s) at) refl (leb (at + 3 + size_at s at) (length s)) refl (leb (at + 3) (length s)) refl
    where
      go : (a : Bool) → leb (length s) at ≡ a → (b : Bool) → leb (at + 3 + size_at s at) (length s) ≡ b
          → (d : Bool) → leb (at + 3) (length s) ≡ d → (at < length s) × (fields_of (drop at s) ≡ past_end)
      go true p b q d r = let z : ◌≡◌ {A = ℕ} 0 1 = cc (at_end s at (leb-true (length s) at p)) in absurd (omega arith)
      go false p true q d r = let z : ◌≡◌ {A = ℕ} 0 1 = cc (at_found s at (leb-true (at + 3 + size_at s at) (length s) q)) in absurd (omega arith)
      go false p false q true r =
          let h = leb-false (length s) at p in
          (h, long s at (leb-true (at + 3) (length s) r) (leb-false (at + 3 + size_at s at) (length s) q))
      go false p false q false r =
          let h = leb-false (length s) at p in
          (h, short s at h (leb-false (at + 3) (length s) r))
