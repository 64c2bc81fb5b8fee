-- The types that stand in a content, found by walking its bytes operator by operator from front to back, whatever the operators are
-- operands of. `TypesLeft`: from this place on contents stand, one after the other, and the types seen before it together with those that
-- stand in them are the types looked for.
--
--   left_start : so it is at the front of a content's bytes, with no type seen
--   left_type, left_count, left_alone : so it stays after each operator (2, the counted ones, the others)
--   left_end : at the end the types seen are those that stand in the content
use Prim.Native.Nat.{ℕ, suc, ◌+◌, ◌/◌, ◌≤◌, ◌<◌}
use native.Mathlib.Omega.{arith}
use native.Mathlib.Numerals.{add-one, add-two}
use mathlib.Core.Bool.{Bool, ◌||◌, or-false as or_nothing}
use mathlib.Core.List.{List, [], ◌∷◌, ◌++◌, append_assoc, append-nil}
use mathlib.Core.Logic.{◌⊎◌, inl, inr, ⊎_elim}
use mathlib.Core.Path.{◌≡◌, refl, sym, ◌∙◌, ap, subst}
use lib.Dec.{eqb}
use lib.ListN.{length, get_or, drop, length-drop, drop_of_length-le}
use lib.Seq.{drop-cons}
use Rattle.grammar.specs.Content.{Content, none, empty, type, sequence, choice, any_number, one_or_more, optional, Contents, []ᶜ, ◌∷ᶜ◌, operand_count, types_in, types_in_all}
use Rattle.grammar.specs.Lists.{is_in}
use Rattle.grammar.specs.ReadContent.{content_bytes, operand_bytes}
use Rattle.theory.proofs.Lists.BoolLaws.{or_turn}
use Rattle.sets.specs.Sets.{member, put_at, nothing}
use Rattle.sets.proofs.SetLaws.{member_put}
use Rattle.kinds.specs.RulesAt.{Holds}

-- these bytes are those of contents one after the other, in which these types stand
record Standing (bytes types : List ℕ) : Type 0 where
  contents : Contents
  bytes_are : bytes ≡ operand_bytes contents
  types_are : types ≡ types_in_all contents

-- some contents, then others
unfoldable followed_by : Contents → Contents → Contents
followed_by []ᶜ ds = ds
followed_by (c ∷ᶜ cs) ds = c ∷ᶜ followed_by cs ds

both_bytes : (cs ds : Contents) → operand_bytes (followed_by cs ds) ≡ operand_bytes cs ++ operand_bytes ds
unfolding followed_by content_bytes
both_bytes []ᶜ ds = refl
both_bytes (c ∷ᶜ cs) ds =
    ap (λ (l : List ℕ). content_bytes c ++ l) (both_bytes cs ds) ∙ sym (append_assoc (content_bytes c) (operand_bytes cs) (operand_bytes ds))

both_types : (cs ds : Contents) → types_in_all (followed_by cs ds) ≡ types_in_all cs ++ types_in_all ds
unfolding followed_by types_in
both_types []ᶜ ds = refl
both_types (c ∷ᶜ cs) ds =
    ap (λ (l : List ℕ). types_in c ++ l) (both_types cs ds) ∙ sym (append_assoc (types_in c) (types_in_all cs) (types_in_all ds))

-- what an operator's byte is followed by
data After (b : ℕ) (bytes types : List ℕ) : Type 0 where
  a_type : (k : ℕ) (rest others : List ℕ) → b ≡ 2 → bytes ≡ k ∷ rest → types ≡ k ∷ others → Standing rest others → After b bytes types
  a_count : (n : ℕ) (rest : List ℕ) → 2 < b → b < 5 → bytes ≡ n ∷ rest → Standing rest types → After b bytes types
  alone : ((b < 2) ⊎ (4 < b)) → Standing bytes types → After b bytes types

after_count : (b : ℕ) (bytes : List ℕ) (ds cs : Contents) → 2 < b → b < 5 → bytes ≡ operand_count ds ∷ (operand_bytes ds ++ operand_bytes cs)
    → After b bytes (types_in_all ds ++ types_in_all cs)
after_count b bytes ds cs p q e =
    a_count (operand_count ds) (operand_bytes ds ++ operand_bytes cs) p q e
    (record { contents = followed_by ds cs; bytes_are = sym (both_bytes ds cs); types_are = sym (both_types ds cs) })

after_of : (cs : Contents) (b : ℕ) (bytes : List ℕ) → b ∷ bytes ≡ operand_bytes cs → After b bytes (types_in_all cs)
unfolding content_bytes types_in
after_of []ᶜ b bytes e = let z : ◌≡◌ {A = ℕ} 0 1 = cc in absurd (omega arith)
after_of (none ∷ᶜ cs) b bytes e =
    let q : b ≡ 0 = cc in
    alone (inl (omega arith)) (record { contents = cs; bytes_are = (cc); types_are = refl })
after_of (empty ∷ᶜ cs) b bytes e =
    let q : b ≡ 1 = cc in
    alone (inl (omega arith)) (record { contents = cs; bytes_are = (cc); types_are = refl })
after_of (type k ∷ᶜ cs) b bytes e =
    a_type k (operand_bytes cs) (types_in_all cs) (cc) (cc) refl (record { contents = cs; bytes_are = refl; types_are = refl })
after_of (sequence ds ∷ᶜ cs) b bytes e =
    let q : b ≡ 3 = cc in
    after_count b bytes ds cs (omega arith) (omega arith) (cc)
after_of (choice ds ∷ᶜ cs) b bytes e =
    let q : b ≡ 4 = cc in
    after_count b bytes ds cs (omega arith) (omega arith) (cc)
after_of (any_number c ∷ᶜ cs) b bytes e =
    let q : b ≡ 5 = cc in
    alone (inr (omega arith)) (record { contents = c ∷ᶜ cs; bytes_are = (cc); types_are = refl })
after_of (one_or_more c ∷ᶜ cs) b bytes e =
    let q : b ≡ 6 = cc in
    alone (inr (omega arith)) (record { contents = c ∷ᶜ cs; bytes_are = (cc); types_are = refl })
after_of (optional c ∷ᶜ cs) b bytes e =
    let q : b ≡ 7 = cc in
    alone (inr (omega arith)) (record { contents = c ∷ᶜ cs; bytes_are = (cc); types_are = refl })

after : (b : ℕ) (bytes types : List ℕ) → Standing (b ∷ bytes) types → After b bytes types
after b bytes types w = subst (After b bytes) (sym w.types_are) (after_of w.contents b bytes w.bytes_are)

-- the types seen, and those that stand from a place on
pub record TypesLeft (bytes seen types : List ℕ) (at : ℕ) : Type 0 where
  others : List ℕ
  standing : Standing (drop at bytes) others
  together : (k : ℕ) → (member seen 0 k || is_in k others) ≡ is_in k types

pub left_start : (seen : List ℕ) (c : Content) (bytes : List ℕ) → member seen 0 ≡ nothing → bytes ≡ content_bytes c
    → TypesLeft bytes seen (types_in c) 0
unfolding content_bytes types_in
left_start seen c bytes fresh e =
    record {
      others = types_in c;
      standing =
          record {
            contents = c ∷ᶜ []ᶜ;
            bytes_are = e ∙ sym (append-nil (content_bytes c));
            types_are = sym (append-nil (types_in c));
          };
      together = λ k. ap (λ (b : Bool). b || is_in k (types_in c)) (ap (λ (p : ℕ → Bool). p k) fresh);
    }

-- a type more is seen
seen_more : (seen : List ℕ) (k : ℕ) (others : List ℕ) → 0 + k / 32 < length seen → (j : ℕ)
    → (member (put_at seen 0 k) 0 j || is_in j others) ≡ (member seen 0 j || is_in j (k ∷ others))
unfolding is_in
seen_more seen k others h j =
    ap (λ (b : Bool). b || is_in j others) (ap (λ (p : ℕ → Bool). p j) (member_put seen 0 k h))
    ∙ sym (or_turn (member seen 0 j) (eqb j k) (is_in j others))

module _ (bytes seen types : List ℕ) (at : ℕ) (left : TypesLeft bytes seen types at) where
  next : at < length bytes → After (get_or bytes at 0) (drop (suc at) bytes) left.others
  next h =
      after (get_or bytes at 0) (drop (suc at) bytes) left.others
      (subst (λ (l : List ℕ). Standing l left.others) (drop-cons bytes at 0 h) left.standing)

  -- what follows a type number or a count
  second : (n : ℕ) (rest : List ℕ) → drop (suc at) bytes ≡ n ∷ rest
      → (at + 1 < length bytes) × (get_or bytes (at + 1) 0 ≡ n) × (drop (at + 2) bytes ≡ rest)
  second n rest e =
      let size = sym (length-drop (suc at) bytes) ∙ ap length e in
      let h : suc at < length bytes = omega arith in
      let d = sym (drop-cons bytes (suc at) 0 h) ∙ e in
      let n_is : get_or bytes (suc at) 0 ≡ n = cc in
      let rest_is : drop (suc (suc at)) bytes ≡ rest = cc in
      (omega arith, ap (λ (i : ℕ). get_or bytes i 0) (add-one at) ∙ n_is, ap (λ (i : ℕ). drop i bytes) (add-two at) ∙ rest_is)

  pub left_type : at < length bytes → get_or bytes at 0 ≡ 2
      → (at + 1 < length bytes) × ((k : ℕ) → k ≡ get_or bytes (at + 1) 0 → 0 + k / 32 < length seen → TypesLeft bytes (put_at seen 0 k) types (at + 2))
  left_type h e = go (next h)
    where
      go : After (get_or bytes at 0) (drop (suc at) bytes) left.others
          → (at + 1 < length bytes) × ((k : ℕ) → k ≡ get_or bytes (at + 1) 0 → 0 + k / 32 < length seen → TypesLeft bytes (put_at seen 0 k) types (at + 2))
      go (a_type n rest others p q r w) =
          let s = second n rest q in (
            s.0,
            λ k same fits.
                record {
                  others = others;
                  standing = subst (λ (l : List ℕ). Standing l others) (sym s.2) w;
                  together = λ j.
                      seen_more seen k others fits j
                      ∙ ap (λ (l : List ℕ). member seen 0 j || is_in j l) (ap (λ (m : ℕ). m ∷ others) (same ∙ s.1) ∙ sym r)
                      ∙ left.together j;
                },
          )
      go (a_count n rest p q r w) = absurd (omega arith)
      go (alone p w) = absurd (⊎_elim (λ t. omega arith) (λ t. omega arith) p)

  pub left_count : at < length bytes → 2 < get_or bytes at 0 → get_or bytes at 0 < 5 → (at + 1 < length bytes) × TypesLeft bytes seen types (at + 2)
  left_count h a b = go (next h)
    where
      go : After (get_or bytes at 0) (drop (suc at) bytes) left.others → (at + 1 < length bytes) × TypesLeft bytes seen types (at + 2)
      go (a_type k rest others p q r w) = absurd (omega arith)
      go (a_count n rest p q r w) =
          let s = second n rest r in (
            s.0,
            record {
              others = left.others;
              standing = subst (λ (l : List ℕ). Standing l left.others) (sym s.2) w;
              together = left.together;
            },
          )
      go (alone p w) = absurd (⊎_elim (λ t. omega arith) (λ t. omega arith) p)

  pub left_alone : at < length bytes → (get_or bytes at 0 ≡ 2 → ⊥) → ((2 < get_or bytes at 0) → (get_or bytes at 0 < 5) → ⊥)
      → TypesLeft bytes seen types (at + 1)
  left_alone h a b = go (next h)
    where
      go : After (get_or bytes at 0) (drop (suc at) bytes) left.others → TypesLeft bytes seen types (at + 1)
      go (a_type k rest others p q r w) = absurd (a p)
      go (a_count n rest p q r w) = absurd (b p q)
      go (alone p w) =
          record {
            others = left.others;
            standing = subst (λ (n : ℕ). Standing (drop n bytes) left.others) (sym (add-one at)) w;
            together = left.together;
          }

  pub left_end : length bytes ≤ at → Holds seen types
  unfolding types_in content_bytes is_in
  left_end h k = go left.standing.contents (sym (drop_of_length-le bytes h) ∙ left.standing.bytes_are) left.standing.types_are
    where
      go : (cs : Contents) → [] ≡ operand_bytes cs → left.others ≡ types_in_all cs → member seen 0 k ≡ is_in k types
      go []ᶜ e t =
          sym (or_nothing (member seen 0 k)) ∙ ap (λ (l : List ℕ). member seen 0 k || is_in k l) (sym t) ∙ left.together k
      go (c ∷ᶜ cs) e t = absurd (no_bytes c e)
        where
          no_bytes : (c : Content) → [] ≡ content_bytes c ++ operand_bytes cs → ⊥
          no_bytes none e = let z : ◌≡◌ {A = ℕ} 0 1 = cc in omega arith
          no_bytes empty e = let z : ◌≡◌ {A = ℕ} 0 1 = cc in omega arith
          no_bytes (type k) e = let z : ◌≡◌ {A = ℕ} 0 1 = cc in omega arith
          no_bytes (sequence ds) e = let z : ◌≡◌ {A = ℕ} 0 1 = cc in omega arith
          no_bytes (choice ds) e = let z : ◌≡◌ {A = ℕ} 0 1 = cc in omega arith
          no_bytes (any_number d) e = let z : ◌≡◌ {A = ℕ} 0 1 = cc in omega arith
          no_bytes (one_or_more d) e = let z : ◌≡◌ {A = ℕ} 0 1 = cc in omega arith
          no_bytes (optional d) e = let z : ◌≡◌ {A = ℕ} 0 1 = cc in omega arith
