-- The marks after one more child, computed in one walk over the expression, in the order in which the code goes.
--
--   pass : MContent → Bool → (ℕ → Bool) → Passed MContent
--   pass_is : (m : MContent) (b : Bool) (has : ℕ → Bool)
--       → pass m b has ≡ record { marked = shift m b has; nullable = nullable (plain m); final = final (shift m b has) }
--
-- The walk asks of an operand only what the walk over it gives back, and whether an old mark could end it: `final` of the operand
-- before the walk. The operands of a sequence or of a choice are gone through by a loop, which carries whether the child may begin
-- the next operand, and nullable and final of the operands so far.
--
-- Bytes carry the marks as one number for each byte of the content (`numbers`): at the first byte of an expression 1 where a mark can
-- end the expression, else 0; at any other byte (a type's number, a count) 0. So the old `final` of an operand is the number at
-- its first byte, read before the walk over it, and the walk ends by storing the new `final` there. At a type that number is its mark.
-- `walk c at marks b has` is the same walk over such numbers, for the expression c whose bytes begin at the place `at`:
--
--   walk_shifts : NumbersStand (numbers m) at marks before after → walk (plain m) at marks b has
--       ≡ record { marks = before ++ (numbers (shift m b has) ++ after); next = at + length (content_bytes (plain m));
--                  nullable = nullable (plain m); final = final (shift m b has) }
--   walk-nullable : walk c 0 (no_marks c ++ after) b has .nullable ≡ nullable c
--   walks_run : is_marked (walks c (no_marks c ++ after) true (has ∷ children)) 0 ≡ run c (has ∷ children)
--
-- `NumbersStand part at marks before after`: marks ≡ before ++ (part ++ after), with `before` of length `at`. `no_marks c`: a 0 for each
-- byte of c. `after`: whatever the array holds behind the content's numbers.
use Prim.Native.Nat.{ℕ, suc, ◌+◌}
use native.Mathlib.Omega.{arith}
use mathlib.Core.Bool.{Bool, true, false, ◌&&◌, ◌||◌, and-true, or-false, and_assoc, or_assoc}
use mathlib.Core.List.{List, [], ◌∷◌, ◌++◌, append_assoc}
use mathlib.Core.Path.{◌≡◌, refl, sym, ◌∙◌, ap, ap₂, subst}
use lib.Dec.{eqb}
use lib.ListN.{length, set, replicate, length-append, replicate-append-replicate}
use lib.Seq.{get_or_at, set_at}
use Rattle.grammar.specs.Content.{Content, none, empty, type, sequence, choice, any_number, one_or_more, optional, Contents, []ᶜ, ◌∷ᶜ◌}
use Rattle.grammar.specs.ReadContent.{content_bytes, operand_bytes}
use Rattle.theory.specs.Marked.{
  MContent,
  noneᵐ,
  emptyᵐ,
  typeᵐ,
  sequenceᵐ,
  choiceᵐ,
  any_numberᵐ,
  one_or_moreᵐ,
  optionalᵐ,
  MContents,
  []ᵐ,
  ◌∷ᵐ◌,
  plain,
  plain_all,
  unmarked,
  unmarked_all,
  nullable,
  nullable_all,
  nullable_one,
  final,
  final_in_turn,
  final_of_one,
  shift,
  shift_in_turn,
  shift_each,
  shifts,
  run,
}
use Rattle.theory.specs.MarkedWalk.{mark_number, is_marked, Walked, walk, walk_in_turn, walk_each, walks}
use Rattle.theory.proofs.Lists.BoolLaws.{false_of}
use Rattle.theory.proofs.Matching.MarkedLaws.{plain-shift, plain_all-shift_in_turn, plain-unmarked}
use Rattle.theory.proofs.Matching.MarkedWords.{final_word, unmarked_left}

-- what the walk over an expression, or over operands, gives back
pub record Passed (A : Type 0) : Type 0 where
  pub marked : A
  pub nullable : Bool
  pub final : Bool

-- In a loop: b, the child may begin the next operand; n and f, nullable and final of the operands so far.
unfoldable mutual
  unfolding final

  pub pass : MContent → Bool → (ℕ → Bool) → Passed MContent
  pass noneᵐ b has = record { marked = noneᵐ; nullable = false; final = false }
  pass emptyᵐ b has = record { marked = emptyᵐ; nullable = true; final = false }
  pass (typeᵐ mark k) b has = record { marked = typeᵐ (b && has k) k; nullable = false; final = b && has k }
  pass (sequenceᵐ ms) b has =
      let p = pass_in_turn ms b has true false in
      record { marked = sequenceᵐ p.marked; nullable = p.nullable; final = p.final }
  pass (choiceᵐ ms) b has =
      let p = pass_each ms b has false false in
      record { marked = choiceᵐ p.marked; nullable = p.nullable; final = p.final }
  pass (any_numberᵐ m) b has =
      let p = pass m (b || final m) has in
      record { marked = any_numberᵐ p.marked; nullable = true; final = p.final }
  pass (one_or_moreᵐ m) b has =
      let p = pass m (b || final m) has in
      record { marked = one_or_moreᵐ p.marked; nullable = p.nullable; final = p.final }
  pass (optionalᵐ m) b has =
      let p = pass m b has in
      record { marked = optionalᵐ p.marked; nullable = true; final = p.final }

  pub pass_in_turn : MContents → Bool → (ℕ → Bool) → Bool → Bool → Passed MContents
  pass_in_turn []ᵐ b has n f = record { marked = []ᵐ; nullable = n; final = f }
  pass_in_turn (m ∷ᵐ ms) b has n f =
      let p = pass m b has in
      let ps = pass_in_turn ms ((b && p.nullable) || final m) has (n && p.nullable) ((f && p.nullable) || p.final) in
      record { marked = p.marked ∷ᵐ ps.marked; nullable = ps.nullable; final = ps.final }

  pub pass_each : MContents → Bool → (ℕ → Bool) → Bool → Bool → Passed MContents
  pass_each []ᵐ b has n f = record { marked = []ᵐ; nullable = n; final = f }
  pass_each (m ∷ᵐ ms) b has n f =
      let p = pass m b has in
      let ps = pass_each ms b has (n || p.nullable) (f || p.final) in
      record { marked = p.marked ∷ᵐ ps.marked; nullable = ps.nullable; final = ps.final }

-- the loops' answers, with those for the operands so far
final_behind : (f n g a h : Bool) → ((((f && n) || g) && a) || h) ≡ ((f && (n && a)) || ((g && a) || h))
final_behind false n g a h = refl
final_behind true false g a h = refl
final_behind true true g true h = refl
final_behind true true true false h = refl
final_behind true true false false h = refl

same_passed : {A : Type 0} (x : A) {n n' f f' : Bool} → n ≡ n' → f ≡ f'
    → ◌≡◌ {A = Passed A} (record { marked = x; nullable = n; final = f }) (record { marked = x; nullable = n'; final = f' })
same_passed x p q = λ i. record { marked = x; nullable = p i; final = q i }

abbrev pub after_shift : MContent → Bool → (ℕ → Bool) → Passed MContent
after_shift m b has = record { marked = shift m b has; nullable = nullable (plain m); final = final (shift m b has) }

abbrev shifted_in_turn : MContents → Bool → (ℕ → Bool) → Bool → Bool → Passed MContents
shifted_in_turn ms b has n f =
    record {
      marked = shift_in_turn ms b has;
      nullable = n && nullable_all (plain_all ms);
      final = (f && nullable_all (plain_all ms)) || final_in_turn (shift_in_turn ms b has);
    }

abbrev shifted_each : MContents → Bool → (ℕ → Bool) → Bool → Bool → Passed MContents
shifted_each ms b has n f =
    record {
      marked = shift_each ms b has;
      nullable = n || nullable_one (plain_all ms);
      final = f || final_of_one (shift_each ms b has);
    }

mutual
  unfolding pass shift nullable final

  pub pass_is : (m : MContent) (b : Bool) (has : ℕ → Bool) → pass m b has ≡ after_shift m b has
  pass_is noneᵐ b has = refl
  pass_is emptyᵐ b has = refl
  pass_is (typeᵐ mark k) b has = refl
  pass_is (sequenceᵐ ms) b has = rw (pass_in_turn_lem ms b has true false)
  pass_is (choiceᵐ ms) b has = rw (pass_each_lem ms b has false false)
  pass_is (any_numberᵐ m) b has = rw (pass_is m (b || final m) has)
  pass_is (one_or_moreᵐ m) b has = rw (pass_is m (b || final m) has)
  pass_is (optionalᵐ m) b has = rw (pass_is m b has)

  pub pass_in_turn_lem : (ms : MContents) (b : Bool) (has : ℕ → Bool) (n f : Bool)
      → pass_in_turn ms b has n f ≡ shifted_in_turn ms b has n f
  pass_in_turn_lem []ᵐ b has n f = same_passed []ᵐ (sym (and-true n)) (sym (or-false (f && true) ∙ and-true f))
  pass_in_turn_lem (m ∷ᵐ ms) b has n f =
      let e : Bool = nullable (plain m) in
      let c : Bool = (b && e) || final m in
      let g : Bool = final (shift m b has) in
      let h : Bool = final_in_turn (shift_in_turn ms c has) in
      rw (pass_is m b has, pass_in_turn_lem ms c has (n && e) ((f && e) || g))
      (same_passed (shift_in_turn (m ∷ᵐ ms) b has) (and_assoc n e (nullable_all (plain_all ms)))
      (final_behind f e g (nullable_all (plain_all ms)) h
      ∙ ap (λ (cs : Contents). (f && (e && nullable_all (plain_all ms))) || ((g && nullable_all cs) || h))
      (sym (plain_all-shift_in_turn ms c has))))

  pub pass_each_lem : (ms : MContents) (b : Bool) (has : ℕ → Bool) (n f : Bool) → pass_each ms b has n f ≡ shifted_each ms b has n f
  pass_each_lem []ᵐ b has n f = same_passed []ᵐ (sym (or-false n)) (sym (or-false f))
  pass_each_lem (m ∷ᵐ ms) b has n f =
      rw (pass_is m b has, pass_each_lem ms b has (n || nullable (plain m)) (f || final (shift m b has)))
      (same_passed (shift_each (m ∷ᵐ ms) b has) (or_assoc n (nullable (plain m)) (nullable_one (plain_all ms)))
      (or_assoc f (final (shift m b has)) (final_of_one (shift_each ms b has))))

pub pass-final : (m : MContent) (b : Bool) (has : ℕ → Bool) → (pass m b has).final ≡ final (pass m b has).marked
pass-final m b has = rw (pass_is m b has)

-- The numbers of a marked content, one for each byte.
unfoldable mutual
  unfolding final mark_number

  pub numbers : MContent → List ℕ
  numbers noneᵐ = 0 ∷ []
  numbers emptyᵐ = 0 ∷ []
  numbers (typeᵐ mark k) = mark_number mark ∷ 0 ∷ []
  numbers (sequenceᵐ ms) = mark_number (final_in_turn ms) ∷ 0 ∷ numbers_all ms
  numbers (choiceᵐ ms) = mark_number (final_of_one ms) ∷ 0 ∷ numbers_all ms
  numbers (any_numberᵐ m) = mark_number (final m) ∷ numbers m
  numbers (one_or_moreᵐ m) = mark_number (final m) ∷ numbers m
  numbers (optionalᵐ m) = mark_number (final m) ∷ numbers m

  pub numbers_all : MContents → List ℕ
  numbers_all []ᵐ = []
  numbers_all (m ∷ᵐ ms) = numbers m ++ numbers_all ms

number_is : (a : Bool) → eqb (mark_number a) 1 ≡ a
unfolding mark_number
number_is true = refl
number_is false = refl

-- the first number is final's
first_number : (m : MContent) → (rest : List ℕ) × (numbers m ≡ mark_number (final m) ∷ rest)
unfolding numbers
first_number noneᵐ = ([], refl)
first_number emptyᵐ = ([], refl)
first_number (typeᵐ mark k) = (0 ∷ [], refl)
first_number (sequenceᵐ ms) = (0 ∷ numbers_all ms, refl)
first_number (choiceᵐ ms) = (0 ∷ numbers_all ms, refl)
first_number (any_numberᵐ m) = (numbers m, refl)
first_number (one_or_moreᵐ m) = (numbers m, refl)
first_number (optionalᵐ m) = (numbers m, refl)

-- some numbers stand at a place
pub record NumbersStand (part : List ℕ) (at : ℕ) (marks before after : List ℕ) : Type 0 where
  pub place : length before ≡ at
  pub split : marks ≡ before ++ (part ++ after)

stands_marked : (m : MContent) (at : ℕ) (marks before after : List ℕ) → NumbersStand (numbers m) at marks before after
    → is_marked marks at ≡ final m
unfolding is_marked
stands_marked m at marks before after s =
    let r = first_number m in
    rw (s.split, r.1, get_or_at before (mark_number (final m)) (r.0 ++ after) 0 at s.place) (number_is (final m))

-- what stands behind a front
stands_behind : (front part : List ℕ) (at : ℕ) (marks before after : List ℕ) → NumbersStand (front ++ part) at marks before after
    → NumbersStand part (at + length front) marks (before ++ front) after
stands_behind front part at marks before after s =
    record {
      place = length-append before front ∙ ap (λ (n : ℕ). n + length front) s.place;
      split = s.split ∙ simp append_assoc;
    }

-- a front, with what stands behind it
stands_first : (front part : List ℕ) (at : ℕ) (marks before after : List ℕ) → NumbersStand (front ++ part) at marks before after
    → NumbersStand front at marks before (part ++ after)
stands_first front part at marks before after s =
    record { place = s.place; split = s.split ∙ ap (λ (l : List ℕ). before ++ l) (append_assoc front part after) }

-- the first number of a front, stored
store_first : (x : ℕ) (front part : List ℕ) (at : ℕ) (before after : List ℕ) {f g : Bool} → length before ≡ at → f ≡ g
    → set ((before ++ (x ∷ front)) ++ (part ++ after)) at (mark_number f) ≡ before ++ (mark_number g ∷ (front ++ part ++ after))
store_first x front part at before after {f} {g} e q =
    ap (λ (l : List ℕ). set l at (mark_number f)) (append_assoc before (x ∷ front) (part ++ after))
    ∙ set_at before x (front ++ (part ++ after)) (mark_number f) at e
    ∙ ap₂ (λ (a : Bool) (l : List ℕ). before ++ (mark_number a ∷ l)) q (sym (append_assoc front part after))

mutual
  unfolding numbers content_bytes

  pub numbers_length : (m : MContent) → length (numbers m) ≡ length (content_bytes (plain m))
  numbers_length noneᵐ = refl
  numbers_length emptyᵐ = refl
  numbers_length (typeᵐ mark k) = refl
  numbers_length (sequenceᵐ ms) = ap (λ n. suc (suc n)) (numbers_all_length ms)
  numbers_length (choiceᵐ ms) = ap (λ n. suc (suc n)) (numbers_all_length ms)
  numbers_length (any_numberᵐ m) = ap suc (numbers_length m)
  numbers_length (one_or_moreᵐ m) = ap suc (numbers_length m)
  numbers_length (optionalᵐ m) = ap suc (numbers_length m)

  numbers_all_length : (ms : MContents) → length (numbers_all ms) ≡ length (operand_bytes (plain_all ms))
  numbers_all_length []ᵐ = refl
  numbers_all_length (m ∷ᵐ ms) =
      length-append (numbers m) (numbers_all ms)
      ∙ ap₂ ◌+◌ (numbers_length m) (numbers_all_length ms)
      ∙ sym (length-append (content_bytes (plain m)) (operand_bytes (plain_all ms)))

abbrev walked_to : List ℕ → ℕ → {A : Type 0} → Passed A → Walked
walked_to marks next p = record { marks = marks; next = next; nullable = p.nullable; final = p.final }

same_walked : {A : Type 0} (p : Passed A) {marks marks' : List ℕ} {next next' : ℕ} → marks ≡ marks' → next ≡ next'
    → walked_to marks next p ≡ walked_to marks' next' p
same_walked p e q = λ i. record { marks = e i; next = q i; nullable = p.nullable; final = p.final }

-- one round of a loop
next_in_turn : (c : Content) (cs : Contents) (at : ℕ) (marks : List ℕ) (b : Bool) (has : ℕ → Bool) (n f : Bool)
    {p : Walked} {old : Bool} → walk c at marks b has ≡ p → is_marked marks at ≡ old
    → walk_in_turn (c ∷ᶜ cs) at marks b has n f
    ≡ walk_in_turn cs p.next p.marks ((b && p.nullable) || old) has (n && p.nullable) ((f && p.nullable) || p.final)
unfolding walk
next_in_turn c cs at marks b has n f e q =
    ap₂ (λ (p : Walked) (old : Bool).
    walk_in_turn cs p.next p.marks ((b && p.nullable) || old) has (n && p.nullable) ((f && p.nullable) || p.final)) e q

next_of_each : (c : Content) (cs : Contents) (at : ℕ) (marks : List ℕ) (b : Bool) (has : ℕ → Bool) (n f : Bool) {p : Walked}
    → walk c at marks b has ≡ p
    → walk_each (c ∷ᶜ cs) at marks b has n f ≡ walk_each cs p.next p.marks b has (n || p.nullable) (f || p.final)
unfolding walk
next_of_each c cs at marks b has n f e =
    ap (λ (p : Walked). walk_each cs p.next p.marks b has (n || p.nullable) (f || p.final)) e

-- the operands behind the one just gone through
stands_next : (m : MContent) (part : List ℕ) (b : Bool) (has : ℕ → Bool) (at : ℕ) (marks before after : List ℕ)
    → NumbersStand (numbers m ++ part) at marks before after
    → NumbersStand part (at + length (content_bytes (plain m))) (before ++ (numbers (pass m b has).marked ++ (part ++ after)))
    (before ++ numbers (pass m b has).marked)
    after
stands_next m part b has at marks before after s =
    record {
      place =
          length-append before (numbers (pass m b has).marked)
          ∙ ap₂ ◌+◌ s.place (numbers_length (pass m b has).marked ∙ ap (λ (c : Content). length (content_bytes c)) kept);
      split = sym (append_assoc before (numbers (pass m b has).marked) (part ++ after));
    }
  where
    kept : plain (pass m b has).marked ≡ plain m
    kept = rw (pass_is m b has) (plain-shift m b has)

mutual
  unfolding walk pass numbers content_bytes

  pub walk_is : (m : MContent) (b : Bool) (has : ℕ → Bool) (at : ℕ) (marks before after : List ℕ)
      → NumbersStand (numbers m) at marks before after
      → walk (plain m) at marks b has
      ≡ walked_to (before ++ (numbers (pass m b has).marked ++ after)) (at + length (content_bytes (plain m))) (pass m b has)
  walk_is noneᵐ b has at marks before after s = same_walked (pass noneᵐ b has) s.split refl
  walk_is emptyᵐ b has at marks before after s = same_walked (pass emptyᵐ b has) s.split refl
  walk_is (typeᵐ mark k) b has at marks before after s =
      same_walked (pass (typeᵐ mark k) b has)
      (ap (λ (l : List ℕ). set l at (mark_number (b && has k))) s.split
      ∙ set_at before (mark_number mark) (0 ∷ after) (mark_number (b && has k)) at s.place)
      refl
  walk_is (sequenceᵐ ms) b has at marks before after s =
      let x : ℕ = mark_number (final_in_turn ms) in
      let t = stands_behind (x ∷ 0 ∷ []) (numbers_all ms) at marks before after s in
      let p : Passed MContents = pass_in_turn ms b has true false in
      rw (walk_in_turn_lem ms b has true false (at + 2) marks (before ++ (x ∷ 0 ∷ [])) after t)
      (same_walked p
      (store_first x (0 ∷ []) (numbers_all p.marked) at before after s.place (pass-final (sequenceᵐ ms) b has))
      (omega arith))
  walk_is (choiceᵐ ms) b has at marks before after s =
      let x : ℕ = mark_number (final_of_one ms) in
      let t = stands_behind (x ∷ 0 ∷ []) (numbers_all ms) at marks before after s in
      let p : Passed MContents = pass_each ms b has false false in
      rw (walk_each_lem ms b has false false (at + 2) marks (before ++ (x ∷ 0 ∷ [])) after t)
      (same_walked p
      (store_first x (0 ∷ []) (numbers_all p.marked) at before after s.place (pass-final (choiceᵐ ms) b has))
      (omega arith))
  walk_is (any_numberᵐ m) b has at marks before after s =
      let x : ℕ = mark_number (final m) in
      let t = stands_behind (x ∷ []) (numbers m) at marks before after s in
      let p : Passed MContent = pass m (b || final m) has in
      rw (
        stands_marked m (at + 1) marks (before ++ (x ∷ [])) after t,
        walk_is m (b || final m) has (at + 1) marks (before ++ (x ∷ [])) after t,
      )
      (same_walked (pass (any_numberᵐ m) b has)
      (store_first x [] (numbers p.marked) at before after s.place (pass-final m (b || final m) has))
      (omega arith))
  walk_is (one_or_moreᵐ m) b has at marks before after s =
      let x : ℕ = mark_number (final m) in
      let t = stands_behind (x ∷ []) (numbers m) at marks before after s in
      let p : Passed MContent = pass m (b || final m) has in
      rw (
        stands_marked m (at + 1) marks (before ++ (x ∷ [])) after t,
        walk_is m (b || final m) has (at + 1) marks (before ++ (x ∷ [])) after t,
      )
      (same_walked p
      (store_first x [] (numbers p.marked) at before after s.place (pass-final m (b || final m) has))
      (omega arith))
  walk_is (optionalᵐ m) b has at marks before after s =
      let x : ℕ = mark_number (final m) in
      let t = stands_behind (x ∷ []) (numbers m) at marks before after s in
      let p : Passed MContent = pass m b has in
      rw (walk_is m b has (at + 1) marks (before ++ (x ∷ [])) after t)
      (same_walked (pass (optionalᵐ m) b has)
      (store_first x [] (numbers p.marked) at before after s.place (pass-final m b has))
      (omega arith))

  walk_in_turn_lem : (ms : MContents) (b : Bool) (has : ℕ → Bool) (n f : Bool) (at : ℕ) (marks before after : List ℕ)
      → NumbersStand (numbers_all ms) at marks before after
      → walk_in_turn (plain_all ms) at marks b has n f
      ≡ walked_to (before ++ (numbers_all (pass_in_turn ms b has n f).marked ++ after)) (at + length (operand_bytes (plain_all ms)))
      (pass_in_turn ms b has n f)
  walk_in_turn_lem []ᵐ b has n f at marks before after s = same_walked (pass_in_turn []ᵐ b has n f) s.split (omega arith)
  walk_in_turn_lem (m ∷ᵐ ms) b has n f at marks before after s =
      let t = stands_first (numbers m) (numbers_all ms) at marks before after s in
      let p : Passed MContent = pass m b has in
      next_in_turn (plain m) (plain_all ms) at marks b has n f (walk_is m b has at marks before (numbers_all ms ++ after) t)
      (stands_marked m at marks before (numbers_all ms ++ after) t)
      ∙ walk_in_turn_lem ms ((b && p.nullable) || final m) has (n && p.nullable) ((f && p.nullable) || p.final)
      (at + length (content_bytes (plain m)))
      (before ++ (numbers p.marked ++ (numbers_all ms ++ after)))
      (before ++ numbers p.marked)
      after
      (stands_next m (numbers_all ms) b has at marks before after s)
      ∙ same_walked (pass_in_turn (m ∷ᵐ ms) b has n f) (simp append_assoc)
      (omega (arith, length-append (content_bytes (plain m)) (operand_bytes (plain_all ms))))

  walk_each_lem : (ms : MContents) (b : Bool) (has : ℕ → Bool) (n f : Bool) (at : ℕ) (marks before after : List ℕ)
      → NumbersStand (numbers_all ms) at marks before after
      → walk_each (plain_all ms) at marks b has n f
      ≡ walked_to (before ++ (numbers_all (pass_each ms b has n f).marked ++ after)) (at + length (operand_bytes (plain_all ms)))
      (pass_each ms b has n f)
  walk_each_lem []ᵐ b has n f at marks before after s = same_walked (pass_each []ᵐ b has n f) s.split (omega arith)
  walk_each_lem (m ∷ᵐ ms) b has n f at marks before after s =
      let t = stands_first (numbers m) (numbers_all ms) at marks before after s in
      let p : Passed MContent = pass m b has in
      next_of_each (plain m) (plain_all ms) at marks b has n f (walk_is m b has at marks before (numbers_all ms ++ after) t)
      ∙ walk_each_lem ms b has (n || p.nullable) (f || p.final) (at + length (content_bytes (plain m)))
      (before ++ (numbers p.marked ++ (numbers_all ms ++ after)))
      (before ++ numbers p.marked)
      after
      (stands_next m (numbers_all ms) b has at marks before after s)
      ∙ same_walked (pass_each (m ∷ᵐ ms) b has n f) (simp append_assoc)
      (omega (arith, length-append (content_bytes (plain m)) (operand_bytes (plain_all ms))))

pub walk_shifts : (m : MContent) (b : Bool) (has : ℕ → Bool) (at : ℕ) (marks before after : List ℕ)
    → NumbersStand (numbers m) at marks before after
    → walk (plain m) at marks b has
    ≡ walked_to (before ++ (numbers (shift m b has) ++ after)) (at + length (content_bytes (plain m))) (after_shift m b has)
walk_shifts m b has at marks before after s =
    subst (λ (p : Passed MContent).
    walk (plain m) at marks b has ≡ walked_to (before ++ (numbers p.marked ++ after)) (at + length (content_bytes (plain m))) p)
    (pass_is m b has)
    (walk_is m b has at marks before after s)

-- without marks all numbers are 0
final-unmarked : (c : Content) → final (unmarked c) ≡ false
final-unmarked c = false_of (final (unmarked c)) (λ e. unmarked_left c [] ((final_word (unmarked c)).0 e))

abbrev pub no_marks : Content → List ℕ
no_marks c = replicate (length (content_bytes c)) 0

mutual
  unfolding numbers unmarked content_bytes

  pub numbers-unmarked : (c : Content) → numbers (unmarked c) ≡ no_marks c
  numbers-unmarked none = refl
  numbers-unmarked empty = refl
  numbers-unmarked (type k) = refl
  numbers-unmarked (sequence cs) =
      ap₂ (λ (a : Bool) (l : List ℕ). mark_number a ∷ 0 ∷ l) (final-unmarked (sequence cs)) (numbers_all_unmarked cs)
  numbers-unmarked (choice cs) =
      ap₂ (λ (a : Bool) (l : List ℕ). mark_number a ∷ 0 ∷ l) (final-unmarked (choice cs)) (numbers_all_unmarked cs)
  numbers-unmarked (any_number c) = ap₂ (λ (a : Bool) (l : List ℕ). mark_number a ∷ l) (final-unmarked c) (numbers-unmarked c)
  numbers-unmarked (one_or_more c) = ap₂ (λ (a : Bool) (l : List ℕ). mark_number a ∷ l) (final-unmarked c) (numbers-unmarked c)
  numbers-unmarked (optional c) = ap₂ (λ (a : Bool) (l : List ℕ). mark_number a ∷ l) (final-unmarked c) (numbers-unmarked c)

  numbers_all_unmarked : (cs : Contents) → numbers_all (unmarked_all cs) ≡ replicate (length (operand_bytes cs)) 0
  numbers_all_unmarked []ᶜ = refl
  numbers_all_unmarked (c ∷ᶜ cs) =
      ap₂ ◌++◌ (numbers-unmarked c) (numbers_all_unmarked cs)
      ∙ replicate-append-replicate (length (content_bytes c)) (length (operand_bytes cs)) 0
      ∙ ap (λ (n : ℕ). replicate n 0) (sym (length-append (content_bytes c) (operand_bytes cs)))

at_front : (m : MContent) (after : List ℕ) → NumbersStand (numbers m) 0 (numbers m ++ after) [] after
at_front m after = record { place = refl; split = refl }

pub walks_shift : (children : List (ℕ → Bool)) (m : MContent) (b : Bool) (after : List ℕ)
    → walks (plain m) (numbers m ++ after) b children ≡ numbers (shifts m b children) ++ after
unfolding walks shifts
walks_shift [] m b after = refl
walks_shift (has ∷ children) m b after =
    ap₂ (λ (c : Content) (p : Walked). walks c p.marks false children) (sym (plain-shift m b has))
    (walk_shifts m b has 0 (numbers m ++ after) [] after (at_front m after))
    ∙ walks_shift children (shift m b has) false after

module _ (c : Content) (after : List ℕ) where
  unmarked_front : numbers (unmarked c) ++ after ≡ no_marks c ++ after
  unmarked_front = ap (λ (l : List ℕ). l ++ after) (numbers-unmarked c)

  -- no children: any walk tells whether the content is nullable
  pub walk-nullable : (b : Bool) (has : ℕ → Bool) → (walk c 0 (no_marks c ++ after) b has).nullable ≡ nullable c
  walk-nullable b has =
      ap₂ (λ (d : Content) (l : List ℕ). (walk d 0 l b has).nullable) (sym (plain-unmarked c)) (sym unmarked_front)
      ∙ ap (λ (p : Walked). p.nullable)
      (walk_shifts (unmarked c) b has 0 (numbers (unmarked c) ++ after) [] after (at_front (unmarked c) after))
      ∙ ap nullable (plain-unmarked c)

  -- some children: the first number tells the answer
  pub walks_run : (has : ℕ → Bool) (children : List (ℕ → Bool))
      → is_marked (walks c (no_marks c ++ after) true (has ∷ children)) 0 ≡ run c (has ∷ children)
  unfolding run
  walks_run has children =
      let m : MContent = shifts (unmarked c) true (has ∷ children) in
      ap₂ (λ (d : Content) (l : List ℕ). is_marked (walks d l true (has ∷ children)) 0) (sym (plain-unmarked c)) (sym unmarked_front)
      ∙ ap (λ (l : List ℕ). is_marked l 0) (walks_shift (has ∷ children) (unmarked c) true after)
      ∙ stands_marked m 0 (numbers m ++ after) [] after (at_front m after)
