-- The laws of `expr_at` and `exprs_at`, by which every walk over the bytes of contents goes.
-- * What they are, operator by operator and operand by operand: `expr_past`, `expr_unknown`, `expr_alone`, `expr_numbered`,
--   `expr_counted`, `expr_single` (`expr_unnumbered`, `expr_uncounted` where the bytes stop), `exprs_none`, `exprs_stop`, `exprs_more`.
-- * Where a content is known to stand: the place after it (`expr_forward`) and its bytes (`expr_bytes`, `expr_written`, and back
--   `written_expr`); what its operator's byte says (`operator_known`, `alone_was`, `numbered_was`, `counted_was`, `single_was`), and
--   that a number or a count is there (`number_inside`, `count_inside`); the first of so many (`exprs_first`, `exprs_end`).
-- * The same bytes elsewhere are the same content: `expr_kept`, `exprs_kept`.
use Prim.Native.Nat.{ℕ, zero, suc, ◌+◌, ◌-◌, ◌≤◌, ◌<◌}
use native.Mathlib.Omega.{arith}
use mathlib.Core.Bool.{true, false}
use mathlib.Core.List.{List, [], ◌∷◌, ◌++◌, append_assoc}
use mathlib.Core.Logic.{◌⊎◌, inl, inr}
use mathlib.Core.Option.{Option, none as nothing, some as just}
use mathlib.Core.Path.{◌≡◌, refl, sym, ◌∙◌, ap, subst}
use lib.ListN.{length, get_or, get_elem?, take, drop, length-append, length-take, length-drop, drop_of_length-le, take-append-drop}
use lib.Dec.{ltb}
use lib.Seq.{drop-drop, drop-append_seam, drop-append-le, take-append-add, take_at}
use borrow.Author.Tests.{ltb-true, ltb-false}
use Rattle.grammar.specs.Content.{
  Content,
  none,
  empty,
  type,
  sequence,
  choice,
  any_number,
  one_or_more,
  optional,
  Contents,
  []ᶜ,
  ◌∷ᶜ◌,
  operand_count,
}
use Rattle.grammar.specs.ReadContent.{content_bytes, operand_bytes, alone, numbered, counted, single, operators, Parsed, found, expression_of}
use Rattle.theory.proofs.Lists.BoolLaws.{passes_or_fails}
use Rattle.theory.proofs.Lists.ListLaws.{just_eq}
use Rattle.theory.proofs.Contents.ContentBytes.{
  after_first,
  operands_of,
  expression_empty,
  expression_unknown,
  expression_alone,
  expression_single,
  expression_numbered,
  expression_counted,
  expression_unnumbered,
  expression_uncounted,
  operands_none,
  operands_next,
  expression_was,
  operands_were,
  expression_of_lem,
  operands_of_lem,
  content_has_bytes,
  unknown_operator,
}
use Rattle.reader.specs.ExprAt.{Placed, ◌up_to◌, placed, in_front, expr_at, exprs_at}
use Rattle.basis.proofs.FromPlaces.{slice_part, from_place, from_place_two}

-- the last byte
last_place : (s : List ℕ) (at : ℕ) → at + 1 ≡ length s → drop at s ≡ get_or s at 0 ∷ []
last_place s at h =
    from_place s at (omega arith) ∙ ap (λ (l : List ℕ). get_or s at 0 ∷ l) (drop_of_length-le s {i = at + 1} (omega arith))

in_front_lem : {A B : Type 0} (f : A → B) (end : ℕ) (p : Parsed A) → in_front end (found f p) ≡ placed f (in_front end p)
in_front_lem f end nothing = refl
in_front_lem f end (just p) = refl

-- the place after a part of the bytes from a place on
after_part : (s : List ℕ) (at n : ℕ) → at + n ≤ length s → length s - length (drop (at + n) s) ≡ at + n
after_part s at n h = let l = length-drop (at + n) s in omega arith

-- one thing that stands at a place is another: both are equal, and so are the places after them
pub same_placed : {A : Type 0} {a b : A} {m n : ℕ} → ◌≡◌ {A = Option (Placed A)} (just (a up_to m)) (just (b up_to n))
    → (a ≡ b) × (m ≡ n)
same_placed {A} e =
    let q = just_eq e in
    (ap (λ (p : Placed A). p.content) (sym q), ap (λ (p : Placed A). p.next) (sym q))

-- what an operator's operand gave
pub placed_from : {A B : Type 0} (f : A → B) (p : Option (Placed A)) (b : B) (next : ℕ) → placed f p ≡ just (b up_to next)
    → (a : A) × (p ≡ just (a up_to next)) × (f a ≡ b)
placed_from f nothing b next e = let z : ◌≡◌ {A = ℕ} 0 1 = cc in absurd (omega arith)
placed_from f (just p) b next e =
    let q = same_placed e in
    (p.content, ap (λ (n : ℕ). just (p.content up_to n)) q.1, q.0)

-- Where a content stands, its bytes stand, and the other way round.
pub record Written (s : List ℕ) (at : ℕ) (bytes : List ℕ) (next : ℕ) : Type 0 where
  pub bytes_from : drop at s ≡ bytes ++ drop next s
  pub next_is : next ≡ at + length bytes
  pub inside : next ≤ length s

-- a part of the bytes from a place on was written from there
written : (s : List ℕ) (at : ℕ) (bytes rest : List ℕ) → at ≤ length s → drop at s ≡ bytes ++ rest
    → Written s at bytes (length s - length rest) × (rest ≡ drop (length s - length rest) s)
written s at bytes rest h e =
    let l = sym (length-drop at s) ∙ ap length e ∙ length-append bytes rest in
    let n : length s - length rest ≡ at + length bytes = omega arith in
    let r : rest ≡ drop (length s - length rest) s =
    sym (drop-append_seam bytes rest)
    ∙ ap (drop (length bytes)) (sym e)
    ∙ drop-drop (length bytes) at s
    ∙ ap (λ (k : ℕ). drop k s) (sym n) in
    (record { bytes_from = e ∙ ap (λ (k : List ℕ). bytes ++ k) r; next_is = n; inside = omega arith }, r)

-- a place with an expression is inside
not_past : (s : List ℕ) (at : ℕ) (c : Content) (rest : List ℕ) → drop at s ≡ content_bytes c ++ rest → at < length s
not_past s at c rest e =
    let l = sym (length-drop at s) ∙ ap length e ∙ length-append (content_bytes c) rest in
    let k = content_has_bytes c in
    omega arith

module _ (s : List ℕ) (at : ℕ) where
  expr_none : expression_of (drop at s) ≡ nothing → expr_at s at ≡ nothing
  unfolding expr_at
  expr_none e = ap (in_front (length s)) e

  expr_some : (c : Content) (rest : List ℕ) → expression_of (drop at s) ≡ just (c, rest)
      → expr_at s at ≡ just (c up_to (length s - length rest))
  unfolding expr_at
  expr_some c rest e = ap (in_front (length s)) e

  pub expr_written : (c : Content) (next : ℕ) → expr_at s at ≡ just (c up_to next) → Written s at (content_bytes c) next
  expr_written c next e = go (expression_of (drop at s)) refl
    where
      go : (p : Parsed Content) → expression_of (drop at s) ≡ p → Written s at (content_bytes c) next
      go nothing q = let z : ◌≡◌ {A = ℕ} 0 1 = cc (expr_none q) in absurd (omega arith)
      go (just p) q =
          let b = expression_was (drop at s) p.0 p.1 q in
          let h = not_past s at p.0 p.1 b in
          let w = (written s at (content_bytes p.0) p.1 (omega arith) b).0 in
          let same = same_placed (sym (expr_some p.0 p.1 q) ∙ e) in
          subst (λ (n : ℕ). Written s at (content_bytes c) n) same.1
          (subst (λ (d : Content). Written s at (content_bytes d) (length s - length p.1)) same.0 w)

  pub expr_of : (c : Content) (rest : List ℕ) → drop at s ≡ content_bytes c ++ rest
      → expr_at s at ≡ just (c up_to (at + length (content_bytes c)))
  expr_of c rest e =
      let h = not_past s at c rest e in
      let w = (written s at (content_bytes c) rest (omega arith) e).0 in
      expr_some c rest (ap expression_of e ∙ expression_of_lem c rest) ∙ ap (λ (n : ℕ). just (c up_to n)) w.next_is

  -- the place after an expression
  pub expr_forward : (c : Content) (next : ℕ) → expr_at s at ≡ just (c up_to next) → (at < next) × (next ≤ length s)
  expr_forward c next e =
      let w = expr_written c next e in
      let k = content_has_bytes c in
      omega arith

  pub expr_bytes : (c : Content) (next : ℕ) → expr_at s at ≡ just (c up_to next) → take (next - at) (drop at s) ≡ content_bytes c
  expr_bytes c next e =
      let w = expr_written c next e in
      ap (take (next - at)) w.bytes_from ∙ take_at (content_bytes c) (drop next s) (next - at) (omega arith)

  -- Operator by operator.
  pub expr_past : length s ≤ at → expr_at s at ≡ nothing
  expr_past h = expr_none (ap expression_of (drop_of_length-le s h) ∙ expression_empty)

  module _ (inside : at < length s) where
    pub expr_unknown : get_elem? operators (get_or s at 0) ≡ nothing → expr_at s at ≡ nothing
    expr_unknown o =
        expr_none (ap expression_of (from_place s at inside) ∙ expression_unknown (get_or s at 0) (drop (at + 1) s) o)

    pub expr_alone : (c : Content) → get_elem? operators (get_or s at 0) ≡ just (alone c) → expr_at s at ≡ just (c up_to (at + 1))
    expr_alone c o =
        expr_some c (drop (at + 1) s) (ap expression_of (from_place s at inside) ∙ expression_alone (get_or s at 0) (drop (at + 1) s) c o)
        ∙ ap (λ (n : ℕ). just (c up_to n)) (after_part s at 1 (omega arith))

    pub expr_single : (f : Content → Content) → get_elem? operators (get_or s at 0) ≡ just (single f)
        → expr_at s at ≡ placed f (expr_at s (at + 1))
    unfolding expr_at
    expr_single f o =
        ap
        (in_front (length s))
        (ap expression_of (from_place s at inside) ∙ expression_single (get_or s at 0) (drop (at + 1) s) f o)
        ∙ in_front_lem f (length s) (expression_of (drop (at + 1) s))

  -- a type number or a count is missing
  module _ (last : at + 1 ≡ length s) where
    pub expr_unnumbered : (f : ℕ → Content) → get_elem? operators (get_or s at 0) ≡ just (numbered f) → expr_at s at ≡ nothing
    expr_unnumbered f o = expr_none (ap expression_of (last_place s at last) ∙ expression_unnumbered (get_or s at 0) f o)

    pub expr_uncounted : (f : Contents → Content) → get_elem? operators (get_or s at 0) ≡ just (counted f) → expr_at s at ≡ nothing
    expr_uncounted f o = expr_none (ap expression_of (last_place s at last) ∙ expression_uncounted (get_or s at 0) f o)

  pub expr_numbered : at + 1 < length s → (f : ℕ → Content) → get_elem? operators (get_or s at 0) ≡ just (numbered f)
      → expr_at s at ≡ just (f (get_or s (at + 1) 0) up_to (at + 2))
  expr_numbered h f o =
      let k = get_or s (at + 1) 0 in
      expr_some
      (f k)
      (drop (at + 2) s)
      (ap expression_of (from_place_two s at h) ∙ expression_numbered (get_or s at 0) (drop (at + 2) s) f k o)
      ∙ ap (λ (n : ℕ). just (f k up_to n)) (after_part s at 2 (omega arith))

  -- expressions one after the other
  pub exprs_none : exprs_at s at zero ≡ just ([]ᶜ up_to at)
  unfolding exprs_at
  exprs_none = refl

  pub exprs_stop : (n : ℕ) → expr_at s at ≡ nothing → exprs_at s at (suc n) ≡ nothing
  unfolding exprs_at
  exprs_stop n e = rw (e, exprs_at)

  pub exprs_more : (n : ℕ) (c : Content) (next : ℕ) → expr_at s at ≡ just (c up_to next)
      → exprs_at s at (suc n) ≡ placed (λ cs. c ∷ᶜ cs) (exprs_at s next n)
  unfolding exprs_at
  exprs_more n c next e = rw (e, exprs_at)

-- so many expressions from a place on are the operands at the front of the bytes from there on
exprs_are : (n : ℕ) (s : List ℕ) (at : ℕ) → at ≤ length s → exprs_at s at n ≡ in_front (length s) (operands_of n (drop at s))
exprs_are zero s at h =
    let l = length-drop at s in
    let e : at ≡ length s - length (drop at s) = omega arith in
    exprs_none s at ∙ ap (λ (n : ℕ). just ([]ᶜ up_to n)) e ∙ sym (ap (in_front (length s)) (operands_none (drop at s)))
exprs_are (suc n) s at h = go (expression_of (drop at s)) refl (λ next k. exprs_are n s next k)
  where
    go : (p : Parsed Content) → expression_of (drop at s) ≡ p
        → ((next : ℕ) → next ≤ length s → exprs_at s next n ≡ in_front (length s) (operands_of n (drop next s)))
        → exprs_at s at (suc n) ≡ in_front (length s) (operands_of (suc n) (drop at s))
    go nothing q others =
        exprs_stop s at n (expr_none s at q)
        ∙ sym (ap (in_front (length s)) (operands_next n (drop at s) ∙ ap (after_first operands_of n) q))
    go (just p) q others =
        let w = written s at (content_bytes p.0) p.1 h (expression_was (drop at s) p.0 p.1 q) in
        let next = length s - length p.1 in
        exprs_more s at n p.0 next (expr_some s at p.0 p.1 q)
        ∙ ap (placed (λ cs. p.0 ∷ᶜ cs)) (others next w.0.inside)
        ∙ sym (in_front_lem (λ cs. p.0 ∷ᶜ cs) (length s) (operands_of n (drop next s)))
        ∙ ap (λ (rest : List ℕ). in_front (length s) (found (λ cs. p.0 ∷ᶜ cs) (operands_of n rest))) (sym w.1)
        ∙ sym (ap (in_front (length s)) (operands_next n (drop at s) ∙ ap (after_first operands_of n) q))

module _ (s : List ℕ) (at : ℕ) where
  pub expr_counted : at + 1 < length s → (f : Contents → Content) → get_elem? operators (get_or s at 0) ≡ just (counted f)
      → expr_at s at ≡ placed f (exprs_at s (at + 2) (get_or s (at + 1) 0))
  unfolding expr_at
  expr_counted h f o =
      let k = get_or s (at + 1) 0 in
      ap
      (in_front (length s))
      (ap expression_of (from_place_two s at h) ∙ expression_counted (get_or s at 0) (drop (at + 2) s) f k o)
      ∙ in_front_lem f (length s) (operands_of k (drop (at + 2) s))
      ∙ ap (placed f) (sym (exprs_are k s (at + 2) (omega arith)))

  pub exprs_written : (n : ℕ) (cs : Contents) (next : ℕ) → at ≤ length s → exprs_at s at n ≡ just (cs up_to next)
      → (n ≡ operand_count cs) × Written s at (operand_bytes cs) next
  exprs_written n cs next h e = go (operands_of n (drop at s)) refl
    where
      go : (p : Parsed Contents) → operands_of n (drop at s) ≡ p → (n ≡ operand_count cs) × Written s at (operand_bytes cs) next
      go nothing q = let z : ◌≡◌ {A = ℕ} 0 1 = cc (exprs_are n s at h, ap (in_front (length s)) q) in absurd (omega arith)
      go (just p) q =
          let b = operands_were n (drop at s) p.0 p.1 q in
          let w = (written s at (operand_bytes p.0) p.1 h b.1).0 in
          let same = same_placed (sym (exprs_are n s at h ∙ ap (in_front (length s)) q) ∙ e) in (
            b.0 ∙ ap operand_count same.0,
            subst (λ (n : ℕ). Written s at (operand_bytes cs) n) same.1
                (subst (λ (ds : Contents). Written s at (operand_bytes ds) (length s - length p.1)) same.0 w),
          )

  pub exprs_of : (cs : Contents) (rest : List ℕ) → at ≤ length s → drop at s ≡ operand_bytes cs ++ rest
      → exprs_at s at (operand_count cs) ≡ just (cs up_to (at + length (operand_bytes cs)))
  exprs_of cs rest h e =
      let w = (written s at (operand_bytes cs) rest h e).0 in
      exprs_are (operand_count cs) s at h
      ∙ ap (in_front (length s)) (ap (operands_of (operand_count cs)) e ∙ operands_of_lem cs rest)
      ∙ ap (λ (n : ℕ). just (cs up_to n)) w.next_is

  pub exprs_forward : (n : ℕ) (cs : Contents) (next : ℕ) → at ≤ length s → exprs_at s at n ≡ just (cs up_to next)
      → (at ≤ next) × (next ≤ length s)
  exprs_forward n cs next h e = let w = (exprs_written n cs next h e).1 in omega arith

-- the operators by their numbers
pub operator_none : get_elem? operators 0 ≡ just (alone none)
unfolding operators
operator_none = refl

pub operator_empty : get_elem? operators 1 ≡ just (alone empty)
unfolding operators
operator_empty = refl

pub operator_type : get_elem? operators 2 ≡ just (numbered type)
unfolding operators
operator_type = refl

pub operator_sequence : get_elem? operators 3 ≡ just (counted sequence)
unfolding operators
operator_sequence = refl

pub operator_choice : get_elem? operators 4 ≡ just (counted choice)
unfolding operators
operator_choice = refl

pub operator_any_number : get_elem? operators 5 ≡ just (single any_number)
unfolding operators
operator_any_number = refl

pub operator_one_or_more : get_elem? operators 6 ≡ just (single one_or_more)
unfolding operators
operator_one_or_more = refl

pub operator_optional : get_elem? operators 7 ≡ just (single optional)
unfolding operators
operator_optional = refl

-- Where a content is known to stand, its operator's byte says what it is and where its parts stand.
module _ (s : List ℕ) (at : ℕ) (c : Content) (next : ℕ) (stands : expr_at s at ≡ just (c up_to next)) where
  pub operator_known : get_or s at 0 ≤ 7
  operator_known = go (passes_or_fails (ltb 7 (get_or s at 0)))
    where
      go : (ltb 7 (get_or s at 0) ≡ true) ⊎ (ltb 7 (get_or s at 0) ≡ false) → get_or s at 0 ≤ 7
      go (inl t) =
          let h = expr_forward s at c next stands in
          let l = ltb-true 7 (get_or s at 0) t in
          let z : ◌≡◌ {A = ℕ} 0 1 = cc (expr_unknown s at (omega arith) (unknown_operator (get_or s at 0) (omega arith))) in
          absurd (omega arith)
      go (inr t) = ltb-false 7 (get_or s at 0) t

  pub alone_was : (d : Content) → get_elem? operators (get_or s at 0) ≡ just (alone d) → (d ≡ c) × (at + 1 ≡ next)
  alone_was d o =
      let h = expr_forward s at c next stands in
      same_placed (sym (expr_alone s at (omega arith) d o) ∙ stands)

  pub single_was : (f : Content → Content) → get_elem? operators (get_or s at 0) ≡ just (single f)
      → (d : Content) × (expr_at s (at + 1) ≡ just (d up_to next)) × (f d ≡ c)
  single_was f o =
      let h = expr_forward s at c next stands in
      placed_from f (expr_at s (at + 1)) c next (sym (expr_single s at (omega arith) f o) ∙ stands)

  -- a type number or a count is there
  more : (at + 1 ≡ length s → expr_at s at ≡ nothing) → at + 1 < length s
  more stop = go (passes_or_fails (ltb (at + 1) (length s)))
    where
      go : (ltb (at + 1) (length s) ≡ true) ⊎ (ltb (at + 1) (length s) ≡ false) → at + 1 < length s
      go (inl t) = ltb-true (at + 1) (length s) t
      go (inr t) =
          let h = expr_forward s at c next stands in
          let l = ltb-false (at + 1) (length s) t in
          let z : ◌≡◌ {A = ℕ} 0 1 = cc (stop (omega arith)) in
          absurd (omega arith)

  pub numbered_more : (f : ℕ → Content) → get_elem? operators (get_or s at 0) ≡ just (numbered f) → at + 1 < length s
  numbered_more f o = more (λ last. expr_unnumbered s at last f o)

  pub counted_more : (f : Contents → Content) → get_elem? operators (get_or s at 0) ≡ just (counted f) → at + 1 < length s
  counted_more f o = more (λ last. expr_uncounted s at last f o)

  pub number_inside : get_or s at 0 ≡ 2 → at + 1 < length s
  number_inside e = numbered_more type (ap (get_elem? operators) e ∙ operator_type)

  pub count_inside : 3 ≤ get_or s at 0 → get_or s at 0 ≤ 4 → at + 1 < length s
  count_inside l h = go (get_or s at 0 - 3) refl
    where
      go : (k : ℕ) → get_or s at 0 - 3 ≡ k → at + 1 < length s
      go zero e = let three : get_or s at 0 ≡ 3 = omega arith in counted_more sequence (ap (get_elem? operators) three ∙ operator_sequence)
      go (suc zero) e = let four : get_or s at 0 ≡ 4 = omega arith in counted_more choice (ap (get_elem? operators) four ∙ operator_choice)
      go (suc (suc k)) e = absurd (omega arith)

  pub numbered_was : (f : ℕ → Content) → get_elem? operators (get_or s at 0) ≡ just (numbered f)
      → (f (get_or s (at + 1) 0) ≡ c) × (at + 2 ≡ next)
  numbered_was f o = same_placed (sym (expr_numbered s at (numbered_more f o) f o) ∙ stands)

  pub counted_was : (f : Contents → Content) → get_elem? operators (get_or s at 0) ≡ just (counted f)
      → (cs : Contents) × (exprs_at s (at + 2) (get_or s (at + 1) 0) ≡ just (cs up_to next)) × (f cs ≡ c)
  counted_was f o =
      placed_from f (exprs_at s (at + 2) (get_or s (at + 1) 0)) c next (sym (expr_counted s at (counted_more f o) f o) ∙ stands)

-- the first of so many expressions, and the others
pub record FirstAt (s : List ℕ) (at n : ℕ) (cs : Contents) (next : ℕ) : Type 0 where
  pub first : Content
  pub others : Contents
  pub middle : ℕ
  pub both : cs ≡ first ∷ᶜ others
  pub first_at : expr_at s at ≡ just (first up_to middle)
  pub others_at : exprs_at s middle n ≡ just (others up_to next)

pub exprs_first : (s : List ℕ) (at n : ℕ) (cs : Contents) (next : ℕ) → exprs_at s at (suc n) ≡ just (cs up_to next)
    → FirstAt s at n cs next
exprs_first s at n cs next e = go (expr_at s at) refl
  where
    go : (p : Option (Placed Content)) → expr_at s at ≡ p → FirstAt s at n cs next
    go nothing q = let z : ◌≡◌ {A = ℕ} 0 1 = cc (exprs_stop s at n q) in absurd (omega arith)
    go (just p) q =
        let both = sym (exprs_more s at n p.content p.next q) ∙ e in
        let m = placed_from (λ ds. p.content ∷ᶜ ds) (exprs_at s p.next n) cs next both in
        record { first = p.content; others = m.0; middle = p.next; both = sym m.2; first_at = q; others_at = m.1 }

pub exprs_end : (s : List ℕ) (at : ℕ) (cs : Contents) (next : ℕ) → exprs_at s at zero ≡ just (cs up_to next)
    → (cs ≡ []ᶜ) × (next ≡ at)
exprs_end s at cs next e =
    let p = same_placed (sym (exprs_none s at) ∙ e) in
    (sym p.0, sym p.1)

-- Where the same bytes stand, the same content stands: with more bytes after or before them, or with later bytes cut off.
written_longer : (p q : List ℕ) (at : ℕ) (bytes : List ℕ) (next : ℕ) → Written p at bytes next → Written (p ++ q) at bytes next
written_longer p q at bytes next w =
    let l = length-append p q in
    let n = w.next_is in
    let h = w.inside in
    record {
      bytes_from =
          drop-append-le at p q (omega arith)
          ∙ ap (λ (x : List ℕ). x ++ q) w.bytes_from
          ∙ append_assoc bytes (drop next p) q
          ∙ ap (λ (x : List ℕ). bytes ++ x) (sym (drop-append-le next p q h));
      next_is = n;
      inside = omega arith;
    }

written_cut : (k : ℕ) (s : List ℕ) (at : ℕ) (bytes : List ℕ) (next : ℕ) → Written s at bytes next → next ≤ k
    → Written (take k s) at bytes next
written_cut k s at bytes next w h =
    let n = w.next_is in
    let i = w.inside in
    let l = length-take k s in
    let from_at : k ≡ at + (length bytes + (k - next)) = omega arith in
    let from_next : next + (k - next) ≡ k = omega arith in
    record {
      bytes_from =
          ap (λ (j : ℕ). drop at (take j s)) from_at
          ∙ slice_part at (length bytes + (k - next)) s (omega arith)
          ∙ ap (take (length bytes + (k - next))) w.bytes_from
          ∙ take-append-add bytes (drop next s) (k - next)
          ∙ ap
          (λ (x : List ℕ). bytes ++ x)
          (sym (slice_part next (k - next) s i) ∙ ap (λ (j : ℕ). drop next (take j s)) from_next);
      next_is = n;
      inside = omega arith;
    }

-- the same for what stands there: a part of some bytes, and bytes that are the same as far as it goes
written_kept : (s t : List ℕ) (at : ℕ) (bytes : List ℕ) (next : ℕ) → Written s at bytes next → take next s ≡ take next t
    → Written t at bytes next
written_kept s t at bytes next w e =
    subst (λ (l : List ℕ). Written l at bytes next) (take-append-drop next t)
    (written_longer (take next t) (drop next t) at bytes next
    (subst (λ (l : List ℕ). Written l at bytes next) e (written_cut next s at bytes next w (omega arith))))

module _ (s : List ℕ) (at : ℕ) where
  pub written_expr : (c : Content) (next : ℕ) → Written s at (content_bytes c) next → expr_at s at ≡ just (c up_to next)
  written_expr c next w = expr_of s at c (drop next s) w.bytes_from ∙ ap (λ (n : ℕ). just (c up_to n)) (sym w.next_is)

  pub written_exprs : (cs : Contents) (next : ℕ) → Written s at (operand_bytes cs) next
      → exprs_at s at (operand_count cs) ≡ just (cs up_to next)
  written_exprs cs next w =
      let n = w.next_is in
      let i = w.inside in
      exprs_of s at cs (drop next s) (omega arith) w.bytes_from ∙ ap (λ (n : ℕ). just (cs up_to n)) (sym n)

pub expr_kept : (s t : List ℕ) (at : ℕ) (c : Content) (next : ℕ) → take next s ≡ take next t
    → expr_at s at ≡ just (c up_to next) → expr_at t at ≡ just (c up_to next)
expr_kept s t at c next same e =
    written_expr t at c next (written_kept s t at (content_bytes c) next (expr_written s at c next e) same)

pub exprs_kept : (s t : List ℕ) (at n : ℕ) (cs : Contents) (next : ℕ) → at ≤ length s → take next s ≡ take next t
    → exprs_at s at n ≡ just (cs up_to next) → exprs_at t at n ≡ just (cs up_to next)
exprs_kept s t at n cs next h same e =
    let w = exprs_written s at n cs next h e in
    ap (exprs_at t at) w.0 ∙ written_exprs t at cs next (written_kept s t at (operand_bytes cs) next w.1 same)
