-- Laws of `proper_at` and `proper_row_at`, by which the walk over a content goes: what they are operator by operator and operand by
-- operand,
-- what their two answers mean (`proper_yes`, `proper_no`), and that they settle the reading of a content (`read_none`, `read_left`,
-- `read_deep`, `read_fine`).
use Prim.Native.Nat.{ℕ, zero, suc, ◌+◌, ◌-◌, ◌≤◌, ◌<◌, max}
use native.Mathlib.Omega.{arith}
use native.Mathlib.Numerals.{add-one}
use mathlib.Core.Bool.{Bool, true, false, ◌&&◌, not}
use mathlib.Core.List.{List, [], ◌∷◌}
use mathlib.Core.Logic.{◌⊎◌, inl, inr}
use mathlib.Core.Option.{Option as Maybe, none as nothing, some as just}
use mathlib.Core.Path.{◌≡◌, refl, sym, ◌∙◌, ap, ap₂}
use lib.ListN.{length, get_or, get_elem?, length-append}
use lib.Dec.{leb, ltb}
use borrow.Author.Tests.{leb-true, le-leb, lt-leb, lt-ltb, le-ltb, ltb-true, ltb-false}
use Rattle.grammar.specs.Limits.{Limits}
use Rattle.grammar.specs.Content.{
  Content,
  none,
  empty,
  type,
  sequence,
  choice,
  any_number,
  one_or_more,
  optional,
  Contents,
  []ᶜ,
  ◌∷ᶜ◌,
  operand_count,
  nesting,
  deepest,
}
use Rattle.grammar.specs.ReadContent.{content_bytes, operand_bytes, numbered, counted, single, operators, Parsed, expression_of, is_proper, are_proper, whole, read_content}
use Rattle.std.specs.Prelude.{Option, None, Some, Result, Ok, Err}
use Rattle.grammar.specs.Outcome.{◌>>=◌, ◌>>◌, turn_back}
use Rattle.grammar.specs.declared.Refusal.{Refusal}
use Rattle.grammar.specs.declared.Refusal.TheVariants.{BadContent, NestedTooDeep}
use Rattle.theory.proofs.Lists.BoolLaws.{and_left, and_right, passes_or_fails}
use Rattle.theory.proofs.Contents.ContentBytes.{expression_was, content_has_bytes, unknown_operator}
use Rattle.reader.specs.ExprAt.{Placed, ◌up_to◌, placed, in_front, expr_at, exprs_at}
use Rattle.reader.specs.declared.expressions.Extent.{Extent}
use Rattle.reader.specs.Extents.{
  upto,
  extent_by,
  NestsBelow,
  proper_at,
  proper_row_at,
  type_extent,
  deeper_of,
  joined_extent,
  content_answer,
}
use Rattle.reader.proofs.ExprLaws.{same_placed, expr_written, expr_past, expr_unknown, expr_alone, expr_single, expr_numbered, expr_unnumbered, expr_counted, expr_uncounted, exprs_none, exprs_stop, exprs_more, exprs_written, operator_none, operator_empty, operator_type, operator_sequence, operator_choice, operator_any_number, operator_one_or_more, operator_optional}

-- What is found of anything that stands at a place.
module _ {A : Type 0} (proper : A → Bool) (deep : A → ℕ) where
  extent_yes : (a : A) (n : ℕ) → proper a ≡ true → extent_by proper deep (just (a up_to n)) ≡ upto n (deep a)
  extent_yes a n e = rw (e, extent_by)

  extent_no : (a : A) (n : ℕ) → proper a ≡ false → extent_by proper deep (just (a up_to n)) ≡ None
  extent_no a n e = rw (e, extent_by)

  yes_means : (p : Maybe (Placed A)) (next d : ℕ) → extent_by proper deep p ≡ upto next d
      → (a : A) × (p ≡ just (a up_to next)) × (proper a ≡ true) × (deep a ≡ d)
  yes_means nothing next d h = let z : ◌≡◌ {A = ℕ} 0 1 = cc in absurd (omega arith)
  yes_means (just e) next d h = go (passes_or_fails (proper e.content))
    where
      go : (proper e.content ≡ true) ⊎ (proper e.content ≡ false)
          → (a : A) × (just e ≡ just (a up_to next)) × (proper a ≡ true) × (deep a ≡ d)
      go (inl t) =
          let y = extent_yes e.content e.next t in
          let same : ◌≡◌ {A = Extent} (record { next = e.next; nesting = deep e.content }) (record { next = next; nesting = d }) = cc in
          (e.content, ap (λ (x : Extent). just (e.content up_to x.next)) same, t, ap (λ (x : Extent). x.nesting) same)
      go (inr t) = let z : ◌≡◌ {A = ℕ} 0 1 = cc (extent_no e.content e.next t) in absurd (omega arith)

  no_means : (p : Maybe (Placed A)) → extent_by proper deep p ≡ None → (a : A) (n : ℕ) → p ≡ just (a up_to n) → proper a ≡ false
  no_means p h a n e = go (passes_or_fails (proper a))
    where
      go : (proper a ≡ true) ⊎ (proper a ≡ false) → proper a ≡ false
      go (inl t) =
          let z : ◌≡◌ {A = ℕ} 0 1 = cc (extent_yes a n t, ap (extent_by proper deep) e) in
          absurd (omega arith)
      go (inr t) = t

-- What is found of an operator is what is found of its operands, made one deeper, if the operator adds no fault.
extent_under : {A B : Type 0} (f : A → B) (ok : A → Bool) (ok' : B → Bool) (deep : A → ℕ) (deep' : B → ℕ) (p : Maybe (Placed A))
    → ((a : A) (n : ℕ) → p ≡ just (a up_to n) → ok' (f a) ≡ ok a) → ((a : A) → deep' (f a) ≡ deep a + 1)
    → extent_by ok' deep' (placed f p) ≡ deeper_of (extent_by ok deep p)
extent_under f ok ok' deep deep' nothing same more = refl
extent_under f ok ok' deep deep' (just e) same more = go (passes_or_fails (ok e.content))
  where
    s : ok' (f e.content) ≡ ok e.content
    s = same e.content e.next refl

    go : (ok e.content ≡ true) ⊎ (ok e.content ≡ false)
        → extent_by ok' deep' (placed f (just e)) ≡ deeper_of (extent_by ok deep (just e))
    go (inl t) =
        extent_yes ok' deep' (f e.content) e.next (s ∙ t)
        ∙ ap (upto e.next) (more e.content)
        ∙ sym (ap deeper_of (extent_yes ok deep e.content e.next t))
    go (inr t) =
        extent_no ok' deep' (f e.content) e.next (s ∙ t) ∙ sym (ap deeper_of (extent_no ok deep e.content e.next t))

-- the nesting is at most the number of bytes
mutual
  unfolding nesting content_bytes

  pub nesting_small : (c : Content) → nesting c ≤ length (content_bytes c)
  nesting_small none = omega arith
  nesting_small empty = omega arith
  nesting_small (type k) = omega arith
  nesting_small (sequence cs) = let h = deepest_small cs in omega arith
  nesting_small (choice cs) = let h = deepest_small cs in omega arith
  nesting_small (any_number c) = let h = nesting_small c in omega arith
  nesting_small (one_or_more c) = let h = nesting_small c in omega arith
  nesting_small (optional c) = let h = nesting_small c in omega arith

  pub deepest_small : (cs : Contents) → deepest cs ≤ length (operand_bytes cs)
  deepest_small []ᶜ = omega arith
  deepest_small (c ∷ᶜ cs) =
      let h = nesting_small c in
      let k = deepest_small cs in
      let l = length-append (content_bytes c) (operand_bytes cs) in
      omega arith

-- an operator that adds a fault
extent_fault : {A B : Type 0} (f : A → B) (ok : B → Bool) (deep : B → ℕ) (p : Maybe (Placed A))
    → ((a : A) (n : ℕ) → p ≡ just (a up_to n) → ok (f a) ≡ false) → extent_by ok deep (placed f p) ≡ None
extent_fault f ok deep nothing fault = refl
extent_fault f ok deep (just e) fault = extent_no ok deep (f e.content) e.next (fault e.content e.next refl)

-- a proper operand before others
extent_after : (lim : Limits) (c : Content) (d : ℕ) → is_proper lim c ≡ true → nesting c ≡ d → (p : Maybe (Placed Contents))
    → extent_by (are_proper lim) deepest (placed (λ cs. c ∷ᶜ cs) p) ≡ joined_extent d (extent_by (are_proper lim) deepest p)
unfolding are_proper deepest
extent_after lim c d ok deep nothing = refl
extent_after lim c d ok deep (just e) = go (passes_or_fails (are_proper lim e.content))
  where
    both : are_proper lim (c ∷ᶜ e.content) ≡ are_proper lim e.content
    both = ap (λ (b : Bool). b && are_proper lim e.content) ok

    go : (are_proper lim e.content ≡ true) ⊎ (are_proper lim e.content ≡ false)
        → extent_by (are_proper lim) deepest (placed (λ cs. c ∷ᶜ cs) (just e)) ≡ joined_extent d (extent_by (are_proper lim) deepest (just e))
    go (inl t) =
        extent_yes (are_proper lim) deepest (c ∷ᶜ e.content) e.next (both ∙ t)
        ∙ ap (λ (n : ℕ). upto e.next (max n (deepest e.content))) deep
        ∙ sym (ap (joined_extent d) (extent_yes (are_proper lim) deepest e.content e.next t))
    go (inr t) =
        extent_no (are_proper lim) deepest (c ∷ᶜ e.content) e.next (both ∙ t)
        ∙ sym (ap (joined_extent d) (extent_no (are_proper lim) deepest e.content e.next t))

-- any number, one or more, or an optional: an operator with one operand
pub record OneOperand (lim : Limits) (b : ℕ) : Type 0 where
  pub operator : Content → Content
  pub numbered_so : get_elem? operators b ≡ just (single operator)
  pub proper : (c : Content) → is_proper lim (operator c) ≡ is_proper lim c
  pub nests : (c : Content) → nesting (operator c) ≡ suc (nesting c)

pub one_operand : (lim : Limits) (b : ℕ) → 5 ≤ b → b ≤ 7 → OneOperand lim b
unfolding is_proper nesting
one_operand lim b l h = go (b - 5) refl
  where
    go : (k : ℕ) → b - 5 ≡ k → OneOperand lim b
    go zero e =
        let q : b ≡ 5 = omega arith in
        record { operator = any_number; numbered_so = ap (get_elem? operators) q ∙ operator_any_number; proper = λ c. refl; nests = λ c. refl }
    go (suc zero) e =
        let q : b ≡ 6 = omega arith in
        record { operator = one_or_more; numbered_so = ap (get_elem? operators) q ∙ operator_one_or_more; proper = λ c. refl; nests = λ c. refl }
    go (suc (suc zero)) e =
        let q : b ≡ 7 = omega arith in
        record { operator = optional; numbered_so = ap (get_elem? operators) q ∙ operator_optional; proper = λ c. refl; nests = λ c. refl }
    go (suc (suc (suc k))) e = absurd (omega arith)

-- a sequence or a choice: an operator with a count
pub record ExtentCounts (lim : Limits) (b : ℕ) : Type 0 where
  pub operator : Contents → Content
  pub numbered_so : get_elem? operators b ≡ just (counted operator)
  pub proper : (cs : Contents) → is_proper lim (operator cs) ≡ (leb 2 (operand_count cs) && leb (operand_count cs) lim.operands && are_proper lim cs)
  pub nests : (cs : Contents) → nesting (operator cs) ≡ suc (deepest cs)

pub counts : (lim : Limits) (b : ℕ) → 3 ≤ b → b ≤ 4 → ExtentCounts lim b
unfolding is_proper nesting
counts lim b l h = go (b - 3) refl
  where
    go : (k : ℕ) → b - 3 ≡ k → ExtentCounts lim b
    go zero e =
        let q : b ≡ 3 = omega arith in
        record { operator = sequence; numbered_so = ap (get_elem? operators) q ∙ operator_sequence; proper = λ cs. refl; nests = λ cs. refl }
    go (suc zero) e =
        let q : b ≡ 4 = omega arith in
        record { operator = choice; numbered_so = ap (get_elem? operators) q ∙ operator_choice; proper = λ cs. refl; nests = λ cs. refl }
    go (suc (suc k)) e = absurd (omega arith)

module _ (lim : Limits) (s : List ℕ) (at : ℕ) where
  -- what the two answers mean
  pub proper_yes : (next d : ℕ) → proper_at lim s at ≡ upto next d
      → (c : Content) × (expr_at s at ≡ just (c up_to next)) × (is_proper lim c ≡ true) × (nesting c ≡ d)
  unfolding proper_at
  proper_yes next d h = yes_means (is_proper lim) nesting (expr_at s at) next d h

  pub proper_no : proper_at lim s at ≡ None → (c : Content) (next : ℕ) → expr_at s at ≡ just (c up_to next) → is_proper lim c ≡ false
  unfolding proper_at
  proper_no h c next e = no_means (is_proper lim) nesting (expr_at s at) h c next e

  pub row_yes : (n next d : ℕ) → proper_row_at lim s at n ≡ upto next d
      → (cs : Contents) × (exprs_at s at n ≡ just (cs up_to next)) × (are_proper lim cs ≡ true) × (deepest cs ≡ d)
  unfolding proper_row_at
  row_yes n next d h = yes_means (are_proper lim) deepest (exprs_at s at n) next d h

  -- the place after, and the nesting, are within the bytes
  pub proper_within : (next d : ℕ) → proper_at lim s at ≡ upto next d → (at < next) × (next ≤ length s) × (d ≤ length s)
  proper_within next d h =
      let y = proper_yes next d h in
      let w = expr_written s at y.0 next y.1 in
      let n = nesting_small y.0 in
      let b = content_has_bytes y.0 in
      let e = y.3 in
      omega arith

  pub row_within : at ≤ length s → (n next d : ℕ) → proper_row_at lim s at n ≡ upto next d → d ≤ length s
  row_within i n next d h =
      let y = row_yes n next d h in
      let w = (exprs_written s at n y.0 next i y.1).1 in
      let k = deepest_small y.0 in
      let e = y.3 in
      omega arith

  pub proper_nests : (m : ℕ) → length s < m → NestsBelow m (proper_at lim s at)
  proper_nests m h = go (proper_at lim s at) refl
    where
      go : (x : Option Extent) → proper_at lim s at ≡ x → NestsBelow m x
      go None e = tt
      go (Some x) e = let w = proper_within x.next x.nesting e in omega arith

  pub row_nests : (n m : ℕ) → at ≤ length s → length s < m → NestsBelow m (proper_row_at lim s at n)
  row_nests n m i h = go (proper_row_at lim s at n) refl
    where
      go : (x : Option Extent) → proper_row_at lim s at n ≡ x → NestsBelow m x
      go None e = tt
      go (Some x) e = let w = row_within i n x.next x.nesting e in omega arith

  -- Operator by operator.
  proper_none : expr_at s at ≡ nothing → proper_at lim s at ≡ None
  unfolding proper_at
  proper_none e = ap (extent_by (is_proper lim) nesting) e

  proper_some : (c : Content) (next : ℕ) → expr_at s at ≡ just (c up_to next) → is_proper lim c ≡ true
      → proper_at lim s at ≡ upto next (nesting c)
  unfolding proper_at
  proper_some c next e t = ap (extent_by (is_proper lim) nesting) e ∙ extent_yes (is_proper lim) nesting c next t

  proper_fault : (c : Content) (next : ℕ) → expr_at s at ≡ just (c up_to next) → is_proper lim c ≡ false → proper_at lim s at ≡ None
  unfolding proper_at
  proper_fault c next e t = ap (extent_by (is_proper lim) nesting) e ∙ extent_no (is_proper lim) nesting c next t

  pub proper_past : length s ≤ at → proper_at lim s at ≡ None
  proper_past h = proper_none (expr_past s at h)

  module _ (inside : at < length s) where
    pub proper_unknown : 7 < get_or s at 0 → proper_at lim s at ≡ None
    proper_unknown h = proper_none (expr_unknown s at inside (unknown_operator (get_or s at 0) (omega arith)))

    pub proper_alone : get_or s at 0 ≤ 1 → proper_at lim s at ≡ upto (at + 1) 1
    unfolding is_proper nesting
    proper_alone h = go (get_or s at 0) refl
      where
        go : (b : ℕ) → get_or s at 0 ≡ b → proper_at lim s at ≡ upto (at + 1) 1
        go zero e = proper_some none (at + 1) (expr_alone s at inside none (ap (get_elem? operators) e ∙ operator_none)) refl
        go (suc zero) e = proper_some empty (at + 1) (expr_alone s at inside empty (ap (get_elem? operators) e ∙ operator_empty)) refl
        go (suc (suc b)) e = absurd (omega arith)

    pub proper_single : 5 ≤ get_or s at 0 → get_or s at 0 ≤ 7 → proper_at lim s at ≡ deeper_of (proper_at lim s (at + 1))
    unfolding proper_at
    proper_single l h =
        let k = one_operand lim (get_or s at 0) l h in
        ap (extent_by (is_proper lim) nesting) (expr_single s at inside k.operator k.numbered_so)
        ∙ extent_under
        k.operator
        (is_proper lim)
        (is_proper lim)
        nesting
        nesting
        (expr_at s (at + 1))
        (λ c n e. k.proper c)
        (λ c. k.nests c ∙ sym (add-one (nesting c)))

  -- a type is proper if its number is
  pub proper_type : at < length s → get_or s at 0 ≡ 2 → proper_at lim s at ≡ type_extent lim s (at + 1)
  unfolding is_proper nesting type_extent
  proper_type inside e = go (passes_or_fails (ltb (at + 1) (length s))) (passes_or_fails (ltb (get_or s (at + 1) 0) lim.types))
    where
      o : get_elem? operators (get_or s at 0) ≡ just (numbered type)
      o = ap (get_elem? operators) e ∙ operator_type

      two : at + 1 + 1 ≡ at + 2
      two = omega arith

      go : (ltb (at + 1) (length s) ≡ true) ⊎ (ltb (at + 1) (length s) ≡ false)
          → (ltb (get_or s (at + 1) 0) lim.types ≡ true) ⊎ (ltb (get_or s (at + 1) 0) lim.types ≡ false)
          → proper_at lim s at ≡ type_extent lim s (at + 1)
      go (inr p) q =
          let l = ltb-false (at + 1) (length s) p in
          rw (p, type_extent) (proper_none (expr_unnumbered s at (omega arith) type o))
      go (inl p) (inl q) =
          let l = ltb-true (at + 1) (length s) p in
          let found = proper_some (type (get_or s (at + 1) 0)) (at + 2) (expr_numbered s at l type o) q in
          rw (p, q, type_extent) (found ∙ ap (λ (n : ℕ). upto n 1) (sym two))
      go (inl p) (inr q) =
          let l = ltb-true (at + 1) (length s) p in
          rw (p, q, type_extent) (proper_fault (type (get_or s (at + 1) 0)) (at + 2) (expr_numbered s at l type o) q)

  -- a sequence or a choice
  module _ (low : 3 ≤ get_or s at 0) (high : get_or s at 0 ≤ 4) where
    -- its count is missing
    pub proper_uncounted : at + 1 ≡ length s → proper_at lim s at ≡ None
    proper_uncounted h =
        let k = counts lim (get_or s at 0) low high in
        proper_none (expr_uncounted s at h k.operator k.numbered_so)

    -- its count is too small, whatever follows
    pub proper_few : at + 1 < length s → get_or s (at + 1) 0 < 2 → proper_at lim s at ≡ None
    unfolding proper_at
    proper_few h few =
        let k = counts lim (get_or s at 0) low high in
        let n = get_or s (at + 1) 0 in
        ap (extent_by (is_proper lim) nesting) (expr_counted s at h k.operator k.numbered_so)
        ∙ extent_fault
        k.operator
        (is_proper lim)
        nesting
        (exprs_at s (at + 2) n)
        (λ cs next e. too_few cs k.operator k.proper (counted_so cs next e))
      where
        counted_so : (cs : Contents) (next : ℕ) → exprs_at s (at + 2) (get_or s (at + 1) 0) ≡ just (cs up_to next) → operand_count cs < 2
        counted_so cs next e = let c = (exprs_written s (at + 2) (get_or s (at + 1) 0) cs next (omega arith) e).0 in omega arith

        too_few : (cs : Contents) (f : Contents → Content)
            → ((ds : Contents) → is_proper lim (f ds) ≡ (leb 2 (operand_count ds) && leb (operand_count ds) lim.operands && are_proper lim ds))
            → operand_count cs < 2 → is_proper lim (f cs) ≡ false
        too_few cs f so l = so cs ∙ ap (λ (b : Bool). b && leb (operand_count cs) lim.operands && are_proper lim cs) (lt-leb 2 (operand_count cs) l)

    pub proper_row : at + 1 < length s → 2 ≤ get_or s (at + 1) 0 → get_or s (at + 1) 0 ≤ lim.operands
        → proper_at lim s at ≡ deeper_of (proper_row_at lim s (at + 2) (get_or s (at + 1) 0))
    unfolding proper_at proper_row_at
    proper_row h few many =
        let k = counts lim (get_or s at 0) low high in
        let n = get_or s (at + 1) 0 in
        ap (extent_by (is_proper lim) nesting) (expr_counted s at h k.operator k.numbered_so)
        ∙ extent_under
        k.operator
        (are_proper lim)
        (is_proper lim)
        deepest
        nesting
        (exprs_at s (at + 2) n)
        (λ cs next e. no_fault cs k.operator k.proper (exprs_written s (at + 2) n cs next (omega arith) e).0)
        (λ cs. k.nests cs ∙ sym (add-one (deepest cs)))
      where
        no_fault : (cs : Contents) (f : Contents → Content)
            → ((ds : Contents) → is_proper lim (f ds) ≡ (leb 2 (operand_count ds) && leb (operand_count ds) lim.operands && are_proper lim ds))
            → get_or s (at + 1) 0 ≡ operand_count cs → is_proper lim (f cs) ≡ are_proper lim cs
        no_fault cs f so c =
            so cs
            ∙ ap₂
            (λ (b d : Bool). b && d && are_proper lim cs)
            (le-leb 2 (operand_count cs) (omega arith))
            (le-leb (operand_count cs) lim.operands (omega arith))

  -- Operand by operand.
  pub row_none : proper_row_at lim s at zero ≡ upto at 0
  unfolding proper_row_at are_proper deepest
  row_none = ap (extent_by (are_proper lim) deepest) (exprs_none s at)

  -- what follows does not matter where the first is not proper
  pub row_stop : (n : ℕ) → 0 < n → proper_at lim s at ≡ None → proper_row_at lim s at n ≡ None
  unfolding proper_row_at are_proper
  row_stop zero h fault = absurd (omega arith)
  row_stop (suc n) h fault = go (expr_at s at) refl
    where
      go : (p : Maybe (Placed Content)) → expr_at s at ≡ p → proper_row_at lim s at (suc n) ≡ None
      go nothing e = ap (extent_by (are_proper lim) deepest) (exprs_stop s at n e)
      go (just e) q =
          let f = proper_no fault e.content e.next q in
          ap (extent_by (are_proper lim) deepest) (exprs_more s at n e.content e.next q)
          ∙ extent_fault (λ cs. e.content ∷ᶜ cs) (are_proper lim) deepest (exprs_at s e.next n)
          (λ cs next r. ap (λ (b : Bool). b && are_proper lim cs) f)

  pub row_more : (n next d : ℕ) → 0 < n → proper_at lim s at ≡ upto next d
      → proper_row_at lim s at n ≡ joined_extent d (proper_row_at lim s next (n - 1))
  unfolding proper_row_at are_proper deepest
  row_more zero next d h e = absurd (omega arith)
  row_more (suc n) next d h e =
      let y = proper_yes next d e in
      let less : n ≡ suc n - 1 = omega arith in
      ap (extent_by (are_proper lim) deepest) (exprs_more s at n y.0 next y.1)
      ∙ extent_after lim y.0 d y.2 y.3 (exprs_at s next n)
      ∙ ap (λ (k : ℕ). joined_extent d (proper_row_at lim s next k)) less

-- What later walks know of a content that was read: it stands from the first byte to the end, is proper and nests within the limit.
pub record ReadAs (lim : Limits) (s : List ℕ) (c : Content) : Type 0 where
  pub stands : expr_at s 0 ≡ just (c up_to length s)
  pub proper : is_proper lim c ≡ true
  pub shallow : nesting c ≤ lim.nesting

-- the content that was found from the first byte on, and what is left after it
record First (lim : Limits) (s : List ℕ) (next d : ℕ) : Type 0 where
  content : Content
  rest : List ℕ
  read : expression_of s ≡ just (content, rest)
  stands : expr_at s 0 ≡ just (content up_to next)
  proper : is_proper lim content ≡ true
  deep : nesting content ≡ d
  lengths : next + length rest ≡ length s

-- The walk from the first byte settles how a content reads.
module _ (lim : Limits) (s : List ℕ) where
  -- what is asked of the one expression
  asked : Content → Result Content Refusal
  asked c = do
    turn_back (not (is_proper lim c)) BadContent
    turn_back (ltb lim.nesting (nesting c)) NestedTooDeep
    Ok c

  read_by : (p : Parsed Content) → expression_of s ≡ p → read_content lim s ≡ (whole p >>= asked)
  unfolding read_content asked
  read_by p e = ap (λ (q : Parsed Content). whole q >>= asked) e

  asked_fault : (c : Content) → is_proper lim c ≡ false → asked c ≡ Err BadContent
  unfolding asked
  asked_fault c e = rw e

  asked_deep : (c : Content) → is_proper lim c ≡ true → lim.nesting < nesting c → asked c ≡ Err NestedTooDeep
  unfolding asked
  asked_deep c e h = rw (e, lt-ltb lim.nesting (nesting c) h)

  asked_fine : (c : Content) → is_proper lim c ≡ true → nesting c ≤ lim.nesting → asked c ≡ Ok c
  unfolding asked
  asked_fine c e h = rw (e, le-ltb lim.nesting (nesting c) h)

  -- the expression at the first byte, and whether bytes are left over
  first_expr : (c : Content) (rest : List ℕ) → expression_of s ≡ just (c, rest) → expr_at s 0 ≡ just (c up_to (length s - length rest))
  unfolding expr_at
  first_expr c rest e = ap (in_front (length s)) e

  no_expr : expression_of s ≡ nothing → expr_at s 0 ≡ nothing
  unfolding expr_at
  no_expr e = ap (in_front (length s)) e

  left_over : (c : Content) (rest : List ℕ) → is_proper lim c ≡ false → (whole (just (c, rest)) >>= asked) ≡ Err BadContent
  left_over c [] e = asked_fault c e
  left_over c (b ∷ rest) e = refl

  pub read_none : proper_at lim s 0 ≡ None → read_content lim s ≡ Err BadContent
  read_none h = go (expression_of s) refl
    where
      go : (p : Parsed Content) → expression_of s ≡ p → read_content lim s ≡ Err BadContent
      go nothing e = read_by nothing e
      go (just p) e =
          let f = proper_no lim s 0 h p.0 (length s - length p.1) (first_expr p.0 p.1 e) in
          read_by (just p) e ∙ left_over p.0 p.1 f

  module _ (next d : ℕ) (h : proper_at lim s 0 ≡ upto next d) where
    found_first : First lim s next d
    found_first = go (expression_of s) refl
      where
        go : (p : Parsed Content) → expression_of s ≡ p → First lim s next d
        go nothing e =
            let y = proper_yes lim s 0 next d h in
            let z : ◌≡◌ {A = ℕ} 0 1 = cc (y.1, no_expr e) in
            absurd (omega arith)
        go (just p) e =
            let y = proper_yes lim s 0 next d h in
            let q = same_placed (sym (first_expr p.0 p.1 e) ∙ y.1) in
            let l = ap length (expression_was s p.0 p.1 e) ∙ length-append (content_bytes p.0) p.1 in
            let n = q.1 in
            record {
              content = p.0;
              rest = p.1;
              read = e;
              stands = first_expr p.0 p.1 e ∙ ap (λ (n : ℕ). just (p.0 up_to n)) q.1;
              proper = ap (is_proper lim) q.0 ∙ y.2;
              deep = ap nesting q.0 ∙ y.3;
              lengths = omega arith;
            }

    pub read_left : next < length s → read_content lim s ≡ Err BadContent
    read_left more = let f = found_first in go f.content f.rest f.read f.lengths
      where
        go : (c : Content) (rest : List ℕ) → expression_of s ≡ just (c, rest) → next + length rest ≡ length s
            → read_content lim s ≡ Err BadContent
        go c [] e n = absurd (omega arith)
        go c (b ∷ rest) e n = read_by (just (c, b ∷ rest)) e

    read_whole : (f : First lim s next d) → length s ≤ next → read_content lim s ≡ asked f.content
    read_whole f all = go f.rest f.read f.lengths
      where
        go : (rest : List ℕ) → expression_of s ≡ just (f.content, rest) → next + length rest ≡ length s
            → read_content lim s ≡ asked f.content
        go [] e n = read_by (just (f.content, [])) e
        go (b ∷ rest) e n = absurd (omega arith)

    pub read_deep : length s ≤ next → lim.nesting < d → read_content lim s ≡ Err NestedTooDeep
    read_deep all deep =
        let f = found_first in
        read_whole f all ∙ asked_deep f.content f.proper (rw f.deep deep)

    pub read_fine : length s ≤ next → d ≤ lim.nesting → (c : Content) × (read_content lim s ≡ Ok c) × ReadAs lim s c
    read_fine all deep =
        let f = found_first in
        let w = proper_within lim s 0 next d h in
        let end : next ≡ length s = omega arith in
        let small : nesting f.content ≤ lim.nesting = rw f.deep deep in (
          f.content,
          read_whole f all ∙ asked_fine f.content f.proper small,
          record { stands = f.stands ∙ ap (λ (n : ℕ). just (f.content up_to n)) end; proper = f.proper; shallow = small },
        )

-- what a caller learns from the answer
pub fine_given : (o : Result Content Refusal) → content_answer o ≡ Ok tt → (c : Content) × (o ≡ Ok c)
fine_given (Err r) e = let z : ◌≡◌ {A = ℕ} 0 1 = cc in absurd (omega arith)
fine_given (Ok c) e = (c, refl)

pub refused_so : (o : Result Content Refusal) (r : Refusal) → content_answer o ≡ Err r → o ≡ Err r
refused_so (Err q) r e = cc
refused_so (Ok c) r e = let z : ◌≡◌ {A = ℕ} 0 1 = cc in absurd (omega arith)

-- what is known of the parts of a proper content
pub proper_number : (lim : Limits) (k : ℕ) → is_proper lim (type k) ≡ true → k < lim.types
unfolding is_proper
proper_number lim k e = ltb-true k lim.types e

pub proper_sequence : (lim : Limits) (cs : Contents) → is_proper lim (sequence cs) ≡ true
    → (2 ≤ operand_count cs) × (operand_count cs ≤ lim.operands) × (are_proper lim cs ≡ true)
unfolding is_proper
proper_sequence lim cs e =
    let few = leb 2 (operand_count cs) in
    let many = leb (operand_count cs) lim.operands in
    let counts_so = and_left (few && many) (are_proper lim cs) e in (
      leb-true 2 (operand_count cs) (and_left few many counts_so),
      leb-true (operand_count cs) lim.operands (and_right few many counts_so),
      and_right (few && many) (are_proper lim cs) e,
    )

pub proper_choice : (lim : Limits) (cs : Contents) → is_proper lim (choice cs) ≡ true
    → (2 ≤ operand_count cs) × (operand_count cs ≤ lim.operands) × (are_proper lim cs ≡ true)
unfolding is_proper
proper_choice lim cs e = proper_sequence lim cs e

pub proper_first : (lim : Limits) (c : Content) (cs : Contents) → are_proper lim (c ∷ᶜ cs) ≡ true
    → (is_proper lim c ≡ true) × (are_proper lim cs ≡ true)
unfolding are_proper
proper_first lim c cs e = (and_left (is_proper lim c) (are_proper lim cs) e, and_right (is_proper lim c) (are_proper lim cs) e)
