-- The laws of the walks over the bytes of a content, by which the code goes: what they are operator by operator (`walk_none`, ..,
-- `walk_optional`) and operand by operand (`in_turn_none`, `in_turn_next`, `each_none`, `each_next`), and where the parts stand that
-- the walk goes on with (`row_first`, `rest_proper`). Then child by child (`walks_next`), and
-- that the children's walks tell whether the content matches (`no_children_lem`, `some_children`).
use Prim.Native.Nat.{ℕ, suc, ◌+◌, ◌*◌, ◌-◌, ◌≤◌, ◌<◌}
use native.Mathlib.Nat.{eq-or-lt_of_le}
use native.Mathlib.Omega.{arith}
use mathlib.Core.Bool.{Bool, true, false, not, ◌&&◌, ◌||◌, or-false}
use mathlib.Core.List.{List, [], ◌∷◌, ◌++◌}
use mathlib.Core.Logic.{⊎_elim}
use mathlib.Core.Option.{some as just}
use mathlib.Core.Path.{◌≡◌, refl, sym, ◌∙◌, ap, subst}
use lib.Dec.{eqb, ltb}
use lib.ListN.{length, get_or, get_elem?, replicate, length-append}
use borrow.Author.Tests.{ne_eqb, ltb-true, ltb-false}
use Rattle.theory.proofs.Lists.BoolLaws.{passes_or_fails}
use Rattle.grammar.specs.Limits.{Limits, large}
use Rattle.grammar.specs.Content.{Content, none, empty, type, sequence, choice, any_number, one_or_more, optional, Contents, []ᶜ, ◌∷ᶜ◌}
use Rattle.grammar.specs.ReadContent.{content_bytes, operand_bytes, operators}
use Rattle.theory.specs.Marked.{run}
use Rattle.theory.specs.MarkedWalk.{Walked, walk, walk_in_turn, walk_each, walks, is_marked}
use Rattle.theory.proofs.Matching.MarkedPass.{no_marks, walk-nullable, walks_run}
use Rattle.reader.specs.ExprAt.{◌up_to◌, expr_at, exprs_at}
use Rattle.reader.proofs.ExprLaws.{
  expr_forward,
  expr_written,
  alone_was,
  numbered_was,
  counted_was,
  single_was,
  operator_none,
  operator_empty,
  operator_type,
  operator_sequence,
  operator_choice,
  operator_any_number,
  operator_one_or_more,
  operator_optional,
}
use Rattle.reader.specs.ContentAt.{ContentAt, ContentsAt}
use Rattle.reader.proofs.ContentAtLaws.{FirstThere, first_of, others_from, none_there, content_inside, type_there, count_there, operand_there}
use Rattle.walks.specs.TypeSets.{set_at, tests_at}
use Rattle.walks.specs.WalkAt.{walk_at, walk_in_turn_at, walk_each_at, walks_at, run_at, walked, ended, WholeAt}
use Rattle.walks.specs.declared.matching.Passed.{Passed}

-- where something stands, the walk is over that
module _ (s : List ℕ) (at : ℕ) (marks : List ℕ) (b : Bool) (has : ℕ → Bool) where
  walk_at_lem : (c : Content) (next : ℕ) → expr_at s at ≡ just (c up_to next) → walk_at s at marks b has ≡ walk c at marks b has
  unfolding walk_at
  walk_at_lem c next e = rw (e, walk_at)

  in_turn_at : (k : ℕ) (cs : Contents) (next : ℕ) (n f : Bool) → exprs_at s at k ≡ just (cs up_to next)
      → walk_in_turn_at s at k marks b has n f ≡ walk_in_turn cs at marks b has n f
  unfolding walk_in_turn_at
  in_turn_at k cs next n f e = rw (e, walk_in_turn_at)

  each_at : (k : ℕ) (cs : Contents) (next : ℕ) (n f : Bool) → exprs_at s at k ≡ just (cs up_to next)
      → walk_each_at s at k marks b has n f ≡ walk_each cs at marks b has n f
  unfolding walk_each_at
  each_at k cs next n f e = rw (e, walk_each_at)

-- the place after an expression does not depend on marks and children
mutual
  unfolding walk content_bytes

  walk-next : (c : Content) (at : ℕ) (marks : List ℕ) (b : Bool) (has : ℕ → Bool)
      → (walk c at marks b has).next ≡ at + length (content_bytes c)
  walk-next none at marks b has = refl
  walk-next empty at marks b has = refl
  walk-next (type k) at marks b has = refl
  walk-next (sequence cs) at marks b has = let h = in_turn_next_place cs (at + 2) marks b has true false in omega arith
  walk-next (choice cs) at marks b has = let h = each_next_place cs (at + 2) marks b has false false in omega arith
  walk-next (any_number c) at marks b has = let h = walk-next c (at + 1) marks (b || is_marked marks (at + 1)) has in omega arith
  walk-next (one_or_more c) at marks b has = let h = walk-next c (at + 1) marks (b || is_marked marks (at + 1)) has in omega arith
  walk-next (optional c) at marks b has = let h = walk-next c (at + 1) marks b has in omega arith

  in_turn_next_place : (cs : Contents) (at : ℕ) (marks : List ℕ) (b : Bool) (has : ℕ → Bool) (n f : Bool)
      → (walk_in_turn cs at marks b has n f).next ≡ at + length (operand_bytes cs)
  in_turn_next_place []ᶜ at marks b has n f = omega arith
  in_turn_next_place (c ∷ᶜ cs) at marks b has n f =
      let p = walk c at marks b has in
      let h = walk-next c at marks b has in
      let k =
      in_turn_next_place cs p.next p.marks ((b && p.nullable) || is_marked marks at) has (n && p.nullable)
      ((f && p.nullable) || p.final) in
      let l = length-append (content_bytes c) (operand_bytes cs) in
      omega arith

  each_next_place : (cs : Contents) (at : ℕ) (marks : List ℕ) (b : Bool) (has : ℕ → Bool) (n f : Bool)
      → (walk_each cs at marks b has n f).next ≡ at + length (operand_bytes cs)
  each_next_place []ᶜ at marks b has n f = omega arith
  each_next_place (c ∷ᶜ cs) at marks b has n f =
      let p = walk c at marks b has in
      let h = walk-next c at marks b has in
      let k = each_next_place cs p.next p.marks b has (n || p.nullable) (f || p.final) in
      let l = length-append (content_bytes c) (operand_bytes cs) in
      omega arith

-- an expression that also matches no children
abbrev pub or_none : Walked → Walked
or_none p = record { marks = p.marks; next = p.next; nullable = true; final = p.final }

module _ (lim : Limits) (s : List ℕ) (at : ℕ) (stands : ContentAt lim s at) where
  -- The walk, operator by operator.
  module _ (marks : List ℕ) (b : Bool) (has : ℕ → Bool) where
    whole_walk : walk_at s at marks b has ≡ walk stands.content at marks b has
    whole_walk = walk_at_lem s at marks b has stands.content stands.next stands.stands

    -- the place after it
    pub walk_end : (walk_at s at marks b has).next ≡ stands.next
    walk_end =
        let w = expr_written s at stands.content stands.next stands.stands in
        ap (λ (p : Walked). p.next) whole_walk ∙ walk-next stands.content at marks b has ∙ sym w.next_is

    pub walk_forward : (at < (walk_at s at marks b has).next) × ((walk_at s at marks b has).next ≤ length s)
    walk_forward =
        subst (λ (next : ℕ). (at < next) × (next ≤ length s)) (sym walk_end)
        (expr_forward s at stands.content stands.next stands.stands)

    pub walk_none : get_or s at 0 ≡ 0
        → walk_at s at marks b has ≡ record { marks = marks; next = at + 1; nullable = false; final = false }
    unfolding walk
    walk_none e =
        let p = alone_was s at stands.content stands.next stands.stands none (ap (get_elem? operators) e ∙ operator_none) in
        whole_walk ∙ sym (ap (λ (c : Content). walk c at marks b has) p.0)

    pub walk_empty : get_or s at 0 ≡ 1
        → walk_at s at marks b has ≡ record { marks = marks; next = at + 1; nullable = true; final = false }
    unfolding walk
    walk_empty e =
        let p = alone_was s at stands.content stands.next stands.stands empty (ap (get_elem? operators) e ∙ operator_empty) in
        whole_walk ∙ sym (ap (λ (c : Content). walk c at marks b has) p.0)

    pub walk_type : get_or s at 0 ≡ 2
        → walk_at s at marks b has
        ≡ ended at (record { marks = marks; next = at + 2; nullable = false; final = b && has (get_or s (at + 1) 0) })
    unfolding walk
    walk_type e =
        let p =
        numbered_was s at stands.content stands.next stands.stands type (ap (get_elem? operators) e ∙ operator_type) in
        whole_walk ∙ sym (ap (λ (c : Content). walk c at marks b has) p.0)

    pub walk_sequence : get_or s at 0 ≡ 3
        → walk_at s at marks b has ≡ ended at (walk_in_turn_at s (at + 2) (get_or s (at + 1) 0) marks b has true false)
    unfolding walk
    walk_sequence e =
        let p =
        counted_was s at stands.content stands.next stands.stands sequence (ap (get_elem? operators) e ∙ operator_sequence) in
        whole_walk
        ∙ sym (ap (λ (c : Content). walk c at marks b has) p.2)
        ∙ sym (ap (ended at) (in_turn_at s (at + 2) marks b has (get_or s (at + 1) 0) p.0 stands.next true false p.1))

    pub walk_choice : get_or s at 0 ≡ 4
        → walk_at s at marks b has ≡ ended at (walk_each_at s (at + 2) (get_or s (at + 1) 0) marks b has false false)
    unfolding walk
    walk_choice e =
        let p =
        counted_was s at stands.content stands.next stands.stands choice (ap (get_elem? operators) e ∙ operator_choice) in
        whole_walk
        ∙ sym (ap (λ (c : Content). walk c at marks b has) p.2)
        ∙ sym (ap (ended at) (each_at s (at + 2) marks b has (get_or s (at + 1) 0) p.0 stands.next false false p.1))

    pub walk_any_number : get_or s at 0 ≡ 5
        → walk_at s at marks b has ≡ or_none (ended at (walk_at s (at + 1) marks (b || is_marked marks (at + 1)) has))
    unfolding walk
    walk_any_number e =
        let p =
        single_was s at stands.content stands.next stands.stands any_number (ap (get_elem? operators) e ∙ operator_any_number) in
        whole_walk
        ∙ sym (ap (λ (c : Content). walk c at marks b has) p.2)
        ∙ sym (ap (λ (q : Walked). or_none (ended at q))
        (walk_at_lem s (at + 1) marks (b || is_marked marks (at + 1)) has p.0 stands.next p.1))

    pub walk_one_or_more : get_or s at 0 ≡ 6
        → walk_at s at marks b has ≡ ended at (walk_at s (at + 1) marks (b || is_marked marks (at + 1)) has)
    unfolding walk
    walk_one_or_more e =
        let p =
        single_was s at stands.content stands.next stands.stands one_or_more (ap (get_elem? operators) e ∙ operator_one_or_more) in
        whole_walk
        ∙ sym (ap (λ (c : Content). walk c at marks b has) p.2)
        ∙ sym (ap (ended at) (walk_at_lem s (at + 1) marks (b || is_marked marks (at + 1)) has p.0 stands.next p.1))

    pub walk_optional : get_or s at 0 ≡ 7 → walk_at s at marks b has ≡ or_none (ended at (walk_at s (at + 1) marks b has))
    unfolding walk
    walk_optional e =
        let p =
        single_was s at stands.content stands.next stands.stands optional (ap (get_elem? operators) e ∙ operator_optional) in
        whole_walk
        ∙ sym (ap (λ (c : Content). walk c at marks b has) p.2)
        ∙ sym (ap (λ (q : Walked). or_none (ended at q)) (walk_at_lem s (at + 1) marks b has p.0 stands.next p.1))

    -- a type under one operator: `part` is what the walk over the type gave
    pub walk_around_type : (part : Walked) → part.nullable ≡ false → 5 ≤ get_or s at 0 → get_or s at 0 ≤ 7
        → part ≡ walk_at s (at + 1) marks (b || (not (eqb (get_or s at 0) 7) && is_marked marks (at + 1))) has
        → ended at (record { marks = part.marks; next = part.next; nullable = not (eqb (get_or s at 0) 6); final = part.final })
        ≡ walk_at s at marks b has
    walk_around_type part never low high =
        ⊎_elim
        (λ e.
        subst Goes e (λ is. ap (λ (w : Walked). or_none (ended at w)) is ∙ sym (walk_any_number (sym e))))
        (λ h.
        ⊎_elim
        (λ e.
        subst Goes e (λ is.
        ap (λ (n : Bool). ended at (record { marks = part.marks; next = part.next; nullable = n; final = part.final })) (sym never)
        ∙ ap (ended at) is
        ∙ sym (walk_one_or_more (sym e))))
        (λ k.
        let e : 7 ≡ get_or s at 0 = omega arith in
        subst Goes e (λ is.
        ap (λ (w : Walked). or_none (ended at w)) (is ∙ ap (λ (x : Bool). walk_at s (at + 1) marks x has) (or-false b))
        ∙ sym (walk_optional (sym e))))
        (eq-or-lt_of_le h))
        (eq-or-lt_of_le low)
      where
        Goes : ℕ → Type 0
        Goes op =
            part ≡ walk_at s (at + 1) marks (b || (not (eqb op 7) && is_marked marks (at + 1))) has
            → ended at (record { marks = part.marks; next = part.next; nullable = not (eqb op 6); final = part.final }) ≡ walk_at s at marks b has

-- The bytes that the code reads, and the marks that it stores, are there.
module _ {s : List ℕ} {at : ℕ} (stands : ContentAt large s at) where
  pub at_below : at < length s
  at_below = (content_inside large s at stands).0

  pub operator_small : get_or s at 0 ≤ 7
  operator_small = (content_inside large s at stands).1

  pub second_below : 2 ≤ get_or s at 0 → at + 1 < length s
  second_below h =
      ⊎_elim
      (λ e. (type_there large s at stands (sym e)).0)
      (λ k.
      ⊎_elim
      (λ low. (content_inside large s (at + 1) (operand_there large s at stands (ltb-true 4 (get_or s at 0) low))).0)
      (λ high. count_there large s at stands k (ltb-false 4 (get_or s at 0) high))
      (passes_or_fails (ltb 4 (get_or s at 0))))
      (eq-or-lt_of_le h)

-- Operand by operand.
module _ (lim : Limits) (s : List ℕ) (at count : ℕ) (row : ContentsAt lim s at count) (over : count ≤ 0) where
  row_over : row.contents ≡ []ᶜ
  row_over = (none_there lim s at count row (omega arith)).0

  module _ (n f : Bool) (marks : List ℕ) (b : Bool) (has : ℕ → Bool) where
    pub in_turn_none : walk_in_turn_at s at count marks b has n f ≡ record { marks = marks; next = at; nullable = n; final = f }
    unfolding walk
    in_turn_none =
        in_turn_at s at marks b has count row.contents row.next n f row.stand
        ∙ ap (λ (cs : Contents). walk_in_turn cs at marks b has n f) row_over

    pub each_none : walk_each_at s at count marks b has n f ≡ record { marks = marks; next = at; nullable = n; final = f }
    unfolding walk
    each_none =
        each_at s at marks b has count row.contents row.next n f row.stand
        ∙ ap (λ (cs : Contents). walk_each cs at marks b has n f) row_over

module _ (lim : Limits) (s : List ℕ) (at count : ℕ) (row : ContentsAt lim s at count) (some : 0 < count) where
  -- the first operand, and the others after it
  pub row_first : FirstThere lim s at count row
  row_first = first_of lim s at count row (λ z. omega arith)

  module _ (marks : List ℕ) (b : Bool) (has : ℕ → Bool) where
    -- the place that the walk over the first leaves
    first_end : (walk_at s at marks b has).next ≡ row_first.first.next
    first_end = walk_end lim s at row_first.first marks b has

    others_stand : exprs_at s (walk_at s at marks b has).next (count - 1)
        ≡ just (row_first.others.contents up_to row_first.others.next)
    others_stand = ap (λ (next : ℕ). exprs_at s next (count - 1)) first_end ∙ row_first.others.stand

    first_walk : walk_at s at marks b has ≡ walk row_first.first.content at marks b has
    first_walk = whole_walk lim s at row_first.first marks b has

    module _ (n f : Bool) where
      pub in_turn_next : let p = walk_at s at marks b has in
          walk_in_turn_at s at count marks b has n f
          ≡ walk_in_turn_at s p.next (count - 1) p.marks ((b && p.nullable) || is_marked marks at) has (n && p.nullable)
          ((f && p.nullable) || p.final)
      unfolding walk
      in_turn_next =
          let p = walk_at s at marks b has in
          in_turn_at s at marks b has count row.contents row.next n f row.stand
          ∙ ap (λ (cs : Contents). walk_in_turn cs at marks b has n f) row_first.both
          ∙ sym (ap (λ (q : Walked).
          walk_in_turn row_first.others.contents q.next q.marks ((b && q.nullable) || is_marked marks at) has (n && q.nullable)
          ((f && q.nullable) || q.final)) first_walk)
          ∙ sym (in_turn_at s p.next p.marks ((b && p.nullable) || is_marked marks at) has (count - 1) row_first.others.contents
          row_first.others.next (n && p.nullable) ((f && p.nullable) || p.final) others_stand)

      pub each_next : let p = walk_at s at marks b has in
          walk_each_at s at count marks b has n f
          ≡ walk_each_at s p.next (count - 1) p.marks b has (n || p.nullable) (f || p.final)
      unfolding walk
      each_next =
          let p = walk_at s at marks b has in
          each_at s at marks b has count row.contents row.next n f row.stand
          ∙ ap (λ (cs : Contents). walk_each cs at marks b has n f) row_first.both
          ∙ sym (ap (λ (q : Walked).
          walk_each row_first.others.contents q.next q.marks b has (n || q.nullable) (f || q.final)) first_walk)
          ∙ sym (each_at s p.next p.marks b has (count - 1) row_first.others.contents
          row_first.others.next (n || p.nullable) (f || p.final) others_stand)

    -- A round as the code goes: p is what the first operand gave.
    module _ (marks' : List ℕ) (p : Passed) (first : walked marks' p ≡ walk_at s at marks b has) where
      pub rest_forward : (at < p.next) × (p.next ≤ length s)
      rest_forward =
          subst (λ (w : Walked). (at < w.next) × (w.next ≤ length s)) (sym first) (walk_forward lim s at row_first.first marks b has)

      -- the operands left
      module _ (rest : ℕ) (one_less : rest ≡ count - 1) where
        pub rest_proper : ContentsAt lim s p.next rest
        rest_proper =
            subst (ContentsAt lim s p.next) (sym one_less)
            (others_from lim s at count row row_first p.next (ap (λ (w : Walked). w.next) first ∙ first_end))

        pub in_turn_goes : (n f b' n' f' : Bool) → b' ≡ ((b && p.nullable) || is_marked marks at) → n' ≡ (n && p.nullable)
            → f' ≡ ((f && p.nullable) || p.ends)
            → walk_in_turn_at s p.next rest marks' b' has n' f' ≡ walk_in_turn_at s at count marks b has n f
        in_turn_goes n f b' n' f' eb en ef =
            (λ i. walk_in_turn_at s p.next (one_less i) marks' (eb i) has (en i) (ef i))
            ∙ ap (λ (w : Walked).
            walk_in_turn_at s w.next (count - 1) w.marks ((b && w.nullable) || is_marked marks at) has (n && w.nullable)
            ((f && w.nullable) || w.final)) first
            ∙ sym (in_turn_next n f)

        pub each_goes : (n f n' f' : Bool) → n' ≡ (n || p.nullable) → f' ≡ (f || p.ends)
            → walk_each_at s p.next rest marks' b has n' f' ≡ walk_each_at s at count marks b has n f
        each_goes n f n' f' en ef =
            (λ i. walk_each_at s p.next (one_less i) marks' b has (en i) (ef i))
            ∙ ap (λ (w : Walked).
            walk_each_at s w.next (count - 1) w.marks b has (n || w.nullable) (f || w.final)) first
            ∙ sym (each_next n f)

-- Child by child, over a whole content.
module _ (s : List ℕ) (marks : List ℕ) where
  walks_at_lem : (c : Content) (next : ℕ) (b : Bool) (children : List (ℕ → Bool)) → expr_at s 0 ≡ just (c up_to next)
      → walks_at s marks b children ≡ walks c marks b children
  unfolding walks_at
  walks_at_lem c next b children e = rw (e, walks_at)

pub run_at_lem : (s : List ℕ) (c : Content) (next : ℕ) (children : List (ℕ → Bool)) → expr_at s 0 ≡ just (c up_to next)
    → run_at s children ≡ run c children
unfolding run_at
run_at_lem s c next children e = rw (e, run_at)

module _ (lim : Limits) (s : List ℕ) (stands : ContentAt lim s 0) where
  pub walks_none : (marks : List ℕ) (b : Bool) → walks_at s marks b [] ≡ marks
  unfolding walks
  walks_none marks b = walks_at_lem s marks stands.content stands.next b [] stands.stands

  pub walks_next : (marks : List ℕ) (b : Bool) (has : ℕ → Bool) (children : List (ℕ → Bool))
      → walks_at s marks b (has ∷ children) ≡ walks_at s (walk_at s 0 marks b has).marks false children
  unfolding walks
  walks_next marks b has children =
      walks_at_lem s marks stands.content stands.next b (has ∷ children) stands.stands
      ∙ ap (λ (p : Walked). walks stands.content p.marks false children)
      (sym (walk_at_lem s 0 marks b has stands.content stands.next stands.stands))
      ∙ sym (walks_at_lem s (walk_at s 0 marks b has).marks stands.content stands.next false children stands.stands)

  -- the content is all of the bytes
  module _ (all : stands.next ≡ length s) (after : List ℕ) where
    no_marks_lem : replicate (length s) 0 ++ after ≡ no_marks stands.content ++ after
    no_marks_lem =
        let w = expr_written s 0 stands.content stands.next stands.stands in
        let l : length s ≡ length (content_bytes stands.content) = omega arith in
        ap (λ (n : ℕ). replicate n 0 ++ after) l

    pub no_children_lem : (b : Bool) (has : ℕ → Bool)
        → (walk_at s 0 (replicate (length s) 0 ++ after) b has).nullable ≡ run_at s []
    unfolding run
    no_children_lem b has =
        ap (λ (marks : List ℕ). (walk_at s 0 marks b has).nullable) no_marks_lem
        ∙ ap (λ (p : Walked). p.nullable)
        (walk_at_lem s 0 (no_marks stands.content ++ after) b has stands.content stands.next stands.stands)
        ∙ walk-nullable stands.content after b has
        ∙ sym (run_at_lem s stands.content stands.next [] stands.stands)

    pub some_children : (has : ℕ → Bool) (children : List (ℕ → Bool))
        → is_marked (walks_at s (replicate (length s) 0 ++ after) true (has ∷ children)) 0 ≡ run_at s (has ∷ children)
    some_children has children =
        ap (λ (marks : List ℕ). is_marked (walks_at s marks true (has ∷ children)) 0) no_marks_lem
        ∙ ap (λ (marks : List ℕ). is_marked marks 0)
        (walks_at_lem s (no_marks stands.content ++ after) stands.content stands.next true (has ∷ children) stands.stands)
        ∙ walks_run stands.content after has children
        ∙ sym (run_at_lem s stands.content stands.next (has ∷ children) stands.stands)

-- Sets that stand one after the other.
pub tests_none : (words : List ℕ) (at : ℕ) → tests_at words at 0 ≡ []
unfolding tests_at
tests_none words at = refl

pub tests_next : (words : List ℕ) (at n : ℕ) → (n ≡ 0 → ⊥) → tests_at words at n ≡ set_at words at ∷ tests_at words (at + 4) (n - 1)
unfolding tests_at
tests_next words at n some =
    let e : n ≡ suc (n - 1) = omega arith in
    ap (tests_at words at) e

-- A round of the loop over the children.
module _ (lim : Limits) (s words : List ℕ) (stands : ContentAt lim s 0) (top count : ℕ) where
  pub walks_round : (i : ℕ) (marks marks' : List ℕ) (p : Passed) (b : Bool) → i < count
      → walked marks' p ≡ walk_at s 0 marks b (set_at words (top + 4 * i))
      → walks_at s marks' (eqb (i + 1) 0) (tests_at words (top + 4 * (i + 1)) (count - (i + 1)))
      ≡ walks_at s marks b (tests_at words (top + 4 * i) (count - i))
  walks_round i marks marks' p b h e =
      let has = set_at words (top + 4 * i) in
      let later : eqb (i + 1) 0 ≡ false = ne_eqb (i + 1) 0 (λ q. omega arith) in
      let place : top + 4 * (i + 1) ≡ top + 4 * i + 4 = omega arith in
      let left : count - (i + 1) ≡ count - i - 1 = omega arith in
      (λ j. walks_at s (e j).marks (later j) (tests_at words (place j) (left j)))
      ∙ sym (walks_next lim s stands marks b has (tests_at words (top + 4 * i + 4) (count - i - 1)))
      ∙ sym (ap (walks_at s marks b) (tests_next words (top + 4 * i) (count - i) (λ q. omega arith)))

  pub walks_over : (marks : List ℕ) (b : Bool) (i : ℕ) → i ≤ count → count ≤ i
      → walks_at s marks b (tests_at words (top + 4 * i) (count - i)) ≡ marks
  walks_over marks b i h k =
      let none : count - i ≡ 0 = omega arith in
      ap (λ (n : ℕ). walks_at s marks b (tests_at words (top + 4 * i) n)) none
      ∙ ap (walks_at s marks b) (tests_none words (top + 4 * i))
      ∙ walks_none lim s stands marks b

-- what the children's walks say of the content
module _ (lim : Limits) (s words : List ℕ) (whole : WholeAt lim s) (top count : ℕ) (after : List ℕ) where
  pub match_none : count ≡ 0 → (b : Bool) (has : ℕ → Bool)
      → (walk_at s 0 (replicate (length s) 0 ++ after) b has).nullable ≡ run_at s (tests_at words top count)
  match_none e b has =
      no_children_lem lim s whole.proper_at whole.whole after b has
      ∙ ap (run_at s) (sym (ap (tests_at words top) e ∙ tests_none words top))

  pub match_some : (count ≡ 0 → ⊥)
      → is_marked (walks_at s (replicate (length s) 0 ++ after) true (tests_at words top count)) 0 ≡ run_at s (tests_at words top count)
  match_some some =
      let next = tests_next words top count some in
      ap (λ (l : List (ℕ → Bool)). is_marked (walks_at s (replicate (length s) 0 ++ after) true l) 0) next
      ∙ some_children lim s whole.proper_at whole.whole after (set_at words top) (tests_at words (top + 4) (count - 1))
      ∙ ap (run_at s) (sym next)
