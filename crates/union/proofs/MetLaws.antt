-- The pairs met in the content at a place, after some numbers, operator by operator and operand by operand.
use Prim.Native.Nat.{ℕ, zero, suc, ◌+◌, ◌-◌, ◌≤◌, ◌<◌}
use native.Mathlib.Omega.{arith}
use mathlib.Core.Bool.{Bool, true, false, not, ◌&&◌, ◌||◌}
use mathlib.Core.List.Memᴰ
use mathlib.Core.List.{List, [], ◌∷◌, ◌++◌, append-nil, append_assoc, Memᴰ}
use mathlib.Core.Logic.{⊎_elim}
use mathlib.Core.Option.{some as just}
use mathlib.Core.Path.{◌≡◌, refl, sym, ◌∙◌, ap, ap₂, subst}
use lib.ListN.{length, get_or, get_elem?, take, drop, length-drop}
use lib.Seq.{length-take-le}
use lib.Dec.{eqb, ltb}
use borrow.Author.Tests.{lt-ltb, le-ltb}
use Rattle.grammar.specs.Limits.{large}
use Rattle.grammar.specs.Lists.{distinct}
use Rattle.grammar.specs.ReadTable.{is_empty}
use Rattle.grammar.specs.Content.{Content, none, empty, type, sequence, choice, any_number, one_or_more, optional, Contents, []ᶜ, ◌∷ᶜ◌}
use Rattle.grammar.specs.ReadContent.{operators}
use Rattle.theory.specs.Alternatives.{has_alts, all_have_alts, one_has_alts, some_left, only_if, pairs_met, pairs_met_all}
use Rattle.theory.proofs.Lists.ListLaws.{eqb_decides}
use Rattle.theory.proofs.Lists.DistinctLaws.{distinct_left}
use Rattle.sets.specs.Sets.{member, put_at}
use Rattle.sets.specs.declared.set.Set.{Set}
use Rattle.reader.specs.ExprAt.{◌up_to◌, placed, expr_at, exprs_at}
use Rattle.reader.proofs.ExprLaws.{
  placed_from,
  expr_alone,
  expr_numbered,
  expr_counted,
  expr_single,
  exprs_none,
  exprs_more,
  operator_none,
  operator_empty,
  operator_type,
  operator_sequence,
  operator_choice,
  operator_any_number,
  operator_one_or_more,
  operator_optional,
}
use Rattle.union.specs.declared.met.MetOne.{MetOne}
use Rattle.union.specs.declared.met.MetRow.{MetRow}
use Rattle.reader.proofs.ContentAtLaws.{placed_of, content_inside, type_there, count_there, operands_there, first_of, others_there}
use Rattle.union.specs.Walks.{
  list_of_type,
  Listed,
  Once,
  Adds,
  SeenListed,
  TypeMet,
  met_at,
  met_row_at,
  MetAsks,
  MetRowAsks,
  MetFinds,
  MetRowFinds,
  sequence_met,
}
use Rattle.union.proofs.ProductiveLaws.{placed_through}
use Rattle.union.proofs.OnceLaws.{adds_once, adds_same, front_kept, part_below}
use Rattle.union.proofs.SeenLaws.{seen_again, seen_put}

module _ (left : ℕ → List ℕ) (numbers s : List ℕ) (at : ℕ) where
  -- of a content, and of contents
  abbrev one_met : Content → Bool × List ℕ
  one_met c = (has_alts (some_left left) c, distinct eqb (numbers ++ pairs_met left c))

  abbrev row_met : Contents → Bool × Bool × List ℕ
  row_met cs = (all_have_alts (some_left left) cs, one_has_alts (some_left left) cs, distinct eqb (numbers ++ pairs_met_all left cs))

  module _ (once : distinct eqb numbers ≡ numbers) where
    nothing_more : distinct eqb (numbers ++ []) ≡ numbers
    nothing_more = ap (distinct eqb) (append-nil numbers) ∙ once

    pub met_none : at < length s → get_or s at 0 ≡ 0 → met_at left numbers s at ≡ just ((false, numbers) up_to (at + 1))
    unfolding has_alts pairs_met
    met_none h e =
        ap (placed one_met) (expr_alone s at h none (ap (get_elem? operators) e ∙ operator_none))
        ∙ ap (λ (l : List ℕ). just ((false, l) up_to (at + 1))) nothing_more

    pub met_empty : at < length s → get_or s at 0 ≡ 1 → met_at left numbers s at ≡ just ((true, numbers) up_to (at + 1))
    unfolding has_alts pairs_met
    met_empty h e =
        ap (placed one_met) (expr_alone s at h empty (ap (get_elem? operators) e ∙ operator_empty))
        ∙ ap (λ (l : List ℕ). just ((true, l) up_to (at + 1))) nothing_more

    -- a sequence with an operand that has no alternatives
    pub met_sequence_not : (one : Bool) (after : List ℕ) (next : ℕ) → at + 1 < length s
        → met_row_at left numbers s (at + 2) (get_or s (at + 1) 0) ≡ just ((false, one, after) up_to next)
        → get_or s at 0 ≡ 3
        → met_at left numbers s at ≡ just ((false, numbers) up_to next)
    unfolding has_alts pairs_met
    met_sequence_not one after next h row e =
        let r = placed_from row_met (exprs_at s (at + 2) (get_or s (at + 1) 0)) (false, one, after) next row in
        let all : all_have_alts (some_left left) r.0 ≡ false = ap (λ (p : Bool × Bool × List ℕ). p.0) r.2 in
        ap (placed one_met)
        (expr_counted s at h sequence (ap (get_elem? operators) e ∙ operator_sequence) ∙ ap (placed sequence) r.1)
        ∙ ap (λ (b : Bool). just ((b, distinct eqb (numbers ++ only_if b (pairs_met_all left r.0))) up_to next)) all
        ∙ ap (λ (l : List ℕ). just ((false, l) up_to next)) nothing_more

    pub row_none : met_row_at left numbers s at zero ≡ just ((true, false, numbers) up_to at)
    unfolding has_alts pairs_met
    row_none = ap (placed row_met) (exprs_none s at) ∙ ap (λ (l : List ℕ). just ((true, false, l) up_to at)) nothing_more

  pub met_type : (has : Bool) (after : List ℕ) → at + 1 < length s → get_or s at 0 ≡ 2 → has ≡ some_left left (get_or s (at + 1) 0)
      → after ≡ distinct eqb (numbers ++ left (get_or s (at + 1) 0))
      → met_at left numbers s at ≡ just ((has, after) up_to (at + 2))
  unfolding has_alts pairs_met
  met_type has after h e p q =
      ap (placed one_met) (expr_numbered s at h type (ap (get_elem? operators) e ∙ operator_type))
      ∙ ap₂ (λ (b : Bool) (l : List ℕ). just ((b, l) up_to (at + 2))) (sym p) (sym q)

  module _ (one : Bool) (after : List ℕ) (next : ℕ) (inside : at + 1 < length s) where
    pub met_sequence : met_row_at left numbers s (at + 2) (get_or s (at + 1) 0) ≡ just ((true, one, after) up_to next)
        → get_or s at 0 ≡ 3
        → met_at left numbers s at ≡ just ((true, after) up_to next)
    unfolding has_alts pairs_met
    met_sequence row e =
        let r = placed_from row_met (exprs_at s (at + 2) (get_or s (at + 1) 0)) (true, one, after) next row in
        let all : all_have_alts (some_left left) r.0 ≡ true = ap (λ (p : Bool × Bool × List ℕ). p.0) r.2 in
        ap (placed one_met)
        (expr_counted s at inside sequence (ap (get_elem? operators) e ∙ operator_sequence) ∙ ap (placed sequence) r.1)
        ∙ ap (λ (b : Bool). just ((b, distinct eqb (numbers ++ only_if b (pairs_met_all left r.0))) up_to next)) all
        ∙ ap (λ (p : Bool × Bool × List ℕ). just ((true, p.2) up_to next)) r.2

    pub met_choice : (all : Bool) → met_row_at left numbers s (at + 2) (get_or s (at + 1) 0) ≡ just ((all, one, after) up_to next)
        → get_or s at 0 ≡ 4
        → met_at left numbers s at ≡ just ((one, after) up_to next)
    unfolding has_alts pairs_met
    met_choice all row e =
        ap (placed one_met) (expr_counted s at inside choice (ap (get_elem? operators) e ∙ operator_choice))
        ∙ placed_through choice one_met row_met (λ (p : Bool × Bool × List ℕ). (p.1, p.2)) (exprs_at s (at + 2) (get_or s (at + 1) 0))
        (all, one, after) next (λ cs. refl) row

  module _ (has : Bool) (after : List ℕ) (next : ℕ) (inside : at < length s)
      (operand : met_at left numbers s (at + 1) ≡ just ((has, after) up_to next)) where
    met_any_number : get_or s at 0 ≡ 5 → met_at left numbers s at ≡ just ((true, after) up_to next)
    unfolding has_alts pairs_met
    met_any_number e =
        ap (placed one_met) (expr_single s at inside any_number (ap (get_elem? operators) e ∙ operator_any_number))
        ∙ placed_through any_number one_met one_met (λ (p : Bool × List ℕ). (true, p.1)) (expr_at s (at + 1)) (has, after) next
        (λ c. refl) operand

    pub met_one_or_more : get_or s at 0 ≡ 6 → met_at left numbers s at ≡ just ((has, after) up_to next)
    unfolding has_alts pairs_met
    met_one_or_more e =
        ap (placed one_met) (expr_single s at inside one_or_more (ap (get_elem? operators) e ∙ operator_one_or_more))
        ∙ placed_through one_or_more one_met one_met (λ (p : Bool × List ℕ). p) (expr_at s (at + 1)) (has, after) next (λ c. refl) operand

    met_optional : get_or s at 0 ≡ 7 → met_at left numbers s at ≡ just ((true, after) up_to next)
    unfolding has_alts pairs_met
    met_optional e =
        ap (placed one_met) (expr_single s at inside optional (ap (get_elem? operators) e ∙ operator_optional))
        ∙ placed_through optional one_met one_met (λ (p : Bool × List ℕ). (true, p.1)) (expr_at s (at + 1)) (has, after) next
        (λ c. refl) operand

    pub met_around : 5 ≤ get_or s at 0 → get_or s at 0 ≤ 7 → (get_or s at 0 ≡ 6 → ⊥)
        → met_at left numbers s at ≡ just ((true, after) up_to next)
    met_around low high other = go (get_or s at 0 - 5) refl
      where
        go : (k : ℕ) → get_or s at 0 - 5 ≡ k → met_at left numbers s at ≡ just ((true, after) up_to next)
        go zero e = met_any_number (omega arith)
        go (suc zero) e = absurd (other (omega arith))
        go (suc (suc k)) e = met_optional (omega arith)

  -- the first of a row, and then the others after it
  row_more : (n : ℕ) (has : Bool) (after : List ℕ) (middle : ℕ) (all one : Bool) (last : List ℕ) (next : ℕ)
      → met_at left numbers s at ≡ just ((has, after) up_to middle)
      → met_row_at left after s middle n ≡ just ((all, one, last) up_to next)
      → met_row_at left numbers s at (suc n) ≡ just ((has && all, has || one, last) up_to next)
  unfolding has_alts pairs_met
  row_more n has after middle all one last next h r =
      let f = placed_from one_met (expr_at s at) (has, after) middle h in
      let o = placed_from (λ cs. (all_have_alts (some_left left) cs, one_has_alts (some_left left) cs, distinct eqb (after ++ pairs_met_all left cs)))
      (exprs_at s middle n) (all, one, last) next r in
      let joined : distinct eqb (numbers ++ (pairs_met left f.0 ++ pairs_met_all left o.0)) ≡ distinct eqb (after ++ pairs_met_all left o.0) =
      ap (distinct eqb) (sym (append_assoc numbers (pairs_met left f.0) (pairs_met_all left o.0)))
      ∙ sym (distinct_left eqb eqb_decides (numbers ++ pairs_met left f.0) (pairs_met_all left o.0))
      ∙ ap (λ (p : Bool × List ℕ). distinct eqb (p.1 ++ pairs_met_all left o.0)) f.2 in
      ap (placed row_met)
      (exprs_more s at n f.0 middle f.1 ∙ ap (placed (λ cs. f.0 ∷ᶜ cs)) o.1)
      ∙ ap (λ (l : List ℕ).
      just
      ((
        has_alts (some_left left) f.0 && all_have_alts (some_left left) o.0,
        has_alts (some_left left) f.0 || one_has_alts (some_left left) o.0,
        l,
      )
      up_to next)) joined
      ∙ ap₂ (λ (p : Bool × List ℕ) (q : Bool × Bool × List ℕ). just ((p.0 && q.0, p.0 || q.1, q.2) up_to next)) f.2 o.2

  pub row_next : (n : ℕ) (has : Bool) (after : List ℕ) (middle : ℕ) (all one a o : Bool) (last : List ℕ) (next : ℕ) → (n ≡ 0 → ⊥)
      → met_at left numbers s at ≡ just ((has, after) up_to middle)
      → met_row_at left after s middle (n - 1) ≡ just ((all, one, last) up_to next)
      → a ≡ (has && all)
      → o ≡ (has || one)
      → met_row_at left numbers s at n ≡ just ((a, o, last) up_to next)
  row_next n has after middle all one a o last next some h r p q =
      let e : n ≡ suc (n - 1) = omega arith in
      ap (met_row_at left numbers s at) e
      ∙ row_more (n - 1) has after middle all one last next h r
      ∙ ap₂ (λ (x y : Bool). just ((x, y, last) up_to next)) (sym p) (sym q)

-- the numbers of a type: whether there are any
not_empty : (l : List ℕ) (n : ℕ) → length l ≡ n → not (is_empty l) ≡ ltb 0 n
not_empty [] n e = sym (le-ltb 0 n (omega arith))
not_empty (x ∷ l) n e = sym (lt-ltb 0 n (omega arith))

pub some_listed : (from pairs : List ℕ) (k : ℕ) → get_or from k 0 ≤ get_or from (k + 1) 0 → get_or from (k + 1) 0 ≤ length pairs
    → ltb (get_or from k 0) (get_or from (k + 1) 0) ≡ some_left (list_of_type from pairs) k
unfolding some_left list_of_type
some_listed from pairs k h i =
    let d = length-drop (get_or from k 0) pairs in
    let l = length-take-le (get_or from (k + 1) 0 - get_or from k 0) (drop (get_or from k 0) pairs) (omega arith) in
    shift (get_or from k 0) (get_or from (k + 1) 0) h
    ∙ sym (not_empty (take (get_or from (k + 1) 0 - get_or from k 0) (drop (get_or from k 0) pairs)) (get_or from (k + 1) 0 - get_or from k 0) l)
  where
    shift : (a b : ℕ) → a ≤ b → ltb a b ≡ ltb 0 (b - a)
    shift a b h = go (b - a) refl
      where
        go : (n : ℕ) → b - a ≡ n → ltb a b ≡ ltb 0 (b - a)
        go zero e = le-ltb a b (omega arith) ∙ sym (le-ltb 0 (b - a) (omega arith))
        go (suc n) e = lt-ltb a b (omega arith) ∙ sym (lt-ltb 0 (b - a) (omega arith))

-- a type's numbers as a part, and their bound
listed_part : (from pairs : List ℕ) (k first end : ℕ) → first ≡ get_or from k 0 → end ≡ get_or from (k + 1) 0
    → take (end - first) (drop first pairs) ≡ list_of_type from pairs k
unfolding list_of_type
listed_part from pairs k first end p q = ap₂ (λ (a b : ℕ). take (b - a) (drop a pairs)) p q

pub listed_below : (types bound : ℕ) (from pairs : List ℕ) → Listed types bound from pairs → (k p : ℕ)
    → Memᴰ p (list_of_type from pairs k) → p < bound
unfolding list_of_type
listed_below types bound from pairs h k p m =
    part_below pairs bound h.below (get_or from k 0) (get_or from (k + 1) 0 - get_or from k 0) p m

-- the numbers of a type: those of one that was seen are there already
module _ (from pairs list : List ℕ) (count k first end next : ℕ) (seen : Set 4) (small : k < 128) (lists : Listed 128 256 from pairs)
    (once : Once 256 list count) (known : SeenListed seen.words (list_of_type from pairs) (take count list)) (f : first ≡ get_or from k 0)
    (g : end ≡ get_or from (k + 1) 0) where
  some_there : ltb first end ≡ some_left (list_of_type from pairs) k
  some_there = ap₂ ltb f g ∙ some_listed from pairs k (lists.order k small) (lists.inside k small)

  pub type_again : member seen.words 0 k ≡ true
      → TypeMet (list_of_type from pairs) (take count list) k next list
      (record { has = ltb first end; count = count; next = next; seen = seen })
  type_again e = record { has = some_there; adds = seen_again once known k e; next = refl; known = known }

  pub type_new : (list' : List ℕ) (more : ℕ) (after : Set 4)
      → Adds (take count list) (take (end - first) (drop first pairs)) list' more
      → after.words ≡ put_at seen.words 0 k
      → TypeMet (list_of_type from pairs) (take count list) k next list'
      (record { has = ltb first end; count = more; next = next; seen = after })
  type_new list' more after a put =
      let adds = adds_same (listed_part from pairs k first end f g) a in
      record { has = some_there; adds = adds; next = refl; known = seen_put known k (omega arith) put adds }

-- what holds of all pairs of types holds of those met
module _ (left : ℕ → List ℕ) (P : ℕ → Type 0) (each : (k p : ℕ) → Memᴰ p (left k) → P p) where
  only : (b : Bool) (xs : List ℕ) (p : ℕ) → ((q : ℕ) → Memᴰ q xs → P q) → Memᴰ p (only_if b xs) → P p
  unfolding only_if
  only true xs p h m = h p m
  only false xs p h m = elim m [ ]

  mutual
    unfolding pairs_met

    pub met_hold : (c : Content) (p : ℕ) → Memᴰ p (pairs_met left c) → P p
    met_hold none p m = elim m [ ]
    met_hold empty p m = elim m [ ]
    met_hold (type k) p m = each k p m
    met_hold (sequence cs) p m = only (all_have_alts (some_left left) cs) (pairs_met_all left cs) p (λ q n. all_met_hold cs q n) m
    met_hold (choice cs) p m = all_met_hold cs p m
    met_hold (any_number c) p m = met_hold c p m
    met_hold (one_or_more c) p m = met_hold c p m
    met_hold (optional c) p m = met_hold c p m

    pub all_met_hold : (cs : Contents) (p : ℕ) → Memᴰ p (pairs_met_all left cs) → P p
    all_met_hold []ᶜ p m = elim m [ ]
    all_met_hold (c ∷ᶜ cs) p m =
        ⊎_elim (λ n. met_hold c p n) (λ n. all_met_hold cs p n) (Memᴰ.append_cases (pairs_met left c) m)

-- The walk's answers, by the same laws.
pub finds_adds : (left : ℕ → List ℕ) (numbers s : List ℕ) (at : ℕ) (list : List ℕ) (r : MetOne) (c : Content) (next : ℕ)
    → expr_at s at ≡ just (c up_to next) → MetFinds left numbers s at list r
    → (r.has ≡ has_alts (some_left left) c) × (r.next ≡ next) × Adds numbers (pairs_met left c) list r.count
finds_adds left numbers s at list r c next e f =
    let q = placed_of (one_met left numbers s at) (expr_at s at) e f.found in (
      ap (λ (p : Bool × List ℕ). p.0) q.0,
      q.1,
      record { all = ap (λ (p : Bool × List ℕ). p.1) q.0; held = f.held },
    )

pub row_finds_adds : (left : ℕ → List ℕ) (numbers s : List ℕ) (at n : ℕ) (list : List ℕ) (r : MetRow) (cs : Contents) (next : ℕ)
    → exprs_at s at n ≡ just (cs up_to next) → MetRowFinds left numbers s at n list r
    → Adds numbers (pairs_met_all left cs) list r.count
row_finds_adds left numbers s at n list r cs next e f =
    let q = placed_of (row_met left numbers s at) (exprs_at s at n) e f.found in
    record { all = ap (λ (p : Bool × Bool × List ℕ). p.2) q.0; held = f.held }

-- after a content the list is as it was asked to be
pub finds_once : (s : List ℕ) (at : ℕ) (from pairs list : List ℕ) (count : ℕ) (list' : List ℕ) (r : MetOne)
    → MetAsks s at from pairs list count
    → MetFinds (list_of_type from pairs) (take count list) s at list' r
    → length list' ≡ length list
    → Once 256 list' r.count
finds_once s at from pairs list count list' r a f e =
    let c = a.there.content in
    let d = (finds_adds (list_of_type from pairs) (take count list) s at list' r c a.there.next a.there.stands f).2 in
    adds_once 256 list count a.once (pairs_met (list_of_type from pairs) c) list' r.count
    (met_hold (list_of_type from pairs) (λ p. p < 256) (listed_below 128 256 from pairs a.lists) c)
    d
    e

module _ (s : List ℕ) (at : ℕ) (from pairs list : List ℕ) (count : ℕ) where
  abbrev left : ℕ → List ℕ
  left = list_of_type from pairs

  abbrev numbers : List ℕ
  numbers = take count list

  pub none_finds : (seen : Set 4) → MetAsks s at from pairs list count → SeenListed seen.words left numbers → get_or s at 0 ≡ 0
      → MetFinds (list_of_type from pairs) (take count list) s at list (record { has = false; count = count; next = at + 1; seen = seen })
  none_finds seen a k e =
      record {
        found = met_none left numbers s at a.once.once (content_inside large s at a.there).0 e;
        held = a.once.held;
        known = k;
      }

  pub empty_finds : (seen : Set 4) → MetAsks s at from pairs list count → SeenListed seen.words left numbers → get_or s at 0 ≡ 1
      → MetFinds (list_of_type from pairs) (take count list) s at list (record { has = true; count = count; next = at + 1; seen = seen })
  empty_finds seen a k e =
      record {
        found = met_empty left numbers s at a.once.once (content_inside large s at a.there).0 e;
        held = a.once.held;
        known = k;
      }

  pub type_finds : (list' : List ℕ) (r : MetOne) (k : ℕ) → MetAsks s at from pairs list count → get_or s at 0 ≡ 2
      → k ≡ get_or s (at + 1) 0
      → TypeMet (list_of_type from pairs) (take count list) k (at + 2) list' r
      → MetFinds (list_of_type from pairs) (take count list) s at list' r
  type_finds list' r k a e t m =
      record {
        found =
            met_type left numbers s at r.has (take r.count list') (type_there large s at a.there e).0 e
            (m.has ∙ ap (some_left left) t)
            (m.adds.all ∙ ap (λ (j : ℕ). distinct eqb (numbers ++ left j)) t)
            ∙ ap (λ (n : ℕ). just ((r.has, take r.count list') up_to n)) (sym m.next);
        held = m.adds.held;
        known = m.known;
      }

  module _ (list' : List ℕ) (r : MetRow) (n : ℕ) (a : MetAsks s at from pairs list count) (counts : n ≡ get_or s (at + 1) 0)
      (row : MetRowFinds (list_of_type from pairs) (take count list) s (at + 2) n list' r) where
    sequence_finds_all : get_or s at 0 ≡ 3 → r.all ≡ true
        → MetFinds (list_of_type from pairs) (take count list) s at list' (record { has = true; count = r.count; next = r.next; seen = r.seen })
    sequence_finds_all e all =
        record {
          found =
              met_sequence left numbers s at r.one (take r.count list') r.next
              (count_there large s at a.there (omega arith) (omega arith))
              (ap (met_row_at left numbers s (at + 2)) (sym counts)
              ∙ row.found
              ∙ ap (λ (b : Bool). just ((b, r.one, take r.count list') up_to r.next)) all)
              e;
          held = row.held;
          known = row.known;
        }

    sequence_finds_none : (seen : Set 4) → SeenListed seen.words left numbers → get_or s at 0 ≡ 3 → r.all ≡ false
        → length list' ≡ length list
        → MetFinds (list_of_type from pairs) (take count list) s at list'
        (record { has = false; count = count; next = r.next; seen = seen })
    sequence_finds_none seen known e all same =
        let there = operands_there large s at a.there (omega arith) (omega arith) in
        let stand = ap (exprs_at s (at + 2)) counts ∙ there.stand in
        let adds = row_finds_adds left numbers s (at + 2) n list' r there.contents there.next stand row in
        let kept = front_kept 256 list count a.once (pairs_met_all left there.contents) list' r.count adds in
        record {
          found =
              met_sequence_not left numbers s at a.once.once r.one (take r.count list') r.next
              (count_there large s at a.there (omega arith) (omega arith))
              (ap (met_row_at left numbers s (at + 2)) (sym counts)
              ∙ row.found
              ∙ ap (λ (b : Bool). just ((b, r.one, take r.count list') up_to r.next)) all)
              e
              ∙ ap (λ (l : List ℕ). just ((false, l) up_to r.next)) (sym kept);
          held = subst (λ (m : ℕ). count ≤ m) (sym same) a.once.held;
          known = subst (λ (l : List ℕ). SeenListed seen.words left l) (sym kept) known;
        }

    pub sequence_finds : (seen : Set 4) → SeenListed seen.words left numbers → get_or s at 0 ≡ 3 → length list' ≡ length list
        → MetFinds (list_of_type from pairs) (take count list) s at list' (sequence_met r count seen)
    sequence_finds seen known e same = go r.all refl
      where
        go : (b : Bool) → r.all ≡ b → MetFinds (list_of_type from pairs) (take count list) s at list' (sequence_met r count seen)
        go true all = rw all (sequence_finds_all e all)
        go false all = rw all (sequence_finds_none seen known e all same)

    pub choice_finds : get_or s at 0 ≡ 4
        → MetFinds (list_of_type from pairs) (take count list) s at list' (record { has = r.one; count = r.count; next = r.next; seen = r.seen })
    choice_finds e =
        record {
          found =
              met_choice left numbers s at r.one (take r.count list') r.next
              (count_there large s at a.there (omega arith) (omega arith))
              r.all
              (ap (met_row_at left numbers s (at + 2)) (sym counts) ∙ row.found)
              e;
          held = row.held;
          known = row.known;
        }

  module _ (list' : List ℕ) (r : MetOne) (a : MetAsks s at from pairs list count)
      (operand : MetFinds (list_of_type from pairs) (take count list) s (at + 1) list' r) where
    pub one_or_more_finds : get_or s at 0 ≡ 6 → MetFinds (list_of_type from pairs) (take count list) s at list' r
    one_or_more_finds e =
        record {
          found =
              met_one_or_more left numbers s at r.has (take r.count list') r.next (content_inside large s at a.there).0
              operand.found e;
          held = operand.held;
          known = operand.known;
        }

    pub around_finds : 5 ≤ get_or s at 0 → (get_or s at 0 ≡ 6 → ⊥)
        → MetFinds (list_of_type from pairs) (take count list) s at list' (record { has = true; count = r.count; next = r.next; seen = r.seen })
    around_finds low other =
        let i = content_inside large s at a.there in
        record {
          found =
              met_around left numbers s at r.has (take r.count list') r.next i.0 operand.found low i.1 other;
          held = operand.held;
          known = operand.known;
        }

  pub no_row_finds : (n : ℕ) (seen : Set 4) → MetRowAsks s at n from pairs list count → SeenListed seen.words left numbers → n ≡ 0
      → MetRowFinds (list_of_type from pairs) (take count list) s at n list
      (record { all = true; one = false; count = count; next = at; seen = seen })
  no_row_finds n seen a k e =
      record {
        found = ap (met_row_at left numbers s at) e ∙ row_none left numbers s at a.once.once;
        held = a.once.held;
        known = k;
      }

  pub row_finds : (n : ℕ) (list' list'' : List ℕ) (first : MetOne) (others : MetRow) (all one : Bool) → (n ≡ 0 → ⊥)
      → MetFinds (list_of_type from pairs) (take count list) s at list' first
      → MetRowFinds (list_of_type from pairs) (take first.count list') s first.next (n - 1) list'' others
      → all ≡ (first.has && others.all)
      → one ≡ (first.has || others.one)
      → MetRowFinds (list_of_type from pairs) (take count list) s at n list''
      (record { all = all; one = one; count = others.count; next = others.next; seen = others.seen })
  row_finds n list' list'' first others all one some f o p q =
      record {
        found =
            row_next left numbers s at n first.has (take first.count list') first.next others.all others.one all one
            (take others.count list'') others.next some f.found o.found p q;
        held = o.held;
        known = o.known;
      }

  -- what the calls for the first of a row and for the others ask
  pub first_asks : (n : ℕ) → MetRowAsks s at n from pairs list count → (n ≡ 0 → ⊥) → MetAsks s at from pairs list count
  first_asks n a some = record { there = (first_of large s at n a.there some).first; lists = a.lists; once = a.once }

  pub others_ask : (n : ℕ) (list' : List ℕ) (r : MetOne) → MetRowAsks s at n from pairs list count → (n ≡ 0 → ⊥)
      → MetFinds (list_of_type from pairs) (take count list) s at list' r
      → length list' ≡ length list
      → (at < r.next) × MetRowAsks s r.next (n - 1) from pairs list' r.count
  others_ask n list' r a some f same =
      let o =
      others_there large s at n a.there some (one_met left numbers s at) (r.has, take r.count list') r.next f.found in (
        o.0,
        record {
          there = o.1;
          lists = a.lists;
          once = finds_once s at from pairs list count list' r (first_asks n a some) f same;
        },
      )
