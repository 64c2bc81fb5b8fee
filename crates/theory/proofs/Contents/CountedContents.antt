-- Counted contents: every sequence has from 2 operands to as many as the limit allows, and every choice at least 2.
--     operands_count        as many operands as there are contents
--     proper_counted        a proper content is counted
--     counted_proper        a counted content with no choice too wide and all types in range is proper
--     choice_counted        the choice of counted contents is counted
--     replace_counted       and so is a counted content with counted contents in place of types,
--     simplify_counted      simplified (prune_counted: pruned),
--     tidy_counted          or tidied
use Prim.Native.Nat.{ℕ, suc, ◌≤◌, ◌<◌}
use native.Mathlib.Omega.{arith}
use mathlib.Core.Bool.{Bool, true, false, not}
use mathlib.Core.List.Memᴰ
use mathlib.Core.List.{List, [], ◌∷◌, Memᴰ}
use mathlib.Core.Path.{◌≡◌, refl, ap}
use lib.ListN.{length}
use borrow.Author.Tests.{lt-ltb}
use Rattle.grammar.specs.Lists.{any_pass, keep, distinct, joined_of, is_in}
use Rattle.grammar.specs.Limits.{Limits}
use Rattle.grammar.specs.Content.{
  Content,
  none,
  empty,
  type,
  sequence,
  choice,
  any_number,
  one_or_more,
  optional,
  Contents,
  []ᶜ,
  ◌∷ᶜ◌,
  types_in,
  types_in_all,
  operand_count,
  operands,
  choice_of,
  replace,
  replace_all,
}
use Rattle.grammar.specs.ReadContent.{is_proper, are_proper, same_content}
use Rattle.grammar.specs.Size.{widest_choice, widest_of}
use Rattle.grammar.specs.Reduce.{is_none, simplify, simplify_all, prune}
use Rattle.grammar.specs.Tidy.{list_of, alternatives, tidy, tidy_all}
use Rattle.theory.specs.Conditions.{Counted, AllCounted}
use Rattle.theory.proofs.Lists.BoolLaws.{and_left, and_right, and_intro}
use Rattle.theory.proofs.Lists.ListLaws.{kept, distinct_was, joined_from, Each, each_none, each_cons}
use Rattle.theory.proofs.Contents.ProperContents.{proper_operands}

pub operands_count : (cs : List Content) → operand_count (operands cs) ≡ length cs
unfolding operand_count operands
operands_count [] = refl
operands_count (c ∷ cs) = ap suc (operands_count cs)

mutual
  unfolding is_proper are_proper

  pub proper_counted : (c : Content) (lim : Limits) → is_proper lim c ≡ true → Counted lim c
  proper_counted none lim e = tt
  proper_counted empty lim e = tt
  proper_counted (type k) lim e = tt
  proper_counted (sequence cs) lim e =
      let (some, few, proper) = (proper_operands lim cs).0 e in
      (some, few, all_proper_counted cs lim proper)
  proper_counted (choice cs) lim e =
      let (some, few, proper) = (proper_operands lim cs).0 e in
      (some, all_proper_counted cs lim proper)
  proper_counted (any_number c) lim e = proper_counted c lim e
  proper_counted (one_or_more c) lim e = proper_counted c lim e
  proper_counted (optional c) lim e = proper_counted c lim e

  pub all_proper_counted : (cs : Contents) (lim : Limits) → are_proper lim cs ≡ true → AllCounted lim cs
  all_proper_counted []ᶜ lim e = tt
  all_proper_counted (c ∷ᶜ cs) lim e = (
    proper_counted c lim (and_left (is_proper lim c) (are_proper lim cs) e),
    all_proper_counted cs lim (and_right (is_proper lim c) (are_proper lim cs) e),
  )

mutual
  unfolding is_proper are_proper types_in types_in_all widest_choice widest_of

  pub counted_proper : (c : Content) (lim : Limits) → Counted lim c → widest_choice c ≤ lim.operands
      → ((k : ℕ) → Memᴰ k (types_in c) → k < lim.types) → is_proper lim c ≡ true
  counted_proper none lim h w t = refl
  counted_proper empty lim h w t = refl
  counted_proper (type k) lim h w t = lt-ltb k lim.types (t k (Memᴰ.head refl))
  counted_proper (sequence cs) lim h w t = (proper_operands lim cs).1 (h.0, h.1, all_counted_proper cs lim h.2 w t)
  counted_proper (choice cs) lim h w t =
      (proper_operands lim cs).1 (h.0, omega arith, all_counted_proper cs lim h.1 (omega arith) t)
  counted_proper (any_number c) lim h w t = counted_proper c lim h w t
  counted_proper (one_or_more c) lim h w t = counted_proper c lim h w t
  counted_proper (optional c) lim h w t = counted_proper c lim h w t

  pub all_counted_proper : (cs : Contents) (lim : Limits) → AllCounted lim cs → widest_of cs ≤ lim.operands
      → ((k : ℕ) → Memᴰ k (types_in_all cs) → k < lim.types) → are_proper lim cs ≡ true
  all_counted_proper []ᶜ lim h w t = refl
  all_counted_proper (c ∷ᶜ cs) lim h w t =
      and_intro (is_proper lim c) (are_proper lim cs)
      (counted_proper c lim h.0 (omega arith) (λ k m. t k (Memᴰ.append_left (types_in_all cs) m)))
      (all_counted_proper cs lim h.1 (omega arith) (λ k m. t k (Memᴰ.append_right (types_in c) m)))

module _ (lim : Limits) where
  -- each content of a list is counted
  abbrev pub EachCounted : List Content → Type 0
  EachCounted = Each (Counted lim)

  each_one : (c : Content) → Counted lim c → EachCounted (c ∷ [])
  each_one c p = each_cons (Counted lim) c [] p (each_none (Counted lim))

  operands_counted : (cs : List Content) → EachCounted cs → AllCounted lim (operands cs)
  unfolding operands
  operands_counted [] h = tt
  operands_counted (c ∷ cs) h = (h c (Memᴰ.head refl), operands_counted cs (λ d m. h d (Memᴰ.tail m)))

  listed_counted : (cs : Contents) → AllCounted lim cs → EachCounted (list_of cs)
  unfolding list_of
  listed_counted []ᶜ h = each_none (Counted lim)
  listed_counted (c ∷ᶜ cs) h = each_cons (Counted lim) c (list_of cs) h.0 (listed_counted cs h.1)

  pub choice_counted : (cs : List Content) → EachCounted cs → Counted lim (choice_of cs)
  unfolding choice_of operands operand_count
  choice_counted [] h = tt
  choice_counted (c ∷ []) h = h c (Memᴰ.head refl)
  choice_counted (c ∷ d ∷ ds) h = (omega arith, operands_counted (c ∷ d ∷ ds) h)

  module _ (f : ℕ → Content) (each : (k : ℕ) → Counted lim (f k)) where
    replace_count : (cs : Contents) → operand_count (replace_all cs f) ≡ operand_count cs
    unfolding operand_count replace_all
    replace_count []ᶜ = refl
    replace_count (c ∷ᶜ cs) = ap suc (replace_count cs)

    mutual
      unfolding replace replace_all

      pub replace_counted : (c : Content) → Counted lim c → Counted lim (replace c f)
      replace_counted none h = tt
      replace_counted empty h = tt
      replace_counted (type k) h = each k
      replace_counted (sequence cs) h =
          let n = replace_count cs in
          let few = h.0 in
          let many = h.1 in
          (omega arith, omega arith, replace_all_counted cs h.2)
      replace_counted (choice cs) h =
          let n = replace_count cs in
          let few = h.0 in
          (omega arith, replace_all_counted cs h.1)
      replace_counted (any_number c) h = replace_counted c h
      replace_counted (one_or_more c) h = replace_counted c h
      replace_counted (optional c) h = replace_counted c h

      pub replace_all_counted : (cs : Contents) → AllCounted lim cs → AllCounted lim (replace_all cs f)
      replace_all_counted []ᶜ h = tt
      replace_all_counted (c ∷ᶜ cs) h = (replace_counted c h.0, replace_all_counted cs h.1)

  -- simplifying: a sequence keeps its count, or is none
  simplify_count : (cs : Contents) → operand_count (operands (simplify_all cs)) ≡ operand_count cs
  unfolding operand_count operands simplify_all
  simplify_count []ᶜ = refl
  simplify_count (c ∷ᶜ cs) = ap suc (simplify_count cs)

  unless_counted : (b : Bool) (c d : Content) → Counted lim c → Counted lim d → Counted lim (elim b [ true ↦ c | false ↦ d ])
  unless_counted true c d p q = p
  unless_counted false c d p q = q

  mutual
    unfolding simplify simplify_all

    pub simplify_counted : (c : Content) → Counted lim c → Counted lim (simplify c)
    simplify_counted none h = tt
    simplify_counted empty h = tt
    simplify_counted (type k) h = tt
    simplify_counted (sequence cs) h =
        let n = simplify_count cs in
        let few = h.0 in
        let many = h.1 in
        let all = operands_counted (simplify_all cs) (λ c m. each_simplified_counted cs h.2 c m) in
        unless_counted (any_pass is_none (simplify_all cs)) none (sequence (operands (simplify_all cs))) tt
        (omega arith, omega arith, all)
    simplify_counted (choice cs) h =
        choice_counted (keep (λ c. not (is_none c)) (simplify_all cs))
        (λ c m. each_simplified_counted cs h.1 c (kept (λ c. not (is_none c)) (simplify_all cs) m).0)
    simplify_counted (any_number c) h =
        unless_counted (is_none (simplify c)) empty (any_number (simplify c)) tt (simplify_counted c h)
    simplify_counted (one_or_more c) h =
        unless_counted (is_none (simplify c)) none (one_or_more (simplify c)) tt (simplify_counted c h)
    simplify_counted (optional c) h =
        unless_counted (is_none (simplify c)) empty (optional (simplify c)) tt (simplify_counted c h)

    pub each_simplified_counted : (cs : Contents) → AllCounted lim cs → EachCounted (simplify_all cs)
    each_simplified_counted []ᶜ h = each_none (Counted lim)
    each_simplified_counted (c ∷ᶜ cs) h =
        each_cons (Counted lim) (simplify c) (simplify_all cs) (simplify_counted c h.0) (each_simplified_counted cs h.1)

  pub prune_counted : (known : List ℕ) (c : Content) → Counted lim c → Counted lim (prune known c)
  unfolding prune
  prune_counted known c h =
      simplify_counted (replace c fruitful_only)
      (replace_counted fruitful_only (λ k. unless_counted (is_in k known) (type k) none tt tt) c h)
    where
      fruitful_only : ℕ → Content
      fruitful_only k = elim (is_in k known) [ true ↦ type k | false ↦ none ]

  -- tidying: a sequence keeps its count
  tidy_count : (cs : Contents) → operand_count (operands (tidy_all cs)) ≡ operand_count cs
  unfolding operand_count operands tidy_all
  tidy_count []ᶜ = refl
  tidy_count (c ∷ᶜ cs) = ap suc (tidy_count cs)

  alternatives_counted : (c : Content) → Counted lim c → EachCounted (alternatives c)
  unfolding alternatives
  alternatives_counted none h = each_one none h
  alternatives_counted empty h = each_one empty h
  alternatives_counted (type k) h = each_one (type k) h
  alternatives_counted (sequence cs) h = each_one (sequence cs) h
  alternatives_counted (choice cs) h = listed_counted cs h.1
  alternatives_counted (any_number c) h = each_one (any_number c) h
  alternatives_counted (one_or_more c) h = each_one (one_or_more c) h
  alternatives_counted (optional c) h = each_one (optional c) h

  mutual
    unfolding tidy tidy_all

    pub tidy_counted : (c : Content) → Counted lim c → Counted lim (tidy c)
    tidy_counted none h = tt
    tidy_counted empty h = tt
    tidy_counted (type k) h = tt
    tidy_counted (sequence cs) h =
        let n = tidy_count cs in
        let few = h.0 in
        let many = h.1 in
        (omega arith, omega arith, operands_counted (tidy_all cs) (λ c m. each_tidied_counted cs h.2 c m))
    tidy_counted (choice cs) h =
        choice_counted (distinct same_content (joined_of alternatives (tidy_all cs)))
        (λ c m.
        let (d, n, o) = joined_from alternatives (tidy_all cs) (distinct_was same_content (joined_of alternatives (tidy_all cs)) m) in
        alternatives_counted d (each_tidied_counted cs h.1 d n) c o)
    tidy_counted (any_number c) h = tidy_counted c h
    tidy_counted (one_or_more c) h = tidy_counted c h
    tidy_counted (optional c) h = tidy_counted c h

    pub each_tidied_counted : (cs : Contents) → AllCounted lim cs → EachCounted (tidy_all cs)
    each_tidied_counted []ᶜ h = each_none (Counted lim)
    each_tidied_counted (c ∷ᶜ cs) h =
        each_cons (Counted lim) (tidy c) (tidy_all cs) (tidy_counted c h.0) (each_tidied_counted cs h.1)
