-- What stands in the source content, and what it gives:
--   counted_of   the operands of a sequence or a choice; single_of : the operand of an operator of one
--   has_agrees, row-agrees : whether there are alternatives, over the set of the types that have results
use Prim.Native.Nat.{ℕ, zero, suc, ◌+◌, ◌-◌, ◌≤◌, ◌<◌, max}
use native.Mathlib.Omega.{arith}
use mathlib.Core.Bool.{Bool, true, false, ◌&&◌, ◌||◌}
use mathlib.Core.List.{List, [], ◌∷◌, ◌++◌, map}
use mathlib.Core.Option.{some as just}
use mathlib.Core.Path.{◌≡◌, refl, sym, ◌∙◌, ap, ap₂}
use lib.ListN.{length, get_or, get_elem?}
use Rattle.grammar.specs.Lists.{joined_of}
use Rattle.grammar.specs.Limits.{Limits, large}
use Rattle.grammar.specs.Content.{
  Content,
  none,
  empty,
  type,
  sequence,
  choice,
  any_number,
  one_or_more,
  optional,
  Contents,
  []ᶜ,
  ◌∷ᶜ◌,
  nesting,
  deepest,
  operands,
}
use Rattle.grammar.specs.ReadContent.{is_proper, are_proper, counted, single, operators}
use Rattle.theory.specs.Alternatives.{alts, alts_of_each, one_content, has_alts, all_have_alts, one_has_alts, some_left}
use Rattle.theory.proofs.Lists.BoolLaws.{and_intro}
use Rattle.theory.proofs.Emission.AlternativeLaws.{around_has, around_has_not}
use Rattle.reader.specs.ExprAt.{◌up_to◌, placed, expr_at, exprs_at}
use Rattle.reader.proofs.ExprLaws.{same_placed, exprs_more, exprs_none, expr_forward, counted_was, single_was, operator_any_number, operator_one_or_more, operator_optional}
use Rattle.reader.proofs.ExtentLaws.{proper_number, proper_sequence, proper_choice, proper_first}
use Rattle.reader.specs.ContentAt.{ContentAt, ContentsAt}
use Rattle.emitting.specs.Emitting.{Maps}
use Rattle.sets.specs.Sets.{member}
use Rattle.reader.proofs.ContentAtLaws.{placed_of, content_inside, operands_there, operand_there}
use Rattle.union.specs.Walks.{has_at, has_row_at, list_of_type}
use Rattle.operands.proofs.WideLaws.{Around, around_any_number, around_one_or_more, around_optional}

-- how deep they nest
pub first_deep : (cs : Contents) (c : Content) (ds : Contents) → cs ≡ c ∷ᶜ ds → (nesting c ≤ deepest cs) × (deepest ds ≤ deepest cs)
unfolding deepest
first_deep cs c ds e =
    let d : deepest cs ≡ max (nesting c) (deepest ds) = ap deepest e in
    (omega arith, omega arith)

-- what they give
pub each_first : (results : ℕ → List ℕ) (cs : Contents) (c : Content) (ds : Contents) → cs ≡ c ∷ᶜ ds
    → joined_of (λ xs. xs) (alts_of_each results cs) ≡ alts results c ++ joined_of (λ xs. xs) (alts_of_each results ds)
unfolding alts joined_of
each_first results cs c ds e = ap (λ (l : Contents). joined_of (λ xs. xs) (alts_of_each results l)) e

pub each_none : (results : ℕ → List ℕ) (cs : Contents) → cs ≡ []ᶜ → joined_of (λ xs. xs) (alts_of_each results cs) ≡ []
unfolding alts joined_of
each_none results cs e = ap (λ (l : Contents). joined_of (λ xs. xs) (alts_of_each results l)) e

-- the contents that they are written as
abbrev pub each_written : (ℕ → List ℕ) → Contents → Contents
each_written results cs = operands (map one_content (alts_of_each results cs))

pub written_first : (results : ℕ → List ℕ) (cs : Contents) (c : Content) (ds : Contents) → cs ≡ c ∷ᶜ ds
    → each_written results cs ≡ one_content (alts results c) ∷ᶜ each_written results ds
unfolding alts operands
written_first results cs c ds e = ap (λ (l : Contents). operands (map one_content (alts_of_each results l))) e

pub written_none : (results : ℕ → List ℕ) (cs : Contents) → cs ≡ []ᶜ → each_written results cs ≡ []ᶜ
unfolding alts operands
written_none results cs e = ap (λ (l : Contents). operands (map one_content (alts_of_each results l))) e

-- the operands of an operator with a count
pub record CountedThere (lim : Limits) (s : List ℕ) (at n : ℕ) (there : ContentAt lim s at) (f : Contents → Content) : Type 0 where
  pub operands : ContentsAt lim s (at + 2) n
  pub is : f operands.contents ≡ there.content
  pub ends : operands.next ≡ there.next

pub counted_of : (lim : Limits) (s : List ℕ) (at n : ℕ) (there : ContentAt lim s at) (f : Contents → Content) → n ≡ get_or s (at + 1) 0
    → 3 ≤ get_or s at 0 → get_or s at 0 ≤ 4 → get_elem? operators (get_or s at 0) ≡ just (counted f) → CountedThere lim s at n there f
counted_of lim s at n there f e l h o =
    let r = operands_there lim s at there l h in
    let w = counted_was s at there.content there.next there.stands f o in
    let same = same_placed (sym r.stand ∙ w.1) in
    record {
      operands =
          record {
            contents = r.contents;
            next = r.next;
            inside = r.inside;
            stand = ap (exprs_at s (at + 2)) e ∙ r.stand;
            proper = r.proper;
          };
      is = ap f same.0 ∙ w.2;
      ends = same.1;
    }

-- the operand of an operator of one: what it gives where the operand has alternatives, and where it has none
pub record SingleThere (lim : Limits) (s : List ℕ) (at : ℕ) (there : ContentAt lim s at) (results : ℕ → List ℕ) : Type 0 where
  pub operator : Content → Content
  pub byte : get_elem? operators (get_or s at 0) ≡ just (single operator)
  pub operand : ContentAt lim s (at + 1)
  pub is : operator operand.content ≡ there.content
  pub ends : operand.next ≡ there.next
  pub around : Around operator
  pub deep : (c : Content) → nesting (operator c) ≡ suc (nesting c)
  pub some : (c : Content) → has_alts (some_left results) c ≡ true → alts results (operator c) ≡ operator (one_content (alts results c)) ∷ []
  pub blank : (c : Content) → get_or s at 0 ≡ 6 → has_alts (some_left results) c ≡ false → alts results (operator c) ≡ []
  pub spare : (c : Content) → (get_or s at 0 ≡ 6 → ⊥) → has_alts (some_left results) c ≡ false → alts results (operator c) ≡ empty ∷ []

module _ (lim : Limits) (s : List ℕ) (at : ℕ) (there : ContentAt lim s at) (results : ℕ → List ℕ) where
  same_operand : (f : Content → Content) → get_elem? operators (get_or s at 0) ≡ just (single f) → (operand : ContentAt lim s (at + 1))
      → (f operand.content ≡ there.content) × (operand.next ≡ there.next)
  same_operand f o operand =
      let w = single_was s at there.content there.next there.stands f o in
      let same = same_placed (sym operand.stands ∙ w.1) in
      (ap f same.0 ∙ w.2, same.1)

  pub single_of : 5 ≤ get_or s at 0 → SingleThere lim s at there results
  unfolding alts nesting
  single_of l = go (get_or s at 0 - 5) refl
    where
      operand : ContentAt lim s (at + 1)
      operand = operand_there lim s at there l

      go : (k : ℕ) → get_or s at 0 - 5 ≡ k → SingleThere lim s at there results
      go zero e =
          let b : get_or s at 0 ≡ 5 = omega arith in
          let o = ap (get_elem? operators) b ∙ operator_any_number in
          record {
            operator = any_number;
            byte = o;
            operand = operand;
            is = (same_operand any_number o operand).0;
            ends = (same_operand any_number o operand).1;
            around = around_any_number;
            deep = λ c. refl;
            some = λ c h. around_has results any_number (empty ∷ []) c h;
            blank = λ c six h. absurd (omega arith);
            spare = λ c six h. around_has_not results any_number (empty ∷ []) c h;
          }
      go (suc zero) e =
          let b : get_or s at 0 ≡ 6 = omega arith in
          let o = ap (get_elem? operators) b ∙ operator_one_or_more in
          record {
            operator = one_or_more;
            byte = o;
            operand = operand;
            is = (same_operand one_or_more o operand).0;
            ends = (same_operand one_or_more o operand).1;
            around = around_one_or_more;
            deep = λ c. refl;
            some = λ c h. around_has results one_or_more [] c h;
            blank = λ c six h. around_has_not results one_or_more [] c h;
            spare = λ c six h. absurd (six b);
          }
      go (suc (suc zero)) e =
          let b : get_or s at 0 ≡ 7 = omega arith in
          let o = ap (get_elem? operators) b ∙ operator_optional in
          record {
            operator = optional;
            byte = o;
            operand = operand;
            is = (same_operand optional o operand).0;
            ends = (same_operand optional o operand).1;
            around = around_optional;
            deep = λ c. refl;
            some = λ c h. around_has results optional (empty ∷ []) c h;
            blank = λ c six h. absurd (omega arith);
            spare = λ c six h. around_has_not results optional (empty ∷ []) c h;
          }
      go (suc (suc (suc k))) e = let i = content_inside lim s at there in absurd (omega arith)

-- one content as a row of one
pub one_proper : (lim : Limits) (c : Content) → is_proper lim c ≡ true → are_proper lim (c ∷ᶜ []ᶜ) ≡ true
unfolding are_proper
one_proper lim c p = and_intro (is_proper lim c) true p refl

pub one_inside : (s : List ℕ) (at : ℕ) (c : Content) (next : ℕ) → expr_at s at ≡ just (c up_to next) → at ≤ length s
one_inside s at c next e = let f = expr_forward s at c next e in omega arith

abbrev pub one_there : (lim : Limits) (s : List ℕ) (at : ℕ) → ContentAt lim s at → ContentsAt lim s at 1
one_there lim s at c =
    record {
      contents = c.content ∷ᶜ []ᶜ;
      next = c.next;
      inside = one_inside s at c.content c.next c.stands;
      stand =
          exprs_more s at zero c.content c.next c.stands ∙ ap (placed (λ cs. c.content ∷ᶜ cs)) (exprs_none s c.next);
      proper = one_proper lim c.content c.proper;
    }

-- tests that agree on the types in range
module _ (lim : Limits) (f g : ℕ → Bool) (agree : (k : ℕ) → k < lim.types → f k ≡ g k) where
  mutual
    unfolding has_alts is_proper

    pub has_agrees : (c : Content) → is_proper lim c ≡ true → has_alts f c ≡ has_alts g c
    has_agrees none p = refl
    has_agrees empty p = refl
    has_agrees (type k) p = agree k (proper_number lim k p)
    has_agrees (sequence cs) p = all_agree cs (proper_sequence lim cs p).2
    has_agrees (choice cs) p = one_agrees cs (proper_choice lim cs p).2
    has_agrees (any_number c) p = refl
    has_agrees (one_or_more c) p = has_agrees c p
    has_agrees (optional c) p = refl

    pub all_agree : (cs : Contents) → are_proper lim cs ≡ true → all_have_alts f cs ≡ all_have_alts g cs
    all_agree []ᶜ p = refl
    all_agree (c ∷ᶜ cs) p =
        let (first, others) = proper_first lim c cs p in
        ap₂ ◌&&◌ (has_agrees c first) (all_agree cs others)

    pub one_agrees : (cs : Contents) → are_proper lim cs ≡ true → one_has_alts f cs ≡ one_has_alts g cs
    one_agrees []ᶜ p = refl
    one_agrees (c ∷ᶜ cs) p =
        let (first, others) = proper_first lim c cs p in
        ap₂ ◌||◌ (has_agrees c first) (one_agrees cs others)

-- what the walk finds
module _ (types from results : List ℕ) (maps : Maps types from results) (s : List ℕ) (at : ℕ) where
  pub content_found : (there : ContentAt large s at) (has : Bool) (next : ℕ) → has_at (member types 0) s at ≡ just (has up_to next)
      → (has ≡ has_alts (some_left (list_of_type from results)) there.content) × (next ≡ there.next)
  unfolding large
  content_found there has next e =
      let f = placed_of (has_alts (member types 0)) (expr_at s at) there.stands e in (
        f.0
            ∙ has_agrees large (member types 0) (some_left (list_of_type from results)) maps.agree there.content there.proper,
        f.1,
      )

  pub row_found : (n : ℕ) (there : ContentsAt large s at n) (all one : Bool) (next : ℕ)
      → has_row_at (member types 0) s at n ≡ just ((all, one) up_to next)
      → (all ≡ all_have_alts (some_left (list_of_type from results)) there.contents) × (next ≡ there.next)
  unfolding large
  row_found n there all one next e =
      let f =
      placed_of (λ cs. (all_have_alts (member types 0) cs, one_has_alts (member types 0) cs)) (exprs_at s at n) there.stand e in (
        ap (λ (p : Bool × Bool). p.0) f.0
            ∙ all_agree large (member types 0) (some_left (list_of_type from results)) maps.agree there.contents there.proper,
        f.1,
      )
