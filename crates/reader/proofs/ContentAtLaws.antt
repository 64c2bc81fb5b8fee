-- Where a proper content stands, its operator's byte says what follows and that it is proper:
--   content_inside   the byte is there, and is a known operator
--   type_there       after 2 a type in range
--   operands_there   after 3 and 4 a count and so many proper contents
--   operand_there    after 5, 6 and 7 one proper content
--   first_of, others_from, others_there   of so many, the first and those after it; none_there   of none
-- and `placed_of`: what a walk found is what is found of the content that stands there.
use Prim.Native.Nat.{ℕ, zero, suc, ◌+◌, ◌-◌, ◌≤◌, ◌<◌}
use native.Mathlib.Omega.{arith}
use mathlib.Core.Bool.{◌&&◌}
use mathlib.Core.List.{List}
use mathlib.Core.Option.{Option, some as just}
use mathlib.Core.Path.{◌≡◌, refl, sym, ◌∙◌, ap, subst}
use lib.Dec.{leb}
use lib.ListN.{length, get_or, get_elem?}
use Rattle.grammar.specs.Limits.{Limits}
use Rattle.grammar.specs.Content.{Content, type, []ᶜ, ◌∷ᶜ◌, operand_count}
use Rattle.grammar.specs.ReadContent.{operators, is_proper, are_proper}
use Rattle.theory.proofs.Lists.BoolLaws.{and_right}
use Rattle.reader.specs.ExprAt.{Placed, ◌up_to◌, placed, expr_at, exprs_at}
use Rattle.reader.specs.ContentAt.{ContentAt, ContentsAt}
use Rattle.reader.proofs.ExprLaws.{
  same_placed,
  expr_forward,
  operator_known,
  number_inside,
  count_inside,
  single_was,
  numbered_was,
  counted_was,
  exprs_first,
  exprs_end,
  operator_type,
}
use Rattle.reader.proofs.ExtentLaws.{one_operand, counts, proper_number, proper_first}

-- what was found, where it is known what stands there
pub placed_of : {A B : Type 0} (f : A → B) (p : Option (Placed A)) {a : A} {b : B} {m n : ℕ} → p ≡ just (a up_to n)
    → placed f p ≡ just (b up_to m) → (b ≡ f a) × (m ≡ n)
placed_of f p {a} {b} {m} {n} e h =
    let q = same_placed (sym (ap (placed f) e) ∙ h) in
    (sym q.0, sym q.1)

module _ (lim : Limits) (s : List ℕ) (at : ℕ) (there : ContentAt lim s at) where
  pub content_inside : (at < length s) × (get_or s at 0 ≤ 7)
  content_inside =
      let h = expr_forward s at there.content there.next there.stands in
      (omega arith, operator_known s at there.content there.next there.stands)

  pub type_there : get_or s at 0 ≡ 2 → (at + 1 < length s) × (get_or s (at + 1) 0 < lim.types)
  type_there e =
      let was = numbered_was s at there.content there.next there.stands type (ap (get_elem? operators) e ∙ operator_type) in (
        number_inside s at there.content there.next there.stands e,
        proper_number lim (get_or s (at + 1) 0) (ap (is_proper lim) was.0 ∙ there.proper),
      )

  pub count_there : 3 ≤ get_or s at 0 → get_or s at 0 ≤ 4 → at + 1 < length s
  count_there l h = count_inside s at there.content there.next there.stands l h

  pub operands_there : 3 ≤ get_or s at 0 → get_or s at 0 ≤ 4 → ContentsAt lim s (at + 2) (get_or s (at + 1) 0)
  operands_there l h =
      let k = counts lim (get_or s at 0) l h in
      let more = count_there l h in
      let was = counted_was s at there.content there.next there.stands k.operator k.numbered_so in
      let p = sym (k.proper was.0) ∙ ap (is_proper lim) was.2 ∙ there.proper in
      record {
        contents = was.0;
        next = there.next;
        inside = omega arith;
        stand = was.1;
        proper = and_right (leb 2 (operand_count was.0) && leb (operand_count was.0) lim.operands) (are_proper lim was.0) p;
      }

  pub operand_there : 5 ≤ get_or s at 0 → ContentAt lim s (at + 1)
  operand_there l =
      let k = one_operand lim (get_or s at 0) l content_inside.1 in
      let was = single_was s at there.content there.next there.stands k.operator k.numbered_so in
      record {
        content = was.0;
        next = there.next;
        stands = was.1;
        proper = sym (k.proper was.0) ∙ ap (is_proper lim) was.2 ∙ there.proper;
      }

-- of so many contents the first and the others
pub record FirstThere (lim : Limits) (s : List ℕ) (at n : ℕ) (there : ContentsAt lim s at n) : Type 0 where
  pub first : ContentAt lim s at
  pub others : ContentsAt lim s first.next (n - 1)
  pub both : there.contents ≡ first.content ∷ᶜ others.contents
  pub ends : others.next ≡ there.next
  pub forward : at < first.next

pub first_of : (lim : Limits) (s : List ℕ) (at n : ℕ) (there : ContentsAt lim s at n) → (n ≡ 0 → ⊥) → FirstThere lim s at n there
first_of lim s at zero there h = absurd (h refl)
first_of lim s at (suc n) there h =
    let f = exprs_first s at n there.contents there.next there.stand in
    let p = proper_first lim f.first f.others (ap (are_proper lim) (sym f.both) ∙ there.proper) in
    let w = expr_forward s at f.first f.middle f.first_at in
    let z : suc n - 1 ≡ n = omega arith in
    record {
      first =
          record {
            content = f.first;
            next = f.middle;
            stands = f.first_at;
            proper = p.0;
          };
      others =
          record {
            contents = f.others;
            next = there.next;
            inside = omega arith;
            stand = ap (exprs_at s f.middle) z ∙ f.others_at;
            proper = p.1;
          };
      both = f.both;
      ends = refl;
      forward = omega arith;
    }

-- the others from the place where the walk goes on
abbrev pub others_from : (lim : Limits) (s : List ℕ) (at n : ℕ) (there : ContentsAt lim s at n) (f : FirstThere lim s at n there) (m : ℕ)
    → m ≡ f.first.next → ContentsAt lim s m (n - 1)
others_from lim s at n there f m e =
    record {
      contents = f.others.contents;
      next = f.others.next;
      inside = subst (λ (k : ℕ). k ≤ length s) (sym e) f.others.inside;
      stand = ap (λ (k : ℕ). exprs_at s k (n - 1)) e ∙ f.others.stand;
      proper = f.others.proper;
    }

pub none_there : (lim : Limits) (s : List ℕ) (at n : ℕ) (there : ContentsAt lim s at n) → n ≡ 0
    → (there.contents ≡ []ᶜ) × (at ≡ there.next)
none_there lim s at n there z =
    let e = exprs_end s at there.contents there.next (ap (exprs_at s at) (sym z) ∙ there.stand) in
    (e.0, sym e.1)

-- the same, by what a walk found of the first
pub others_there : (lim : Limits) (s : List ℕ) (at n : ℕ) (there : ContentsAt lim s at n) → (n ≡ 0 → ⊥)
    → {A : Type 0} (f : Content → A) (a : A) (middle : ℕ) → placed f (expr_at s at) ≡ just (a up_to middle)
    → (at < middle) × ContentsAt lim s middle (n - 1)
others_there lim s at n there some f a middle h =
    let p = first_of lim s at n there some in
    let e = (placed_of f (expr_at s at) p.first.stands h).1 in
    let w = p.forward in
    (omega arith, others_from lim s at n there p middle e)
