-- The tags of a text, with no bound on their number: what stands at its front, and how the text goes on behind it.
use Prim.Native.Nat.{ℕ, zero, suc, ◌≤◌, ◌<◌}
use native.Mathlib.Omega.{arith}
use mathlib.Core.Bool.{Bool, true, false}
use mathlib.Core.List.{List, [], ◌∷◌}
use mathlib.Core.Option.{none as nothing, some as just}
use mathlib.Core.Path.{◌≡◌, refl, sym, ◌∙◌, ap}
use lib.ListN.{length}
use lib.Dec.{eqb}
use borrow.Author.Tests.{eqb-true}
use Rattle.grammar.specs.Names.{Name}
use Rattle.grammar.specs.ReadText.{
  less_than,
  slash,
  greater_than,
  is_white,
  ends_name,
  past_white,
  name_front,
  past_name,
  Tag,
  start_tag,
  empty_tag,
  end_tag,
  FrontTag,
  ended_by,
  element_end,
  front_tag,
  Tags,
  no_more,
  not_allowed,
  ◌then◌,
  tags_within,
  tags_of,
}
use Rattle.theory.proofs.Lists.ListLaws.{just_eq}

-- what stands at the front of a text
pub data Front (s : List ℕ) : Type 0 where
  ends : past_white s ≡ [] → Front s
  stray : (b : ℕ) (rest : List ℕ) → past_white s ≡ b ∷ rest → eqb b less_than ≡ false → Front s
  broken : (inside : List ℕ) → past_white s ≡ less_than ∷ inside → front_tag inside ≡ nothing → Front s
  whole : (inside : List ℕ) (tag : Tag) (rest : List ℕ) → past_white s ≡ less_than ∷ inside → front_tag inside ≡ just (tag, rest) → Front s

front_of : (s : List ℕ) → Front s
front_of s = go (past_white s) refl
  where
    inner : (inside : List ℕ) → past_white s ≡ less_than ∷ inside → (o : FrontTag) → front_tag inside ≡ o → Front s
    inner inside e nothing q = broken inside e q
    inner inside e (just p) q = whole inside p.0 p.1 e q

    at : (b : ℕ) (rest : List ℕ) → past_white s ≡ b ∷ rest → (t : Bool) → eqb b less_than ≡ t → Front s
    at b rest e true q = inner rest (e ∙ ap (λ (x : ℕ). x ∷ rest) (eqb-true b less_than q)) (front_tag rest) refl
    at b rest e false q = stray b rest e q

    go : (ys : List ℕ) → past_white s ≡ ys → Front s
    go [] e = ends e
    go (b ∷ rest) e = at b rest e (eqb b less_than) refl

-- Behind a tag fewer bytes are left.
past_white_shorter : (s : List ℕ) → length (past_white s) ≤ length s
unfolding past_white
past_white_shorter [] = omega arith
past_white_shorter (b ∷ bs) = go (is_white b) refl (past_white_shorter bs)
  where
    go : (t : Bool) → is_white b ≡ t → length (past_white bs) ≤ length bs → length (past_white (b ∷ bs)) ≤ suc (length bs)
    go true e h = rw (e, past_white) (omega arith)
    go false e h = rw (e, past_white) (omega arith)

past_name_shorter : (s : List ℕ) → length (past_name s) ≤ length s
unfolding past_name
past_name_shorter [] = omega arith
past_name_shorter (b ∷ bs) = go (ends_name b) refl (past_name_shorter bs)
  where
    go : (t : Bool) → ends_name b ≡ t → length (past_name bs) ≤ length bs → length (past_name (b ∷ bs)) ≤ suc (length bs)
    go true e h = rw (e, past_name) (omega arith)
    go false e h = rw (e, past_name) (omega arith)

ended_shorter : (tag : Tag) (s : List ℕ) (p : Tag × List ℕ) → ended_by tag s ≡ just p → length p.1 < length s
unfolding ended_by
ended_shorter tag [] p e = let z : ◌≡◌ {A = ℕ} 0 1 = cc in absurd (omega arith)
ended_shorter tag (b ∷ rest) p e = go (eqb b greater_than) refl
  where
    go : (t : Bool) → eqb b greater_than ≡ t → length p.1 < suc (length rest)
    go true q =
        let w = rw (q, ended_by) at e in
        let same : p.1 ≡ rest = ap (λ (x : Tag × List ℕ). x.1) (just_eq w) in
        let l = ap length same in
        omega arith
    go false q = let w = rw (q, ended_by) at e in let z : ◌≡◌ {A = ℕ} 0 1 = cc in absurd (omega arith)

element_shorter : (name : Name) (s : List ℕ) (p : Tag × List ℕ) → element_end name s ≡ just p → length p.1 < length s
unfolding element_end
element_shorter name [] p e = let z : ◌≡◌ {A = ℕ} 0 1 = cc in absurd (omega arith)
element_shorter name (b ∷ rest) p e = go (eqb b slash) refl
  where
    go : (t : Bool) → eqb b slash ≡ t → length p.1 < suc (length rest)
    go true q = let w = ended_shorter (empty_tag name) rest p (rw (q, element_end) at e) in omega arith
    go false q = ended_shorter (start_tag name) (b ∷ rest) p (rw (q, element_end) at e)

tag_shorter : (s : List ℕ) (p : Tag × List ℕ) → front_tag s ≡ just p → length p.1 < length s
unfolding front_tag
tag_shorter [] p e = let z : ◌≡◌ {A = ℕ} 0 1 = cc in absurd (omega arith)
tag_shorter (b ∷ bs) p e = go (eqb b slash) refl
  where
    go : (t : Bool) → eqb b slash ≡ t → length p.1 < suc (length bs)
    go true q =
        let w = ended_shorter (end_tag (name_front bs)) (past_white (past_name bs)) p (rw (q, front_tag) at e) in
        let a = past_white_shorter (past_name bs) in
        let c = past_name_shorter bs in
        omega arith
    go false q =
        let w = element_shorter (name_front (b ∷ bs)) (past_white (past_name (b ∷ bs))) p (rw (q, front_tag) at e) in
        let a = past_white_shorter (past_name (b ∷ bs)) in
        let c = past_name_shorter (b ∷ bs) in
        omega arith

-- one tag, with some bound
module _ (n : ℕ) (s : List ℕ) where
  none_step : past_white s ≡ [] → tags_within (suc n) s ≡ no_more
  unfolding tags_within
  none_step e = rw (e, tags_within)

  stray_step : (b : ℕ) (rest : List ℕ) → past_white s ≡ b ∷ rest → eqb b less_than ≡ false → tags_within (suc n) s ≡ not_allowed
  unfolding tags_within
  stray_step b rest e q = rw (e, q, tags_within)

  broken_step : (inside : List ℕ) → past_white s ≡ less_than ∷ inside → front_tag inside ≡ nothing → tags_within (suc n) s ≡ not_allowed
  unfolding tags_within
  broken_step inside e q = rw (e, q, tags_within)

  whole_step : (inside : List ℕ) (tag : Tag) (rest : List ℕ) → past_white s ≡ less_than ∷ inside → front_tag inside ≡ just (tag, rest)
      → tags_within (suc n) s ≡ (tag then tags_within n rest)
  unfolding tags_within
  whole_step inside tag rest e q = rw (e, q, tags_within)

rest_shorter : (s inside : List ℕ) (tag : Tag) (rest : List ℕ) → past_white s ≡ less_than ∷ inside → front_tag inside ≡ just (tag, rest)
    → length rest < length s
rest_shorter s inside tag rest e q =
    let a = tag_shorter inside (tag, rest) q in
    let b = past_white_shorter s in
    let c = ap length e in
    omega arith

-- the bound on the number of tags does not matter once it is the number of bytes
enough : (n m : ℕ) (s : List ℕ) → length s ≤ n → length s ≤ m → tags_within n s ≡ tags_within m s
unfolding tags_within past_white
enough zero zero s p q = refl
enough zero (suc m) [] p q = refl
enough zero (suc m) (t ∷ s) p q = absurd (omega arith)
enough (suc n) zero [] p q = refl
enough (suc n) zero (t ∷ s) p q = absurd (omega arith)
enough (suc n) (suc m) s p q = go (front_of s) (λ rest h. enough n m rest (omega arith) (omega arith))
  where
    go : Front s → ((rest : List ℕ) → length rest < length s → tags_within n rest ≡ tags_within m rest)
        → tags_within (suc n) s ≡ tags_within (suc m) s
    go (ends e) r = none_step n s e ∙ sym (none_step m s e)
    go (stray b rest e t) r = stray_step n s b rest e t ∙ sym (stray_step m s b rest e t)
    go (broken inside e t) r = broken_step n s inside e t ∙ sym (broken_step m s inside e t)
    go (whole inside tag rest e t) r =
        whole_step n s inside tag rest e t
        ∙ ap (λ (ts : Tags). tag then ts) (r rest (rest_shorter s inside tag rest e t))
        ∙ sym (whole_step m s inside tag rest e t)

-- one more than the number of bytes is enough
tags_more : (s : List ℕ) → tags_of s ≡ tags_within (suc (length s)) s
unfolding tags_of
tags_more s = enough (length s) (suc (length s)) s (omega arith) (omega arith)

module _ (s : List ℕ) where
  pub tags_end : past_white s ≡ [] → tags_of s ≡ no_more
  tags_end e = tags_more s ∙ none_step (length s) s e

  pub tags_stray : (b : ℕ) (rest : List ℕ) → past_white s ≡ b ∷ rest → eqb b less_than ≡ false → tags_of s ≡ not_allowed
  tags_stray b rest e q = tags_more s ∙ stray_step (length s) s b rest e q

  module _ (inside : List ℕ) (e : past_white s ≡ less_than ∷ inside) where
    pub tags_broken : front_tag inside ≡ nothing → tags_of s ≡ not_allowed
    tags_broken q = tags_more s ∙ broken_step (length s) s inside e q

    pub tags_next : (tag : Tag) (rest : List ℕ) → front_tag inside ≡ just (tag, rest) → tags_of s ≡ (tag then tags_of rest)
    unfolding tags_of
    tags_next tag rest q =
        let h = rest_shorter s inside tag rest e q in
        tags_more s
        ∙ whole_step (length s) s inside tag rest e q
        ∙ ap (λ (ts : Tags). tag then ts) (enough (length s) (length rest) rest (omega arith) (omega arith))
