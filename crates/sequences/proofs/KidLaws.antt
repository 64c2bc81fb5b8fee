-- The types of a node's children, found node by node:
--   kids_skip, kids_take : one more node, another's child or its own ; kid_fits : its own has room
--   kids_none : none are found at first
use Prim.Native.Nat.{ℕ, suc, ◌+◌, ◌-◌, ◌≤◌, ◌<◌}
use native.Mathlib.Numerals.{add-one}
use native.Mathlib.Omega.{arith}
use mathlib.Core.Bool.{Bool}
use mathlib.Core.List.{List, [], ◌∷◌, ◌++◌, map, append-nil, map-append}
use mathlib.Core.Path.{◌≡◌, refl, sym, ◌∙◌, ap}
use lib.Dec.{eqb}
use lib.ListN.{length, length-append, length-set, get_or, set, take}
use lib.Seq.{take-suc-set}
use borrow.Author.Tests.{eq-eqb, ne_eqb}
use Rattle.grammar.specs.Limits.{child_limit}
use Rattle.grammar.specs.Lists.{keep, numbers_from}
use Rattle.theory.proofs.Lists.ListLaws.{keep_yes, keep_no, numbers_joined}
use Rattle.theory.proofs.Lists.DistinctLaws.{keep_append}
use Rattle.sequences.specs.SampleContents.{kid_types, NodesHeld}

module _ (parents types : List ℕ) (i : ℕ) where
  is_kid : ℕ → Bool
  is_kid j = eqb (get_or parents j 0) i

  types_among : List ℕ → List ℕ
  types_among l = map (λ (j : ℕ). get_or types j 0) (keep is_kid l)

  among_append : (l m : List ℕ) → types_among (l ++ m) ≡ types_among l ++ types_among m
  unfolding types_among
  among_append l m =
      ap (map (λ (j : ℕ). get_or types j 0)) (keep_append is_kid l m) ∙ map-append (λ (j : ℕ). get_or types j 0) (keep is_kid l) (keep is_kid m)

  among_kid : (j : ℕ) → get_or parents j 0 ≡ i → types_among (j ∷ []) ≡ get_or types j 0 ∷ []
  unfolding types_among keep is_kid
  among_kid j e = ap (map (λ (j : ℕ). get_or types j 0)) (keep_yes is_kid j [] (eq-eqb (get_or parents j 0) i e))

  among_other : (j : ℕ) → (get_or parents j 0 ≡ i → ⊥) → types_among (j ∷ []) ≡ []
  unfolding types_among keep is_kid
  among_other j e = ap (map (λ (j : ℕ). get_or types j 0)) (keep_no is_kid j [] (ne_eqb (get_or parents j 0) i e))

  kids_among : (n : ℕ) → kid_types parents types n i ≡ types_among (numbers_from (suc i) (n - suc i))
  unfolding types_among is_kid
  kids_among n = refl

  -- the kids up to a node, with those among the next ones
  kids_more : (j m : ℕ) → i + 1 ≤ j → kid_types parents types (j + m) i ≡ kid_types parents types j i ++ types_among (numbers_from j m)
  kids_more j m h =
      let long : j + m - suc i ≡ (j - suc i) + m = omega arith in
      let here : suc i + (j - suc i) ≡ j = omega arith in
      kids_among (j + m)
      ∙ ap types_among (ap (numbers_from (suc i)) long ∙ numbers_joined (suc i) (j - suc i) m)
      ∙ among_append (numbers_from (suc i) (j - suc i)) (numbers_from (suc i + (j - suc i)) m)
      ∙ ap (λ (l : List ℕ). l ++ types_among (numbers_from (suc i + (j - suc i)) m)) (sym (kids_among j))
      ∙ ap (λ (k : ℕ). kid_types parents types j i ++ types_among (numbers_from k m)) here

  kids_next : (j : ℕ) → i + 1 ≤ j → kid_types parents types (j + 1) i ≡ kid_types parents types j i ++ types_among (j ∷ [])
  unfolding numbers_from
  kids_next j h = kids_more j 1 h

  pub kids_skip : (j : ℕ) → i + 1 ≤ j → (get_or parents j 0 ≡ i → ⊥) → kid_types parents types (j + 1) i ≡ kid_types parents types j i
  kids_skip j h e =
      kids_next j h
      ∙ ap (λ (l : List ℕ). kid_types parents types j i ++ l) (among_other j e)
      ∙ append-nil (kid_types parents types j i)

  kids_take : (j : ℕ) → i + 1 ≤ j → get_or parents j 0 ≡ i
      → kid_types parents types (j + 1) i ≡ kid_types parents types j i ++ (get_or types j 0 ∷ [])
  kids_take j h e = kids_next j h ∙ ap (λ (l : List ℕ). kid_types parents types j i ++ l) (among_kid j e)

  pub kids_none : kid_types parents types (i + 1) i ≡ []
  unfolding numbers_from types_among keep
  kids_none =
      let z : i + 1 - suc i ≡ 0 = omega arith in
      kids_among (i + 1) ∙ ap (λ (m : ℕ). types_among (numbers_from (suc i) m)) z

  kids_fewer : (j n : ℕ) → i + 1 ≤ j → j ≤ n → length (kid_types parents types j i) ≤ length (kid_types parents types n i)
  kids_fewer j n h k =
      let z : j + (n - j) ≡ n = omega arith in
      let a = ap (λ (m : ℕ). length (kid_types parents types m i)) (sym z) ∙ ap length (kids_more j (n - j) h) in
      let b = length-append (kid_types parents types j i) (types_among (numbers_from j (n - j))) in
      omega arith

-- the kids found up to a node stand first in an array
pub record KidsFound (parents types : List ℕ) (n i : ℕ) (of : List ℕ) (count j : ℕ) : Type 0 where
  pub from : i + 1 ≤ j
  pub to : j ≤ n
  pub found : take count of ≡ kid_types parents types j i
  pub counted : count ≡ length (kid_types parents types j i)
  pub long : length of ≡ child_limit

module _ {parents types : List ℕ} {n i : ℕ} (k : NodesHeld parents types n) (here : i < n) where
  pub found_none : (of : List ℕ) → length of ≡ child_limit → KidsFound parents types n i of 0 (i + 1)
  found_none of all =
      let none = kids_none parents types i in
      let long = ap length none in
      record { from = omega arith; to = omega arith; found = sym none; counted = omega arith; long = all }

  module _ {of : List ℕ} {count j : ℕ} (so_far : KidsFound parents types n i of count j) (h : j < n) where
    pub found_skip : (get_or parents j 0 ≡ i → ⊥) → KidsFound parents types n i of count (j + 1)
    found_skip e =
        let f = so_far.from in
        let same = kids_skip parents types i j f e in
        record {
          from = omega arith;
          to = omega arith;
          found = so_far.found ∙ sym same;
          counted = so_far.counted ∙ ap length (sym same);
          long = so_far.long;
        }

    module _ (e : get_or parents j 0 ≡ i) where
      one_more : length (kid_types parents types (j + 1) i) ≡ count + 1
      one_more =
          let a = ap length (kids_take parents types i j so_far.from e) in
          let b = length-append (kid_types parents types j i) (get_or types j 0 ∷ []) in
          let c = so_far.counted in
          omega arith

      pub kid_fits : count < child_limit
      kid_fits =
          let f = so_far.from in
          let a = kids_fewer parents types i (j + 1) n (omega arith) (omega arith) in
          let b = one_more in
          let c = k.few i here in
          omega arith

      pub found_one : KidsFound parents types n i (set of count (get_or types j 0)) (count + 1) (j + 1)
      found_one =
          let f = so_far.from in
          let fits = kid_fits in
          let all = so_far.long in
          record {
            from = omega arith;
            to = omega arith;
            found =
                ap (λ (m : ℕ). take m (set of count (get_or types j 0))) (add-one count)
                ∙ take-suc-set of count (get_or types j 0) (omega arith)
                ∙ ap (λ (l : List ℕ). l ++ (get_or types j 0 ∷ [])) so_far.found
                ∙ sym (kids_take parents types i j f e);
            counted = sym one_more;
            long = length-set of count (get_or types j 0) ∙ all;
          }

  -- all nodes are passed
  module _ {of : List ℕ} {count j : ℕ} (all : KidsFound parents types n i of count j) (h : n ≤ j) where
    same_kids : kid_types parents types j i ≡ kid_types parents types n i
    same_kids =
        let t = all.to in
        let z : j ≡ n = omega arith in
        ap (λ (m : ℕ). kid_types parents types m i) z

    pub found_all : take count of ≡ kid_types parents types n i
    found_all = all.found ∙ same_kids

    pub found_few : count ≤ child_limit
    found_few =
        let c = all.counted in
        let s = ap length same_kids in
        let f = k.few i here in
        omega arith
