-- Numbers in place of pairs:
--   numbers_more    one number more
--   all_numbers                 numbers for all places are the images
--   label_if_left, label_if_gone   the label of a pair, where it is left
--   numbers_left                the numbers of the sets by pair, from those by label
--   result_lists                the lists by type with these numbers
use Prim.Native.Nat.{ℕ, zero, suc, ◌+◌, ◌-◌, ◌≤◌, ◌<◌}
use native.Mathlib.Omega.{arith}
use mathlib.Core.Bool.{Bool, true, false}
use mathlib.Core.List.{List, [], ◌∷◌, map, Memᴰ}
use mathlib.Core.Path.{◌≡◌, refl, sym, ◌∙◌, ap, ap₂, subst}
use lib.ListN.{length, get_or, set, take, drop, replicate, length-map, get_or-eq_default}
use lib.Seq.{ext_get_or}
use lib.Dec.{ltb}
use borrow.Author.Tests.{ltb-true, ltb-false}
use Rattle.grammar.specs.Lists.{place, is_in, same_numbers, numbers_below}
use Rattle.grammar.specs.Limits.{large}
use Rattle.grammar.specs.Unite.{shifted}
use Rattle.grammar.specs.Table.{Rule, Table}
use Rattle.grammar.specs.Normalise.{pairs_of, normalise}
use Rattle.grammar.specs.Reduce.{fruitful}
use Rattle.grammar.specs.SingleTypeForm.{TypeSet}
use Rattle.theory.specs.Alternatives.{results_of}
use Rattle.theory.specs.Conditions.{Labelled}
use Rattle.theory.proofs.Lists.ListLaws.{
  kept,
  below_at,
  at_else,
  at_mem,
  numbers_below_lem,
  map_on,
  take-map,
  drop-map,
  set_up_to,
  zeros_at,
}
use Rattle.union.specs.declared.lists.TypeLists.{TypeLists}
use Rattle.union.specs.TypeLists.{ListsOf}
use Rattle.union.specs.Walks.{list_of_type, Listed}
use Rattle.union.specs.PairNumbers.{rule_numbered, fruitful_of, is_left}
use Rattle.union.proofs.PairLists.{pairs_are}
use Rattle.forms.specs.Worklist.{NumbersOf}
use Rattle.forms.specs.SetForms.{pairs_labelled, label_left, set_number}

-- one number more
module _ (n : ℕ) (list : List ℕ) (x : ℕ) (h : n < length list) where
  pub numbers_more : (f : ℕ → ℕ) → NumbersOf f n list → x ≡ f n → NumbersOf f (n + 1) (set list n x)
  numbers_more f = set_up_to list n x h (λ i y. y ≡ f i)

pub none_small : (n bound i : ℕ) → get_or (replicate n 0) i 0 ≤ bound
none_small n bound i = let e = zeros_at n i in omega arith

-- images
map_at : (f : ℕ → ℕ) (l : List ℕ) (i : ℕ) → i < length l → get_or (map f l) i 0 ≡ f (get_or l i 0)
map_at f [] i h = absurd (omega arith)
map_at f (x ∷ l) zero h = refl
map_at f (x ∷ l) (suc i) h = map_at f l i (omega arith)

pub all_numbers : (f : ℕ → ℕ) (before after : List ℕ) (n : ℕ) → length before ≡ n → length after ≡ n
    → NumbersOf (λ i. f (get_or before i 0)) n after
    → after ≡ map f before
all_numbers f before after n p q h =
    ext_get_or 0 after (map f before) (q ∙ sym (length-map before f ∙ p)) (λ i l. h i (omega arith) ∙ sym (map_at f before i (omega arith)))

-- the label of a pair
pub label_if_left : (u : Table) (p : ℕ) (b : Bool) (l : ℕ) → b ≡ true → b ≡ is_left u p → l ≡ (rule_numbered u p).label → l ≡ label_left u p
unfolding label_left
label_if_left u p b l e f g = g ∙ rw (sym f ∙ e, label_left)

pub label_if_gone : (u : Table) (p : ℕ) (b : Bool) → b ≡ false → b ≡ is_left u p → 0 ≡ label_left u p
unfolding label_left
label_if_gone u p b e f = rw (sym f ∙ e, label_left)

label_below : (u : Table) → Labelled u → (p : ℕ) → p < length u.rules → label_left u p < length u.labels
unfolding label_left
label_below u labels p h = go (is_left u p) refl
  where
    at : (rule_numbered u p).label < length u.labels
    at =
        let r = below_at u.rules p h in
        let e = at_else u.rules p _ r.1 in
        subst (λ (s : Rule). s.label < length u.labels) (sym e) (labels r.0 (at_mem u.rules p r.1))

    go : (b : Bool) → is_left u p ≡ b → label_left u p < length u.labels
    go true e = rw (e, label_left) at
    go false e = rw (e, label_left) (let l = at in omega arith)

-- the numbers of the sets by pair
pub numbers_left : (u : Table) (sets : List TypeSet) (pairs : ℕ → Bool) (by of : List ℕ) (n : ℕ) → Labelled u → n ≡ length u.rules
    → NumbersOf (λ l. place same_numbers (pairs_labelled u pairs l) sets) (length u.labels) by
    → NumbersOf (λ p. get_or by (label_left u p) 0) n of
    → NumbersOf (set_number u sets pairs) (length u.rules) of
unfolding set_number
numbers_left u sets pairs by of n labels e h k p l = k p (omega arith) ∙ h (label_left u p) (label_below u labels p l)

-- the lists
pub fruitful_below : (u : Table) (k p : ℕ) → Memᴰ p (fruitful_of u k) → p < length u.rules
fruitful_below u k p m =
    let a = (kept (λ q. is_in q (fruitful (normalise u))) (pairs_of u k) m).0 in
    let b = subst (λ (l : List ℕ). Memᴰ p l) (pairs_are u k) a in
    (numbers_below_lem (length u.rules) p).0 (kept _ (numbers_below (length u.rules)) b).0

module _ (of : List ℕ) (small : (p : ℕ) → get_or of p 0 ≤ 128) where
  abbrev number_of : ℕ → ℕ
  number_of p = get_or of p 0

  side_listed : (from numbers : List ℕ) → Listed 128 256 from numbers → Listed 128 256 from (map number_of numbers)
  side_listed from numbers x =
      record {
        front = x.front;
        order = x.order;
        inside = λ k h. rw length-map (x.inside k h);
        below = λ i. below i (ltb i (length numbers)) refl;
      }
    where
      below : (i : ℕ) (b : Bool) → ltb i (length numbers) ≡ b → get_or (map number_of numbers) i 0 < 256
      below i true e =
          let q = map_at number_of numbers i (ltb-true i (length numbers) e) in
          let s = small (get_or numbers i 0) in
          omega arith
      below i false e =
          let past = ltb-false i (length numbers) e in
          let l = length-map numbers number_of in
          let q = get_or-eq_default (map number_of numbers) 0 {n = i} (omega arith) in
          omega arith

  side_list : (from numbers : List ℕ) (k : ℕ) → list_of_type from (map number_of numbers) k ≡ map number_of (list_of_type from numbers k)
  unfolding list_of_type
  side_list from numbers k =
      ap (take (get_or from (k + 1) 0 - get_or from k 0)) (drop-map number_of (get_or from k 0) numbers)
      ∙ take-map number_of (get_or from (k + 1) 0 - get_or from k 0) (drop (get_or from k 0) numbers)

  pub result_lists : (u : Table) (lists r : TypeLists) (target : ℕ → ℕ) → ListsOf (fruitful_of u) lists
      → NumbersOf target (length u.rules) of
      → r.old.from ≡ lists.old.from
      → r.old.numbers ≡ map (λ p. get_or of p 0) lists.old.numbers
      → r.addition.from ≡ lists.addition.from
      → r.addition.numbers ≡ map (λ p. get_or of p 0) lists.addition.numbers
      → ListsOf (results_of (pairs_of u) (fruitful (normalise u)) target) r
  result_lists u lists r target x h f n g m =
      record {
        old_listed =
            subst (λ (l : List ℕ). Listed 128 256 l r.old.numbers) (sym f)
            (subst (Listed 128 256 lists.old.from) (sym n) (side_listed lists.old.from lists.old.numbers x.old_listed));
        added_listed =
            subst (λ (l : List ℕ). Listed 128 256 l r.addition.numbers) (sym g)
            (subst (Listed 128 256 lists.addition.from) (sym m)
            (side_listed lists.addition.from lists.addition.numbers x.added_listed));
        old =
            λ k l.
            ap₂ (λ (a b : List ℕ). list_of_type a b k) f n
            ∙ side_list lists.old.from lists.old.numbers k
            ∙ ap (map number_of) (x.old k l)
            ∙ same k;
        added =
            λ k l.
            ap₂ (λ (a b : List ℕ). list_of_type a b k) g m
            ∙ side_list lists.addition.from lists.addition.numbers k
            ∙ ap (map number_of) (x.added k l)
            ∙ same (shifted large k);
      }
    where
      same : (k : ℕ) → map number_of (fruitful_of u k) ≡ map target (fruitful_of u k)
      same k = map_on number_of target (fruitful_of u k) (λ p q. h p (fruitful_below u k p q))
