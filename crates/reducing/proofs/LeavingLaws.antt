-- The pairs that reducing leaves:
--   list_part      the list of a type is a part
--   starts_small   the start types of a table that was read
--   start_set      the pairs in the lists of the start types are the starts
--   seen-*         the loop that makes rounds
use Rattle.reader.specs.declared.index.TableIndex.{TableIndex}
use Prim.Native.Nat.{ℕ, ◌+◌, ◌<◌}
use native.Mathlib.Omega.{arith}
use mathlib.Core.Bool.{Bool, true, false, ◌||◌, false≢true}
use mathlib.Core.List.Memᴰ
use mathlib.Core.List.{List, map, Memᴰ}
use mathlib.Core.Logic.{◌⊎◌, ⊎_elim}
use mathlib.Core.Path.{◌≡◌, sym, ◌∙◌, ap, subst, fun_ext}
use lib.ListN.{get_or}
use Rattle.grammar.specs.Lists.{is_in, joined_of, numbers_below}
use Rattle.grammar.specs.Limits.{large}
use Rattle.grammar.specs.Table.{Table}
use Rattle.grammar.specs.Unite.{shifted, unite}
use Rattle.grammar.specs.Normalise.{pairs_of, normalise}
use Rattle.grammar.specs.Reduce.{fruitful, without_unfruitful}
use Rattle.theory.proofs.Lists.BoolLaws.{same_test, or_cases, or_left, or_right}
use Rattle.theory.proofs.Lists.ListLaws.{
  kept,
  joined_from,
  joined_mem,
  numbers_below_lem,
  at_mem,
  mem_at,
  at_below,
  below_at,
  in_mem,
  mem_in,
}
use Rattle.theory.proofs.Steps.Reached.{start_reached}
use Rattle.sets.specs.Sets.{nothing, in_either}
use Rattle.reader.specs.TableIndex.{start_type, start_count}
use Rattle.reader.specs.Held.{Held}
use Rattle.reader.proofs.TableFoundLaws.{start_small}
use Rattle.union.specs.declared.lists.TypeLists.{TypeLists}
use Rattle.union.specs.PairNumbers.{fruitful_of, is_start, is_left, met_in}
use Rattle.union.specs.TypeLists.{ListsOf}
use Rattle.union.specs.Walks.{list_of_type, Listed, PartOfNumbers}
use Rattle.union.proofs.MetLaws.{met_hold}
use Rattle.union.proofs.ReachedLaws.{start_pairs, met_reached, reached_set}
use Rattle.reducing.specs.PairsListed.{StartsSmall}
use Rattle.reducing.proofs.MeetingLaws.{MetBy, met_was, met_has}

-- the list of a type
pub list_part : {from numbers : List ℕ} → Listed 128 256 from numbers → (k first end : ℕ) → k < 128 → first ≡ get_or from k 0
    → end ≡ get_or from (k + 1) 0
    → PartOfNumbers numbers first end
list_part {from} {numbers} l k first end h a b =
    let order = l.order k h in
    let inside = l.inside k h in
    record { order = omega arith; inside = omega arith }

-- the start types
module _ {s : List ℕ} {index : TableIndex} {g : Table} (x : Held large s index g) where
  pub starts_small : StartsSmall index
  starts_small = record { few = x.indexes.few_starts; small = start_small x.indexes x.within }

  module _ (f : ℕ → List ℕ) (p : ℕ) where
    starts_was : Memᴰ p (joined_of (λ i. f (start_type index i)) (numbers_below (start_count index)))
        → (k : ℕ) × Memᴰ k g.starts × Memᴰ p (f k)
    starts_was m =
        let j = joined_from (λ i. f (start_type index i)) (numbers_below (start_count index)) m in
        let b = (numbers_below_lem (start_count index) j.0).0 j.1 in
        let n = x.indexes.starts in
        let k = below_at g.starts j.0 (omega arith) in (
          k.0,
          at_mem g.starts j.0 k.1,
          subst (λ (t : ℕ). Memᴰ p (f t)) (x.indexes.start j.0 k.0 k.1) j.2,
        )

    starts_has : (k : ℕ) → Memᴰ k g.starts → Memᴰ p (f k)
        → Memᴰ p (joined_of (λ i. f (start_type index i)) (numbers_below (start_count index)))
    starts_has k m q =
        let a = mem_at m in
        let b = at_below g.starts a.0 a.1 in
        let n = x.indexes.starts in
        joined_mem (λ i. f (start_type index i)) ((numbers_below_lem (start_count index) a.0).1 (omega arith))
        (subst (λ (t : ℕ). Memᴰ p (f t)) (sym (x.indexes.start a.0 k a.1)) q)

-- the pairs in the lists of both tables' start types
module _ {old add : List ℕ} {index addition : TableIndex} {g h : Table} (x : Held large old index g)
    (y : Held large add addition h) {lists : TypeLists} (l : ListsOf (fruitful_of (unite large g h)) lists) where
  abbrev of : ℕ → List ℕ
  of = fruitful_of (unite large g h)

  abbrev olds : ℕ → List ℕ
  olds = list_of_type lists.old.from lists.old.numbers

  abbrev adds : ℕ → List ℕ
  adds = list_of_type lists.addition.from lists.addition.numbers

  abbrev old_pairs : List ℕ
  old_pairs = joined_of (λ i. olds (start_type index i)) (numbers_below (start_count index))

  abbrev added_pairs : List ℕ
  added_pairs = joined_of (λ i. adds (start_type addition i)) (numbers_below (start_count addition))

  small_old : (k : ℕ) → Memᴰ k g.starts → k < 128
  unfolding large
  small_old k m = x.within.start_types k m

  small_added : (k : ℕ) → Memᴰ k h.starts → k < 128
  unfolding large
  small_added k m = y.within.start_types k m

  old_start : (p : ℕ) → Memᴰ p old_pairs → is_start (unite large g h) p ≡ true
  unfolding unite
  old_start p m =
      let k = starts_was x olds p m in
      mem_in ((start_pairs (unite large g h) p).1 (
        k.0,
        Memᴰ.append_left (map (shifted large) h.starts) k.1,
        subst (λ (list : List ℕ). Memᴰ p list) (l.old k.0 (small_old k.0 k.1)) k.2,
      ))

  added_start : (p : ℕ) → Memᴰ p added_pairs → is_start (unite large g h) p ≡ true
  unfolding unite
  added_start p m =
      let k = starts_was y adds p m in
      mem_in ((start_pairs (unite large g h) p).1 (
        shifted large k.0,
        Memᴰ.append_right g.starts (Memᴰ.map (shifted large) k.1),
        subst (λ (list : List ℕ). Memᴰ p list) (l.added k.0 (small_added k.0 k.1)) k.2,
      ))

  start_listed : (p : ℕ) → is_start (unite large g h) p ≡ true → (is_in p added_pairs || (is_in p old_pairs || false)) ≡ true
  unfolding unite
  start_listed p e =
      let u = unite large g h in
      let s = (start_pairs u p).0 (in_mem p (without_unfruitful (normalise u)).starts e) in
      ⊎_elim
      (λ m.
      let q = starts_has x olds p s.0 m (subst (λ (list : List ℕ). Memᴰ p list) (sym (l.old s.0 (small_old s.0 m))) s.2) in
      or_right (is_in p added_pairs) (is_in p old_pairs || false) (or_left (is_in p old_pairs) false (mem_in q)))
      (λ m.
      let j = Memᴰ.of_map (shifted large) h.starts m in
      let k = j.0 in
      let n = subst (λ (t : ℕ). Memᴰ p (of t)) (sym j.2) s.2 in
      let q = starts_has y adds p k j.1 (subst (λ (list : List ℕ). Memᴰ p list) (sym (l.added k (small_added k j.1))) n) in
      or_left (is_in p added_pairs) (is_in p old_pairs || false) (mem_in q))
      (Memᴰ.append_cases g.starts s.1)

  pub start_set : (set first : ℕ → Bool) → set ≡ in_either (λ p. is_in p added_pairs) first → first ≡ in_either (λ p. is_in p old_pairs) nothing
      → set ≡ is_start (unite large g h)
  start_set set first a b =
      a
      ∙ ap (in_either (λ p. is_in p added_pairs)) b
      ∙ fun_ext
      (λ p.
      same_test (is_in p added_pairs || (is_in p old_pairs || false)) (is_start (unite large g h) p) (
        λ e.
            ⊎_elim
            (λ t. added_start p (in_mem p added_pairs t))
            (λ t. ⊎_elim (λ q. old_start p (in_mem p old_pairs q)) (λ q. absurd (false≢true q)) (or_cases (is_in p old_pairs) false t))
            (or_cases (is_in p added_pairs) (is_in p old_pairs || false) e),
        start_listed p,
      ))

-- the pairs seen so far: the starts are among them, and each is left and fruitful
pub record SeenPairs (u : Table) (seen : ℕ → Bool) : Type 0 where
  pub starts : (p : ℕ) → is_start u p ≡ true → seen p ≡ true
  pub left : (p : ℕ) → seen p ≡ true → is_left u p ≡ true
  pub fruitful_pair : (p : ℕ) → seen p ≡ true → is_in p (fruitful (normalise u)) ≡ true

module _ (u : Table) where
  list_fruitful : (k p : ℕ) → Memᴰ p (fruitful_of u k) → is_in p (fruitful (normalise u)) ≡ true
  list_fruitful k p m = (kept (λ q. is_in q (fruitful (normalise u))) (pairs_of u k) m).1

  pub seen_start : (set : ℕ → Bool) → set ≡ is_start u → SeenPairs u set
  seen_start set e =
      let start : (p : ℕ) → set p ≡ true → Memᴰ p (without_unfruitful (normalise u)).starts =
      λ p t. in_mem p (without_unfruitful (normalise u)).starts (sym (ap (λ s. s p) e) ∙ t) in
      record {
        starts = λ p t. ap (λ s. s p) e ∙ t;
        left = λ p t. mem_in (start_reached (without_unfruitful (normalise u)) p (start p t));
        fruitful_pair = λ p t. let k = (start_pairs u p).0 (start p t) in list_fruitful k.0 p k.2;
      }

  module _ (seen met : ℕ → Bool) where
    pub seen_next : (next : ℕ → Bool) → SeenPairs u seen → met ≡ (λ p. is_in p (met_in u seen)) → next ≡ in_either seen met → SeenPairs u next
    seen_next next s m e =
        let by : (p : ℕ) → met p ≡ true → MetBy u seen p =
        λ p t. met_was u seen p (in_mem p (met_in u seen) (sym (ap (λ set. set p) m) ∙ t)) in
        let either : (p : ℕ) → next p ≡ true → (seen p ≡ true) ⊎ (met p ≡ true) =
        λ p t. or_cases (seen p) (met p) (sym (ap (λ set. set p) e) ∙ t) in
        record {
          starts = λ p t. ap (λ set. set p) e ∙ or_left (seen p) (met p) (s.starts p t);
          left =
              λ p t.
              ⊎_elim (s.left p)
              (λ q.
              let b = by p q in
              mem_in (met_reached u b.rule p b.of_table (s.fruitful_pair _ b.of_set) (s.left _ b.of_set) b.meets))
              (either p t);
          fruitful_pair =
              λ p t.
              ⊎_elim (s.fruitful_pair p)
              (λ q.
              let b = by p q in
              met_hold (fruitful_of u) (λ r. is_in r (fruitful (normalise u)) ≡ true) list_fruitful b.rule.content p b.meets)
              (either p t);
        }

    pub seen_end : SeenPairs u seen → met ≡ (λ p. is_in p (met_in u seen)) → in_either seen met ≡ seen → seen ≡ is_left u
    seen_end s m closed =
        reached_set u seen
        (λ p n. s.starts p (mem_in n))
        (λ r p n f t q.
        let b : MetBy u seen p = record { rule = r; of_table = n; of_set = t; meets = q } in
        sym (ap (λ set. set p) closed)
        ∙ or_right (seen p) (met p) (ap (λ set. set p) m ∙ mem_in (met_has u seen p b)))
        s.left
