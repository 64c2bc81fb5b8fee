-- The known pairs of a union by type, listed:
--   pair_new                a pair is not among those of earlier types or numbers
--   append_new, append_off  one number more, or none
--   pairs_fruitful          the known pairs of a type are its fruitful pairs
--   filling-*               the loop that lists type after type
--   listed_old, listed_added, types_all   the types with a list that is not empty
use Prim.Native.Nat.{ℕ, zero, suc, ◌+◌, ◌-◌, ◌≤◌, ◌<◌}
use native.Mathlib.Omega.{arith}
use native.Mathlib.Numerals.{add-one}
use mathlib.Core.Bool.{Bool, true, false, not, ◌&&◌, false≢true}
use mathlib.Core.List.Memᴰ
use mathlib.Core.List.{List, [], ◌∷◌, ◌++◌, append-nil, append_assoc, Memᴰ}
use mathlib.Core.Logic.{⊎_elim}
use mathlib.Core.Path.{◌≡◌, refl, sym, ◌∙◌, ap, ap₂, subst}
use lib.ListN.{length, get_or, set, take, drop, replicate, length-set, length-append, length-replicate, get_or-replicate, take-append-drop, get_or-eq_default}
use lib.Seq.{take-suc-set, take_at, drop_at, length-take-le, get_or-set_same, get_or-set_other}
use lib.Dec.{eqb, ltb}
use borrow.Author.Tests.{eqb-true, eqb-false, eq-eqb, ne_eqb, ltb-true, ltb-false}
use Rattle.grammar.specs.Lists.{keep, distinct, is_in, numbers_below}
use Rattle.grammar.specs.Limits.{large}
use Rattle.grammar.specs.Table.{Rule, Table}
use Rattle.grammar.specs.ReadTable.{is_empty}
use Rattle.grammar.specs.Unite.{shifted}
use Rattle.grammar.specs.Normalise.{pair_of, normalise}
use Rattle.grammar.specs.Reduce.{fruitful}
use Rattle.theory.specs.Alternatives.{only_if, some_left}
use Rattle.theory.proofs.Lists.BoolLaws.{and_left, false_of, same_test}
use Rattle.theory.proofs.Lists.ListLaws.{
  kept,
  joined_from,
  in_mem,
  numbers_below_lem,
  at_else,
  keep_on,
  keep_both,
  set_all,
  joined_next,
}
use Rattle.sets.specs.Sets.{nothing}
use Rattle.union.specs.declared.united.United.{United}
use Rattle.union.specs.declared.lists.Lists.{Lists}
use Rattle.union.specs.declared.lists.TypeLists.{TypeLists}
use Rattle.union.specs.View.{Views, type_in, first_in}
use Rattle.union.specs.Rounds.{puts}
use Rattle.union.specs.TypeLists.{ListsOf}
use Rattle.union.specs.Walks.{list_of_type, Once}
use Rattle.union.specs.PairNumbers.{rule_numbered, fruitful_of, no_rule}
use Rattle.union.proofs.OnceLaws.{new_room, adds_new, adds_once}
use Rattle.union.proofs.MetLaws.{some_listed}
use Rattle.union.proofs.PutsLaws.{puts_was, puts_has}
use Rattle.union.proofs.ViewLaws.{seen}
use Rattle.union.proofs.PairLists.{pairs_are}
use Rattle.reducing.specs.PairsListed.{is_pair, pairs_in, pairs_from, ListsFilled, Appends, Earlier, ListsEach}
use Rattle.reducing.proofs.NumberLaws.{joined_start}

-- numbers after others
pub appends_same : {front xs ys list : List ℕ} {count : ℕ} → xs ≡ ys → Appends front xs list count → Appends front ys list count
appends_same {front} {xs} {ys} {list} {count} e a = subst (λ (l : List ℕ). Appends front l list count) e a

pub appends_none : {list : List ℕ} {count : ℕ} → ListsFilled list count → Appends (take count list) [] list count
appends_none {list} {count} f = record { all = sym (append-nil (take count list)); filled = f }

pub appends_join : (front xs ys list list' : List ℕ) (count r : ℕ) → Appends front xs list count
    → Appends (take count list) ys list' r
    → Appends front (xs ++ ys) list' r
appends_join front xs ys list list' count r a b =
    record {
      all = b.all ∙ ap (λ (l : List ℕ). l ++ ys) a.all ∙ append_assoc front xs ys;
      filled = b.filled;
    }

pub append_room : (list : List ℕ) (count p : ℕ) → ListsFilled list count → p < 256 → is_in p (take count list) ≡ false
    → count < length list
append_room list count p f small e = new_room 256 list count f.once p small e

pub append_new : (list : List ℕ) (count p : ℕ) (b : Bool) → ListsFilled list count → p < 256 → is_in p (take count list) ≡ false
    → b ≡ true
    → Appends (take count list) (only_if b (p ∷ [])) (set list count p) (count + 1)
unfolding only_if
append_new list count p b f small e on =
    let room = append_room list count p f small e in
    appends_same (sym (ap (λ (c : Bool). only_if c (p ∷ [])) on))
    (record {
      all =
          ap (λ (n : ℕ). take n (set list count p)) (add-one count)
          ∙ take-suc-set list count p room;
      filled =
          record {
            once =
                adds_once 256 list count f.once (p ∷ []) (set list count p) (count + 1)
                (λ q m. subst (λ (x : ℕ). x < 256) (sym (Memᴰ.eq_of_singleton m)) small)
                (adds_new 256 list count f.once p e room)
                (length-set list count p);
            below = set_all list count p room (λ n. n < 256) f.below small;
          };
    })

pub append_off : (list more : List ℕ) (count : ℕ) (b : Bool) → ListsFilled list count → b ≡ false
    → Appends (take count list) (only_if b more) list count
unfolding only_if
append_off list more count b f off = appends_same (sym (ap (λ (c : Bool). only_if c more) off)) (appends_none f)

-- no numbers yet
abbrev zeros : ℕ → List ℕ
zeros n = replicate n 0

zero_at : (n i : ℕ) → get_or (zeros n) i 0 ≡ 0
zero_at n i = go (ltb i n) refl
  where
    go : (b : Bool) → ltb i n ≡ b → get_or (zeros n) i 0 ≡ 0
    go true e = get_or-replicate n i 0 0 (ltb-true i n e)
    go false e =
        get_or-eq_default (zeros n) 0
        (subst (λ (x : ℕ). x ≤ i) (sym (length-replicate {A = ℕ} n 0)) (ltb-false i n e))

none_once : (list : List ℕ) → 256 ≤ length list → Once 256 list 0
unfolding distinct
none_once list h = record { room = h; held = omega arith; once = refl; below = λ p m. elim m [ ] }

pub filled_zeros : ListsFilled (replicate 256 0) 0
filled_zeros =
    record {
      once = none_once (replicate 256 0) (subst (λ (n : ℕ). 256 ≤ n) (sym (length-replicate {A = ℕ} 256 0)) (omega arith));
      below = λ i. subst (λ (x : ℕ). x < 256) (sym (zero_at 256 i)) (omega arith);
    }

-- a part of a list
part_is : (a b rest numbers : List ℕ) (x y : ℕ) → x ≡ length a → y ≡ length a + length b → numbers ≡ a ++ (b ++ rest)
    → take (y - x) (drop x numbers) ≡ b
part_is a b rest numbers x y p q e =
    let n : length b ≡ y - x = omega arith in
    ap (λ (l : List ℕ). take (y - x) (drop x l)) e
    ∙ ap (take (y - x)) (drop_at a (b ++ rest) x (sym p))
    ∙ take_at b rest (y - x) n

module _ (v : United) (known : ℕ → Bool) where
  -- whether a number is that of a pair of the type
  module _ (ty p : ℕ) where
    pub pair_other : (type_in v p ≡ ty → ⊥) → false ≡ is_pair v known ty p
    pair_other d =
        sym (ap (λ (b : Bool). b && eqb (first_in v p) p && known p) (ne_eqb (type_in v p) ty d))

    pub pair_later : type_in v p ≡ ty → (first_in v p ≡ p → ⊥) → false ≡ is_pair v known ty p
    pair_later e d =
        sym (ap₂ (λ (a b : Bool). a && b && known p) (eq-eqb (type_in v p) ty e) (ne_eqb (first_in v p) p d))

    pub pair_known : type_in v p ≡ ty → first_in v p ≡ p → known p ≡ is_pair v known ty p
    pair_known e f = sym (ap₂ (λ (a b : Bool). a && b && known p) (eq-eqb (type_in v p) ty e) (eq-eqb (first_in v p) p f))

  pub pair_new : (ty p : ℕ) (front list : List ℕ) → Earlier v ty front
      → list ≡ front ++ keep (is_pair v known ty) (numbers_below p)
      → is_pair v known ty p ≡ true
      → is_in p list ≡ false
  pair_new ty p front list h e t =
      let same = eqb-true (type_in v p) ty
      (and_left (eqb (type_in v p) ty) (eqb (first_in v p) p)
      (and_left (eqb (type_in v p) ty && eqb (first_in v p) p) (known p) t)) in
      false_of (is_in p list)
      (λ i.
      ⊎_elim
      (λ m. let b = h p m in omega arith)
      (λ m. let b = (numbers_below_lem p p).0 (kept (is_pair v known ty) (numbers_below p) m).0 in omega arith)
      (Memᴰ.append_cases front (subst (λ (l : List ℕ). Memᴰ p l) e (in_mem p list i))))

  pub pairs_in_lem : (ty : ℕ) → keep (is_pair v known ty) (numbers_below v.rules) ≡ pairs_in v known ty
  unfolding pairs_in
  pairs_in_lem ty = refl

  module _ (base : ℕ) where
    pairs_next : (n : ℕ) → pairs_from v known base (n + 1) ≡ pairs_from v known base n ++ pairs_in v known (base + n)
    unfolding pairs_from
    pairs_next n = joined_next (λ k. pairs_in v known (base + k)) n

    pairs_start : pairs_from v known base 0 ≡ []
    unfolding pairs_from
    pairs_start = joined_start (λ k. pairs_in v known (base + k))

    pairs_earlier : (n q : ℕ) → Memᴰ q (pairs_from v known base n) → type_in v q < base + n
    unfolding pairs_from pairs_in
    pairs_earlier n q m =
        let j = joined_from (λ k. pairs_in v known (base + k)) (numbers_below n) m in
        let k = j.0 in
        let below = (numbers_below_lem n k).0 j.1 in
        let t = (kept (is_pair v known (base + k)) (numbers_below v.rules) j.2).1 in
        let same = eqb-true (type_in v q) (base + k)
        (and_left (eqb (type_in v q) (base + k)) (eqb (first_in v q) q)
        (and_left (eqb (type_in v q) (base + k) && eqb (first_in v q) q) (known q) t)) in
        omega arith

    pairs_front : (n d : ℕ) → (rest : List ℕ) × (pairs_from v known base (n + d) ≡ pairs_from v known base n ++ rest)
    pairs_front n zero =
        let z : n + 0 ≡ n = omega arith in
        ([], ap (pairs_from v known base) z ∙ sym (append-nil (pairs_from v known base n)))
    pairs_front n (suc d) =
        let r = pairs_front n d in
        let z : n + suc d ≡ n + d + 1 = omega arith in
        let last = pairs_in v known (base + (n + d)) in (
          r.0 ++ last,
          ap (pairs_from v known base) z
              ∙ pairs_next (n + d)
              ∙ ap (λ (l : List ℕ). l ++ last) r.1
              ∙ append_assoc (pairs_from v known base n) r.0 last,
        )

    -- the lists of the first types are laid down
    pub record Filling (from numbers : List ℕ) (count k : ℕ) : Type 0 where
      pub all : Appends [] (pairs_from v known base k) numbers count
      pub begins : (i : ℕ) → i ≤ k → get_or from i 0 ≡ length (pairs_from v known base i)
      pub places : length from ≡ 129
      pub room : length numbers ≡ 256

    pub filling_start : Filling (replicate 129 0) (replicate 256 0) 0 0
    filling_start =
        record {
          all = record { all = sym pairs_start; filled = filled_zeros };
          begins =
              λ i h.
              let z : i ≡ 0 = omega arith in
              zero_at 129 i
              ∙ sym (ap (λ (n : ℕ). length (pairs_from v known base n)) z ∙ ap length pairs_start);
          places = length-replicate {A = ℕ} 129 0;
          room = length-replicate {A = ℕ} 256 0;
        }

    module _ {from numbers : List ℕ} {count k : ℕ} (f : Filling from numbers count k) where
      pub filling_earlier : Earlier v (base + k) (take count numbers)
      filling_earlier q m = pairs_earlier k q (subst (λ (l : List ℕ). Memᴰ q l) f.all.all m)

      pub filling_more : (numbers' : List ℕ) (more : ℕ) → Appends (take count numbers) (pairs_in v known (base + k)) numbers' more
          → length numbers' ≡ length numbers
          → more ≤ 256
      filling_more numbers' more a same = let h = a.filled.once.held in let r = f.room in omega arith

      pub filling_next : (numbers' : List ℕ) (more place : ℕ) → k < 128
          → Appends (take count numbers) (pairs_in v known (base + k)) numbers' more
          → length numbers' ≡ length numbers
          → place ≡ more
          → Filling (set from (k + 1) place) numbers' more (k + 1)
      filling_next numbers' more place h a same e =
          let all = appends_same (sym (pairs_next k)) (appends_join [] (pairs_from v known base k) (pairs_in v known (base + k)) numbers numbers' count more f.all a) in
          let size = sym (length-take-le more numbers' all.filled.once.held) ∙ ap length all.all in
          record {
            all = all;
            begins = λ i b. go i b size (eqb i (k + 1)) refl;
            places = length-set from (k + 1) place ∙ f.places;
            room = same ∙ f.room;
          }
        where
          go : (i : ℕ) → i ≤ k + 1 → more ≡ length (pairs_from v known base (k + 1)) → (b : Bool) → eqb i (k + 1) ≡ b
              → get_or (set from (k + 1) place) i 0 ≡ length (pairs_from v known base i)
          go i b size true t =
              let z = eqb-true i (k + 1) t in
              let p = f.places in
              ap (λ (n : ℕ). get_or (set from (k + 1) place) n 0) z
              ∙ get_or-set_same from (k + 1) place 0 (omega arith)
              ∙ e
              ∙ size
              ∙ ap (λ (n : ℕ). length (pairs_from v known base n)) (sym z)
          go i b size false t =
              let d = eqb-false i (k + 1) t in
              get_or-set_other from (k + 1) i place 0 d ∙ f.begins i (below i b d)
            where
              below : (i : ℕ) → i ≤ k + 1 → (i ≡ k + 1 → ⊥) → i ≤ k
              below i b d = omega arith

    module _ {from numbers : List ℕ} {count : ℕ} (f : Filling from numbers count 128) where
      parts : (k : ℕ) → k < 128 → (rest : List ℕ) × (numbers ≡ pairs_from v known base k ++ (pairs_in v known (base + k) ++ rest))
      parts k h =
          let z : k + 1 + (128 - (k + 1)) ≡ 128 = omega arith in
          let r = pairs_front (k + 1) (128 - (k + 1)) in
          let a = pairs_from v known base k in
          let b = pairs_in v known (base + k) in (
            r.0 ++ drop count numbers,
            sym (take-append-drop count numbers)
                ∙ ap (λ (l : List ℕ). l ++ drop count numbers)
                (f.all.all
                ∙ ap (pairs_from v known base) (sym z)
                ∙ r.1
                ∙ ap (λ (l : List ℕ). l ++ r.0) (pairs_next k)
                ∙ append_assoc a b r.0)
                ∙ append_assoc a (b ++ r.0) (drop count numbers)
                ∙ ap (λ (l : List ℕ). a ++ l) (append_assoc b r.0 (drop count numbers)),
          )

      sizes : (k : ℕ) → k < 128
          → (get_or from k 0 ≡ length (pairs_from v known base k))
          × (get_or from (k + 1) 0 ≡ length (pairs_from v known base k) + length (pairs_in v known (base + k)))
      sizes k h = (
        f.begins k (omega arith),
        f.begins (k + 1) (omega arith)
            ∙ ap length (pairs_next k)
            ∙ length-append (pairs_from v known base k) (pairs_in v known (base + k)),
      )

      pub filling_end : ListsEach (λ k. pairs_in v known (base + k)) (record { from = from; numbers = numbers })
      unfolding list_of_type
      filling_end =
          record {
            listed =
                record {
                  front = let p = f.places in omega arith;
                  order = λ k h. let s = sizes k h in let a = s.0 in let b = s.1 in omega arith;
                  inside =
                      λ k h.
                      let s = sizes k h in
                      let b = s.1 in
                      let p = parts k h in
                      let first = pairs_from v known base k in
                      let next = pairs_in v known (base + k) in
                      let n = ap length p.1 ∙ length-append first (next ++ p.0) in
                      let m = length-append next p.0 in
                      omega arith;
                  below = f.all.filled.below;
                };
            each =
                λ k h.
                let s = sizes k h in
                let p = parts k h in
                part_is (pairs_from v known base k) (pairs_in v known (base + k)) p.0 numbers (get_or from k 0) (get_or from (k + 1) 0) s.0 s.1 p.1;
          }

-- the pairs of a type in the view are those of the union
module _ {old add : List ℕ} {v : United} {u : Table} (x : Views old add v u) where
  pub rule_at : (i : ℕ) → i < v.rules
      → (type_in v i ≡ (rule_numbered u i).type) × (first_in v i ≡ pair_of u (rule_numbered u i))
  rule_at i h =
      let s = seen x i h in
      let e = at_else u.rules i no_rule s.1 in
      (s.2.type ∙ ap (λ (r : Rule). r.type) (sym e), s.2.first ∙ ap (pair_of u) (sym e))

  pub pairs_fruitful : (known : ℕ → Bool) → known ≡ (λ p. is_in p (fruitful (normalise u))) → (k : ℕ)
      → pairs_in v known k ≡ fruitful_of u k
  unfolding pairs_in
  pairs_fruitful known e k =
      let found : ℕ → Bool = λ p. is_in p (fruitful (normalise u)) in
      let test : ℕ → Bool = λ q. eqb (rule_numbered u q).type k && eqb (pair_of u (rule_numbered u q)) q in
      ap (λ (set : ℕ → Bool). keep (is_pair v set k) (numbers_below v.rules)) e
      ∙ keep_on (is_pair v found k) (λ q. test q && found q) (numbers_below v.rules)
      (λ q m.
      let r = rule_at q ((numbers_below_lem v.rules q).0 m) in
      ap₂ (λ (t p : ℕ). eqb t k && eqb p q && found q) r.0 r.1)
      ∙ ap (λ (n : ℕ). keep (λ q. test q && found q) (numbers_below n)) x.rules
      ∙ sym (keep_both test found (numbers_below (length u.rules)))
      ∙ ap (keep found) (sym (pairs_are u k))

pub lists_both : (of : ℕ → List ℕ) (first second : ℕ → List ℕ) (a b : Lists) → ListsEach first a → ListsEach second b
    → ((k : ℕ) → first k ≡ of k)
    → ((k : ℕ) → second k ≡ of (128 + k))
    → ListsOf of (record { old = a; addition = b })
unfolding shifted large
lists_both of first second a b x y p q =
    record {
      old_listed = x.listed;
      added_listed = y.listed;
      old = λ k h. x.each k h ∙ p k;
      added = λ k h. y.each k h ∙ q k;
    }

-- whether a type has a list that is not empty
module _ {of : ℕ → List ℕ} {r : TypeLists} (x : ListsOf of r) where
  pub listed_old : (k : ℕ) → k < 128 → ltb (get_or r.old.from k 0) (get_or r.old.from (k + 1) 0) ≡ some_left of k
  unfolding some_left
  listed_old k h =
      some_listed r.old.from r.old.numbers k (x.old_listed.order k h) (x.old_listed.inside k h)
      ∙ ap (λ (l : List ℕ). not (is_empty l)) (x.old k h)

  pub listed_added : (k : ℕ) → 128 ≤ k → k < 256
      → ltb (get_or r.addition.from (k - 128) 0) (get_or r.addition.from (k - 127) 0) ≡ some_left of k
  unfolding some_left shifted large
  listed_added k low high =
      let n : k - 127 ≡ k - 128 + 1 = omega arith in
      let m : 128 + (k - 128) ≡ k = omega arith in
      let h : k - 128 < 128 = omega arith in
      ap (λ (i : ℕ). ltb (get_or r.addition.from (k - 128) 0) (get_or r.addition.from i 0)) n
      ∙ some_listed r.addition.from r.addition.numbers (k - 128) (x.added_listed.order (k - 128) h)
      (x.added_listed.inside (k - 128) h)
      ∙ ap (λ (l : List ℕ). not (is_empty l)) (x.added (k - 128) h ∙ ap of m)

pub types_all : (test set : ℕ → Bool) (n : ℕ) → set ≡ puts test (λ j. j) nothing n → (k : ℕ) → k < n → set k ≡ test k
types_all test set n e k h =
    same_test (set k) (test k) (
      λ t.
          ⊎_elim
          (λ b. absurd (false≢true b))
          (λ q. ap test (sym q.keyed) ∙ q.is_on)
          (puts_was test (λ j. j) nothing n k (sym (ap (λ s. s k) e) ∙ t)),
      λ t. ap (λ s. s k) e ∙ puts_has test (λ j. j) nothing n k h t,
    )
