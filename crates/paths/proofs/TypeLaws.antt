-- The types of nodes, found one after the other by their keys and names: what the loop of `types_of` holds, step by step.
use Prim.Native.Nat.{ℕ, zero, suc, ◌+◌, ◌≤◌, ◌<◌}
use native.Mathlib.Omega.{arith}
use native.Mathlib.Numerals.{add-one}
use mathlib.Core.Bool.{Bool, ◌&&◌}
use mathlib.Core.List.{List, [], ◌∷◌, ◌++◌, Memᴰ}
use mathlib.Core.Logic.{◌⊎◌}
use mathlib.Core.Path.{◌≡◌, refl, sym, ◌∙◌, ap, subst}
use lib.Dec.{eqb}
use lib.ListN.{length, length-set, get_or, set, take}
use lib.Seq.{get_or-take, length-take-le, take-suc}
use borrow.Author.Tests.{eq-eqb}
use Rattle.grammar.specs.Lists.{distinct, place, numbers_below}
use Rattle.grammar.specs.Names.{Name, same_name}
use Rattle.grammar.specs.Tree.{Tree}
use Rattle.grammar.specs.ReadDocument.{Node}
use Rattle.theory.proofs.Lists.ListLaws.{
  at_else,
  any_of,
  at_mem,
  mem_at,
  at_below,
  at_or_else,
  distinct_was,
  distinct_has,
  numbers_below_lem,
  numbers_end,
  taken_mem,
  set_up_to,
}
use Rattle.theory.proofs.Lists.PlaceLaws.{place_front}
use Rattle.theory.proofs.Lists.DistinctLaws.{distinct_grows}
use Rattle.theory.proofs.Trees.NameLaws.{name_refl, name_sym, name_trans}
use Rattle.theory.proofs.Trees.PathLaws.{path_refl, path_sym, path_trans}
use Rattle.paths.specs.SampleNodes.{Whole, TypedTo, KeyAt, KeysAt, above_in, name_in, same_key, name_at, path_at, parent_at, type_at, above_at, same_at, same_name_in, LabelledTo}
use Rattle.paths.proofs.NumberingLaws.{place_agree, number_stays, one_more}
use Rattle.paths.proofs.SampleByNodes.{below_path, same_path_lem, type_place}

pub record Typing (ns : List Node) (d : Tree) (types aboves firsts : List ℕ) (count i : ℕ) : Type 0 where
  pub typed : TypedTo ns d types firsts count i
  pub aboves_are : (j : ℕ) → j < i → get_or aboves j 0 ≡ above_at ns d j

pub typing_start : (ns : List Node) (d : Tree) (types aboves firsts : List ℕ) → Typing ns d types aboves firsts 0 0
unfolding distinct numbers_below
typing_start ns d types aboves firsts =
    record {
      typed =
          record {
            types_are = λ j h. absurd (omega arith);
            small = λ j h. absurd (omega arith);
            firsts_are = refl;
            few = omega arith;
          };
      aboves_are = λ j h. absurd (omega arith);
    }

module _ {s names sizes parents : List ℕ} {n : ℕ} (q : Whole s names sizes parents n) {types aboves firsts : List ℕ} {count i : ℕ}
    (t : Typing q.list q.tree types aboves firsts count i) (h : i < n) where
  abbrev ns : List Node
  ns = q.list

  abbrev d : Tree
  d = q.tree

  parent_is : get_or parents i 0 ≡ parent_at ns i
  parent_is = sym (get_or-take n parents i 0 h) ∙ ap (λ (l : List ℕ). get_or l i 0) q.parents_are

  parent_below : 0 < i → get_or parents i 0 < i
  parent_below z =
      let m = q.many in
      let b = (below_path ns q.one q.enough i z (omega arith)).1 in
      let p = parent_is in
      omega arith

  pub above_room : length types ≡ 2048 → 0 < i → (get_or parents i 0 < length types) × (get_or types (get_or parents i 0) 0 < 2048)
  above_room l z =
      let b = parent_below z in
      let w = t.typed.small (get_or parents i 0) b in
      let f = t.typed.few in
      let g = q.few in
      (omega arith, omega arith)

  pub above_small : above_in types (get_or parents i 0) i ≤ 2048
  above_small = go i refl
    where
      go : (j : ℕ) → i ≡ j → above_in types (get_or parents i 0) j ≤ 2048
      go zero e = omega arith
      go (suc j) e =
          let w = t.typed.small (get_or parents i 0) (parent_below (omega arith)) in
          let f = t.typed.few in
          let g = q.few in
          omega arith

  above_is : above_in types (get_or parents i 0) i ≡ above_at ns d i
  above_is = go i refl
    where
      go : (j : ℕ) → i ≡ j → above_in types (get_or parents i 0) j ≡ above_at ns d j
      go zero e = refl
      go (suc j) e =
          ap suc
          (t.typed.types_are (get_or parents i 0) (parent_below (omega arith))
          ∙ ap (type_at ns d) (parent_is ∙ ap (parent_at ns) e))

  module _ (a : ℕ) (ea : a ≡ above_in types (get_or parents i 0) i) (la : length aboves ≡ 2048) (lf : length firsts ≡ 2048) where
    abbrev more : List ℕ
    more = set aboves i a

    more_long : length more ≡ 2048
    more_long = length-set aboves i a ∙ la

    pub aboves_next : (j : ℕ) → j < i + 1 → get_or more j 0 ≡ above_at ns d j
    aboves_next =
        let f = q.few in
        set_up_to aboves i a (omega arith) (λ j x. x ≡ above_at ns d j) t.aboves_are (ea ∙ above_is)

    key_at : (j : ℕ) → j < n → KeyAt s names sizes more j
    key_at j k =
        let a1 = q.names_held in
        let a2 = q.sizes_held in
        let a3 = q.few in
        let a4 = more_long in
        record { name_held = omega arith; size_held = omega arith; key_held = omega arith; within = q.within j k }

    pub firsts_below : (u : ℕ) → u < count → get_or firsts u 0 < i
    firsts_below u k =
        let f = t.typed.few in
        let g = q.few in
        let m = taken_mem firsts u count k (omega arith) in
        (numbers_below_lem i (get_or firsts u 0)).0
        (distinct_was (same_at ns d) (numbers_below i) (subst (Memᴰ (get_or firsts u 0)) t.typed.firsts_are m))

    pub find_room : KeyAt s names sizes more i × KeysAt s names sizes more firsts count
    find_room =
        let f = t.typed.few in
        let g = q.few in
        (key_at i h, record { few = omega arith; each = λ u k. let b = firsts_below u k in key_at (get_or firsts u 0) (omega arith) })

    same_keys : (j : ℕ) → j < i → same_key s names sizes more i j ≡ same_at ns d i j
    same_keys j k =
        let m = q.many in
        ap (λ (x : ℕ). eqb x (get_or more j 0) && same_name (name_in s names sizes i) (name_in s names sizes j)) (aboves_next i (omega arith))
        ∙ ap (λ (x : ℕ). eqb (above_at ns d i) x && same_name (name_in s names sizes i) (name_in s names sizes j)) (aboves_next j (omega arith))
        ∙ ap (λ (x : Name). eqb (above_at ns d i) (above_at ns d j) && same_name x (name_in s names sizes j)) (q.names_are i h)
        ∙ ap (λ (x : Name). eqb (above_at ns d i) (above_at ns d j) && same_name (name_at ns i) x) (q.names_are j (omega arith))
        ∙ sym (same_path_lem ns q.one q.enough d q.is_tree i j (omega arith) (omega arith))

    module _ (r : ℕ) (er : r ≡ place (same_key s names sizes more) i (take count firsts)) where
      found_is : r ≡ place (same_at ns d) i (distinct (same_at ns d) (numbers_below i))
      found_is =
          er
          ∙ ap (place (same_key s names sizes more) i) t.typed.firsts_are
          ∙ place_agree (same_key s names sizes more) (same_at ns d) i (distinct (same_at ns d) (numbers_below i))
          (λ j m. same_keys j ((numbers_below_lem i j).0 (distinct_was (same_at ns d) (numbers_below i) m)))

      pub typing_next : length types ≡ 2048 → (c : ℕ) → ((r ≡ count) × (c ≡ count + 1)) ⊎ ((r ≡ count → ⊥) × (c ≡ count))
          → Typing ns d (set types i r) more (set firsts count i) c (i + 1)
      typing_next lt c w =
          let f = t.typed.few in
          let g = q.few in
          let m = q.many in
          let o =
          one_more (same_at ns d) (λ x. path_refl (path_at ns x)) (λ x y. path_sym (path_at ns x) (path_at ns y))
          (λ x y z. path_trans (path_at ns x) (path_at ns y) (path_at ns z)) (numbers_below i) i firsts count c r t.typed.firsts_are
          (omega arith) found_is w in
          let grows = o.grows in
          let most = o.most in
          record {
            typed =
                record {
                  types_are =
                      set_up_to types i r (omega arith) (λ j x. x ≡ type_at ns d j) t.typed.types_are
                      (found_is ∙ sym (type_place ns q.one q.enough d q.is_tree i (omega arith)));
                  small =
                      set_up_to types i r (omega arith) (λ j x. x < c) (λ j k. let b = t.typed.small j k in omega arith) o.placed;
                  firsts_are = o.listed ∙ ap (distinct (same_at ns d)) (sym (numbers_end i));
                  few = omega arith;
                };
            aboves_are = aboves_next;
          }

pub above_first : (types : List ℕ) (parent i : ℕ) → i ≡ 0 → 0 ≡ above_in types parent i
above_first types parent zero e = refl
above_first types parent (suc i) e = absurd (omega arith)

pub above_later : (types : List ℕ) (parent i : ℕ) → (i ≡ 0 → ⊥) → get_or types parent 0 + 1 ≡ above_in types parent i
above_later types parent zero e = absurd (e refl)
above_later types parent (suc i) e = add-one (get_or types parent 0)

-- The labels of listed nodes, found one after the other by their names: what the loop of `labels_of` holds, step by step.
pub labelling_start : (s names sizes nodes labels firsts : List ℕ) → LabelledTo s names sizes nodes labels firsts 0 0
unfolding distinct
labelling_start s names sizes nodes labels firsts =
    record {
      labels_are = λ j h. absurd (omega arith);
      small = λ j h. absurd (omega arith);
      firsts_are = refl;
      few = omega arith;
    }

module _ {s names sizes keys nodes : List ℕ} {types : ℕ} (held : KeysAt s names sizes keys nodes types) (alike : (i : ℕ) → get_or keys i 0 ≡ 0)
    {labels firsts : List ℕ} {count t : ℕ} (l : LabelledTo s names sizes nodes labels firsts count t) (h : t < types) where
  abbrev same : ℕ → ℕ → Bool
  same = same_name_in s names sizes

  abbrev listed : List ℕ
  listed = take t nodes

  -- the nodes listed so far are held
  in_nodes : (i : ℕ) → Memᴰ i listed → KeyAt s names sizes keys i
  in_nodes i m =
      let f = held.few in
      let (u, at) = mem_at m in
      let b = at_below listed u at in
      let w = length-take-le t nodes (omega arith) in
      let e : get_or nodes u 0 ≡ i = sym (get_or-take t nodes u 0 (omega arith)) ∙ at_else listed u 0 at in
      subst (KeyAt s names sizes keys) e (held.each u (omega arith))

  pub label_room : count ≤ length firsts
      → KeyAt s names sizes keys (get_or nodes t 0) × KeysAt s names sizes keys firsts count
  label_room k = (
    held.each t h,
    record {
      few = k;
      each =
          λ u b.
          let w = length-take-le count firsts k in
          let at = at_or_else (take count firsts) u 0 (omega arith) in
          let m = subst (λ (x : ℕ). Memᴰ x (take count firsts)) (get_or-take count firsts u 0 b) (at_mem (take count firsts) u at) in
          in_nodes (get_or firsts u 0) (distinct_was same listed (subst (Memᴰ (get_or firsts u 0)) l.firsts_are m));
    },
  )

  listed_next : take (t + 1) nodes ≡ listed ++ (get_or nodes t 0 ∷ [])
  listed_next = let f = held.few in ap (λ (k : ℕ). take k nodes) (add-one t) ∙ take-suc nodes t 0 (omega arith)

  -- a label stays as more nodes come
  label_stays : (j : ℕ) → j < t
      → place same (get_or nodes j 0) (distinct same listed) ≡ place same (get_or nodes j 0) (distinct same (take (t + 1) nodes))
  label_stays j b =
      let f = held.few in
      let (more, e) = distinct_grows same listed (get_or nodes t 0 ∷ []) in
      let m = taken_mem nodes j t b (omega arith) in
      let (y, o, r) = distinct_has same (λ x. name_refl (name_in s names sizes x)) (λ x y z. name_trans (name_in s names sizes x) (name_in s names sizes y) (name_in s names sizes z)) m in
      sym
      (ap (λ (k : List ℕ). place same (get_or nodes j 0) (distinct same k)) listed_next
      ∙ ap (place same (get_or nodes j 0)) e
      ∙ place_front same (get_or nodes j 0) (distinct same listed) more
      (any_of (same (get_or nodes j 0)) o (name_sym (name_in s names sizes y) (name_in s names sizes (get_or nodes j 0)) r)))

  module _ (r : ℕ) (er : r ≡ place (same_key s names sizes keys) (get_or nodes t 0) (take count firsts)) where
    label_is : r ≡ place same (get_or nodes t 0) (distinct same listed)
    label_is =
        er
        ∙ ap (place (same_key s names sizes keys) (get_or nodes t 0)) l.firsts_are
        ∙ place_agree (same_key s names sizes keys) same (get_or nodes t 0) (distinct same listed)
        (λ j m.
        ap (λ (x : Bool). x && same (get_or nodes t 0) j)
        (eq-eqb (get_or keys (get_or nodes t 0) 0) (get_or keys j 0) (alike (get_or nodes t 0) ∙ sym (alike j))))

    pub labelling_next : t < length labels → count < length firsts → (c : ℕ) → ((r ≡ count) × (c ≡ count + 1)) ⊎ ((r ≡ count → ⊥) × (c ≡ count))
        → LabelledTo s names sizes nodes (set labels t r) (set firsts count (get_or nodes t 0)) c (t + 1)
    labelling_next lt lf c w =
        let f = l.few in
        let x = get_or nodes t 0 in
        let o =
        one_more same (λ x. name_refl (name_in s names sizes x)) (λ x y. name_sym (name_in s names sizes x) (name_in s names sizes y))
        (λ x y z. name_trans (name_in s names sizes x) (name_in s names sizes y) (name_in s names sizes z)) listed x firsts count c r
        l.firsts_are lf label_is w in
        let grows = o.grows in
        let most = o.most in
        record {
          labels_are =
              set_up_to labels t r lt (λ j v. v ≡ place same (get_or nodes j 0) (distinct same (take (t + 1) nodes)))
              (λ j b. l.labels_are j b ∙ label_stays j b)
              (label_is
              ∙ sym
              (number_stays same (λ x. name_refl (name_in s names sizes x)) (λ x y. name_sym (name_in s names sizes x) (name_in s names sizes y))
              (λ x y z. name_trans (name_in s names sizes x) (name_in s names sizes y) (name_in s names sizes z)) listed x [])
              ∙ ap (λ (k : List ℕ). place same x (distinct same k)) (sym listed_next));
          small = set_up_to labels t r lt (λ j v. v < c) (λ j k. let b = l.small j k in omega arith) o.placed;
          firsts_are = o.listed ∙ ap (distinct same) (sym listed_next);
          few = omega arith;
        }
