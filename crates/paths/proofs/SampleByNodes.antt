-- The sample of a document by its nodes' numbers in file order:
--   visits_at_lem    : the visits are those to the nodes 0, 1, ..
--   same_path_lem    : two nodes have one path iff their parents have one type (both or none have one), and they have equal names
--   sample_nodes : the sample, with a rule for the first node of each path
--   first_type   : the first node of a path has the type that its place says
use Prim.Native.Nat.{ℕ, zero, suc, ◌+◌, ◌-◌, ◌≤◌, ◌<◌}
use native.Mathlib.Omega.{arith}
use mathlib.Core.Bool.{Bool, true, false, ◌&&◌, false≢true}
use mathlib.Core.List.Memᴰ
use mathlib.Core.List.{List, [], ◌∷◌, ◌++◌, map, Memᴰ, map-map}
use mathlib.Core.Logic.{◌↔◌}
use mathlib.Core.Option.{some as just}
use mathlib.Core.Path.{◌≡◌, refl, sym, ◌∙◌, ap, subst}
use lib.Dec.{eqb, ltb}
use lib.ListN.{length, length-map, length-drop, get_or-map, get_or-eq_default, get_elem?, get_or, drop, replicate}
use lib.Seq.{get_or-drop}
use borrow.Author.Tests.{eq-eqb, eqb-true, ltb-true, ltb-false}
use Rattle.grammar.specs.Lists.{any_pass, keep, distinct, place, numbers_from, numbers_below}
use Rattle.grammar.specs.Names.{Name, same_name, SameName}
use Rattle.grammar.specs.Content.{Content, choice_of}
use Rattle.grammar.specs.ReadContent.{same_content}
use Rattle.std.specs.Prelude.{Ok}
use Rattle.grammar.specs.Tree.{Tree}
use Rattle.grammar.specs.ReadDocument.{Node, forest_of, tree_of}
use Rattle.grammar.specs.Sample.{
  Visit,
  visits,
  same_path,
  paths_of,
  names_of,
  sequence_of,
  child_sequence,
  visits_at,
  content_at,
  text_at,
  rule_at,
  sample,
}
use Rattle.theory.specs.SamplePaths.{path_type}
use Rattle.theory.proofs.Lists.BoolLaws.{and_left, and_right, and_intro, same_test}
use Rattle.theory.proofs.Lists.ListLaws.{
  any_of,
  any_map,
  at_mem,
  keep-map,
  kept,
  distinct-map,
  distinct_was,
  numbers_below_lem,
  keep_on,
  map_on,
  listed_from,
  numbers_within,
  numbers_split,
}
use Rattle.theory.proofs.Lists.PlaceLaws.{place_found}
use Rattle.theory.proofs.Lists.DistinctLaws.{distinct-finer}
use Rattle.theory.proofs.Lists.NoTwo.{no_two_distinct}
use Rattle.theory.proofs.Trees.NameLaws.{name_refl, name_sym, name_trans}
use Rattle.theory.proofs.Trees.PathLaws.{SamePath, path_refl, path_sym, path_trans, path_parts, path_append}
use Rattle.theory.proofs.Sample.SampleRules.{path_types}
use Rattle.documents.specs.NodeTrees.{tree_count, Enough}
use Rattle.paths.specs.SampleNodes.{
  parents_from,
  parents_of,
  visits_from,
  paths_in,
  children_in,
  names_in,
  marks_in,
  visits_found,
  name_at,
  mark_at,
  path_at,
  parent_at,
  visit_at,
  kids_of,
  type_at,
  above_at,
  same_at,
  same_named,
  firsts_of,
  label_nodes,
  sequence_at,
  of_type,
  content_of_type,
  text_of_type,
  rule_of_node,
  sample_of_nodes,
}
use Rattle.paths.proofs.NumberingLaws.{place_map, number_stays}
use Rattle.paths.proofs.VisitedNodes.{
  visits_nodes,
  visit_names,
  visit_marks,
  visit_counts,
  parents_many,
  path_step,
  handed_many,
  handed_below,
  map_handed,
  pick,
  pick_own,
  pick_roots,
  child_names,
}

-- lists by places
pick_keep : {A : Type 0} (f : ℕ → ℕ) (g : ℕ → A) (q a m : ℕ)
    → pick q (map f (numbers_from a m)) (map g (numbers_from a m)) ≡ map g (keep (λ j. eqb (f j) q) (numbers_from a m))
unfolding pick keep numbers_from
pick_keep f g q a zero = refl
pick_keep f g q a (suc m) = go (eqb (f a) q) refl (pick_keep f g q (suc a) m)
  where
    go : (b : Bool) → eqb (f a) q ≡ b
        → pick q (map f (numbers_from (suc a) m)) (map g (numbers_from (suc a) m)) ≡ map g (keep (λ j. eqb (f j) q) (numbers_from (suc a) m))
        → pick q (map f (numbers_from a (suc m))) (map g (numbers_from a (suc m))) ≡ map g (keep (λ j. eqb (f j) q) (numbers_from a (suc m)))
    go true e ih = rw (e, keep) (ap (λ (l : List _). g a ∷ l) ih)
    go false e ih = rw (e, keep) ih

drop_listed : {A : Type 0} (xs : List A) (a : ℕ) (d : A) → drop a xs ≡ map (λ (j : ℕ). get_or xs j d) (numbers_from a (length xs - a))
drop_listed xs a d =
    listed_from (λ (j : ℕ). get_or xs j d) a (drop a xs) d (λ j h. sym (get_or-drop a xs j d))
    ∙ ap (λ (m : ℕ). map (λ (j : ℕ). get_or xs j d) (numbers_from a m)) (length-drop a xs)

some_path : (p : List Name) (m : Name) → SamePath (p ++ (m ∷ [])) [] → ⊥
unfolding same_path
some_path [] m e = false≢true e
some_path (a ∷ p) m e = false≢true e

-- the root's path is its name
pub root_path : (ns : List Node) → tree_count ns ≡ 1 → path_at ns zero ≡ name_at ns zero ∷ []
unfolding visits_from tree_count
root_path [] e = absurd (omega arith)
root_path (m ∷ ms) e = refl

-- any other path is the parent's path and the node's name, and the parent comes before
pub below_path : (ns : List Node) → tree_count ns ≡ 1 → Enough ns → (i : ℕ) → 0 < i → i < length ns
    → (path_at ns i ≡ path_at ns (parent_at ns i) ++ (name_at ns i ∷ [])) × (parent_at ns i < i)
unfolding visits_from tree_count parents_of parents_from
below_path [] e f i p h = absurd (omega arith)
below_path (m ∷ ms) e f zero p h = absurd (omega arith)
below_path (m ∷ ms) e f (suc j) p h =
    let k = m.children in
    let l = handed_many k zero [] (tree_count ms) (sym e) f.0 in
    let at = path_at (m ∷ ms) in
    let on : (i : ℕ) → 1 + i ≡ suc i = λ i. omega arith in
    let r =
    path_step at 1 (replicate k 0 ++ []) ms l f.1 (handed_below k zero [] (λ q n. elim n [ ]))
    (λ i q.
    ap at (on i)
    ∙ ap (λ (tops : List (List Name)). get_or (paths_in (visits_from tops ms)) i []) (sym (map_handed at k zero [])))
    j
    (omega arith) in
    (ap at (sym (on j)) ∙ r.0, let q = r.1 in omega arith)

-- a visit's children are picked out by their parent's number
children_picked : (ns : List Node) → tree_count ns ≡ 1 → Enough ns → (i : ℕ) → i < length ns
    → (visit_at ns i).children ≡ pick i (drop (suc i) (parents_of ns)) (drop (suc i) (names_in ns))
unfolding visits_from tree_count parents_of parents_from
children_picked [] e f i h = absurd (omega arith)
children_picked (m ∷ ms) e f zero h =
    let k = m.children in
    sym (pick_own k zero [] (forest_of ms) (λ q n. elim n [ ])) ∙ sym (pick_roots 1 zero (replicate k zero ++ []) ms (omega arith))
children_picked (m ∷ ms) e f (suc j) h =
    let k = m.children in
    let a = m.head.name ∷ [] in
    let z : 1 + j ≡ suc j = omega arith in
    child_names 1 (replicate k zero ++ []) (replicate k a ++ []) ms
    (handed_many k zero [] (tree_count ms) (sym e) f.0)
    (handed_many k a [] (tree_count ms) (sym e) f.0)
    f.1
    (handed_below k zero [] (λ q n. elim n [ ]))
    j
    (omega arith)
    ∙ ap
    (λ (q : ℕ). pick q (drop (suc j) (parents_from 1 (replicate k zero ++ []) ms)) (drop (suc j) (names_in ms)))
    z

module _ (ns : List Node) (one : tree_count ns ≡ 1) (enough : Enough ns) where
  found_names : map (λ (v : Visit). v.name) (visits_found ns) ≡ names_in ns
  found_names = visit_names ns ([] ∷ []) (omega arith) enough

  found_marks : map (λ (v : Visit). v.text) (visits_found ns) ≡ marks_in ns
  found_marks = visit_marks ns ([] ∷ []) (omega arith) enough

  found_many : length (visits_found ns) ≡ length ns
  found_many =
      sym (length-map (visits_found ns) (λ (v : Visit). v.name)) ∙ ap length found_names ∙ length-map ns (λ (n : Node). n.head.name)

  parents_long : length (parents_of ns) ≡ length ns
  unfolding parents_of
  parents_long = parents_many zero ns (zero ∷ []) (omega arith) enough

  found_at : visits_found ns ≡ map (visit_at ns) (numbers_below (length ns))
  unfolding numbers_below
  found_at =
      listed_from (visit_at ns) zero (visits_found ns) none_visit
      (λ j h. let z : 0 + j ≡ j = omega arith in ap (visit_at ns) z ∙ sym (same j))
      ∙ ap (λ (m : ℕ). map (visit_at ns) (numbers_from zero m)) found_many
    where
      none_visit : Visit
      none_visit = record { name = []; text = false; path = []; children = [] }

      same : (i : ℕ) → get_or (visits_found ns) i none_visit ≡ visit_at ns i
      same i =
          let a : (get_or (visits_found ns) i none_visit).name ≡ name_at ns i =
          sym (get_or-map (λ (v : Visit). v.name) (visits_found ns) i none_visit) ∙ ap (λ (l : List Name). get_or l i []) found_names in
          let m : (get_or (visits_found ns) i none_visit).text ≡ mark_at ns i =
          sym (get_or-map (λ (v : Visit). v.text) (visits_found ns) i none_visit)
          ∙ ap (λ (l : List Bool). get_or l i false) found_marks in
          let b : (get_or (visits_found ns) i none_visit).path ≡ path_at ns i = sym (get_or-map (λ (v : Visit). v.path) (visits_found ns) i none_visit) in
          let c : (get_or (visits_found ns) i none_visit).children ≡ get_or (children_in (visits_found ns)) i [] =
          sym (get_or-map (λ (v : Visit). v.children) (visits_found ns) i none_visit) in
          λ k. record { name = a k; text = m k; path = b k; children = c k }

  -- a visit's children are the names of the node's children
  pub kids_names : (i : ℕ) → i < length ns → (visit_at ns i).children ≡ map (name_at ns) (kids_of ns i)
  kids_names i h =
      let a = parents_long in
      let b = length-map ns (λ (n : Node). n.head.name) in
      let m = length ns - suc i in
      children_picked ns one enough i h
      ∙ ap (λ (l : List ℕ). pick i l (drop (suc i) (names_in ns)))
      (drop_listed (parents_of ns) (suc i) 0 ∙ ap (λ (n : ℕ). map (parent_at ns) (numbers_from (suc i) (n - suc i))) a)
      ∙ ap (pick i (map (parent_at ns) (numbers_from (suc i) m)))
      (drop_listed (names_in ns) (suc i) [] ∙ ap (λ (n : ℕ). map (name_at ns) (numbers_from (suc i) (n - suc i))) b)
      ∙ pick_keep (parent_at ns) (name_at ns) i (suc i) m

  -- a node has as many children as it says
  pub kids_count : (i : ℕ) → i < length ns → length (kids_of ns i) ≡ get_or (map (λ (n : Node). n.children) ns) i 0
  kids_count i h =
      sym (length-map (kids_of ns i) (name_at ns))
      ∙ ap length (sym (kids_names i h))
      ∙ sym (get_or-map length (children_in (visits_found ns)) i [])
      ∙ ap (λ (l : List ℕ). get_or l i 0)
      (map-map length (λ (v : Visit). v.children) (visits_found ns) ∙ visit_counts ns ([] ∷ []) (omega arith) enough)

module _ (ns : List Node) (one : tree_count ns ≡ 1) (enough : Enough ns) (d : Tree) (tree : tree_of ns ≡ Ok d) where
  pub visits_at_lem : visits d [] ≡ map (visit_at ns) (numbers_below (length ns))
  visits_at_lem = visits_nodes ns d tree ∙ found_at ns one enough

  pub visited : (i : ℕ) → i < length ns → Memᴰ (visit_at ns i) (visits d [])
  visited i h =
      subst (λ (l : List Visit). Memᴰ (visit_at ns i) l) (sym visits_at_lem)
      (Memᴰ.map (visit_at ns) ((numbers_below_lem (length ns) i).1 h))

  types_same : (i j : ℕ) → i < length ns → j < length ns → (type_at ns d i ≡ type_at ns d j) ↔ SamePath (path_at ns i) (path_at ns j)
  types_same i j h k = path_types d (visit_at ns i) (visit_at ns j) (visited i h) (visited j k)

  pub same_type : (i j : ℕ) → i < length ns → j < length ns → same_at ns d i j ≡ eqb (type_at ns d j) (type_at ns d i)
  same_type i j h k =
      let t = types_same i j h k in
      same_test (same_at ns d i j) (eqb (type_at ns d j) (type_at ns d i))
      ((λ e. eq-eqb (type_at ns d j) (type_at ns d i) (sym (t.1 e))), (λ e. t.0 (sym (eqb-true (type_at ns d j) (type_at ns d i) e))))

  -- a path ends with a name
  path_ends : (i : ℕ) → i < length ns → (p : List Name) × (path_at ns i ≡ p ++ (name_at ns i ∷ []))
  path_ends zero h = ([], root_path ns one)
  path_ends (suc i) h = (path_at ns (parent_at ns (suc i)), (below_path ns one enough (suc i) (omega arith) h).0)

  -- a root and another node
  root_apart : (i : ℕ) → suc i < length ns → SamePath (path_at ns (suc i)) (path_at ns zero) → ⊥
  root_apart i h e =
      let (p, l) = below_path ns one enough (suc i) (omega arith) h in
      let (q, r) = path_ends (parent_at ns (suc i)) (omega arith) in
      let s =
      path_parts (path_at ns (parent_at ns (suc i))) [] (name_at ns (suc i)) (name_at ns zero)
      (subst (SamePath (path_at ns (parent_at ns (suc i)) ++ (name_at ns (suc i) ∷ []))) (root_path ns one)
      (subst (λ (x : List Name). SamePath x (path_at ns zero)) p e)) in
      some_path q (name_at ns (parent_at ns (suc i))) (subst (λ (x : List Name). SamePath x []) r s.0)

  both_below : (i j : ℕ) → suc i < length ns → suc j < length ns
      → SamePath (path_at ns (suc i)) (path_at ns (suc j))
      ↔ (SamePath (path_at ns (parent_at ns (suc i))) (path_at ns (parent_at ns (suc j))) × SameName (name_at ns (suc i)) (name_at ns (suc j)))
  both_below i j h k =
      let p = (below_path ns one enough (suc i) (omega arith) h).0 in
      let q = (below_path ns one enough (suc j) (omega arith) k).0 in
      let a = path_at ns (parent_at ns (suc i)) in
      let b = path_at ns (parent_at ns (suc j)) in
      let m = name_at ns (suc i) in
      let n = name_at ns (suc j) in (
        λ e.
            path_parts a b m n
            (subst (λ (x : List Name). SamePath (a ++ (m ∷ [])) x) q (subst (λ (x : List Name). SamePath x (path_at ns (suc j))) p e)),
        λ e.
            subst (λ (x : List Name). SamePath x (path_at ns (suc j))) (sym p)
            (subst (λ (x : List Name). SamePath (a ++ (m ∷ [])) x) (sym q) (path_append a b m n e.0 e.1)),
      )

  pub same_path_lem : (i j : ℕ) → i < length ns → j < length ns
      → same_at ns d i j ≡ (eqb (above_at ns d i) (above_at ns d j) && same_named ns d i j)
  unfolding same_path
  same_path_lem zero zero h k =
      rw (root_path ns one) (same_test (same_name (name_at ns zero) (name_at ns zero) && true) (same_name (name_at ns zero) (name_at ns zero))
      (and_left (same_name (name_at ns zero) (name_at ns zero)) true, λ e. and_intro (same_name (name_at ns zero) (name_at ns zero)) true e refl))
  same_path_lem zero (suc j) h k =
      same_test (same_at ns d zero (suc j)) (eqb zero (above_at ns d (suc j)) && same_named ns d zero (suc j)) (
        (λ e. absurd (root_apart j k (path_sym (path_at ns zero) (path_at ns (suc j)) e))),
        (λ e.
            let z = eqb-true zero (above_at ns d (suc j)) (and_left (eqb zero (above_at ns d (suc j))) (same_named ns d zero (suc j)) e) in
            absurd (omega arith)),
      )
  same_path_lem (suc i) zero h k =
      same_test (same_at ns d (suc i) zero) (eqb (above_at ns d (suc i)) zero && same_named ns d (suc i) zero) (
        (λ e. absurd (root_apart i h e)),
        (λ e.
            let z = eqb-true (above_at ns d (suc i)) zero (and_left (eqb (above_at ns d (suc i)) zero) (same_named ns d (suc i) zero) e) in
            absurd (omega arith)),
      )
  same_path_lem (suc i) (suc j) h k =
      let b = both_below i j h k in
      let p = parent_at ns (suc i) in
      let q = parent_at ns (suc j) in
      let hp = (below_path ns one enough (suc i) (omega arith) h).1 in
      let hq = (below_path ns one enough (suc j) (omega arith) k).1 in
      let t = types_same p q (omega arith) (omega arith) in
      let x = above_at ns d (suc i) in
      let y = above_at ns d (suc j) in
      let same = same_named ns d (suc i) (suc j) in
      same_test (same_at ns d (suc i) (suc j)) (eqb x y && same) (
        (λ e. and_intro (eqb x y) same (eq-eqb x y (ap suc (t.1 (b.0 e).0))) (b.0 e).1),
        (λ e.
            let z = eqb-true x y (and_left (eqb x y) same e) in
            let w : type_at ns d p ≡ type_at ns d q = omega arith in
            b.1 (t.0 w, and_right (eqb x y) same e)),
      )

  -- the same path has the same name, for any numbers
  finer : (i j : ℕ) → same_at ns d i j ≡ true → same_named ns d i j ≡ true
  finer i j e = go (ltb i (length ns)) refl (ltb j (length ns)) refl
    where
      no_path : (k : ℕ) → length ns ≤ k → path_at ns k ≡ []
      no_path k h =
          let l = found_many ns one enough in
          let m = length-map (visits_found ns) (λ (v : Visit). v.path) in
          get_or-eq_default (paths_in (visits_found ns)) [] (omega arith)

      no_name : (k : ℕ) → length ns ≤ k → name_at ns k ≡ []
      no_name k h = let m = length-map ns (λ (n : Node). n.head.name) in get_or-eq_default (names_in ns) [] (omega arith)

      apart : (k l : ℕ) → k < length ns → length ns ≤ l → SamePath (path_at ns k) (path_at ns l) → ⊥
      apart k l h o f =
          let (p, q) = path_ends k h in
          some_path p (name_at ns k)
          (subst (SamePath (p ++ (name_at ns k ∷ []))) (no_path l o) (subst (λ (x : List Name). SamePath x (path_at ns l)) q f))

      go : (a : Bool) → ltb i (length ns) ≡ a → (b : Bool) → ltb j (length ns) ≡ b → same_named ns d i j ≡ true
      go true p true q =
          and_right (eqb (above_at ns d i) (above_at ns d j)) (same_named ns d i j)
          (sym (same_path_lem i j (ltb-true i (length ns) p) (ltb-true j (length ns) q)) ∙ e)
      go true p false q = absurd (apart i j (ltb-true i (length ns) p) (ltb-false j (length ns) q) e)
      go false p true q =
          absurd (apart j i (ltb-true j (length ns) q) (ltb-false i (length ns) p) (path_sym (path_at ns i) (path_at ns j) e))
      go false p false q =
          subst (λ (m : Name). SameName m (name_at ns j)) (sym (no_name i (ltb-false i (length ns) p)))
          (subst (SameName []) (sym (no_name j (ltb-false j (length ns) q))) (name_refl []))

  labels_are : names_of (visits d []) ≡ map (name_at ns) (label_nodes ns d)
  unfolding names_of
  labels_are =
      ap (λ (l : List Visit). distinct same_name (map (λ (v : Visit). v.name) l)) visits_at_lem
      ∙ ap (distinct same_name) (map-map (λ (v : Visit). v.name) (visit_at ns) (numbers_below (length ns)))
      ∙ distinct-map (name_at ns) same_name (numbers_below (length ns))
      ∙ ap (map (name_at ns))
      (sym
      (distinct-finer (same_named ns d) (λ i j. name_sym (name_at ns i) (name_at ns j))
      (λ i j k. name_trans (name_at ns i) (name_at ns j) (name_at ns k)) (same_at ns d) finer (numbers_below (length ns))))

  kid_type : (j m : ℕ) → j < length ns → Memᴰ m (kids_of ns j) → path_type d (path_at ns j ++ (name_at ns m ∷ [])) ≡ type_at ns d m
  kid_type j m h o =
      let (r, s) = kept (λ i. eqb (parent_at ns i) j) (numbers_from (suc j) (length ns - suc j)) o in
      let (a, b) = numbers_within (suc j) (length ns - suc j) r in
      let (p, q) = below_path ns one enough m (omega arith) (omega arith) in
      let z = eqb-true (parent_at ns m) j s in
      ap (path_type d) (sym (p ∙ ap (λ (i : ℕ). path_at ns i ++ (name_at ns m ∷ [])) z))

  sequence_is : (j : ℕ) → j < length ns → child_sequence (visits d []) (visit_at ns j) ≡ sequence_at ns d j
  unfolding child_sequence
  sequence_is j h =
      ap sequence_of
      (ap (map (λ n. path_type d (path_at ns j ++ (n ∷ [])))) (kids_names ns one enough j h)
      ∙ map-map (λ n. path_type d (path_at ns j ++ (n ∷ []))) (name_at ns) (kids_of ns j)
      ∙ map_on (λ m. path_type d (path_at ns j ++ (name_at ns m ∷ []))) (type_at ns d) (kids_of ns j) (λ m o. kid_type j m h o))

  -- the visits at a node's path are those to the nodes of its type
  here_are : (i : ℕ) → i < length ns → visits_at (visits d []) (path_at ns i) ≡ map (visit_at ns) (of_type ns d (type_at ns d i))
  unfolding visits_at
  here_are i h =
      let idx = numbers_below (length ns) in
      let here : (Visit → Bool) = λ v. same_path (path_at ns i) v.path in
      ap (keep here) visits_at_lem
      ∙ keep-map (visit_at ns) here idx
      ∙ ap (map (visit_at ns)) (keep_on (λ j. same_at ns d i j) (λ j. eqb (type_at ns d j) (type_at ns d i)) idx
      (λ j m. same_type i j h ((numbers_below_lem (length ns) j).0 m)))

  content_is : (i : ℕ) → i < length ns → content_at (visits d []) (path_at ns i) ≡ content_of_type ns d (type_at ns d i)
  unfolding content_at
  content_is i h =
      ap (λ (l : List Content). choice_of (distinct same_content l))
      (ap (map (child_sequence (visits d []))) (here_are i h)
      ∙ map-map (child_sequence (visits d [])) (visit_at ns) (of_type ns d (type_at ns d i))
      ∙ map_on (λ j. child_sequence (visits d []) (visit_at ns j)) (sequence_at ns d) (of_type ns d (type_at ns d i))
      (λ j m.
      sequence_is j
      ((numbers_below_lem (length ns) j).0 (kept (λ k. eqb (type_at ns d k) (type_at ns d i)) (numbers_below (length ns)) m).0)))

  text_is : (i : ℕ) → i < length ns → text_at (visits d []) (path_at ns i) ≡ text_of_type ns d (type_at ns d i)
  unfolding text_at
  text_is i h =
      ap (any_pass (λ (v : Visit). v.text)) (here_are i h)
      ∙ any_map (visit_at ns) (λ (v : Visit). v.text) (of_type ns d (type_at ns d i))

  rule_is : (i : ℕ) → i < length ns → rule_at (visits d []) (visit_at ns i) ≡ rule_of_node ns d i
  unfolding rule_at
  rule_is i h =
      let l : place same_name (name_at ns i) (names_of (visits d [])) ≡ place (same_named ns d) i (label_nodes ns d) =
      ap (place same_name (name_at ns i)) labels_are ∙ place_map (name_at ns) same_name i (label_nodes ns d) in
      let c = content_is i h in
      let t = text_is i h in
      λ k. record { type = type_at ns d i; label = l k; content = c k; text = t k }

  pub sample_nodes : sample d ≡ sample_of_nodes ns d
  unfolding sample
  sample_nodes =
      let idx = numbers_below (length ns) in
      let vs = visits d [] in
      let one_visit : (Visit → Visit → Bool) = λ v w. same_path v.path w.path in
      let rules : map (rule_at vs) (distinct one_visit vs) ≡ map (rule_of_node ns d) (firsts_of ns d) =
      ap (map (rule_at vs)) (ap (distinct one_visit) visits_at_lem ∙ distinct-map (visit_at ns) one_visit idx)
      ∙ map-map (rule_at vs) (visit_at ns) (firsts_of ns d)
      ∙ map_on (λ i. rule_at vs (visit_at ns i)) (rule_of_node ns d) (firsts_of ns d)
      (λ i m. rule_is i ((numbers_below_lem (length ns) i).0 (distinct_was (same_at ns d) idx m))) in
      let labels = labels_are in
      λ k. record { labels = labels k; starts = zero ∷ []; rules = rules k }

  paths_are : paths_of (visits d []) ≡ map (path_at ns) (firsts_of ns d)
  unfolding paths_of
  paths_are =
      ap (λ (l : List Visit). distinct same_path (map (λ (v : Visit). v.path) l)) visits_at_lem
      ∙ ap (distinct same_path) (map-map (λ (v : Visit). v.path) (visit_at ns) (numbers_below (length ns)))
      ∙ distinct-map (path_at ns) same_path (numbers_below (length ns))

  -- the first node of a path has the type that its place says
  pub first_type : (t i : ℕ) → get_elem? (firsts_of ns d) t ≡ just i → type_at ns d i ≡ t
  first_type t i at =
      let found =
      place_found (same_at ns d) i (firsts_of ns d) (any_of (same_at ns d i) (at_mem (firsts_of ns d) t at) (path_refl (path_at ns i))) in
      ap (place same_path (path_at ns i)) paths_are
      ∙ place_map (path_at ns) same_path i (firsts_of ns d)
      ∙ sym
      (no_two_distinct (same_at ns d) (λ x y. path_sym (path_at ns x) (path_at ns y)) (numbers_below (length ns)) t _ i found.0 at
      found.1
      found.2)

  -- a node's type is its place among the first nodes of the paths before it
  pub type_place : (i : ℕ) → i < length ns → type_at ns d i ≡ place (same_at ns d) i (distinct (same_at ns d) (numbers_below i))
  type_place i h =
      let (later, e) = numbers_split (length ns) i h in
      ap (place same_path (path_at ns i)) paths_are
      ∙ place_map (path_at ns) same_path i (firsts_of ns d)
      ∙ ap (λ (l : List ℕ). place (same_at ns d) i (distinct (same_at ns d) l)) e
      ∙ number_stays (same_at ns d) (λ x. path_refl (path_at ns x)) (λ x y. path_sym (path_at ns x) (path_at ns y))
      (λ x y z. path_trans (path_at ns x) (path_at ns y) (path_at ns z)) (numbers_below i) i later
