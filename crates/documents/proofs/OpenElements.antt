-- The open elements of a text among the arrays: `Standing` says that the arrays hold the nodes read so far, and that `places` has where
-- each open element stands. Then the innermost is full, or named by an end tag, as the arrays tell, and
--     stands_none      nothing is read at first
--     stands_opened    one element more is one node more, and one child more for the innermost
--     stands_closed    the arrays stay when the innermost is complete
use Prim.Native.Nat.{ℕ, suc, ◌+◌, ◌-◌, ◌%◌, ◌≤◌, ◌<◌}
use native.Mathlib.Omega.{arith}
use mathlib.Core.Bool.{Bool, true, false, not}
use mathlib.Core.List.{List, [], ◌∷◌, ◌++◌, append_assoc, append-nil}
use mathlib.Core.Option.{Option, none as nothing, some as just}
use mathlib.Core.Path.{◌≡◌, refl, sym, ◌∙◌, ap, ap₂, subst}
use lib.Dec.{eqb, leb, ltb}
use lib.ListN.{length, get_or, set, take, drop}
use lib.Seq.{get_or-set_same, get_or-set_other}
use borrow.Author.Tests.{ltb-true, ltb-false, lt-leb, ne_eqb, eq-eqb, eqb-true, eqb-false}
use Rattle.grammar.specs.Limits.{Limits, child_limit}
use Rattle.grammar.specs.Lists.{same_numbers}
use Rattle.grammar.specs.Names.{Name, Classes}
use Rattle.grammar.specs.Tree.{Tree, node, trees}
use Rattle.grammar.specs.ReadDocument.{Node}
use Rattle.grammar.specs.WriteDocument.{nodes_of, nodes_of_all}
use Rattle.grammar.specs.ReadText.{Element, Elements, no_elements, opening, closing, full, names_innermost}
use Rattle.theory.proofs.Lists.ListLaws.{set_up_to}
use Rattle.theory.proofs.Bytes.TextElements.{
  element_node,
  nodes_opened,
  nodes_of_root,
  NoRoot,
  nodes_read,
  opened_count,
  closing_nodes,
  closing_root,
  closing_around,
  opening_nodes,
}
use Rattle.theory.proofs.Bytes.TextWithin.{Kept, kept_none, Allowed, room_in, no_root_yet, kept_opening, kept_closing}
use Rattle.documents.specs.DocumentNodes.{node_from, node_at, first_nodes}
use Rattle.documents.specs.TextSteps.{innermost, full_at, one_child_more, innermost_name, closes_at}
use Rattle.documents.proofs.FirstNodes.{nodes_more, node_there, nodes_with}
use Rattle.documents.proofs.TextPlaces.{
  full_outside,
  full_inside,
  child_outside,
  child_inside,
  child_length,
  closes_outside,
  closes_inside,
}

-- each open element stands behind the nodes of those around it
abbrev pub Placed : List ℕ → List Element → Type 0
Placed places [] = Unit {0}
Placed places (e ∷ outer) = (get_or places (length outer) 0 ≡ length (nodes_opened 1 outer)) × Placed places outer

pub record Standing (lim : Limits) (classes : Classes) (s names sizes shapes : List ℕ) (nodes : ℕ) (places : List ℕ) (depth : ℕ)
    (e : Elements) : Type 0 where
  pub kept : Kept lim classes e
  pub counted : e.nodes ≡ nodes
  pub deep : length e.opened ≡ depth
  pub arrays : first_nodes s names sizes shapes nodes ≡ nodes_read e
  pub few : (i : ℕ) → i < nodes → get_or shapes i 0 ≤ child_limit
  pub placed : Placed places e.opened

pub stands_none : (lim : Limits) (classes : Classes) (s names sizes shapes places : List ℕ)
    → Standing lim classes s names sizes shapes 0 places 0 no_elements
unfolding first_nodes nodes_read nodes_of_root nodes_opened
stands_none lim classes s names sizes shapes places =
    record {
      kept = kept_none lim classes;
      counted = refl;
      deep = refl;
      arrays = refl;
      few = λ i h. absurd (omega arith);
      placed = tt;
    }

-- what is stored behind the open elements does not matter
placed_kept : (places : List ℕ) (l : List Element) (i v : ℕ) → length l ≤ i → Placed places l → Placed (set places i v) l
placed_kept places [] i v h p = tt
placed_kept places (e ∷ outer) i v h p =
    (get_or-set_other places i (length outer) v 0 (λ q. omega arith) ∙ p.0, placed_kept places outer i v (omega arith) p.1)

-- no tree has no nodes
pub some_nodes : (t : Tree) → 0 < length (nodes_of t)
unfolding nodes_of
some_nodes (node h ts) = omega arith

module _ (lim : Limits) (classes : Classes) (children : lim.children ≡ child_limit) (s names sizes shapes : List ℕ) (nodes : ℕ)
    (places : List ℕ) (depth : ℕ) (e : Elements) (st : Standing lim classes s names sizes shapes nodes places depth e) where
  -- some element is open
  module _ (inner : Element) (outer : List Element) (q : e.opened ≡ inner ∷ outer) where
    no_root : e.root ≡ nothing
    no_root = subst (λ (l : List Element). NoRoot e.root l) q st.kept.no_root

    abbrev before : List Node
    before = nodes_opened 1 outer

    abbrev below : List Node
    below = nodes_of_all inner.below

    inner_split : nodes_read e ≡ before ++ (element_node inner.name (trees inner.below + 0) ∷ below)
    unfolding nodes_read nodes_of_root nodes_opened
    inner_split = rw (no_root, q, nodes_read)

    split : first_nodes s names sizes shapes nodes ≡ before ++ (element_node inner.name (trees inner.below + 0) ∷ below)
    split = st.arrays ∙ inner_split

    pub depth_is : depth ≡ suc (length outer)
    depth_is = sym st.deep ∙ ap length q

    pub stands_at : innermost places depth ≡ length before
    stands_at =
        let d = depth_is in
        let one : depth - 1 ≡ length outer = omega arith in
        ap (λ (k : ℕ). get_or places k 0) one ∙ (subst (Placed places) q st.placed).0

    there : (length before < nodes)
        × (node_at s names sizes shapes (length before) ≡ element_node inner.name (trees inner.below + 0))
    there = node_there s names sizes shapes nodes before (element_node inner.name (trees inner.below + 0)) below split

    pub place_below : innermost places depth < nodes
    place_below = let p = stands_at in let h = there.0 in omega arith

    node_is : node_at s names sizes shapes (innermost places depth) ≡ element_node inner.name (trees inner.below + 0)
    node_is = ap (node_at s names sizes shapes) stands_at ∙ there.1

    pub name_is : innermost_name s names sizes places depth ≡ inner.name
    name_is = ap (λ (n : Node). n.head.name) node_is

    pub shape_is : get_or shapes (innermost places depth) 0 ≡ trees inner.below
    shape_is =
        let c = ap (λ (n : Node). n.children) node_is in
        let h = st.few (innermost places depth) place_below in
        omega arith

  -- it is full, or named, as the arrays tell
  pub full_is : full_at shapes places depth nodes ≡ full lim e
  unfolding full nodes_read nodes_of_root nodes_opened
  full_is = go e.opened refl
    where
      at_root : (o : Option Tree) → e.root ≡ o → e.opened ≡ [] → not (eqb nodes 0) ≡ full lim e
      at_root nothing r q =
          let n : nodes_read e ≡ [] = rw (q, r, nodes_read) in
          let c = ap length n in
          let k = st.kept.count in
          let m = st.counted in
          rw (q, r, full) (ap not (eq-eqb nodes 0 (omega arith)))
      at_root (just t) r q =
          let n : nodes_read e ≡ nodes_of t = rw (q, r, nodes_read) (append-nil (nodes_of t)) in
          let c = ap length n in
          let k = st.kept.count in
          let m = st.counted in
          let h = some_nodes t in
          rw (q, r, full) (ap not (ne_eqb nodes 0 (λ z. omega arith)))

      go : (l : List Element) → e.opened ≡ l → full_at shapes places depth nodes ≡ full lim e
      go [] q = sym (full_outside shapes places depth nodes (sym st.deep ∙ ap length q)) ∙ at_root e.root refl q
      go (inner ∷ outer) q =
          let d = depth_is inner outer q in
          sym (full_inside shapes places depth nodes (innermost places depth) (omega arith) refl)
          ∙ ap₂ leb (sym children) (shape_is inner outer q)
          ∙ rw (q, full)

  pub closes_is : (name : Name) → closes_at s names sizes places depth name ≡ names_innermost name e
  unfolding names_innermost
  closes_is name = go e.opened refl
    where
      go : (l : List Element) → e.opened ≡ l → closes_at s names sizes places depth name ≡ names_innermost name e
      go [] q = sym (closes_outside s names sizes places name depth (sym st.deep ∙ ap length q)) ∙ rw (q, names_innermost)
      go (inner ∷ outer) q =
          let d = depth_is inner outer q in
          sym (closes_inside s names sizes places name depth (innermost places depth) (omega arith) refl)
          ∙ ap (same_numbers name) (name_is inner outer q)
          ∙ rw (q, names_innermost)

  -- where some level is open, an element is
  some_open : 0 < depth → (inner : Element) × (outer : List Element) × (e.opened ≡ inner ∷ outer)
  some_open h = go e.opened refl
    where
      go : (l : List Element) → e.opened ≡ l → (inner : Element) × (outer : List Element) × (e.opened ≡ inner ∷ outer)
      go [] q = let d = st.deep in let z = ap length q in absurd (omega arith)
      go (inner ∷ outer) q = (inner, outer, q)

  pub innermost_below : 0 < depth → innermost places depth < nodes
  innermost_below h = let (inner, outer, q) = some_open h in place_below inner outer q

  pub stands_closed : 0 < depth → Standing lim classes s names sizes shapes nodes places (depth - 1) (closing e)
  stands_closed h = go (some_open h)
    where
      with_elements : (f : Elements) → closing e ≡ f → f.nodes ≡ e.nodes → length f.opened ≡ depth - 1 → Placed places f.opened
          → Standing lim classes s names sizes shapes nodes places (depth - 1) (closing e)
      with_elements f q n d p =
          let k = kept_closing lim classes e st.kept in
          record {
            kept = k;
            counted = ap (λ (x : Elements). x.nodes) q ∙ n ∙ st.counted;
            deep = ap (λ (x : Elements). length x.opened) q ∙ d;
            arrays = st.arrays ∙ sym (closing_nodes e st.kept.no_root);
            few = st.few;
            placed = subst (λ (x : Elements). Placed places x.opened) (sym q) p;
          }

      go : (inner : Element) × (outer : List Element) × (e.opened ≡ inner ∷ outer)
          → Standing lim classes s names sizes shapes nodes places (depth - 1) (closing e)
      go (inner, [], q) = let d = depth_is inner [] q in with_elements _ (closing_root e inner q) refl (omega arith) tt
      go (inner, around ∷ outer, q) =
          let d = depth_is inner (around ∷ outer) q in
          let p = subst (Placed places) q st.placed in
          with_elements _ (closing_around e inner around outer q) refl (omega arith) p.1

  -- the innermost has one child more
  module _ (room : nodes ≤ length shapes) (not_full : full lim e ≡ false) where
    abbrev counted_shapes : List ℕ
    counted_shapes = one_child_more shapes places depth

    pub child_room : 0 < depth → get_or shapes (innermost places depth) 0 < child_limit
    child_room h =
        let (inner, outer, q) = some_open h in
        let r = room_in lim classes e (inner ∷ outer) q not_full in
        let shape = shape_is inner outer q in
        omega (arith, children)

    child_nodes : first_nodes s names sizes counted_shapes nodes ≡ nodes_of_root e.root ++ nodes_opened 1 e.opened
    unfolding nodes_read nodes_opened nodes_of_root
    child_nodes = go e.opened refl
      where
        more : (inner : Element) (outer : List Element) (q : e.opened ≡ inner ∷ outer)
            → node_from s (get_or names (innermost places depth) 0) (get_or sizes (innermost places depth) 0)
            (get_or shapes (innermost places depth) 0 + 1)
            ≡ element_node inner.name (trees inner.below + 1)
        more inner outer q =
            let shape = shape_is inner outer q in
            let small = st.few (innermost places depth) (place_below inner outer q) in
            let rest : (get_or shapes (innermost places depth) 0 + 1) % 256 ≡ trees inner.below + 1 = omega arith in
            let unmarked = lt-leb 256 (get_or shapes (innermost places depth) 0 + 1) (omega arith) in
            let named = name_is inner outer q in
            named_as named unmarked rest
          where
            named_as : {n m : Name} {b : Bool} {j k : ℕ} → n ≡ m → b ≡ false → j ≡ k
                → ◌≡◌ {A = Node} (record { head = record { name = n; text = b }; children = j }) (element_node m k)
            named_as x y z = rw (x, y, z)

        go : (l : List Element) → e.opened ≡ l
            → first_nodes s names sizes counted_shapes nodes ≡ nodes_of_root e.root ++ nodes_opened 1 l
        go [] q =
            ap (λ (sh : List ℕ). first_nodes s names sizes sh nodes) (sym (child_outside shapes places depth (sym st.deep ∙ ap length q)))
            ∙ st.arrays
            ∙ ap (λ (l : List Element). nodes_of_root e.root ++ nodes_opened 0 l) q
        go (inner ∷ outer) q =
            let below_room = place_below inner outer q in
            let d = depth_is inner outer q in
            ap (λ (sh : List ℕ). first_nodes s names sizes sh nodes)
            (sym (child_inside shapes places depth (innermost places depth) (omega arith) refl))
            ∙ nodes_with s names sizes shapes nodes (before inner outer q) _ (below inner outer q) (split inner outer q)
            (innermost places depth) (stands_at inner outer q) (omega arith) (get_or shapes (innermost places depth) 0 + 1)
            ∙ ap (λ (n : Node). nodes_opened 1 outer ++ (n ∷ nodes_of_all inner.below)) (more inner outer q)
            ∙ ap (λ (o : Option Tree). nodes_of_root o ++ nodes_opened 1 (inner ∷ outer)) (sym (no_root inner outer q))

    few_more : (i : ℕ) → i < nodes → get_or counted_shapes i 0 ≤ child_limit
    few_more i h = go (ltb 0 depth) refl
      where
        go : (b : Bool) → ltb 0 depth ≡ b → get_or counted_shapes i 0 ≤ child_limit
        go false w =
            let d = ltb-false 0 depth w in
            subst (λ (l : List ℕ). get_or l i 0 ≤ child_limit) (child_outside shapes places depth (omega arith)) (st.few i h)
        go true w =
            let d = ltb-true 0 depth w in
            let place = innermost places depth in
            let new = get_or shapes place 0 + 1 in
            let below = innermost_below d in
            let more = child_room d in
            subst (λ (l : List ℕ). get_or l i 0 ≤ child_limit) (child_inside shapes places depth place d refl)
            (stored place new (omega arith) (omega arith) (eqb i place) refl)
          where
            stored : (p v : ℕ) → p < length shapes → v ≤ child_limit → (b : Bool) → eqb i p ≡ b → get_or (set shapes p v) i 0 ≤ child_limit
            stored p v room few true w =
                let same = eqb-true i p w in
                let new = get_or-set_same shapes p v 0 room in
                subst (λ (k : ℕ). get_or (set shapes p v) k 0 ≤ child_limit) (sym same) (omega arith)
            stored p v room few false w =
                let old = get_or-set_other shapes p i v 0 (eqb-false i p w) in
                let was = st.few i h in
                omega arith

  -- an element more
  module _ (name : Name) (allowed : Allowed lim classes e name) (from to : ℕ) (named : take (to - from) (drop from s) ≡ name)
      (names_room : nodes < length names) (sizes_room : nodes < length sizes) (shapes_room : nodes < length shapes)
      (places_room : depth < length places) where
    abbrev shapes_more : List ℕ
    shapes_more = one_child_more shapes places depth

    first_more : first_nodes s names sizes shapes_more nodes ≡ nodes_of_root e.root ++ nodes_opened 1 e.opened
    first_more = child_nodes (omega arith) allowed.not_full

    shapes_room_more : nodes < length shapes_more
    shapes_room_more = let l = child_length shapes places depth in omega arith

    arrays_more : first_nodes s (set names nodes from) (set sizes nodes (to - from)) (set shapes_more nodes 0) (nodes + 1)
        ≡ nodes_read (opening name e)
    arrays_more =
        nodes_more s names sizes shapes_more nodes from (to - from) 0 names_room sizes_room shapes_room_more
        ∙ ap₂ (λ (l : List Node) (n : Name). l ++ (element_node n 0 ∷ [])) first_more named
        ∙ append_assoc (nodes_of_root e.root) (nodes_opened 1 e.opened) (element_node name 0 ∷ [])
        ∙ sym (opening_nodes name e)

    few_stored : (i : ℕ) → i < nodes + 1 → get_or (set shapes_more nodes 0) i 0 ≤ child_limit
    few_stored =
        set_up_to shapes_more nodes 0 shapes_room_more (λ j v. v ≤ child_limit) (few_more (omega arith) allowed.not_full) (omega arith)

    place_new : nodes ≡ length (nodes_opened 1 e.opened)
    unfolding nodes_read nodes_of_root
    place_new =
        let none = no_root_yet lim classes e st.kept.no_root allowed.not_full in
        let all : nodes_read e ≡ nodes_opened 0 e.opened = rw (none, nodes_read) in
        let l = ap length all in
        let c = st.kept.count in
        let n = st.counted in
        let same = opened_count e.opened 1 0 in
        omega arith

    pub stands_opened : Standing lim classes s (set names nodes from) (set sizes nodes (to - from)) (set shapes_more nodes 0) (nodes + 1)
        (set places depth nodes) (depth + 1) (opening name e)
    unfolding opening
    stands_opened =
        let n = st.counted in
        let d = st.deep in
        let at = ap (λ (k : ℕ). get_or (set places depth nodes) k 0) d in
        let stored = get_or-set_same places depth nodes 0 places_room in
        let new = place_new in
        record {
          kept = kept_opening lim classes e name allowed st.kept;
          counted = omega arith;
          deep = omega arith;
          arrays = arrays_more;
          few = few_stored;
          placed = (omega arith, placed_kept places e.opened depth nodes (omega arith) st.placed);
        }
