-- The parents of nodes, found one after the other: what the parents left for the nodes to come stands at the end of a list.
--   passing_start, passing_next, passing_end ; passing_room : there is room for what a node leaves
use Prim.Native.Nat.{ℕ, zero, suc, ◌+◌, ◌-◌, ◌≤◌, ◌<◌}
use native.Mathlib.Omega.{arith}
use native.Mathlib.Numerals.{add-one}
use mathlib.Core.Bool.{false}
use mathlib.Core.List.{List, [], ◌∷◌, ◌++◌, map, append_assoc, append-nil}
use mathlib.Core.Path.{◌≡◌, sym, ◌∙◌, ap, subst}
use lib.ListN.{length, length-drop, length-append, get_or-map, get_or, set, take, drop, replicate, drop_of_length-le}
use lib.Seq.{drop-cons, drop_at, length-take-le, take-suc-set, append_snoc}
use Rattle.grammar.specs.ReadDocument.{Node}
use Rattle.documents.specs.NodeTrees.{tree_count, Enough}
use Rattle.documents.proofs.DocumentTrees.{trees_few}
use Rattle.paths.specs.SampleNodes.{parents_from, parents_of, kid_count, CountedTree}
use Rattle.paths.proofs.FillLaws.{filled, fill_long}

pub record Passing (ns : List Node) (parents pending : List ℕ) (top i : ℕ) : Type 0 where
  pub so_far : parents_of ns ≡ take i parents ++ parents_from i (drop top pending) (drop i ns)
  pub roots : length pending - top ≡ tree_count (drop i ns)
  pub enough : Enough (drop i ns)
  pub upto : i ≤ length ns

pub passing_start : (ns : List Node) (parents pending : List ℕ) (top : ℕ) → length pending ≡ suc top → get_or pending top 0 ≡ 0 → tree_count ns ≡ 1
    → Enough ns → Passing ns parents pending top 0
unfolding parents_of
passing_start ns parents pending top e z one enough =
    let end : drop (suc top) pending ≡ [] = drop_of_length-le pending {i = suc top} (omega arith) in
    let here : drop top pending ≡ 0 ∷ [] =
    drop-cons pending top 0 (omega arith)
    ∙ ap (λ (k : ℕ). k ∷ drop (suc top) pending) z
    ∙ ap (λ (l : List ℕ). 0 ∷ l) end in
    record {
      so_far = ap (λ (l : List ℕ). parents_from zero l ns) (sym here);
      roots = omega arith;
      enough = enough;
      upto = omega arith;
    }

module _ (ns : List Node) (shapes : List ℕ)
    (counts : (i : ℕ) → i < length ns → kid_count shapes i ≡ get_or (map (λ (m : Node). m.children) ns) i 0) (parents pending : List ℕ) (top i : ℕ) (h : i < length ns) (p : Passing ns parents pending top i) where
  abbrev rest : List Node
  rest = drop (suc i) ns

  abbrev kids : ℕ
  kids = kid_count shapes i

  record FirstLeft : Type 0 where
    node : Node
    split : drop i ns ≡ node ∷ rest
    many : node.children ≡ kids

  first_left : FirstLeft
  first_left =
      let none : Node = record { head = record { name = []; text = false }; children = 0 } in
      record {
        node = get_or ns i none;
        split = drop-cons ns i none h;
        many = sym (counts i h ∙ get_or-map (λ (m : Node). m.children) ns i none);
      }

  record RoomForKids : Type 0 where
    within : kids ≤ tree_count rest
    later : Enough rest
    trees : length pending - top ≡ suc (tree_count rest - kids)

  room : RoomForKids
  unfolding tree_count
  room =
      let f = first_left in
      let e = subst Enough f.split p.enough in
      let t : tree_count (drop i ns) ≡ suc (tree_count rest - f.node.children) = ap tree_count f.split in
      let r = p.roots in
      let m = f.many in
      record { within = let a = e.0 in omega arith; later = e.1; trees = r ∙ t ∙ ap (λ (k : ℕ). suc (tree_count rest - k)) m }

  pub passing_room : length ns ≤ length pending → (kids ≤ top + 1) × (top < length pending)
  passing_room g =
      let r = room in
      let a = r.within in
      let b = r.trees in
      let few = trees_few rest in
      let long = length-drop (suc i) ns in
      (omega arith, omega arith)

  pub passing_next : length ns ≤ length pending → i < length parents
      → Passing ns (set parents i (get_or pending top 0)) (filled pending (top + 1 - kids) (top + 1) i) (top + 1 - kids) (i + 1)
  unfolding parents_from
  passing_next g l =
      let (small, below) = passing_room g in
      let r = room in
      let within = r.within in
      let trees = r.trees in
      let f = first_left in
      let from = top + 1 - kids in
      let head = get_or pending top 0 in
      let front = length-take-le from pending (omega arith) in
      let tail : drop from (filled pending from (top + 1) i) ≡ replicate kids i ++ drop (suc top) pending =
      let z : top + 1 - from ≡ kids = omega arith in
      ap (drop from) (append_assoc (take from pending) (replicate (top + 1 - from) i) (drop (top + 1) pending))
      ∙ drop_at (take from pending) (replicate (top + 1 - from) i ++ drop (top + 1) pending) from front
      ∙ ap (λ (k : ℕ). replicate k i ++ drop (top + 1) pending) z
      ∙ ap (λ (k : ℕ). replicate kids i ++ drop k pending) (add-one top) in
      let on : parents_from i (drop top pending) (drop i ns) ≡ head ∷ parents_from (suc i) (drop from (filled pending from (top + 1) i)) rest =
      ap (parents_from i (drop top pending)) f.split
      ∙ ap (λ (x : List ℕ). parents_from i x (f.node ∷ rest)) (drop-cons pending top 0 below)
      ∙ ap (λ (k : ℕ). head ∷ parents_from (suc i) (replicate k i ++ drop (suc top) pending) rest) f.many
      ∙ ap (λ (x : List ℕ). head ∷ parents_from (suc i) x rest) (sym tail) in
      let rows : length (filled pending from (top + 1) i) ≡ length pending =
      let a = length-append (take from pending ++ replicate (top + 1 - from) i) (drop (top + 1) pending) in
      let b = fill_long pending from (top + 1) i (omega arith) (omega arith) in
      let d = length-drop (top + 1) pending in
      omega arith in
      let next : suc i ≡ i + 1 = sym (add-one i) in
      record {
        so_far =
            p.so_far
            ∙ ap (λ (x : List ℕ). take i parents ++ x) on
            ∙ sym (append_snoc (take i parents) head (parents_from (suc i) (drop from (filled pending from (top + 1) i)) rest))
            ∙ ap (λ (x : List ℕ). x ++ parents_from (suc i) (drop from (filled pending from (top + 1) i)) rest) (sym (take-suc-set parents i head l))
            ∙ ap (λ (k : ℕ). take k (set parents i head) ++ parents_from k (drop from (filled pending from (top + 1) i)) (drop k ns)) next;
        roots = let q : tree_count rest ≡ tree_count (drop (i + 1) ns) = ap (λ (k : ℕ). tree_count (drop k ns)) next in omega arith;
        enough = subst (λ (k : ℕ). Enough (drop k ns)) next r.later;
        upto = omega arith;
      }

pub passing_end : (ns : List Node) (parents pending : List ℕ) (top i : ℕ) → length ns ≤ i → Passing ns parents pending top i → take i parents ≡ parents_of ns
unfolding parents_from
passing_end ns parents pending top i h p =
    sym
    (p.so_far
    ∙ ap (λ (l : List Node). take i parents ++ parents_from i (drop top pending) l) (drop_of_length-le ns h)
    ∙ append-nil (take i parents))

-- the same over an array of shapes
module _ {shapes : List ℕ} {n : ℕ} (q : CountedTree shapes n) {parents pending : List ℕ} {top i : ℕ} (long : length parents ≡ 2048)
    (wide : length pending ≡ 2048) (few : n ≤ 2048) (h : i < n) (p : Passing q.list parents pending top i) where
  counts : (i : ℕ) → i < length q.list → kid_count shapes i ≡ get_or (map (λ (m : Node). m.children) q.list) i 0
  counts i b = let m = q.many in q.counts i (omega arith)

  pub step_room : (kid_count shapes i ≤ top + 1) × (top < 2048)
  step_room =
      let m = q.many in
      let r = passing_room q.list shapes counts parents pending top i (omega arith) p (omega arith) in
      (r.0, omega arith)

  pub step_next : (more : List ℕ) → more ≡ filled pending (top + 1 - kid_count shapes i) (top + 1) i
      → Passing q.list (set parents i (get_or pending top 0)) more (top + 1 - kid_count shapes i) (i + 1)
  step_next more e =
      let m = q.many in
      subst (λ (l : List ℕ). Passing q.list (set parents i (get_or pending top 0)) l (top + 1 - kid_count shapes i) (i + 1)) (sym e)
      (passing_next q.list shapes counts parents pending top i (omega arith) p (omega arith) (omega arith))
