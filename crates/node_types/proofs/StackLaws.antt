-- The stack of type sets: from a word on, set by set, stand the types of the trees of the nodes from a place on (`Stacked`). One node more
-- takes its children's sets and leaves its own (`stack_next`); when all nodes are gone through, the root's set is left (`stack_root`).
use Prim.Native.Nat.{ℕ, zero, suc, ◌+◌, ◌*◌, ◌-◌, ◌%◌, ◌≤◌, ◌<◌}
use native.Mathlib.Omega.{arith}
use native.Mathlib.Nat.{add-zero}
use native.Mathlib.Numerals.{add-one}
use mathlib.Core.Bool.{Bool, ◌&&◌}
use mathlib.Core.List.{List, [], ◌∷◌, map}
use mathlib.Core.Option.{some as just}
use mathlib.Core.Path.{◌≡◌, refl, sym, ◌∙◌, ap, ap₂, subst, fun_ext}
use lib.ListN.{length, get_or, set, get_elem?, take, drop, length-drop, drop_of_length-le}
use lib.Seq.{drop-cons, drop-drop, get_or-set_other}
use Rattle.grammar.specs.Lists.{keep}
use Rattle.std.specs.Prelude.{Ok}
use Rattle.grammar.specs.Table.{Rule, Table}
use Rattle.grammar.specs.Tree.{Head, Tree, node, Forest, []ᵗ, ◌∷ᵗ◌}
use Rattle.grammar.specs.ReadDocument.{Node, first_trees, other_trees, forest_of, tree_of}
use Rattle.grammar.specs.Membership.{is_named, takes_text, types_of, types_of_all}
use Rattle.theory.specs.Marked.{holds}
use Rattle.theory.proofs.Lists.ListLaws.{at_below, at_else, take-map, drop-map}
use Rattle.theory.proofs.Matching.MarkedRun.{run_matches}
use Rattle.sets.specs.Sets.{member, words_at, store_at}
use Rattle.sets.proofs.WordByWord.{four_stored}
use Rattle.sets.proofs.SetLaws.{length-words, word_of, words_store, drop_store}
use Rattle.documents.proofs.DocumentAnswers.{nodes_count, node_held}
use Rattle.documents.specs.DocumentNodes.{node_at, nodes_in}
use Rattle.documents.specs.declared.documents.DocumentIndex.{DocumentIndex}
use Rattle.documents.specs.NodeTrees.{tree_count}
use Rattle.documents.proofs.DocumentTrees.{trees_few, enough_at}
use Rattle.walks.specs.TypeSets.{set_at, tests_at}
use Rattle.node_types.specs.NodeTypes.{types_for}
use Rattle.node_types.specs.KnownDocument.{index_of, KnownNodes, Brought}

-- Sets that stand one after the other: the first, and those behind them.
tests_take : (words : List ℕ) (k n at : ℕ) → k ≤ n → take k (tests_at words at n) ≡ tests_at words at k
unfolding tests_at
tests_take words zero n at h = refl
tests_take words (suc k) zero at h = absurd (omega arith)
tests_take words (suc k) (suc n) at h = ap (λ (l : List (ℕ → Bool)). set_at words at ∷ l) (tests_take words k n (at + 4) (omega arith))

tests_drop : (words : List ℕ) (k n at : ℕ) → k ≤ n → drop k (tests_at words at n) ≡ tests_at words (at + 4 * k) (n - k)
unfolding tests_at
tests_drop words zero n at h =
    let place : at ≡ at + 4 * 0 = omega arith in
    let all : n ≡ n - 0 = omega arith in
    λ j. tests_at words (place j) (all j)
tests_drop words (suc k) zero at h = absurd (omega arith)
tests_drop words (suc k) (suc n) at h =
    let place : at + 4 + 4 * k ≡ at + 4 * suc k = omega arith in
    let left : n - k ≡ suc n - suc k = omega arith in
    tests_drop words k n (at + 4) (omega arith) ∙ (λ j. tests_at words (place j) (left j))

-- where the words from a place on are kept, the sets there are
module _ (words after : List ℕ) (from : ℕ) (kept : drop from after ≡ drop from words) where
  drop_behind : (at : ℕ) → from ≤ at → drop at after ≡ drop at words
  drop_behind at h =
      let whole : from + (at - from) ≡ at = omega arith in
      let further : (l : List ℕ) → drop (at - from) (drop from l) ≡ drop at l
      = λ l. drop-drop (at - from) from l ∙ ap (λ (k : ℕ). drop k l) whole in
      sym (further after) ∙ ap (drop (at - from)) kept ∙ further words

  pub tests_behind : (n at : ℕ) → from ≤ at → tests_at after at n ≡ tests_at words at n
  unfolding tests_at words_at
  tests_behind zero at h = refl
  tests_behind (suc n) at h =
      ap₂ (λ (l : List ℕ) (ts : List (ℕ → Bool)). member (take 4 l) 0 ∷ ts) (drop_behind at h) (tests_behind n (at + 4) (omega arith))

-- the types of the first trees, and of those after them
module _ (g : Table) where
  types_first : (k : ℕ) (f : Forest) → types_of_all g (first_trees k f) ≡ take k (types_of_all g f)
  unfolding types_of first_trees
  types_first zero f = refl
  types_first (suc k) []ᵗ = refl
  types_first (suc k) (t ∷ᵗ ts) = ap (λ (l : List (List ℕ)). types_of g t ∷ l) (types_first k ts)

  types_other : (k : ℕ) (f : Forest) → types_of_all g (other_trees k f) ≡ drop k (types_of_all g f)
  unfolding types_of other_trees
  types_other zero f = refl
  types_other (suc k) []ᵗ = refl
  types_other (suc k) (t ∷ᵗ ts) = types_other k ts

  -- the types of a node by its children's types
  types_node : (h : Head) (ts : Forest) → types_of g (node h ts) ≡ types_for g h (map holds (types_of_all g ts)) g.rules
  unfolding types_of types_for
  types_node h ts =
      ap (λ (test : Rule → Bool). map (λ (r : Rule). r.type) (keep test g.rules))
      (fun_ext (λ (r : Rule).
      ap (λ (b : Bool). is_named g r.label h.name && takes_text r h && b) (sym (run_matches r.content (types_of_all g ts)))))

-- set by set, the types of the trees of some nodes
abbrev pub Stacked : Table → List Node → List ℕ → ℕ → Type 0
Stacked g ns words top = tests_at words top (tree_count ns) ≡ map holds (types_of_all g (forest_of ns))

stack_none : (g : Table) (words : List ℕ) (top : ℕ) → Stacked g [] words top
unfolding tree_count forest_of types_of tests_at
stack_none g words top = refl

module _ (g : Table) (n : Node) (ns : List Node) (words : List ℕ) (top : ℕ) (enough : n.children ≤ tree_count ns)
    (stacked : Stacked g ns words top) where
  -- the sets of the node's children
  pub stack_children : tests_at words top n.children ≡ map holds (types_of_all g (first_trees n.children (forest_of ns)))
  stack_children =
      sym (tests_take words n.children (tree_count ns) top enough)
      ∙ ap (take n.children) stacked
      ∙ take-map holds n.children (types_of_all g (forest_of ns))
      ∙ ap (map holds) (sym (types_first g n.children (forest_of ns)))

  stack_others : tests_at words (top + 4 * n.children) (tree_count ns - n.children)
      ≡ map holds (types_of_all g (other_trees n.children (forest_of ns)))
  stack_others =
      sym (tests_drop words n.children (tree_count ns) top enough)
      ∙ ap (drop n.children) stacked
      ∙ drop-map holds n.children (types_of_all g (forest_of ns))
      ∙ ap (map holds) (sym (types_other g n.children (forest_of ns)))

  pub stack_next : (after : List ℕ) (at : ℕ) → at + 4 ≡ top + 4 * n.children
      → set_at after at ≡ holds (types_for g n.head (tests_at words top n.children) g.rules)
      → drop (at + 4) after ≡ drop (at + 4) words → Stacked g (n ∷ ns) after at
  unfolding tree_count forest_of types_of tests_at
  stack_next after at place types kept =
      ap₂ (λ (p : ℕ → Bool) (ts : List (ℕ → Bool)). p ∷ ts)
      (types
      ∙ ap holds (ap (λ (ts : List (ℕ → Bool)). types_for g n.head ts g.rules) stack_children
      ∙ sym (types_node g n.head (first_trees n.children (forest_of ns)))))
      (tests_behind words after (at + 4) kept (tree_count ns - n.children) (at + 4) (omega arith)
      ∙ ap (λ (k : ℕ). tests_at words k (tree_count ns - n.children)) place
      ∙ stack_others)

same_first : {A : Type 0} {x y : A} {xs ys : List A} → ◌≡◌ {A = List A} (x ∷ xs) (y ∷ ys) → x ≡ y
same_first e = cc

-- at the end one set is left, the root's
pub stack_root : (g : Table) (ns : List Node) (words : List ℕ) (top : ℕ) → tree_count ns ≡ 1 → Stacked g ns words top
    → (t : Tree) → tree_of ns ≡ Ok t → set_at words top ≡ holds (types_of g t)
unfolding tree_of types_of tests_at
stack_root g ns words top one stacked t e = go (forest_of ns) refl
  where
    go : (f : Forest) → forest_of ns ≡ f → set_at words top ≡ holds (types_of g t)
    go []ᵗ p = let z : ◌≡◌ {A = ℕ} 0 1 = cc (rw (p, tree_of) at e) in absurd (omega arith)
    go (r ∷ᵗ ts) p =
        let q = rw (p, tree_of) at e in
        let root : r ≡ t = cc in
        let left = sym (ap (tests_at words top) one) ∙ stacked ∙ ap (λ (f : Forest). map holds (types_of_all g f)) p in
        same_first left ∙ ap (λ (u : Tree). holds (types_of g u)) root

-- A round over the nodes of a document, at the node before a place.
module _ (d : List ℕ) (nodes : DocumentIndex) (known : KnownNodes d nodes) (i at : ℕ) (before : at + 1 ≡ i)
    (inside : i ≤ nodes.nodes) where
  round_node : Node
  round_node = node_at d nodes.names nodes.sizes nodes.shapes at

  round_held : get_elem? (nodes_in d nodes) at ≡ just round_node
  unfolding round_node
  round_held = node_held d nodes at (omega arith)

  round_drop : drop at (nodes_in d nodes) ≡ round_node ∷ drop i (nodes_in d nodes)
  round_drop =
      drop-cons (nodes_in d nodes) at round_node (at_below (nodes_in d nodes) at round_held)
      ∙ ap₂ (λ (n : Node) (k : ℕ). n ∷ drop k (nodes_in d nodes)) (at_else (nodes_in d nodes) at round_node round_held)
      (sym (add-one at) ∙ before)

  pub round_enough : get_or nodes.shapes at 0 % 256 ≤ tree_count (drop i (nodes_in d nodes))
  unfolding round_node
  round_enough =
      subst (λ (k : ℕ). get_or nodes.shapes at 0 % 256 ≤ tree_count (drop k (nodes_in d nodes))) (sym (add-one at) ∙ before)
      (enough_at (nodes_in d nodes) at round_node known.enough round_held)

  pub round_count : tree_count (drop at (nodes_in d nodes)) ≡ suc (tree_count (drop i (nodes_in d nodes)) - get_or nodes.shapes at 0 % 256)
  unfolding tree_count round_node
  round_count = ap tree_count round_drop

  pub round_few : tree_count (drop i (nodes_in d nodes)) ≤ nodes.nodes - i
  round_few =
      let h = trees_few (drop i (nodes_in d nodes)) in
      let l = length-drop i (nodes_in d nodes) in
      let n = nodes_count d nodes in
      omega arith

  -- the node's set was made before its children's, and then brought to its place
  pub round_stacked : (g : Table) (words made after : List ℕ) (top base to : ℕ)
      → Stacked g (drop i (nodes_in d nodes)) words top → base + 4 ≡ top → to ≡ base + 4 * (get_or nodes.shapes at 0 % 256)
      → set_at made base
      ≡ holds (types_for g (node_at d nodes.names nodes.sizes nodes.shapes at).head
      (tests_at words (base + 4) (get_or nodes.shapes at 0 % 256)) g.rules)
      → drop (base + 4) made ≡ drop (base + 4) words
      → Brought made base to after → Stacked g (drop at (nodes_in d nodes)) after to
  unfolding round_node
  round_stacked g words made after top base to stacked place there types kept brought =
      subst (λ (l : List Node). Stacked g l after to) (sym round_drop)
      (stack_next g round_node (drop i (nodes_in d nodes)) words top round_enough stacked after to (omega arith)
      (brought.there
      ∙ types
      ∙ ap (λ (k : ℕ). holds (types_for g round_node.head (tests_at words k (get_or nodes.shapes at 0 % 256)) g.rules)) place)
      (brought.behind ∙ drop_behind words made (base + 4) kept (to + 4) (omega arith)))

-- there is room for the set of the node before a place, before its children's sets and at its place
pub round_room : (d names sizes shapes : List ℕ) (n i top : ℕ) (known : KnownNodes d (index_of names sizes shapes n)) → 0 < i → i ≤ n
    → top + 4 * tree_count (drop i (nodes_in d (index_of names sizes shapes n))) ≡ 4 * n
    → (4 ≤ top) × (top + 4 * (get_or shapes (i - 1) 0 % 256) ≤ 4 * n) × (n ≤ 2048)
round_room d names sizes shapes n i top known some inside e =
    let nodes = index_of names sizes shapes n in
    let before : i - 1 + 1 ≡ i = omega arith in
    let enough = round_enough d nodes known i (i - 1) before inside in
    let trees = round_few d nodes known i (i - 1) before inside in
    let few = known.indexed.few in
    (omega arith, omega arith, omega arith)

-- before the first round no node is gone through
module _ (d : List ℕ) (nodes : DocumentIndex) where
  no_nodes : drop nodes.nodes (nodes_in d nodes) ≡ []
  no_nodes = let n = nodes_count d nodes in drop_of_length-le (nodes_in d nodes) {i = nodes.nodes} (omega arith)

  pub none_stacked : (g : Table) (words : List ℕ) (top : ℕ) → Stacked g (drop nodes.nodes (nodes_in d nodes)) words top
  none_stacked g words top =
      subst (λ (l : List Node). Stacked g l words top) (sym no_nodes) (stack_none g words top)

  pub none_count : tree_count (drop nodes.nodes (nodes_in d nodes)) ≡ 0
  unfolding tree_count
  none_count = ap tree_count no_nodes

-- a set whose words are copied one by one to words behind it
module _ (words : List ℕ) (from to : ℕ) (far : from + 4 ≤ to) (room : to + 4 ≤ length words) where
  abbrev copy : List ℕ → ℕ → List ℕ
  copy l i = set l (to + i) (get_or l (from + i) 0)

  pub copied : (after : List ℕ) → after ≡ copy (copy (copy (set words to (get_or words from 0)) 1) 2) 3 → Brought words from to after
  copied after e =
      let there = words_at words from 4 in
      let size = length-words words from 4 (omega arith) in
      let w1 = set words to (get_or words from 0) in
      let w2 = copy w1 1 in
      let w3 = copy w2 2 in
      let here : get_or words from 0 ≡ get_or there 0 0
      = ap (λ (i : ℕ). get_or words i 0) (sym (add-zero from)) ∙ sym (word_of words from 4 0 (omega arith)) in
      let first : (i : ℕ) → i < 4 → get_or w1 (from + i) 0 ≡ get_or there i 0
      = λ i h. get_or-set_other words to (from + i) _ 0 (λ q. omega arith) ∙ sym (word_of words from 4 i h) in
      let second : (i : ℕ) → i < 4 → get_or w2 (from + i) 0 ≡ get_or there i 0
      = λ i h. get_or-set_other w1 (to + 1) (from + i) _ 0 (λ q. omega arith) ∙ first i h in
      let third : (i : ℕ) → i < 4 → get_or w3 (from + i) 0 ≡ get_or there i 0
      = λ i h. get_or-set_other w2 (to + 2) (from + i) _ 0 (λ q. omega arith) ∙ second i h in
      let x1 = first 1 (omega arith) in
      let x2 = second 2 (omega arith) in
      let x3 = third 3 (omega arith) in
      let stored : after ≡ store_at words to there
      = e
      ∙ (λ j. set (set (set (set words to (here j)) (to + 1) (x1 j)) (to + 2) (x2 j)) (to + 3) (x3 j))
      ∙ four_stored words to there room size in
      record {
        there =
            ap (λ (l : List ℕ). set_at l to) stored
            ∙ ap (λ (l : List ℕ). member l 0) (words_store words to there 4 (omega arith) size);
        behind = ap (drop (to + 4)) stored ∙ drop_store words to there (to + 4) (omega arith) (omega arith);
      }
