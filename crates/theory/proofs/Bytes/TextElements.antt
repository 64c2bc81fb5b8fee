-- The nodes that a text has brought so far, in file order: those of the root, if it is complete; else, outermost first, each open element
-- with the trees complete below it. An element around another has one child more than is complete.
--     closing_nodes    the nodes stay when an element is complete
--     opening_nodes    an element more is a node more, and one child more for the element around it
use Prim.Native.Nat.{ℕ, suc, ◌+◌, ◌≤◌}
use native.Mathlib.Omega.{arith}
use mathlib.Core.Bool.{false}
use mathlib.Core.List.{List, [], ◌∷◌, ◌++◌, append_assoc, append-nil}
use mathlib.Core.Option.{Option, none as nothing, some as just}
use mathlib.Core.Path.{◌≡◌, refl, sym, ◌∙◌, ap, ap₂}
use lib.ListN.{length, length-append}
use Rattle.grammar.specs.Names.{Name}
use Rattle.grammar.specs.Tree.{Tree, Forest, []ᵗ, ◌∷ᵗ◌, trees, depth, depth_of}
use Rattle.grammar.specs.ReadDocument.{Node}
use Rattle.grammar.specs.WriteDocument.{nodes_of, nodes_of_all}
use Rattle.grammar.specs.ReadText.{Element, Elements, followed_by, tree_for, opening, closing}

abbrev pub element_node : Name → ℕ → Node
element_node name children = record { head = record { name = name; text = false }; children = children }

-- `more` children of the innermost are not complete
unfoldable pub nodes_opened : ℕ → List Element → List Node
unfolding trees nodes_of_all
nodes_opened more [] = []
nodes_opened more (e ∷ outer) = nodes_opened 1 outer ++ (element_node e.name (trees e.below + more) ∷ nodes_of_all e.below)

unfoldable pub nodes_of_root : Option Tree → List Node
unfolding nodes_of
nodes_of_root nothing = []
nodes_of_root (just t) = nodes_of t

-- while an element is open the root is not complete
abbrev pub NoRoot : Option Tree → List Element → Type 0
NoRoot root [] = Unit {0}
NoRoot root (inner ∷ outer) = root ≡ nothing

unfoldable pub nodes_read : Elements → List Node
unfolding nodes_opened nodes_of_root
nodes_read e = nodes_of_root e.root ++ nodes_opened 0 e.opened

pub followed_trees : (ts : Forest) (t : Tree) → trees (followed_by ts t) ≡ suc (trees ts)
unfolding followed_by trees
followed_trees []ᵗ t = refl
followed_trees (u ∷ᵗ us) t = ap suc (followed_trees us t)

pub followed_nodes : (ts : Forest) (t : Tree) → nodes_of_all (followed_by ts t) ≡ nodes_of_all ts ++ nodes_of t
unfolding followed_by nodes_of_all
followed_nodes []ᵗ t = append-nil (nodes_of t)
followed_nodes (u ∷ᵗ us) t =
    ap (λ (ns : List Node). nodes_of u ++ ns) (followed_nodes us t) ∙ sym (append_assoc (nodes_of u) (nodes_of_all us) (nodes_of t))

pub followed_depth : (ts : Forest) (t : Tree) (k n : ℕ) → k + depth_of ts ≤ n → k + depth t ≤ n → k + depth_of (followed_by ts t) ≤ n
unfolding followed_by depth_of
followed_depth []ᵗ t k n p q = omega arith
followed_depth (u ∷ᵗ us) t k n p q = let r = followed_depth us t k n (omega arith) q in omega arith

-- how many nodes there are does not hang on how many children are complete
pub opened_count : (l : List Element) (m n : ℕ) → length (nodes_opened m l) ≡ length (nodes_opened n l)
unfolding nodes_opened
opened_count [] m n = refl
opened_count (e ∷ outer) m n =
    length-append (nodes_opened 1 outer) (element_node e.name (trees e.below + m) ∷ nodes_of_all e.below)
    ∙ sym (length-append (nodes_opened 1 outer) (element_node e.name (trees e.below + n) ∷ nodes_of_all e.below))

-- the last of the open elements, as a tree
inner_nodes : (inner : Element)
    → (element_node inner.name (trees inner.below + 0) ∷ nodes_of_all inner.below) ≡ nodes_of (tree_for inner)
unfolding nodes_of
inner_nodes inner = let z : trees inner.below + 0 ≡ trees inner.below = omega arith in rw z

-- an element that is complete below the one around it
around_nodes : (inner around : Element) (outer : List Element)
    → nodes_opened 0 (record { name = around.name; below = followed_by around.below (tree_for inner) } ∷ outer)
    ≡ nodes_opened 0 (inner ∷ around ∷ outer)
unfolding nodes_opened
around_nodes inner around outer =
    let outers = nodes_opened 1 outer in
    let here = element_node around.name (trees around.below + 1) in
    let below = nodes_of_all around.below in
    let t = tree_for inner in
    let followed = followed_trees around.below t in
    let one : trees (followed_by around.below t) + 0 ≡ trees around.below + 1 = omega arith in
    ap₂ (λ (k : ℕ) (ns : List Node). outers ++ (element_node around.name k ∷ ns)) one (followed_nodes around.below t)
    ∙ sym (append_assoc outers (here ∷ below) (nodes_of t))
    ∙ ap (λ (ns : List Node). (outers ++ (here ∷ below)) ++ ns) (sym (inner_nodes inner))

pub closing_nodes : (e : Elements) → NoRoot e.root e.opened → nodes_read (closing e) ≡ nodes_read e
unfolding nodes_read closing nodes_opened nodes_of_root
closing_nodes e alone = go e.opened refl alone
  where
    go : (l : List Element) → e.opened ≡ l → NoRoot e.root l → nodes_read (closing e) ≡ nodes_read e
    go [] q a = rw (q, closing) (ap (λ (l : List Element). nodes_of_root e.root ++ nodes_opened 0 l) q)
    go (inner ∷ []) q a = rw (q, a, closing, nodes_read) (append-nil (nodes_of (tree_for inner)) ∙ sym (inner_nodes inner))
    go (inner ∷ around ∷ outer) q a =
        rw (q, closing, nodes_read) (ap (λ (ns : List Node). nodes_of_root e.root ++ ns) (around_nodes inner around outer))

-- what stands when the innermost is complete
pub closing_nothing : (e : Elements) → e.opened ≡ [] → closing e ≡ e
unfolding closing
closing_nothing e q =
    rw (q, closing) (ap (λ (l : List Element). record { opened = l; root = e.root; nodes = e.nodes }) q)

module _ (e : Elements) (inner : Element) where
  pub closing_root : e.opened ≡ inner ∷ [] → closing e ≡ record { opened = []; root = just (tree_for inner); nodes = e.nodes }
  unfolding closing
  closing_root q = rw (q, closing)

  pub closing_around : (around : Element) (outer : List Element) → e.opened ≡ inner ∷ around ∷ outer
      → closing e
      ≡ record {
        opened = record { name = around.name; below = followed_by around.below (tree_for inner) } ∷ outer;
        root = e.root;
        nodes = e.nodes;
      }
  unfolding closing
  closing_around around outer q = rw (q, closing)

pub opening_nodes : (name : Name) (e : Elements)
    → nodes_read (opening name e) ≡ nodes_of_root e.root ++ (nodes_opened 1 e.opened ++ (element_node name 0 ∷ []))
unfolding nodes_read opening nodes_opened trees nodes_of_all
opening_nodes name e = refl
