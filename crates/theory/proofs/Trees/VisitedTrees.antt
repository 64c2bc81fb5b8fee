-- The trees that a document's visits come to, each with its path:
--     stands_visit     each tree that stands in the document at a path is visited there
--     visit_stands     each visit comes to a tree that stands in the document at the visit's path
--     stands_child     a child stands below its parent, at the parent's path with the child's name
--     stands_parent    a tree that stands in the document is the document, or a child of a tree that does
use mathlib.Core.List.Memᴰ
use mathlib.Core.List.{
  List,
  [],
  ◌∷◌,
  ◌++◌,
  Memᴰ,
}
use mathlib.Core.Logic.{◌⊎◌, inl, inr, ⊎_elim}
use mathlib.Core.Path.{◌≡◌, refl, sym, ◌∙◌, ap, subst}
use Rattle.grammar.specs.Names.{Name}
use Rattle.grammar.specs.Tree.{Tree, node, Forest, []ᵗ, ◌∷ᵗ◌}
use Rattle.grammar.specs.Sample.{Visit, root_names, visits, visits_all}
use Rattle.theory.proofs.Trees.TreeParts.{root_head, root_name, children_of, trees_of, children}

-- the tree t stands at the path p in a document, whose root stands below the path `above`
abbrev mutual
  pub StandsAt : Tree → List Name → List Name → Tree → Type 0
  StandsAt (node h ts) = λ above p t. ((p ≡ above ++ (h.name ∷ [])) × (t ≡ node h ts)) ⊎ StandsAmong ts (above ++ (h.name ∷ [])) p t

  pub StandsAmong : Forest → List Name → List Name → Tree → Type 0
  StandsAmong []ᵗ = λ above p t. ⊥
  StandsAmong (s ∷ᵗ ts) = λ above p t. StandsAt s above p t ⊎ StandsAmong ts above p t

pub root_stands : (d : Tree) (above : List Name) → StandsAt d above (above ++ (root_name d ∷ [])) d
root_stands (node h ts) above = inl (refl, refl)

-- visits
abbrev pub visit_of : List Name → Tree → Visit
visit_of p t = record { name = root_name t; text = (root_head t).text; path = p; children = root_names (children_of t) }

mutual
  unfolding visits visits_all

  pub stands_visit : (d : Tree) (above p : List Name) (t : Tree) → StandsAt d above p t → Memᴰ (visit_of p t) (visits d above)
  stands_visit (node h ts) above p t s =
      ⊎_elim
      (λ e. Memᴰ.head (ap (λ (q : List Name). visit_of q t) e.0 ∙ ap (visit_of (above ++ (h.name ∷ []))) e.1))
      (λ q. Memᴰ.tail (stands_visit_all ts (above ++ (h.name ∷ [])) p t q))
      s

  stands_visit_all : (ts : Forest) (above p : List Name) (t : Tree) → StandsAmong ts above p t
      → Memᴰ (visit_of p t) (visits_all ts above)
  stands_visit_all []ᵗ above p t s = absurd s
  stands_visit_all (u ∷ᵗ ts) above p t s =
      ⊎_elim
      (λ q. Memᴰ.append_left (visits_all ts above) (stands_visit u above p t q))
      (λ q. Memᴰ.append_right (visits u above) (stands_visit_all ts above p t q))
      s

-- the tree that a visit comes to, among those that stand somewhere
pub record TreeOf (Stands : List Name → Tree → Type 0) (v : Visit) : Type 0 where
  pub tree : Tree
  pub stands : Stands v.path tree
  pub visits : v ≡ visit_of v.path tree

tree_of_more : (S S' : List Name → Tree → Type 0) → ((p : List Name) (t : Tree) → S p t → S' p t) → (v : Visit) → TreeOf S v
    → TreeOf S' v
tree_of_more S S' h v o = record { tree = o.tree; stands = h v.path o.tree o.stands; visits = o.visits }

mutual
  unfolding visits visits_all

  pub visit_stands : (d : Tree) (above : List Name) (v : Visit) → Memᴰ v (visits d above) → TreeOf (StandsAt d above) v
  visit_stands (node h ts) above v m =
      ⊎_elim
      (λ e.
      subst (λ (u : Visit). TreeOf (StandsAt (node h ts) above) u) (sym e)
      (record { tree = node h ts; stands = inl (refl, refl); visits = refl }))
      (λ q.
      tree_of_more (StandsAmong ts (above ++ (h.name ∷ []))) (StandsAt (node h ts) above) (λ p t. inr) v
      (visit_stands_all ts (above ++ (h.name ∷ [])) v q))
      (Memᴰ.cases_cons m)

  visit_stands_all : (ts : Forest) (above : List Name) (v : Visit) → Memᴰ v (visits_all ts above)
      → TreeOf (StandsAmong ts above) v
  visit_stands_all []ᵗ above v m = elim m [ ]
  visit_stands_all (t ∷ᵗ ts) above v m =
      ⊎_elim
      (λ q. tree_of_more (StandsAt t above) (StandsAmong (t ∷ᵗ ts) above) (λ p t. inl) v (visit_stands t above v q))
      (λ q.
      tree_of_more (StandsAmong ts above) (StandsAmong (t ∷ᵗ ts) above) (λ p t. inr) v (visit_stands_all ts above v q))
      (Memᴰ.append_cases (visits t above) m)

-- each root's name is the name of one of the trees
pub root_named : (ts : Forest) {n : Name} → Memᴰ n (root_names ts) → (t : Tree) × Memᴰ t (trees_of ts) × (root_name t ≡ n)
unfolding root_names
root_named []ᵗ m = elim m [ ]
root_named (node h us ∷ᵗ ts) m =
    ⊎_elim
    (λ e. (node h us, Memᴰ.head refl, sym e))
    (λ q. let (t, o, e) = root_named ts q in (t, Memᴰ.tail o, e))
    (Memᴰ.cases_cons m)

-- children
roots_stand : (ts : Forest) (above : List Name) (c : Tree) → Memᴰ c (trees_of ts) → StandsAmong ts above (above ++ (root_name c ∷ [])) c
roots_stand []ᵗ above c o = elim o [ ]
roots_stand (s ∷ᵗ ts) above c o =
    ⊎_elim
    (λ e.
    inl (subst (λ (z : Tree). StandsAt s above (above ++ (root_name z ∷ [])) z) (sym e) (root_stands s above)))
    (λ q. inr (roots_stand ts above c q))
    (Memᴰ.cases_cons o)

mutual
  pub stands_child : (d : Tree) (above p : List Name) (t c : Tree) → StandsAt d above p t → Memᴰ c (children t)
      → StandsAt d above (p ++ (root_name c ∷ [])) c
  stands_child (node h ts) above p t c s o =
      ⊎_elim
      (λ e.
      inr
      (subst (λ (q : List Name). StandsAmong ts (above ++ (h.name ∷ [])) (q ++ (root_name c ∷ [])) c) (sym e.0)
      (roots_stand ts (above ++ (h.name ∷ [])) c (subst (λ (u : Tree). Memᴰ c (children u)) e.1 o))))
      (λ q. inr (stands_child_all ts (above ++ (h.name ∷ [])) p t c q o))
      s

  stands_child_all : (ts : Forest) (above p : List Name) (t c : Tree) → StandsAmong ts above p t → Memᴰ c (children t)
      → StandsAmong ts above (p ++ (root_name c ∷ [])) c
  stands_child_all []ᵗ above p t c s o = absurd s
  stands_child_all (u ∷ᵗ ts) above p t c s o =
      ⊎_elim (λ q. inl (stands_child u above p t c q o)) (λ q. inr (stands_child_all ts above p t c q o)) s

-- the parent of a tree, among those that stand somewhere
pub record Parent (Stands : List Name → Tree → Type 0) (p : List Name) (t : Tree) : Type 0 where
  pub path : List Name
  pub tree : Tree
  pub stands : Stands path tree
  pub child : Memᴰ t (children tree)
  pub below : p ≡ path ++ (root_name t ∷ [])

parent_more : (S S' : List Name → Tree → Type 0) → ((p : List Name) (t : Tree) → S p t → S' p t) → (p : List Name) (t : Tree)
    → Parent S p t → Parent S' p t
parent_more S S' h p t o =
    record {
      path = o.path;
      tree = o.tree;
      stands = h o.path o.tree o.stands;
      child = o.child;
      below = o.below;
    }

mutual
  pub stands_parent : (d : Tree) (above p : List Name) (t : Tree) → StandsAt d above p t
      → ((p ≡ above ++ (root_name t ∷ [])) × (t ≡ d)) ⊎ Parent (StandsAt d above) p t
  stands_parent (node h ts) above p t s =
      ⊎_elim
      (λ e. inl (e.0 ∙ ap (λ (u : Tree). above ++ (root_name u ∷ [])) (sym e.1), e.1))
      (λ q.
      inr
      (⊎_elim
      (λ r. record { path = above ++ (h.name ∷ []); tree = node h ts; stands = inl (refl, refl); child = r.1; below = r.0 })
      (λ r. parent_more (StandsAmong ts (above ++ (h.name ∷ []))) (StandsAt (node h ts) above) (λ p t. inr) p t r)
      (stands_parent_all ts (above ++ (h.name ∷ [])) p t q)))
      s

  stands_parent_all : (ts : Forest) (above p : List Name) (t : Tree) → StandsAmong ts above p t
      → ((p ≡ above ++ (root_name t ∷ [])) × Memᴰ t (trees_of ts)) ⊎ Parent (StandsAmong ts above) p t
  stands_parent_all []ᵗ above p t s = absurd s
  stands_parent_all (u ∷ᵗ ts) above p t s =
      ⊎_elim
      (λ q.
      ⊎_elim
      (λ r. inl (r.0, Memᴰ.head r.1))
      (λ r. inr (parent_more (StandsAt u above) (StandsAmong (u ∷ᵗ ts) above) (λ p t. inl) p t r))
      (stands_parent u above p t q))
      (λ q.
      ⊎_elim
      (λ r. inl (r.0, Memᴰ.tail r.1))
      (λ r. inr (parent_more (StandsAmong ts above) (StandsAmong (u ∷ᵗ ts) above) (λ p t. inr) p t r))
      (stands_parent_all ts above p t q))
      s

-- a path ends with the name of the tree that stands there
pub record Ends (p : List Name) (n : Name) : Type 0 where
  pub above : List Name
  pub ends : p ≡ above ++ (n ∷ [])

pub stands_ends : (d : Tree) (above p : List Name) (t : Tree) → StandsAt d above p t → Ends p (root_name t)
stands_ends d above p t s =
    ⊎_elim
    (λ e. record { above = above; ends = e.0 })
    (λ o. record { above = o.path; ends = o.below })
    (stands_parent d above p t s)
