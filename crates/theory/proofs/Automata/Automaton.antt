-- Automata on trees, over any states. A state has a name and steps to lists of states, some for nodes with text and some for nodes
-- without. It accepts a node with its name whose children are accepted, in order, by the states of one of its steps for such nodes.
--     fill       states that are alive accept some trees, in order
--     fill_at    and so that a given tree stands at the place of one of them
use mathlib.Core.Bool.{Bool}
use mathlib.Core.List.{List, [], ◌∷◌, Memᴰ}
use mathlib.Core.Path.{refl, subst}
use Rattle.grammar.specs.Names.{Name, SameName}
use Rattle.grammar.specs.Tree.{Head, Tree, node, Forest, []ᵗ, ◌∷ᵗ◌}
use Rattle.theory.proofs.Trees.TreeParts.{trees_of}

pub record Automaton (State : Type 0) : Type 1 where
  pub name : State → Name
  pub Step : State → Bool → List State → Type 0  -- true for a node with text
  pub Start : State → Type 0

module _ {State : Type 0} where
  mutual
    pub data Accepts (A : Automaton State) : State → Tree → Type 0 where
      accepts : {s : State} {h : Head} {ts : Forest} {u : List State} → SameName (A.name s) h.name → A.Step s h.text u
          → AcceptsAll A u ts → Accepts A s (node h ts)

    pub data AcceptsAll (A : Automaton State) : List State → Forest → Type 0 where
      accepts_none : AcceptsAll A [] []ᵗ
      accepts_next : {s : State} {u : List State} {t : Tree} {ts : Forest} → Accepts A s t → AcceptsAll A u ts
          → AcceptsAll A (s ∷ u) (t ∷ᵗ ts)

  -- A start state accepts the root.
  pub record AcceptsDocument (A : Automaton State) (d : Tree) : Type 0 where
    pub start : State
    pub of_automaton : A.Start start
    pub accepted : Accepts A start d

  -- some tree is accepted
  pub record Alive (A : Automaton State) (s : State) : Type 0 where
    pub tree : Tree
    pub accepted : Accepts A s tree

  abbrev pub AllAlive : Automaton State → List State → Type 0
  AllAlive A u = (s : State) → Memᴰ s u → Alive A s

module _ {State : Type 0} (A : Automaton State) where
  -- trees that the states accept, in order
  pub record Filled (u : List State) : Type 0 where
    pub trees : Forest
    pub accepted : AcceptsAll A u trees

  pub fill : (u : List State) → AllAlive A u → Filled u
  fill [] alive = record { trees = []ᵗ; accepted = accepts_none }
  fill (s ∷ u) alive =
      let here = alive s (Memᴰ.head refl) in
      let rest = fill u (λ r m. alive r (Memᴰ.tail m)) in
      record { trees = here.tree ∷ᵗ rest.trees; accepted = accepts_next here.accepted rest.accepted }

  -- trees that the states accept, in order, the given one among them
  pub record FilledWith (t : Tree) (u : List State) : Type 0 where
    pub trees : Forest
    pub accepted : AcceptsAll A u trees
    pub among : Memᴰ t (trees_of trees)

  pub fill_at : {s : State} {u : List State} {t : Tree} → Memᴰ s u → AllAlive A u → Accepts A s t → FilledWith t u
  fill_at {t = t} (Memᴰ.head {xs = u} e) alive a =
      let rest = fill u (λ r m. alive r (Memᴰ.tail m)) in
      record {
        trees = t ∷ᵗ rest.trees;
        accepted = accepts_next (subst (λ r. Accepts A r t) e a) rest.accepted;
        among = Memᴰ.head refl;
      }
  fill_at (Memᴰ.tail {x = r} m) alive a =
      let here = alive r (Memᴰ.head refl) in
      let rest = fill_at m (λ r m. alive r (Memᴰ.tail m)) a in
      record {
        trees = here.tree ∷ᵗ rest.trees;
        accepted = accepts_next here.accepted rest.accepted;
        among = Memᴰ.tail rest.among;
      }
