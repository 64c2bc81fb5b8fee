-- Documents: finite trees of named nodes, of any size.
use Rattle.std.specs.Prelude.{ℕ, zero, suc, max, Bool, ◌≡◌}
use Rattle.grammar.specs.Names.{Name, SameName}

-- what a node is by itself: its name, and whether it holds text
pub record Head : Type 0 where
  pub name : Name
  pub text : Bool

infixr 40 ◌∷ᵗ◌
mutual
  pub data Tree : Type 0 where
    node : Head → Forest → Tree

  pub data Forest : Type 0 where
    []ᵗ : Forest
    ◌∷ᵗ◌ : Tree → Forest → Forest

-- Documents that are the same up to letter case: equal names and the same text marks in equal places.
mutual
  pub data SameTree : Tree → Tree → Type 0 where
    same_node : {h i : Head} {ts us : Forest} → SameName h.name i.name → h.text ≡ i.text → SameForest ts us
        → SameTree (node h ts) (node i us)

  pub data SameForest : Forest → Forest → Type 0 where
    same_none : SameForest []ᵗ []ᵗ
    same_next : {t u : Tree} {ts us : Forest} → SameTree t u → SameForest ts us → SameForest (t ∷ᵗ ts) (u ∷ᵗ us)

-- how many trees a forest has
unfoldable pub trees : Forest → ℕ
trees []ᵗ = zero
trees (t ∷ᵗ ts) = suc (trees ts)

-- how many levels a tree has: the root is level 1
unfoldable mutual
  pub depth : Tree → ℕ
  depth (node h ts) = suc (depth_of ts)

  pub depth_of : Forest → ℕ
  depth_of []ᵗ = zero
  depth_of (t ∷ᵗ ts) = max (depth t) (depth_of ts)
