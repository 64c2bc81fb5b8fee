-- When a type derives a node, and a table lets in a document.
use Rattle.std.specs.Prelude.{ℕ, true, ◌≡◌}
use mathlib.Core.List.{List, [], ◌∷◌, Memᴰ}
use Rattle.grammar.specs.Content.{Word}
use Rattle.grammar.specs.Tree.{Head, Tree, node, Forest, []ᵗ, ◌∷ᵗ◌}
use Rattle.grammar.specs.Table.{Rule, Table, Named}

-- One of the type's rules has a name equal to the node's (so documents are read up to letter case), is marked for text if the node holds
-- text, and w is a word of its content.
pub record Fits (g : Table) (k : ℕ) (h : Head) (w : List ℕ) : Type 0 where
  pub rule : Rule
  pub of_table : Memᴰ rule g.rules
  pub of_type : rule.type ≡ k
  pub of_name : Named g rule.label h.name
  pub of_text : h.text ≡ true → rule.text ≡ true
  pub word : Word rule.content w

-- A type derives a node if one of its rules has the node's name, and is for text if the node holds some, and the children, in order, are
-- derived by the types of some word of the content.
mutual
  pub data Derives (g : Table) : ℕ → Tree → Type 0 where
    derives : {k : ℕ} {h : Head} {ts : Forest} {w : List ℕ} → Fits g k h w → DerivesAll g w ts → Derives g k (node h ts)

  pub data DerivesAll (g : Table) : List ℕ → Forest → Type 0 where
    derives_none : DerivesAll g [] []ᵗ
    derives_next : {k : ℕ} {w : List ℕ} {t : Tree} {ts : Forest} → Derives g k t → DerivesAll g w ts → DerivesAll g (k ∷ w) (t ∷ᵗ ts)

-- A table lets in a document if a start type derives its root.
pub record LetsIn (g : Table) (d : Tree) : Type 0 where
  pub start : ℕ
  pub of_table : Memᴰ start g.starts
  pub derived : Derives g start d
