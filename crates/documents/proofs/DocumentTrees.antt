-- Nodes that reading gives are one whole tree: read backwards, each node finds its children among the trees behind it, and one
-- tree is left. (So a stack of what the nodes behind gave never runs out, and ends with one.)
--   document_nodes : read_nodes_as lim classes format bytes ≡ given ns → ns are the nodes of the tree that the document reads as
--   complete : read_nodes_as lim classes format bytes ≡ given ns → (tree_count ns ≡ 1) × Enough ns
use Prim.Native.Nat.{ℕ, zero, suc, ◌+◌, ◌-◌, ◌≤◌}
use native.Mathlib.Omega.{arith}
use mathlib.Core.List.{List, [], ◌∷◌, ◌++◌, append_assoc, append-nil}
use mathlib.Core.Option.{some as just}
use mathlib.Core.Path.{◌≡◌, refl, sym, ◌∙◌, ap, subst}
use lib.ListN.{length, drop, get_elem?}
use Rattle.grammar.specs.Limits.{Limits}
use Rattle.grammar.specs.Names.{Classes}
use Rattle.std.specs.Prelude.{Result, Ok}
use Rattle.grammar.specs.Outcome.{◌>>=◌}
use Rattle.grammar.specs.declared.Refusal.{Refusal}
use Rattle.grammar.specs.Tree.{Tree, node, Forest, []ᵗ, ◌∷ᵗ◌, trees}
use Rattle.grammar.specs.ReadDocument.{Node, other_trees, forest_of, tree_of, read_document_file}
use Rattle.grammar.specs.ReadText.{read_text}
use Rattle.grammar.specs.Documents.{read_document}
use Rattle.grammar.specs.WriteDocument.{nodes_of, nodes_of_all}
use Rattle.grammar.specs.declared.Format.{Format}
use Rattle.grammar.specs.declared.Format.TheVariants.{DocumentFile, XmlText}
use Rattle.theory.proofs.Bytes.OutcomeLaws.{was_given, given_eq}
use Rattle.theory.proofs.Bytes.DocumentBytes.{tree_of_nodes}
use Rattle.theory.proofs.Bytes.DocumentWithin.{nodes_were}
use Rattle.documents.specs.DocumentNodes.{read_nodes_as}
use Rattle.documents.specs.NodeTrees.{tree_count, Enough}

-- nodes make at most as many trees as they are
pub trees_few : (ns : List Node) → tree_count ns ≤ length ns
unfolding tree_count
trees_few [] = omega arith
trees_few (n ∷ ns) = let h = trees_few ns in omega arith

other_trees_lem : (k : ℕ) (f : Forest) → trees (other_trees k f) ≡ trees f - k
unfolding trees other_trees
other_trees_lem zero f = omega arith
other_trees_lem (suc k) []ᵗ = omega arith
other_trees_lem (suc k) (t ∷ᵗ ts) = let ih = other_trees_lem k ts in omega arith

pub forest_trees : (ns : List Node) → trees (forest_of ns) ≡ tree_count ns
unfolding trees forest_of tree_count
forest_trees [] = refl
forest_trees (n ∷ ns) =
    let ih = forest_trees ns in
    let e = other_trees_lem n.children (forest_of ns) in
    omega arith

pub enough_at : (ns : List Node) (i : ℕ) (n : Node) → Enough ns → get_elem? ns i ≡ just n → n.children ≤ tree_count (drop (suc i) ns)
enough_at [] i n h e = let z : ◌≡◌ {A = ℕ} 0 1 = cc in absurd (omega arith)
enough_at (m ∷ ns) zero n h e = let p : m ≡ n = cc in subst (λ (x : Node). x.children ≤ tree_count ns) p h.0
enough_at (m ∷ ns) (suc i) n h e = enough_at ns i n h.1 e

-- the nodes of a tree make it one tree more than those behind them make
mutual
  unfolding tree_count nodes_of nodes_of_all trees

  tree_one : (t : Tree) (ns : List Node) → tree_count (nodes_of t ++ ns) ≡ suc (tree_count ns)
  tree_one (node n ts) ns = let h = forest_many ts ns in omega arith

  forest_many : (ts : Forest) (ns : List Node) → tree_count (nodes_of_all ts ++ ns) ≡ trees ts + tree_count ns
  forest_many []ᵗ ns = omega arith
  forest_many (t ∷ᵗ ts) ns =
      let a = ap tree_count (append_assoc (nodes_of t) (nodes_of_all ts) ns) in
      let b = tree_one t (nodes_of_all ts ++ ns) in
      let c = forest_many ts ns in
      omega arith

mutual
  unfolding tree_count nodes_of nodes_of_all trees

  tree_enough : (t : Tree) (ns : List Node) → Enough ns → Enough (nodes_of t ++ ns)
  tree_enough (node n ts) ns h = let m = forest_many ts ns in (omega arith, forest_enough ts ns h)

  forest_enough : (ts : Forest) (ns : List Node) → Enough ns → Enough (nodes_of_all ts ++ ns)
  forest_enough []ᵗ ns h = h
  forest_enough (t ∷ᵗ ts) ns h =
      subst Enough (sym (append_assoc (nodes_of t) (nodes_of_all ts) ns)) (tree_enough t (nodes_of_all ts ++ ns) (forest_enough ts ns h))

-- the nodes that are read are those of the document's tree
pub document_nodes : (lim : Limits) (classes : Classes) (format : Format) (bytes : List ℕ) (ns : List Node)
    → read_nodes_as lim classes format bytes ≡ Ok ns
    → (t : Tree) × (ns ≡ nodes_of t) × (read_document lim classes format bytes ≡ Ok t)
unfolding read_document read_document_file
document_nodes lim classes DocumentFile bytes ns e =
    let (t, made, shallow) = nodes_were lim classes bytes ns e in
    (t, made, ap (λ (x : Result (List Node) Refusal). x >>= tree_of) e ∙ ap tree_of made ∙ tree_of_nodes t)
document_nodes lim classes XmlText bytes ns e =
    let (t, read, made) = was_given (read_text lim classes bytes) (λ d. Ok (nodes_of d)) ns e in
    (t, sym (given_eq made), read)

pub complete : (lim : Limits) (classes : Classes) (format : Format) (bytes : List ℕ) (ns : List Node)
    → read_nodes_as lim classes format bytes ≡ Ok ns
    → (tree_count ns ≡ 1) × Enough ns
unfolding tree_count
complete lim classes format bytes ns e =
    let (t, made, read) = document_nodes lim classes format bytes ns e in
    let whole : nodes_of t ++ [] ≡ ns = append-nil (nodes_of t) ∙ sym made in
    (ap tree_count (sym whole) ∙ tree_one t [], subst Enough whole (tree_enough t [] tt))
