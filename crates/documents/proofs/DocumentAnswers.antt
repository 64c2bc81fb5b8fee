-- What a document that was read means for those above.
--   nodes_count, node_held : the nodes that an index holds, by position
--   document_tree : whenever reading gives nodes, they make a tree
--   nodes_read, document_unread : what the nodes and the document are, by the answer that reading found
--   document_answer : whether the document reads is that answer
use Prim.Native.Nat.{ℕ, ◌<◌}
use native.Mathlib.Omega.{arith}
use mathlib.Core.List.{List}
use mathlib.Core.Option.{some as just}
use mathlib.Core.Path.{◌≡◌, refl, sym, ◌∙◌, ap}
use lib.ListN.{length, get_elem?}
use Rattle.grammar.specs.Limits.{Limits}
use Rattle.grammar.specs.Names.{Classes}
use Rattle.std.specs.Prelude.{Result, Ok, Err}
use Rattle.grammar.specs.Outcome.{◌>>=◌}
use Rattle.grammar.specs.Tree.{Tree}
use Rattle.grammar.specs.ReadDocument.{Node, tree_of, read_document_file}
use Rattle.grammar.specs.ReadText.{read_text}
use Rattle.grammar.specs.WriteDocument.{nodes_of}
use Rattle.grammar.specs.Documents.{read_document}
use Rattle.grammar.specs.Answers.{reading}
use Rattle.grammar.specs.declared.Format.{Format}
use Rattle.grammar.specs.declared.Format.TheVariants.{DocumentFile, XmlText}
use Rattle.grammar.specs.declared.Refusal.{Refusal}
use Rattle.theory.proofs.Bytes.DocumentBytes.{tree_of_nodes}
use Rattle.documents.specs.declared.documents.DocumentIndex.{DocumentIndex}
use Rattle.documents.specs.DocumentNodes.{node_at, nodes_in, outcome_of, read_nodes_as, DocumentReads}
use Rattle.documents.proofs.DocumentTrees.{document_nodes}
use Rattle.documents.proofs.FirstNodes.{nodes_length, node_at_lem}

module _ (lim : Limits) (classes : Classes) where
  pub document_tree : (format : Format) (bytes : List ℕ) (ns : List Node) → read_nodes_as lim classes format bytes ≡ Ok ns
      → (t : Tree) × (tree_of ns ≡ Ok t) × (read_document lim classes format bytes ≡ Ok t)
  document_tree format bytes ns e =
      let (t, made, read) = document_nodes lim classes format bytes ns e in
      (t, ap tree_of made ∙ tree_of_nodes t, read)

  document_refused : (format : Format) (bytes : List ℕ) (r : Refusal) → read_nodes_as lim classes format bytes ≡ Err r
      → read_document lim classes format bytes ≡ Err r
  unfolding read_document read_document_file
  document_refused DocumentFile bytes r e = ap (λ (x : Result (List Node) Refusal). x >>= tree_of) e
  document_refused XmlText bytes r e = then_refused (read_text lim classes bytes) e
    where
      then_refused : (o : Result Tree Refusal) → (o >>= λ d. Ok (nodes_of d)) ≡ Err r → o ≡ Err r
      then_refused (Ok d) q = let z : ◌≡◌ {A = ℕ} 0 1 = cc in absurd (omega arith)
      then_refused (Err x) q = let same : x ≡ r = cc in ap Err same

-- a document that was read, by the answer that reading found
module _ (lim : Limits) (classes : Classes) (format : Format) (s : List ℕ) (ix : DocumentIndex)
    (answer : Result (Unit {0}) Refusal) (d : DocumentReads lim classes format s ix answer) where
  nodes_are : (a : Result (Unit {0}) Refusal) → answer ≡ a → read_nodes_as lim classes format s ≡ outcome_of a (nodes_in s ix)
  nodes_are a e = d.outcome ∙ ap (λ (x : Result (Unit {0}) Refusal). outcome_of x (nodes_in s ix)) e

  pub nodes_read : answer ≡ Ok tt → read_nodes_as lim classes format s ≡ Ok (nodes_in s ix)
  nodes_read e = nodes_are (Ok tt) e

  pub document_unread : (q : Refusal) → answer ≡ Err q → read_document lim classes format s ≡ Err q
  document_unread q e = document_refused lim classes format s q (nodes_are (Err q) e)

  -- whether the document reads is the answer
  pub document_answer : reading (read_document lim classes format s) ≡ answer
  unfolding reading
  document_answer = go answer refl
    where
      go : (a : Result (Unit {0}) Refusal) → answer ≡ a → reading (read_document lim classes format s) ≡ answer
      go (Ok tt) e =
          ap reading (document_tree lim classes format s (nodes_in s ix) (nodes_read e)).2 ∙ sym e
      go (Err q) e = ap reading (document_unread q e) ∙ sym e

-- the nodes that an index holds, by position
pub nodes_count : (s : List ℕ) (ix : DocumentIndex) → length (nodes_in s ix) ≡ ix.nodes
nodes_count s ix = nodes_length s ix.names ix.sizes ix.shapes ix.nodes

pub node_held : (s : List ℕ) (ix : DocumentIndex) (i : ℕ) → i < ix.nodes
    → get_elem? (nodes_in s ix) i ≡ just (node_at s ix.names ix.sizes ix.shapes i)
node_held s ix i h = node_at_lem s ix.names ix.sizes ix.shapes ix.nodes i h
