-- What an index of a document holds: the nodes of its tree, for the sample.
use Prim.Native.Nat.{ℕ, ◌<◌}
use native.Mathlib.Omega.{arith}
use mathlib.Core.Bool.{false}
use mathlib.Core.List.{List, [], map}
use mathlib.Core.Path.{◌≡◌, sym, ◌∙◌, ap}
use lib.ListN.{length, get_or-map, get_or, take}
use Rattle.grammar.specs.Limits.{Limits}
use Rattle.std.specs.Prelude.{Ok}
use Rattle.grammar.specs.Tree.{Tree}
use Rattle.grammar.specs.ReadDocument.{Node, tree_of}
use Rattle.theory.proofs.Lists.ListLaws.{at_else}
use Rattle.documents.specs.declared.documents.DocumentIndex.{DocumentIndex}
use Rattle.documents.specs.DocumentNodes.{node_at, nodes_in}
use Rattle.documents.specs.NodeTrees.{tree_count, Enough}
use Rattle.documents.proofs.DocumentAnswers.{nodes_count, node_held, document_tree}
use Rattle.documents.proofs.DocumentTrees.{complete}
use Rattle.paths.specs.SampleNodes.{kid_count, CountedTree, Whole, TypedTo, name_in, name_at, mark_at, parents_of}
use Rattle.sequences.specs.SampleTexts.{mark_in}
use Rattle.sampling.specs.SampleTable.{HoldsNodes, SampleHeld, SampleReady}
use Rattle.paths.proofs.SampleByNodes.{kids_count}

module _ (lim : Limits) (s : List ℕ) (ix : DocumentIndex) (x : HoldsNodes lim s ix) where
  abbrev ns : List Node
  ns = nodes_in s ix

  pub one_tree : (tree_count ns ≡ 1) × Enough ns
  one_tree = complete lim x.classes x.format s ns x.reads

  abbrev none : Node
  none = record { head = record { name = []; text = false }; children = 0 }

  node_is : (i : ℕ) → i < ix.nodes → get_or ns i none ≡ node_at s ix.names ix.sizes ix.shapes i
  node_is i h = at_else ns i none (node_held s ix i h)

  pub count_is : (i : ℕ) → i < ix.nodes → kid_count ix.shapes i ≡ get_or (map (λ (m : Node). m.children) ns) i 0
  count_is i h =
      sym (get_or-map (λ (m : Node). m.children) ns i none ∙ ap (λ (m : Node). m.children) (node_is i h))

  pub name_is : (i : ℕ) → i < ix.nodes → name_in s ix.names ix.sizes i ≡ name_at ns i
  name_is i h = sym (get_or-map (λ (m : Node). m.head.name) ns i none ∙ ap (λ (m : Node). m.head.name) (node_is i h))

  pub mark_is : (i : ℕ) → i < ix.nodes → mark_in ix.shapes i ≡ mark_at ns i
  mark_is i h = sym (get_or-map (λ (m : Node). m.head.text) ns i none ∙ ap (λ (m : Node). m.head.text) (node_is i h))

  abbrev pub index_counted : CountedTree ix.shapes ix.nodes
  index_counted = record { list = ns; counts = count_is; many = nodes_count s ix; one = one_tree.0; enough = one_tree.1 }

  pub index_tree : (t : Tree) × (tree_of ns ≡ Ok t)
  index_tree = let r = document_tree lim x.classes x.format s ns x.reads in (r.0, r.1)

  module _ (parents : List ℕ) (ps : take ix.nodes parents ≡ parents_of ns) (long : length parents ≡ 2048) (ln : length ix.names ≡ 2048)
      (ls : length ix.sizes ≡ 2048) where
    abbrev pub index_whole : (d : Tree) → tree_of ns ≡ Ok d → Whole s ix.names ix.sizes parents ix.nodes
    index_whole d e =
        record {
          list = ns;
          tree = d;
          is_tree = e;
          one = one_tree.0;
          enough = one_tree.1;
          many = nodes_count s ix;
          names_are = name_is;
          parents_are = ps;
          within = x.indexed.within;
          few = x.indexed.few;
          names_held = let f = x.indexed.few in omega arith;
          sizes_held = let f = x.indexed.few in omega arith;
          parents_held = let f = x.indexed.few in omega arith;
        }

    module _ (types firsts : List ℕ) (count : ℕ) (lk : length ix.shapes ≡ 2048) (lt : length types ≡ 2048) (lf : length firsts ≡ 2048)
        (t : (q : Whole s ix.names ix.sizes parents ix.nodes) → TypedTo q.list q.tree types firsts count ix.nodes) where
      abbrev pub index_held : (d : Tree) → tree_of ns ≡ Ok d → SampleHeld s ix.names ix.sizes ix.shapes parents types firsts ix.nodes count
      index_held d e =
          record {
            whole = index_whole d e;
            marks_are = mark_is;
            typed = t (index_whole d e);
            shapes_held = let f = x.indexed.few in omega arith;
            types_held = let f = x.indexed.few in omega arith;
            firsts_held = let f = x.indexed.few in let g = (t (index_whole d e)).few in omega arith;
          }

      pub index_ready : SampleReady s ix.names ix.sizes ix.shapes parents types firsts ix.nodes count
      index_ready =
          record {
            held = index_held index_tree.0 index_tree.1;
            kids_few =
                λ i h.
                let m = nodes_count s ix in
                let few = x.indexed.counts i h in
                let same = kids_count ns one_tree.0 one_tree.1 i (omega arith) in
                let held = count_is i h in
                omega arith;
          }
