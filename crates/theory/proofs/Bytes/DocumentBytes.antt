-- A document that a file can hold is read back from its bytes:
--   document_read_back : DocumentWithin lim classes d → read_document_file lim classes (document_bytes d) ≡ given d
-- (As in tables, what is written are numbers: they are bytes where the limits are those of bytes, `document_bytes_small`.)
-- The nodes of a tree make that tree alone:
--   tree_of_nodes : tree_of (nodes_of d) ≡ given d
use Prim.Native.Nat.{ℕ, suc, ◌+◌, ◌≤◌, ◌<◌}
use native.Mathlib.Omega.{arith}
use mathlib.Core.List.Memᴰ
use mathlib.Core.List.{
  List,
  [],
  ◌∷◌,
  ◌++◌,
  append_assoc,
  append-nil,
}
use mathlib.Core.Path.{◌≡◌, refl, sym, ◌∙◌, ap, ap₂}
use lib.ListN.{length, length-append}
use lib.Dec.{ltb}
use borrow.Author.Tests.{le-ltb}
use Rattle.grammar.specs.Lists.{joined_of}
use Rattle.grammar.specs.Limits.{Limits}
use Rattle.grammar.specs.Names.{Classes}
use Rattle.grammar.specs.Tree.{Tree, node, Forest, []ᵗ, ◌∷ᵗ◌, trees, depth, depth_of}
use Rattle.std.specs.Prelude.{Result, Ok}
use Rattle.grammar.specs.declared.Refusal.{Refusal}
use Rattle.grammar.specs.declared.Refusal.TheVariants.{InputTooLong}
use Rattle.grammar.specs.Fields.{Field, Fields, ◌then◌, fields_of, field_bytes}
use Rattle.grammar.specs.ReadDocument.{
  node_tag,
  document_end_tag,
  Node,
  Opened,
  closed,
  with_node,
  read_node_fields,
  read_nodes,
  first_trees,
  other_trees,
  forest_of,
  tree_of,
  read_document_file,
}
use Rattle.grammar.specs.WriteDocument.{nodes_of, nodes_of_all, node_bytes, document_bytes}
use Rattle.grammar.specs.WithinLimits.{NodeWithin, DocumentWithin}
use Rattle.theory.proofs.Lists.ListLaws.{Each, joined_append}
use Rattle.theory.proofs.Bytes.OutcomeLaws.{given_then, no_fault}
use Rattle.theory.proofs.Bytes.FieldBytes.{fields_of_lem, fields_empty}
use Rattle.theory.proofs.Bytes.NodeSteps.{node_not_end, node_read, next_field}

-- The trees of nodes: those of a tree's nodes are the tree and what the nodes behind them make.
mutual
  unfolding nodes_of nodes_of_all forest_of first_trees other_trees trees

  tree_first : (t : Tree) (ms : List Node) → forest_of (nodes_of t ++ ms) ≡ t ∷ᵗ forest_of ms
  tree_first (node h ts) ms = ap₂ (λ (us vs : Forest). node h us ∷ᵗ vs) (children_first ts ms) (others_after ts ms)

  children_first : (ts : Forest) (ms : List Node) → first_trees (trees ts) (forest_of (nodes_of_all ts ++ ms)) ≡ ts
  children_first []ᵗ ms = refl
  children_first (t ∷ᵗ ts) ms =
      ap (λ (ns : List Node). first_trees (suc (trees ts)) (forest_of ns)) (append_assoc (nodes_of t) (nodes_of_all ts) ms)
      ∙ ap (first_trees (suc (trees ts))) (tree_first t (nodes_of_all ts ++ ms))
      ∙ ap (λ (us : Forest). t ∷ᵗ us) (children_first ts ms)

  others_after : (ts : Forest) (ms : List Node) → other_trees (trees ts) (forest_of (nodes_of_all ts ++ ms)) ≡ forest_of ms
  others_after []ᵗ ms = refl
  others_after (t ∷ᵗ ts) ms =
      ap (λ (ns : List Node). other_trees (suc (trees ts)) (forest_of ns)) (append_assoc (nodes_of t) (nodes_of_all ts) ms)
      ∙ ap (other_trees (suc (trees ts))) (tree_first t (nodes_of_all ts ++ ms))
      ∙ others_after ts ms

pub tree_of_nodes : (d : Tree) → tree_of (nodes_of d) ≡ Ok d
unfolding tree_of forest_of
tree_of_nodes d =
    let made : forest_of (nodes_of d) ≡ d ∷ᵗ []ᵗ = ap forest_of (sym (append-nil (nodes_of d))) ∙ tree_first d [] in
    rw (made, tree_of)

module _ (lim : Limits) (classes : Classes) where
  -- what is read, and so many to come on each open level
  abbrev opened : List Node → List ℕ → Opened
  opened ns to_come = record { nodes = ns; to_come = to_come }

  -- the rest of a document, as bytes
  abbrev read_on : Opened → List ℕ → Result (List Node) Refusal
  read_on o bytes = read_node_fields lim classes o (fields_of bytes)

  node_step : (it : Node) (ns : List Node) (n : ℕ) (outer : List ℕ) → NodeWithin lim classes it → length ns < lim.nodes
      → suc (length outer) ≤ lim.levels → (rest : List ℕ)
      → read_on (opened ns (suc n ∷ outer)) (node_bytes it ++ rest)
      ≡ read_on (opened (ns ++ (it ∷ [])) (closed (it.children ∷ n ∷ outer))) rest
  unfolding node_bytes with_node
  node_step it ns n outer within room level rest =
      let tag = node_tag it.head.text in
      let f : Field = record { tag = tag; value = it.children ∷ it.head.name } in
      let now = opened ns (suc n ∷ outer) in
      let more = opened (ns ++ (it ∷ [])) (closed (it.children ∷ n ∷ outer)) in
      ap (read_node_fields lim classes now) (fields_of_lem tag (it.children ∷ it.head.name) rest)
      ∙ next_field lim classes now f (fields_of rest) (node_not_end it.head.text)
      ∙ given_then _ more (λ o. read_node_fields lim classes o (fields_of rest))
      (node_read lim classes now f more
      (record {
        it = it;
        tagged = refl;
        bytes = refl;
        within = within;
        room = room;
        level = level;
        to_come = refl;
        result = refl;
      }))

  -- The nodes of a tree are read as one node of the innermost level and all below it; those of a forest as all that is to come there.
  mutual
    unfolding nodes_of nodes_of_all joined_of trees depth depth_of closed

    tree_read : (t : Tree) (ns : List Node) (n : ℕ) (outer : List ℕ) → Each (NodeWithin lim classes) (nodes_of t)
        → length ns + length (nodes_of t) ≤ lim.nodes → depth t + length outer ≤ lim.levels → (rest : List ℕ)
        → read_on (opened ns (suc n ∷ outer)) (joined_of node_bytes (nodes_of t) ++ rest)
        ≡ read_on (opened (ns ++ nodes_of t) (closed (n ∷ outer))) rest
    tree_read (node h ts) ns n outer each few shallow rest =
        let here : Node = record { head = h; children = trees ts } in
        let below = joined_of node_bytes (nodes_of_all ts) in
        let l = length-append ns (here ∷ []) in
        ap (read_on (opened ns (suc n ∷ outer))) (append_assoc (node_bytes here) below rest)
        ∙ node_step here ns n outer (each here (Memᴰ.head refl)) (omega arith) (omega arith) (below ++ rest)
        ∙ forest_read ts (ns ++ (here ∷ [])) (n ∷ outer) (λ m p. each m (Memᴰ.tail p)) (omega arith) (omega arith) rest
        ∙ ap
        (λ (ms : List Node). read_on (opened ms (closed (n ∷ outer))) rest)
        (append_assoc ns (here ∷ []) (nodes_of_all ts))

    forest_read : (ts : Forest) (ns : List Node) (outer : List ℕ) → Each (NodeWithin lim classes) (nodes_of_all ts)
        → length ns + length (nodes_of_all ts) ≤ lim.nodes → depth_of ts + length outer ≤ lim.levels → (rest : List ℕ)
        → read_on (opened ns (closed (trees ts ∷ outer))) (joined_of node_bytes (nodes_of_all ts) ++ rest)
        ≡ read_on (opened (ns ++ nodes_of_all ts) (closed outer)) rest
    forest_read []ᵗ ns outer each few shallow rest =
        ap (λ (ms : List Node). read_on (opened ms (closed outer)) rest) (sym (append-nil ns))
    forest_read (t ∷ᵗ ts) ns outer each few shallow rest =
        let first = joined_of node_bytes (nodes_of t) in
        let others = joined_of node_bytes (nodes_of_all ts) in
        let l = length-append (nodes_of t) (nodes_of_all ts) in
        let k = length-append ns (nodes_of t) in
        ap
        (read_on (opened ns (suc (trees ts) ∷ outer)))
        (ap (λ (bs : List ℕ). bs ++ rest) (joined_append node_bytes (nodes_of t) (nodes_of_all ts)) ∙ append_assoc first others rest)
        ∙ tree_read
        t
        ns
        (trees ts)
        outer
        (λ m p. each m (Memᴰ.append_left (nodes_of_all ts) p))
        (omega arith)
        (omega arith)
        (others ++ rest)
        ∙ forest_read
        ts
        (ns ++ nodes_of t)
        outer
        (λ m p. each m (Memᴰ.append_right (nodes_of t) p))
        (omega arith)
        (omega arith)
        rest
        ∙ ap (λ (ms : List Node). read_on (opened ms (closed outer)) rest) (append_assoc ns (nodes_of t) (nodes_of_all ts))

  end_step : (ns : List Node) → read_on (opened ns []) (field_bytes document_end_tag []) ≡ Ok ns
  unfolding read_node_fields
  end_step ns =
      ap (read_on (opened ns [])) (sym (append-nil (field_bytes document_end_tag [])))
      ∙ ap (read_node_fields lim classes (opened ns [])) (fields_of_lem document_end_tag [] [])
      ∙ ap
      (λ (fs : Fields). read_node_fields lim classes (opened ns []) (record { tag = document_end_tag; value = [] } then fs))
      fields_empty

  nodes_read_back : (d : Tree) → DocumentWithin lim classes d → read_nodes lim classes (document_bytes d) ≡ Ok (nodes_of d)
  unfolding read_nodes document_bytes closed
  nodes_read_back d h =
      let few = h.tree.nodes in
      let shallow = h.tree.levels in
      no_fault (ltb lim.input (length (document_bytes d))) InputTooLong _
      (le-ltb lim.input (length (document_bytes d)) h.size)
      ∙ tree_read d [] 0 [] h.tree.each_node (omega arith) (omega arith) (field_bytes document_end_tag [])
      ∙ end_step (nodes_of d)

  pub document_read_back : (d : Tree) → DocumentWithin lim classes d → read_document_file lim classes (document_bytes d) ≡ Ok d
  unfolding read_document_file
  document_read_back d h =
      given_then (read_nodes lim classes (document_bytes d)) (nodes_of d) tree_of (nodes_read_back d h) ∙ tree_of_nodes d
