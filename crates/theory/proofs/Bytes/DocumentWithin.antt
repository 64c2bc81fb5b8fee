-- A document that is read is within the limits, and its bytes are those that were read:
--   document_within : read_document_file lim classes bytes ≡ given d → DocumentWithin lim classes d
--   document_was : AreBytes bytes → read_document_file lim classes bytes ≡ given d → document_bytes d ≡ bytes
-- The nodes that are read are those of one tree (nodes_were). Each visit of a tree comes to one of its nodes (visit_node).
use Prim.Native.Nat.{ℕ, zero, suc, ◌+◌, ◌≤◌}
use native.Mathlib.Omega.{arith}
use mathlib.Core.Bool.{Bool, true, false, not, true≢false}
use mathlib.Core.List.Memᴰ
use mathlib.Core.List.{
  List,
  [],
  ◌∷◌,
  ◌++◌,
  map,
  append_assoc,
  append-nil,
  Memᴰ,
}
use mathlib.Core.Logic.{⊎_elim}
use mathlib.Core.Path.{◌≡◌, refl, sym, ◌∙◌, ap, ap₂, subst}
use lib.ListN.{length, length-append, length-map}
use lib.Dec.{eqb, ltb}
use borrow.Author.Tests.{eqb-true, ltb-false, not-false}
use Rattle.grammar.specs.Lists.{joined_of}
use Rattle.grammar.specs.Limits.{Limits}
use Rattle.grammar.specs.Names.{Name, Classes}
use Rattle.grammar.specs.Tree.{Tree, node, Forest, []ᵗ, ◌∷ᵗ◌, trees, depth, depth_of}
use Rattle.std.specs.Prelude.{Ok}
use Rattle.grammar.specs.declared.Refusal.TheVariants.{InputTooLong, BadField, BadTree, BytesAfterEnd}
use Rattle.grammar.specs.Fields.{Field, Fields, no_bytes, past_end, ◌then◌, fields_of, field_bytes}
use Rattle.grammar.specs.ReadTable.{is_empty, bytes_left}
use Rattle.grammar.specs.ReadDocument.{
  document_end_tag,
  Node,
  Opened,
  nothing_read,
  closed,
  after_node,
  with_node,
  read_node,
  read_node_fields,
  read_nodes,
  tree_of,
  read_document_file,
}
use Rattle.grammar.specs.WriteDocument.{nodes_of, nodes_of_all, node_bytes, document_bytes}
use Rattle.grammar.specs.WithinLimits.{NodeWithin, DocumentWithin}
use Rattle.grammar.specs.Sample.{Visit, root_names, visits, visits_all}
use Rattle.theory.proofs.Lists.ListLaws.{Each, each_none, each_cons}
use Rattle.theory.proofs.Bytes.OutcomeLaws.{was_given, had_no_fault, given_eq}
use Rattle.theory.proofs.Bytes.FieldBytes.{AreBytes, Front, fields_were, fields_none}
use Rattle.theory.proofs.Bytes.ReadSteps.{empty_is, none_left}
use Rattle.theory.proofs.Bytes.NodeSteps.{NodeRead, node_was, end_field, next_field}
use Rattle.theory.proofs.Bytes.DocumentBytes.{tree_of_nodes}

-- the node that a visit comes to
abbrev pub node_of_visit : Visit → Node
node_of_visit v = record { head = record { name = v.name; text = v.text }; children = length v.children }

roots_count : (ts : Forest) → length (root_names ts) ≡ trees ts
unfolding root_names trees
roots_count []ᵗ = refl
roots_count (node h us ∷ᵗ ts) = ap suc (roots_count ts)

mutual
  unfolding visits visits_all nodes_of nodes_of_all

  pub visit_node : (t : Tree) (above : List Name) (v : Visit) → Memᴰ v (visits t above) → Memᴰ (node_of_visit v) (nodes_of t)
  visit_node (node h ts) above v m =
      ⊎_elim
      (λ e. Memᴰ.head (ap node_of_visit e ∙ ap (λ (k : ℕ). record { head = h; children = k }) (roots_count ts)))
      (λ q. Memᴰ.tail (visit_node_of ts (above ++ (h.name ∷ [])) v q))
      (Memᴰ.cases_cons m)

  visit_node_of : (ts : Forest) (above : List Name) (v : Visit) → Memᴰ v (visits_all ts above)
      → Memᴰ (node_of_visit v) (nodes_of_all ts)
  visit_node_of []ᵗ above v m = elim m [ ]
  visit_node_of (t ∷ᵗ ts) above v m =
      ⊎_elim
      (λ q. Memᴰ.append_left (nodes_of_all ts) (visit_node t above v q))
      (λ q. Memᴰ.append_right (nodes_of t) (visit_node_of ts above v q))
      (Memᴰ.append_cases (visits t above) m)

-- the innermost open level has some to come
abbrev Ready : List ℕ → Type 0
Ready [] = Unit {0}
Ready (zero ∷ outer) = ⊥
Ready (suc n ∷ outer) = Unit {0}

closed_ready : (l : List ℕ) → Ready (closed l)
unfolding closed
closed_ready [] = tt
closed_ready (zero ∷ outer) = closed_ready outer
closed_ready (suc n ∷ outer) = tt

after_ready : (k : ℕ) (l : List ℕ) → Ready l → Ready (after_node k l)
unfolding after_node
after_ready k [] r = tt
after_ready k (zero ∷ outer) r = absurd r
after_ready k (suc n ∷ outer) r = closed_ready (k ∷ n ∷ outer)

module _ (lim : Limits) (classes : Classes) where
  -- forests on open levels, innermost first, that do not reach too deep
  abbrev Shallow : List Forest → Type 0
  Shallow [] = Unit {0}
  Shallow (ts ∷ outer) = (depth_of ts + length outer ≤ lim.levels) × Shallow outer

  -- the nodes to come on open levels, as the forests that they make there
  record Filled (to_come : List ℕ) (ms : List Node) : Type 0 where
    forests : List Forest
    counts : map trees forests ≡ to_come
    nodes : ms ≡ joined_of nodes_of_all forests
    shallow : Shallow forests

  filled_levels : (to_come : List ℕ) (ms : List Node) (w : Filled to_come ms) → length w.forests ≡ length to_come
  filled_levels to_come ms w = sym (length-map w.forests trees) ∙ ap length w.counts

  -- levels that were closed had no more to come
  reopened : (l : List ℕ) (ms : List Node) → length l ≤ suc lim.levels → Filled (closed l) ms → Filled l ms
  unfolding closed trees depth_of joined_of nodes_of_all
  reopened [] ms h w = w
  reopened (zero ∷ outer) ms h w =
      let r = reopened outer ms (omega arith) w in
      let k = filled_levels outer ms r in
      record {
        forests = []ᵗ ∷ r.forests;
        counts = ap (λ (l : List ℕ). zero ∷ l) r.counts;
        nodes = r.nodes;
        shallow = (omega arith, r.shallow);
      }
  reopened (suc n ∷ outer) ms h w = w

  -- a node in front of its children and what is to come after it
  node_filled : (it : Node) (k : ℕ) (outer : List ℕ) (ms : List Node) → Filled (it.children ∷ k ∷ outer) ms
      → Filled (suc k ∷ outer) (it ∷ ms)
  unfolding trees depth depth_of joined_of nodes_of nodes_of_all
  node_filled it k outer ms w = go w.forests w.counts w.nodes w.shallow
    where
      go : (fs : List Forest) → map trees fs ≡ it.children ∷ k ∷ outer → ms ≡ joined_of nodes_of_all fs → Shallow fs
          → Filled (suc k ∷ outer) (it ∷ ms)
      go [] e q s = let z : ◌≡◌ {A = ℕ} 0 1 = cc in absurd (omega arith)
      go (cs ∷ []) e q s = let z : ◌≡◌ {A = ℕ} 0 1 = cc in absurd (omega arith)
      go (cs ∷ ts ∷ fs) e q s =
          let few : it.children ≡ trees cs = cc in
          let here : it ≡ record { head = it.head; children = trees cs } =
          ap (λ (c : ℕ). record { head = it.head; children = c }) few in
          let below = s.0 in
          let beside = s.1.0 in
          record {
            forests = (node it.head cs ∷ᵗ ts) ∷ fs;
            counts = cc;
            nodes =
                ap₂ (λ (n : Node) (ns : List Node). n ∷ ns) here
                (q ∙ sym (append_assoc (nodes_of_all cs) (nodes_of_all ts) (joined_of nodes_of_all fs)));
            shallow = (omega arith, s.1.1);
          }

  step_filled : (it : Node) (l : List ℕ) (ms : List Node) → Ready l → is_empty l ≡ false → length l ≤ lim.levels
      → Filled (after_node it.children l) ms → Filled l (it ∷ ms)
  unfolding after_node
  step_filled it [] ms r e h w = absurd (true≢false e)
  step_filled it (zero ∷ outer) ms r e h w = absurd r
  step_filled it (suc k ∷ outer) ms r e h w = node_filled it k outer ms (reopened (it.children ∷ k ∷ outer) ms (omega arith) w)

  -- one tree, where that is all that is to come
  root_filled : (ms : List Node) → Filled (1 ∷ []) ms → (t : Tree) × (ms ≡ nodes_of t) × (depth t ≤ lim.levels)
  unfolding trees depth_of joined_of nodes_of_all
  root_filled ms w = go w.forests w.counts w.nodes w.shallow
    where
      go : (fs : List Forest) → map trees fs ≡ 1 ∷ [] → ms ≡ joined_of nodes_of_all fs → Shallow fs
          → (t : Tree) × (ms ≡ nodes_of t) × (depth t ≤ lim.levels)
      go [] e q s = let z : ◌≡◌ {A = ℕ} 0 1 = cc in absurd (omega arith)
      go ([]ᵗ ∷ fs) e q s = let z : ◌≡◌ {A = ℕ} 0 1 = cc in absurd (omega arith)
      go ((t ∷ᵗ []ᵗ) ∷ []) e q s = (t, q ∙ append-nil (nodes_of t ++ []) ∙ append-nil (nodes_of t), omega (arith, s.0))
      go ((t ∷ᵗ []ᵗ) ∷ ts ∷ fs) e q s = let z : ◌≡◌ {A = ℕ} 0 1 = cc in absurd (omega arith)
      go ((t ∷ᵗ (u ∷ᵗ us)) ∷ fs) e q s = let z : suc (suc (trees us)) ≡ 1 = cc in absurd (omega arith)

  -- nodes as they are written, and the end
  abbrev written : List Node → List ℕ
  written ms = joined_of node_bytes ms ++ field_bytes document_end_tag []

  -- how the rest of a document is written
  record Ends (o : Opened) (s : List ℕ) (ns : List Node) : Type 0 where
    later : List Node
    whole : ns ≡ o.nodes ++ later
    size : length s ≡ length (written later)
    same : AreBytes s → s ≡ written later
    each : Each (NodeWithin lim classes) later
    few : length o.nodes ≤ lim.nodes → length ns ≤ lim.nodes
    filled : Filled o.to_come later

  ends_here : (o : Opened) (s : List ℕ) → is_empty o.to_come ≡ true → length s ≡ length (field_bytes document_end_tag [])
      → (AreBytes s → s ≡ field_bytes document_end_tag []) → Ends o s o.nodes
  unfolding joined_of
  ends_here o s e size same =
      record {
        later = [];
        whole = sym (append-nil o.nodes);
        size = size;
        same = same;
        each = each_none (NodeWithin lim classes);
        few = λ h. h;
        filled = record { forests = []; counts = sym (empty_is o.to_come e); nodes = refl; shallow = tt };
      }

  ends_with_node : (o more : Opened) (f : Field) (fs : Fields) (s : List ℕ) (ns : List Node) → Ready o.to_come
      → NodeRead lim classes o f more → (front : Front s f fs) → Ends more front.rest ns → Ends o s ns
  unfolding with_node joined_of node_bytes
  ends_with_node o more f fs s ns ready r front rest = subst_more r.result rest
    where
      it : Node
      it = r.it

      here : field_bytes f.tag f.value ≡ node_bytes it
      here = ap₂ field_bytes r.tagged r.bytes

      go : Ends (with_node o it) front.rest ns → Ends o s ns
      go w =
          let l = length-append (node_bytes it) front.rest in
          let k = length-append (node_bytes it) (written w.later) in
          let long : length s ≡ length (node_bytes it ++ front.rest) =
          front.size ∙ ap (λ (bs : List ℕ). length (bs ++ front.rest)) here in
          let later_long = w.size in
          let assoc = append_assoc (node_bytes it) (joined_of node_bytes w.later) (field_bytes document_end_tag []) in
          let room = r.room in
          let one_more = length-append o.nodes (it ∷ []) in
          record {
            later = it ∷ w.later;
            whole = w.whole ∙ append_assoc o.nodes (it ∷ []) w.later;
            size = omega (arith, ap length assoc);
            same =
                λ small.
                let q : s ≡ node_bytes it ++ front.rest =
                front.written small ∙ ap (λ (bs : List ℕ). bs ++ front.rest) here in
                q
                ∙ ap
                (λ (bs : List ℕ). node_bytes it ++ bs)
                (w.same (λ b i. small b (subst (λ (bs : List ℕ). Memᴰ b bs) (sym q) (Memᴰ.append_right (node_bytes it) i))))
                ∙ sym assoc;
            each = each_cons (NodeWithin lim classes) it w.later r.within w.each;
            few = λ h. w.few (omega arith);
            filled = step_filled it o.to_come w.later ready r.to_come r.level w.filled;
          }

      subst_more : with_node o it ≡ more → Ends more front.rest ns → Ends o s ns
      subst_more e w = go (subst (λ (m : Opened). Ends m front.rest ns) (sym e) w)

  ends : (fs : Fields) (o : Opened) (s : List ℕ) (ns : List Node) → Ready o.to_come → fields_of s ≡ fs
      → read_node_fields lim classes o fs ≡ Ok ns → Ends o s ns
  unfolding read_node_fields
  ends no_bytes o s ns ready p e = let z : ◌≡◌ {A = ℕ} 0 1 = cc in absurd (omega arith)
  ends past_end o s ns ready p e = let z : ◌≡◌ {A = ℕ} 0 1 = cc in absurd (omega arith)
  ends (f then fs) o s ns ready p e =
      go (eqb f.tag document_end_tag) refl (fields_were s f fs p) (λ o' s' r' p' e'. ends fs o' s' ns r' p' e')
    where
      go : (b : Bool) → eqb f.tag document_end_tag ≡ b → Front s f fs
          → ((o' : Opened) (s' : List ℕ) → Ready o'.to_come → fields_of s' ≡ fs → read_node_fields lim classes o' fs ≡ Ok ns
          → Ends o' s' ns)
          → Ends o s ns
      go true q front ih =
          let a = had_no_fault (not (is_empty f.value)) BadField _ ns (sym (end_field lim classes o f fs q) ∙ e) in
          let b = had_no_fault (not (is_empty o.to_come)) BadTree _ ns a.1 in
          let c = had_no_fault (bytes_left fs) BytesAfterEnd _ ns b.1 in
          let t = eqb-true f.tag document_end_tag q in
          let v = empty_is f.value (not-false (is_empty f.value) a.0) in
          let r = fields_none front.rest (sym front.after ∙ none_left fs c.0) in
          let here : field_bytes f.tag f.value ++ front.rest ≡ field_bytes document_end_tag [] =
          ap₂ ◌++◌ (ap₂ field_bytes t v) r ∙ append-nil (field_bytes document_end_tag []) in
          subst (λ (ms : List Node). Ends o s ms) (given_eq c.1)
          (ends_here o s (not-false (is_empty o.to_come) b.0) (front.size ∙ ap length here) (λ small. front.written small ∙ here))
      go false q front ih =
          let a = was_given (read_node lim classes o f) _ ns (sym (next_field lim classes o f fs q) ∙ e) in
          let r = node_was lim classes o f a.0 a.1 in
          let ready_after = subst (λ (m : Opened). Ready m.to_come) r.result (after_ready r.it.children o.to_come ready) in
          ends_with_node o a.0 f fs s ns ready r front (ih a.0 front.rest ready_after (sym front.after) a.2)

  module _ (bytes : List ℕ) (ns : List Node) (read : read_nodes lim classes bytes ≡ Ok ns) where
    nodes_end : (length bytes ≤ lim.input) × Ends nothing_read bytes ns
    unfolding read_nodes
    nodes_end =
        let a = had_no_fault (ltb lim.input (length bytes)) InputTooLong _ ns read in
        (ltb-false lim.input (length bytes) a.0, ends (fields_of bytes) nothing_read bytes ns tt refl a.1)

    -- nodes that are read are those of one tree
    pub nodes_were : (t : Tree) × (ns ≡ nodes_of t) × (depth t ≤ lim.levels)
    nodes_were =
        let w = nodes_end.1 in
        let (t, made, shallow) = root_filled w.later w.filled in
        (t, w.whole ∙ made, shallow)

  module _ (bytes : List ℕ) (d : Tree) (read : read_document_file lim classes bytes ≡ Ok d) where
    -- what was read: bytes few enough, and the nodes of the document
    record Was : Type 0 where
      nodes : List Node
      short : length bytes ≤ lim.input
      ends : Ends nothing_read bytes nodes
      made : nodes ≡ nodes_of d
      levels : depth d ≤ lim.levels

    was : Was
    unfolding read_document_file
    was =
        let (ns, p, q) = was_given (read_nodes lim classes bytes) tree_of d read in
        let (t, made, shallow) = nodes_were bytes ns p in
        let same : t ≡ d = given_eq (sym (tree_of_nodes t) ∙ ap tree_of (sym made) ∙ q) in
        record {
          nodes = ns;
          short = (nodes_end bytes ns p).0;
          ends = (nodes_end bytes ns p).1;
          made = made ∙ ap nodes_of same;
          levels = subst (λ (x : Tree). depth x ≤ lim.levels) same shallow;
        }

    bytes_are : written was.ends.later ≡ document_bytes d
    unfolding document_bytes
    bytes_are = ap written (sym was.ends.whole ∙ was.made)

    pub document_was : AreBytes bytes → document_bytes d ≡ bytes
    document_was small = sym (was.ends.same small ∙ bytes_are)

    pub document_within : DocumentWithin lim classes d
    document_within =
        let short = was.short in
        let size = was.ends.size ∙ ap length bytes_are in
        record {
          tree =
              record {
                each_node = subst (Each (NodeWithin lim classes)) (sym was.ends.whole ∙ was.made) was.ends.each;
                nodes = subst (λ (ns : List Node). length ns ≤ lim.nodes) was.made (was.ends.few (omega arith));
                levels = was.levels;
              };
          size = omega arith;
        }
