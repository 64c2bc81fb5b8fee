-- Reading a document field by field. `NodesSoFar` ties the index to the nodes read and the levels open: reading on from `at` with these
-- is reading the whole. It holds at first (`so_far_none`), after each node (`so_far_put`), and gives the answer (`so_far_stop`).
use Prim.Native.Nat.{ℕ, zero, suc, ◌+◌, ◌-◌, ◌%◌, ◌≤◌, ◌<◌}
use native.Mathlib.Omega.{arith}
use mathlib.Core.Bool.{Bool, true, false}
use mathlib.Core.List.{List, [], ◌∷◌}
use mathlib.Core.Path.{◌≡◌, refl, sym, ◌∙◌, ap₂}
use lib.Dec.{ltb}
use lib.ListN.{length, get_or, drop, set, length-set}
use lib.Seq.{get_or-set_other}
use borrow.Author.Tests.{ltb-true, ltb-false}
use Rattle.grammar.specs.Limits.{Limits}
use Rattle.grammar.specs.Names.{Classes}
use Rattle.grammar.specs.Fields.{fields_of}
use Rattle.std.specs.Prelude.{Result}
use Rattle.grammar.specs.declared.Refusal.{Refusal}
use Rattle.grammar.specs.ReadDocument.{Node, Opened, nothing_read, with_node}
use Rattle.reader.proofs.TableIndexLaws.{put}
use Rattle.grammar.specs.declared.Format.TheVariants.{DocumentFile}
use Rattle.documents.specs.declared.documents.DocumentIndex.{DocumentIndex}
use Rattle.documents.specs.DocumentNodes.{first_nodes, nodes_in, NodesIndexed, with_node_at, outcome_of, DocumentReads}
use Rattle.documents.specs.DocumentSteps.{Sized, rest_of, NodeStep, open_levels, Open, LevelsAfter}
use Rattle.documents.proofs.DocumentLengths.{file_fields}
use Rattle.documents.proofs.FirstNodes.{nodes_length, nodes_more, within_more}
use Rattle.documents.proofs.OpenLevels.{levels_length}

pub record NodesSoFar (lim : Limits) (classes : Classes) (s : List ℕ) (ix : DocumentIndex) (at : ℕ) (coming : List ℕ) (depth : ℕ) : Type 0 where
  pub reached : at ≤ length s
  pub few : ix.nodes ≤ lim.nodes
  pub names_room : lim.nodes ≤ length ix.names
  pub sizes_room : lim.nodes ≤ length ix.sizes
  pub shapes_room : lim.nodes ≤ length ix.shapes
  pub indexed : NodesIndexed s ix.names ix.sizes ix.shapes ix.nodes
  pub levels_open : Open coming depth
  pub goes_on : rest_of lim classes nothing_read (fields_of s)
      ≡ rest_of lim classes
      (record { nodes = nodes_in s ix; to_come = open_levels coming depth })
      (fields_of (drop at s))

module _ {lim : Limits} {classes : Classes} (room : lim.nodes ≤ 2048) {s : List ℕ} {ix : DocumentIndex} where
  pub so_far_none : (coming : List ℕ) → ix.nodes ≡ 0 → lim.nodes ≤ length ix.names → lim.nodes ≤ length ix.sizes → lim.nodes ≤ length ix.shapes
      → get_or coming 0 0 ≡ 1
      → NodesSoFar lim classes s ix 0 coming 1
  unfolding first_nodes open_levels
  so_far_none coming z p q r e =
      record {
        reached = omega arith;
        few = omega arith;
        names_room = p;
        sizes_room = q;
        shapes_room = r;
        indexed =
            record {
              few = omega arith;
              within = λ i h. absurd (omega arith);
              counts = λ i h. absurd (omega arith);
            };
        levels_open = record { innermost = innermost };
        goes_on =
            ap₂ (λ (k n : ℕ). rest_of lim classes (record { nodes = first_nodes s ix.names ix.sizes ix.shapes n; to_come = k ∷ [] }) (fields_of s))
            (sym e) (sym z);
      }
    where
      innermost : (d : ℕ) → 1 ≡ suc d → 0 < get_or coming d 0
      innermost zero h = omega arith
      innermost (suc d) h = absurd (omega arith)

  module _ {at : ℕ} {coming : List ℕ} {depth : ℕ} (far : NodesSoFar lim classes s ix at coming depth) where
    abbrev opened : Opened
    opened = record { nodes = nodes_in s ix; to_come = open_levels coming depth }

    sized : Sized opened ix.nodes depth
    sized = record { read = nodes_length s ix.names ix.sizes ix.shapes ix.nodes; open_levels = levels_length coming depth }

    pub so_far_stop : length s ≤ lim.input → (answer : Result (Unit {0}) Refusal)
        → ((o : Opened) → Sized o ix.nodes depth → rest_of lim classes o (fields_of (drop at s)) ≡ outcome_of answer o.nodes)
        → DocumentReads lim classes DocumentFile s ix answer
    so_far_stop short answer says =
        record { outcome = file_fields lim classes s short ∙ far.goes_on ∙ says opened sized; few = far.few; indexed = far.indexed }

    module _ (from to k : ℕ) (step : NodeStep lim classes s at ix.nodes depth (λ o. rest_of lim classes o (fields_of (drop at s))) from to k)
        {coming' : List ℕ} {depth' : ℕ} (after : LevelsAfter coming depth (k % 256) coming' depth') where
      indexed_more : NodesIndexed s (set ix.names ix.nodes from) (set ix.sizes ix.nodes (to - from)) (set ix.shapes ix.nodes k) (ix.nodes + 1)
      indexed_more =
          let place = step.room in
          record {
            few = omega arith;
            within =
                within_more s ix.names ix.sizes ix.nodes from (to - from) (omega (arith, far.names_room)) (omega (arith, far.sizes_room))
                (omega (arith, step.order, step.within))
                far.indexed.within;
            counts = λ i h. counts i h (ltb i ix.nodes) refl;
          }
        where
          counts : (i : ℕ) → i < ix.nodes + 1 → (b : Bool) → ltb i ix.nodes ≡ b → get_or (set ix.shapes ix.nodes k) i 0 % 256 ≤ 200
          counts i h true e =
              let p = ltb-true i ix.nodes e in
              let old = far.indexed.counts i p in
              let a = get_or-set_other ix.shapes ix.nodes i k 0 (λ e. omega arith) in
              omega arith
          counts i h false e =
              let p = ltb-false i ix.nodes e in
              let place = step.room in
              let a = put ix.shapes ix.nodes i k (omega (arith, far.shapes_room)) (omega arith) in
              omega (arith, step.few)

      so_far_next
          : NodesSoFar lim classes s (with_node_at ix from to k) to coming' depth'
      unfolding with_node
      so_far_next =
          let place = step.room in
          record {
            reached = step.within;
            few = omega arith;
            names_room = simp length-set far.names_room;
            sizes_room = simp length-set far.sizes_room;
            shapes_room = simp length-set far.shapes_room;
            indexed = indexed_more;
            levels_open = after.stays;
            goes_on =
                far.goes_on
                ∙ step.goes opened sized
                ∙ ap₂
                (λ (ns : List Node) (ls : List ℕ). rest_of lim classes (record { nodes = ns; to_come = ls }) (fields_of (drop to s)))
                (sym
                (nodes_more s ix.names ix.sizes ix.shapes ix.nodes from (to - from) k
                (omega (arith, far.names_room))
                (omega (arith, far.sizes_room))
                (omega (arith, far.shapes_room))))
                (sym after.levels_are);
          }

      -- as it is stored
      pub so_far_put : {ix' : DocumentIndex} → ix' ≡ with_node_at ix from to k → NodesSoFar lim classes s ix' to coming' depth'
      so_far_put p = rw p so_far_next
