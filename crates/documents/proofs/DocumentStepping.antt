-- The field at a place, as a step of reading the document from there on.
use Prim.Native.Nat.{ℕ, ◌-◌, ◌≤◌}
use native.Mathlib.Omega.{arith}
use mathlib.Core.Bool.{false}
use mathlib.Core.List.{List}
use mathlib.Core.Path.{◌≡◌, ◌∙◌, ap}
use lib.Dec.{eqb}
use lib.ListN.{length, drop, length-drop}
use lib.Seq.{slice, length-slice}
use borrow.Author.Tests.{ne_eqb}
use Rattle.grammar.specs.Limits.{Limits}
use Rattle.grammar.specs.Names.{Classes}
use Rattle.grammar.specs.Fields.{Field, Fields, no_bytes, past_end, ◌then◌, fields_of}
use Rattle.std.specs.Prelude.{Result, Err}
use Rattle.grammar.specs.declared.Refusal.{Refusal}
use Rattle.grammar.specs.ReadDocument.{document_end_tag, Node, Opened, read_node_fields}
use Rattle.grammar.specs.declared.Refusal.TheVariants.{FieldPastEnd}
use Rattle.reader.proofs.FieldReading.{FoundField}
use Rattle.documents.specs.DocumentNodes.{outcome_of}
use Rattle.documents.specs.DocumentSteps.{end_answer, Sized, rest_of, rest_with, NodeStep}
use Rattle.documents.proofs.DocumentFields.{ends}

pub stops_none : (lim : Limits) (classes : Classes) (o : Opened) (fs : Fields) → fs ≡ no_bytes → rest_of lim classes o fs ≡ Err FieldPastEnd
unfolding read_node_fields
stops_none lim classes o fs e = ap (rest_of lim classes o) e

pub stops_past : (lim : Limits) (classes : Classes) (o : Opened) (fs : Fields) → fs ≡ past_end → rest_of lim classes o fs ≡ Err FieldPastEnd
unfolding read_node_fields
stops_past lim classes o fs e = ap (rest_of lim classes o) e

another_tag : (lim : Limits) (classes : Classes) (f : Field) (rest : Fields) (o : Opened) → eqb f.tag document_end_tag ≡ false
    → rest_of lim classes o (f then rest) ≡ rest_with lim classes f rest o
unfolding read_node_fields
another_tag lim classes f rest o e = rw (e, read_node_fields)

module _ (lim : Limits) (classes : Classes) (s : List ℕ) (at tag from to : ℕ) (found : FoundField s at tag from to) where
  pub stops_end : tag ≡ document_end_tag → (nodes depth : ℕ) (o : Opened) → Sized o nodes depth
      → rest_of lim classes o (fields_of (drop at s)) ≡ outcome_of (end_answer (to - from) depth (length s - to)) o.nodes
  stops_end e nodes depth o z =
      ap (rest_of lim classes o) found.fields
      ∙ ap (λ (t : ℕ). rest_of lim classes o (record { tag = t; value = slice from to s } then fields_of (drop to s))) e
      ∙ ends lim classes o (slice from to s) (drop to s)
      ∙ sizes (length-slice from to s found.within) z.open_levels (length-drop to s)
    where
      sizes : {a b c : ℕ} → a ≡ to - from → b ≡ depth → c ≡ length s - to
          → outcome_of (end_answer a b c) o.nodes ≡ outcome_of (end_answer (to - from) depth (length s - to)) o.nodes
      sizes p q r = rw (p, q, r)

  pub goes_with : (tag ≡ document_end_tag → ⊥) → (o : Opened)
      → rest_of lim classes o (fields_of (drop at s)) ≡ rest_with lim classes (record { tag = tag; value = slice from to s }) (fields_of (drop to s)) o
  goes_with e o =
      ap (rest_of lim classes o) found.fields
      ∙ another_tag lim classes (record { tag = tag; value = slice from to s }) (fields_of (drop to s)) o (ne_eqb tag document_end_tag e)

-- a node is read the same where what is to come is the same, and from an earlier place
pub step_also : {lim : Limits} {classes : Classes} {s : List ℕ} {at from nodes depth : ℕ} {whole whole' : Opened → Result (List Node) Refusal}
    {f t k : ℕ} → at ≤ from → ((o : Opened) → whole' o ≡ whole o)
    → NodeStep lim classes s from nodes depth whole f t k → NodeStep lim classes s at nodes depth whole' f t k
step_also h e n =
    record {
      forward = let p = n.forward in omega arith;
      order = n.order;
      within = n.within;
      room = n.room;
      some_level = n.some_level;
      level = n.level;
      few = n.few;
      small = n.small;
      goes = λ o z. e o ∙ n.goes o z;
    }
