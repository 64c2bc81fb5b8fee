-- When a node of a document is read, and how the document goes on: `NodeRead` holds if and only if reading gives that result
-- (`node_read`, `node_was`).
use Prim.Native.Nat.{ℕ, ◌≤◌, ◌<◌}
use native.Mathlib.Omega.{arith}
use mathlib.Core.Bool.{Bool, true, false, not, ◌&&◌, ◌||◌}
use mathlib.Core.List.{List, [], ◌∷◌}
use mathlib.Core.Logic.{⊎_elim}
use mathlib.Core.Path.{◌≡◌, refl, ◌∙◌, ap, ap₂}
use lib.ListN.{length}
use lib.Dec.{eqb, leb, ltb}
use borrow.Author.Tests.{eqb-true, le-leb, lt-leb, le-ltb, leb-true, leb-false, ltb-false, not-false}
use Rattle.grammar.specs.Limits.{Limits}
use Rattle.grammar.specs.Names.{Classes, is_name}
use Rattle.std.specs.Prelude.{Ok}
use Rattle.grammar.specs.Outcome.{◌>>=◌, ◌>>◌, turn_back}
use Rattle.grammar.specs.declared.Refusal.TheVariants.{BadField, BadName, BadTree, BytesAfterEnd}
use Rattle.grammar.specs.Fields.{Field, Fields, ◌then◌}
use Rattle.grammar.specs.ReadTable.{is_empty, bytes_left}
use Rattle.grammar.specs.ReadDocument.{
  node_tag,
  is_node_tag,
  document_end_tag,
  Node,
  Opened,
  with_node,
  bad_node,
  read_node,
  read_node_fields,
}
use Rattle.grammar.specs.WithinLimits.{NodeWithin}
use Rattle.theory.proofs.Lists.BoolLaws.{and_left, and_right, and_intro, or_cases, or_false, or_none, not_both}
use Rattle.theory.proofs.Bytes.OutcomeLaws.{no_fault, had_no_fault, given_eq}
use Rattle.theory.proofs.Bytes.ReadSteps.{name_has_bytes}

-- A node's tag tells whether it holds text, and is not that of the end.
pub tag_of_node : (text : Bool) → is_node_tag (node_tag text) ≡ true
unfolding is_node_tag
tag_of_node true = refl
tag_of_node false = refl

pub tag_tells : (text : Bool) → eqb (node_tag text) (node_tag true) ≡ text
tag_tells true = refl
tag_tells false = refl

pub node_not_end : (text : Bool) → eqb (node_tag text) document_end_tag ≡ false
node_not_end true = refl
node_not_end false = refl

pub told_by_tag : (tag : ℕ) → is_node_tag tag ≡ true → tag ≡ node_tag (eqb tag (node_tag true))
unfolding is_node_tag
told_by_tag tag e = go (eqb tag (node_tag true)) refl
  where
    go : (b : Bool) → eqb tag (node_tag true) ≡ b → tag ≡ node_tag b
    go true q = eqb-true tag (node_tag true) q
    go false q =
        ⊎_elim
        (λ p. eqb-true tag (node_tag false) p)
        (λ p. absurd (not_both p q))
        (or_cases (eqb tag (node_tag false)) (eqb tag (node_tag true)) e)

module _ (lim : Limits) (classes : Classes) where
  pub record NodeRead (o : Opened) (f : Field) (more : Opened) : Type 0 where
    pub it : Node
    pub tagged : f.tag ≡ node_tag it.head.text
    pub bytes : f.value ≡ it.children ∷ it.head.name
    pub within : NodeWithin lim classes it
    pub room : length o.nodes < lim.nodes
    pub level : length o.to_come ≤ lim.levels
    pub to_come : is_empty o.to_come ≡ false
    pub result : with_node o it ≡ more

  pub node_was : (o : Opened) (f : Field) (more : Opened) → read_node lim classes o f ≡ Ok more → NodeRead o f more
  unfolding read_node bad_node
  node_was o f more e = go f.value refl
    where
      go : (value : List ℕ) → f.value ≡ value → NodeRead o f more
      go [] q = let w = rw (q, read_node) at e in let z : ◌≡◌ {A = ℕ} 0 1 = cc in absurd (omega arith)
      go (k ∷ name) q =
          let w = rw (q, read_node) at e in
          let n : Node = record { head = record { name = name; text = eqb f.tag (node_tag true) }; children = k } in
          let tag = is_node_tag f.tag in
          let long = leb 1 (length name) in
          let short = leb (length name) lim.name in
          let full = leb lim.nodes (length o.nodes) in
          let many = ltb lim.children k in
          let deep = ltb lim.levels (length o.to_come) in
          let a = had_no_fault (not (tag && long && short)) BadField _ more w in
          let b = had_no_fault (not (is_name classes name)) BadName _ more a.1 in
          let c = had_no_fault (bad_node lim o n) BadTree _ more b.1 in
          let shape = not-false (tag && long && short) a.0 in
          let some = or_false (full || many || deep) (is_empty o.to_come) c.0 in
          let shallow = or_false (full || many) deep some.0 in
          let few = or_false full many shallow.0 in
          record {
            it = n;
            tagged = told_by_tag f.tag (and_left tag long (and_left (tag && long) short shape));
            bytes = q;
            within =
                record {
                  name =
                      record {
                        rule = not-false (is_name classes name) b.0;
                        size = leb-true (length name) lim.name (and_right (tag && long) short shape);
                      };
                  children = ltb-false lim.children k few.1;
                };
            room = leb-false lim.nodes (length o.nodes) few.0;
            level = ltb-false lim.levels (length o.to_come) shallow.1;
            to_come = some.1;
            result = given_eq c.1;
          }

  pub node_read : (o : Opened) (f : Field) (more : Opened) → NodeRead o f more → read_node lim classes o f ≡ Ok more
  unfolding read_node bad_node
  node_read o f more w =
      let k = w.it.children in
      let name = w.it.head.name in
      let text = w.it.head.text in
      let h = w.within in
      let full = leb lim.nodes (length o.nodes) in
      let many = ltb lim.children k in
      let deep = ltb lim.levels (length o.to_come) in
      let long = leb 1 (length name) in
      let short = leb (length name) lim.name in
      let tag = is_node_tag (node_tag text) in
      let longer = le-leb 1 (length name) (name_has_bytes classes name h.name.rule) in
      let shorter = le-leb (length name) lim.name h.name.size in
      let roomy = lt-leb lim.nodes (length o.nodes) w.room in
      let few = le-ltb lim.children k h.children in
      let shallow = le-ltb lim.levels (length o.to_come) w.level in
      ap₂ (λ (t : ℕ) (v : List ℕ). read_node lim classes o (record { tag = t; value = v })) w.tagged w.bytes
      ∙ no_fault _ BadField _ (ap not (and_intro (tag && long) short (and_intro tag long (tag_of_node text) longer) shorter))
      ∙ no_fault _ BadName _ (ap not h.name.rule)
      ∙ no_fault _ BadTree _
      (or_none (full || many || deep) (is_empty o.to_come) (or_none (full || many) deep (or_none full many roomy few) shallow) w.to_come)
      ∙ ap (λ (b : Bool). Ok (with_node o (record { head = record { name = name; text = b }; children = k }))) (tag_tells text)
      ∙ ap Ok w.result

  -- the end field, and any other
  pub end_field : (o : Opened) (f : Field) (rest : Fields) → eqb f.tag document_end_tag ≡ true
      → read_node_fields lim classes o (f then rest)
      ≡ (turn_back (not (is_empty f.value)) BadField
      >> (turn_back (not (is_empty o.to_come)) BadTree >> (turn_back (bytes_left rest) BytesAfterEnd >> Ok o.nodes)))
  unfolding read_node_fields
  end_field o f rest q = rw (q, read_node_fields)

  pub next_field : (o : Opened) (f : Field) (rest : Fields) → eqb f.tag document_end_tag ≡ false
      → read_node_fields lim classes o (f then rest)
      ≡ (read_node lim classes o f >>= (λ more. read_node_fields lim classes more rest))
  unfolding read_node_fields
  next_field o f rest q = rw (q, read_node_fields)
