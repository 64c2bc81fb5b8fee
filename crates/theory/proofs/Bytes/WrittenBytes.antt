-- The numbers written for a table or a document that a file can hold are bytes, where the limits are those of bytes:
--   table_bytes_small : BytesAgree lim classes → TableWithin lim classes g → AreBytes (table_bytes g)
--   document_bytes_small : BytesAgree lim classes → DocumentWithin lim classes d → AreBytes (document_bytes d)
use Prim.Native.Nat.{ℕ, ◌/◌, ◌%◌, ◌≤◌, ◌<◌}
use native.Mathlib.Omega.{arith}
use mathlib.Core.Bool.{Bool, false, true}
use mathlib.Core.List.Memᴰ
use mathlib.Core.List.{
  List,
  [],
  ◌∷◌,
  ◌++◌,
  Memᴰ,
}
use mathlib.Core.Logic.{⊎_elim}
use mathlib.Core.Path.{◌≡◌, ap}
use lib.ListN.{length, length-append}
use borrow.Author.Tests.{ltb-true}
use Rattle.grammar.specs.Lists.{joined_of}
use Rattle.grammar.specs.Limits.{Limits}
use Rattle.grammar.specs.LimitSets.{limits_of}
use Rattle.grammar.specs.declared.SizeLimits.{SizeLimits}
use Rattle.grammar.specs.Names.{Classes, Loads}
use Rattle.grammar.specs.Content.{
  Content,
  none,
  empty,
  type,
  sequence,
  choice,
  any_number,
  one_or_more,
  optional,
  Contents,
  []ᶜ,
  ◌∷ᶜ◌,
  operand_count,
}
use Rattle.grammar.specs.Tree.{Tree}
use Rattle.grammar.specs.Table.{Rule, Table}
use Rattle.grammar.specs.Fields.{field_bytes}
use Rattle.grammar.specs.ReadContent.{content_bytes, operand_bytes, is_proper, are_proper}
use Rattle.grammar.specs.ReadTable.{label_tag, start_tag, rule_tag, table_end_tag}
use Rattle.grammar.specs.ReadDocument.{node_tag, document_end_tag, Node}
use Rattle.grammar.specs.WriteTable.{rule_bytes, rule_field, table_bytes}
use Rattle.grammar.specs.WriteDocument.{nodes_of, node_bytes, document_bytes}
use Rattle.grammar.specs.WithinLimits.{TableWithin, DocumentWithin}
use Rattle.theory.proofs.Lists.BoolLaws.{and_left, and_right}
use Rattle.theory.proofs.Lists.ListLaws.{joined_from}
use Rattle.theory.proofs.Bytes.FieldBytes.{AreBytes}
use Rattle.theory.proofs.Bytes.ClassLaws.{all_classed, name_small}
use Rattle.theory.proofs.Contents.ProperContents.{proper_operands}

-- limits of files of bytes
pub record BytesAgree (lim : Limits) (classes : Classes) : Type 0 where
  pub types : lim.types ≤ 256
  pub labels : lim.labels ≤ 256
  pub operands : lim.operands ≤ 255
  pub children : lim.children ≤ 255
  pub input : lim.input < 65536
  pub name_bytes : length classes ≤ 256

-- those that the code has room for, under any classes that load
pub within_bytes : (l : SizeLimits) → {classes : Classes} → Loads classes → BytesAgree (limits_of l) classes
within_bytes l {classes} load =
    let few = l.rules_fit in
    let all = all_classed classes load in
    record {
      types = omega arith;
      labels = omega arith;
      operands = omega arith;
      children = omega arith;
      input = omega arith;
      name_bytes = omega arith;
    }

small_none : AreBytes []
small_none b m = elim m [ ]

small_cons : (n : ℕ) (ns : List ℕ) → n < 256 → AreBytes ns → AreBytes (n ∷ ns)
small_cons n ns p h b m = ⊎_elim (λ e. omega arith) (h b) (Memᴰ.cases_cons m)

small_append : (ms ns : List ℕ) → AreBytes ms → AreBytes ns → AreBytes (ms ++ ns)
small_append ms ns p q b m = ⊎_elim (p b) (q b) (Memᴰ.append_cases ms m)

small_joined : {A : Type 0} (f : A → List ℕ) (xs : List A) → ((x : A) → Memᴰ x xs → AreBytes (f x))
    → AreBytes (joined_of f xs)
small_joined f xs h b m = let (x, n, o) = joined_from f xs m in h x n b o

-- each of joined lists is no longer than all of them
joined_long : {A : Type 0} (f : A → List ℕ) {x : A} {xs : List A} → Memᴰ x xs → length (f x) ≤ length (joined_of f xs)
unfolding joined_of
joined_long f {x} (Memᴰ.head {x = y} {xs = ys} e) =
    let l = length-append (f y) (joined_of f ys) in
    let s = ap (λ z. length (f z)) e in
    omega arith
joined_long f (Memᴰ.tail {x = y} {xs = ys} m) =
    let l = length-append (f y) (joined_of f ys) in
    let s = joined_long f m in
    omega arith

field_small : (tag : ℕ) (value : List ℕ) → tag < 256 → length value < 65536 → AreBytes value → AreBytes (field_bytes tag value)
unfolding field_bytes
field_small tag value t l h =
    small_cons tag _ t (small_cons (length value / 256) _ (omega arith) (small_cons (length value % 256) value (omega arith) h))

rule_tag_small : (text : Bool) → rule_tag text < 256
rule_tag_small true = omega arith
rule_tag_small false = omega arith

node_tag_small : (text : Bool) → node_tag text < 256
node_tag_small true = omega arith
node_tag_small false = omega arith

-- a field is longer than its value
field_long : (tag : ℕ) (value : List ℕ) → length value ≤ length (field_bytes tag value)
unfolding field_bytes
field_long tag value = omega arith

-- contents
module _ (lim : Limits) (classes : Classes) (agree : BytesAgree lim classes) where
  mutual
    unfolding content_bytes operand_bytes is_proper are_proper

    content_small : (c : Content) → is_proper lim c ≡ true → AreBytes (content_bytes c)
    content_small none e = small_cons 0 [] (omega arith) small_none
    content_small empty e = small_cons 1 [] (omega arith) small_none
    content_small (type k) e =
        let b = agree.types in
        let q = ltb-true k lim.types e in
        small_cons 2 (k ∷ []) (omega arith) (small_cons k [] (omega arith) small_none)
    content_small (sequence cs) e =
        let b = agree.operands in
        let (some, few, proper) = (proper_operands lim cs).0 e in
        small_cons 3 _ (omega arith) (small_cons (operand_count cs) _ (omega arith) (operands_small cs proper))
    content_small (choice cs) e =
        let b = agree.operands in
        let (some, few, proper) = (proper_operands lim cs).0 e in
        small_cons 4 _ (omega arith) (small_cons (operand_count cs) _ (omega arith) (operands_small cs proper))
    content_small (any_number c) e = small_cons 5 (content_bytes c) (omega arith) (content_small c e)
    content_small (one_or_more c) e = small_cons 6 (content_bytes c) (omega arith) (content_small c e)
    content_small (optional c) e = small_cons 7 (content_bytes c) (omega arith) (content_small c e)

    operands_small : (cs : Contents) → are_proper lim cs ≡ true → AreBytes (operand_bytes cs)
    operands_small []ᶜ e = small_none
    operands_small (c ∷ᶜ cs) e =
        small_append (content_bytes c) (operand_bytes cs)
        (content_small c (and_left (is_proper lim c) (are_proper lim cs) e))
        (operands_small cs (and_right (is_proper lim c) (are_proper lim cs) e))

  -- fields of one sort, of which the bytes in all are within the input
  fields_small : {A : Type 0} (tag : A → ℕ) (value : A → List ℕ) (xs : List A) → ((x : A) → tag x < 256)
      → length (joined_of (λ x. field_bytes (tag x) (value x)) xs) ≤ lim.input → ((x : A) → Memᴰ x xs → AreBytes (value x))
      → AreBytes (joined_of (λ x. field_bytes (tag x) (value x)) xs)
  fields_small tag value xs t l h =
      small_joined (λ x. field_bytes (tag x) (value x)) xs
      (λ x m.
      let b = agree.input in
      let one = joined_long (λ x. field_bytes (tag x) (value x)) m in
      let short = field_long (tag x) (value x) in
      field_small (tag x) (value x) (t x) (omega arith) (h x m))

  pub table_bytes_small : (g : Table) → TableWithin lim classes g → AreBytes (table_bytes g)
  unfolding table_bytes rule_field rule_bytes
  table_bytes_small g within =
      let labels = joined_of (field_bytes label_tag) g.labels in
      let starts = joined_of (λ k. field_bytes start_tag (k ∷ [])) g.starts in
      let rules = joined_of rule_field g.rules in
      let end = field_bytes table_end_tag [] in
      let size = within.size in
      let l₁ = length-append labels starts in
      let l₂ = length-append (labels ++ starts) rules in
      let l₃ = length-append (labels ++ starts ++ rules) end in
      small_append (labels ++ starts ++ rules) end
      (small_append (labels ++ starts) rules
      (small_append labels starts
      (fields_small (λ n. label_tag) (λ n. n) g.labels (λ n. omega arith) (omega arith)
      (λ n m. name_small classes n agree.name_bytes (within.names n m).rule))
      (fields_small (λ k. start_tag) (λ k. k ∷ []) g.starts (λ k. omega arith) (omega arith)
      (λ k m.
      let a = agree.types in
      let b = within.start_types k m in
      small_cons k [] (omega arith) small_none)))
      (fields_small (λ (r : Rule). rule_tag r.text) rule_bytes g.rules (λ r. rule_tag_small r.text) (omega arith)
      (λ r m.
      let w = within.each_rule r m in
      let a = agree.types in
      let b = w.type in
      let c = agree.labels in
      let d = w.label in
      let e = within.labels in
      small_cons r.type _ (omega arith)
      (small_cons r.label _ (omega arith) (content_small r.content w.content.proper)))))
      (field_small table_end_tag [] (omega arith) (omega arith) small_none)

  pub document_bytes_small : (d : Tree) → DocumentWithin lim classes d → AreBytes (document_bytes d)
  unfolding document_bytes node_bytes
  document_bytes_small d within =
      let nodes = joined_of node_bytes (nodes_of d) in
      let end = field_bytes document_end_tag [] in
      let size = within.size in
      let l = length-append nodes end in
      small_append nodes end
      (fields_small (λ (n : Node). node_tag n.head.text) (λ (n : Node). n.children ∷ n.head.name) (nodes_of d)
      (λ n. node_tag_small n.head.text) (omega arith)
      (λ n m.
      let w = within.tree.each_node n m in
      let a = agree.children in
      let b = w.children in
      small_cons n.children n.head.name (omega arith)
      (name_small classes n.head.name agree.name_bytes w.name.rule)))
      (field_small document_end_tag [] (omega arith) (omega arith) small_none)
