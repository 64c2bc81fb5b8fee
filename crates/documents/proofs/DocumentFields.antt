-- What one field of a document says, by numbers: how many nodes are read, how many levels are open, how many bytes are left.
--   ends : the end field's answer is `end_answer`
--   node_misfit, node_misnamed, node_misplaced, node_here : the cases of any other field
use Prim.Native.Nat.{ℕ, suc, ◌+◌, ◌-◌, ◌*◌, ◌%◌, ◌≤◌, ◌<◌}
use native.Mathlib.Numerals.{add-one}
use native.Mathlib.Omega.{arith}
use mathlib.Core.Bool.{Bool, true, false, not, ◌&&◌, ◌||◌}
use mathlib.Core.List.{List, [], ◌∷◌}
use mathlib.Core.Path.{◌≡◌, refl, sym, ◌∙◌, ap, ap₂}
use lib.Dec.{eqb, leb, ltb, eqb-suc-zero}
use lib.ListN.{length, get_or, take, drop, length-drop}
use lib.Seq.{slice, slice_empty, slice-cons, length-take-le}
use borrow.Author.Tests.{leb-true, leb-false, ltb-false, eqb-false, le-leb, lt-leb}
use Rattle.grammar.specs.Limits.{Limits}
use Rattle.grammar.specs.Names.{Classes, is_name}
use Rattle.grammar.specs.Fields.{Field, Fields, ◌then◌, fields_of}
use Rattle.grammar.specs.Tree.{Head}
use Rattle.std.specs.Prelude.{Result, Ok, Err}
use Rattle.grammar.specs.Outcome.{◌>>=◌, ◌>>◌, turn_back}
use Rattle.grammar.specs.declared.Refusal.{Refusal}
use Rattle.grammar.specs.ReadTable.{is_empty, bytes_left}
use Rattle.grammar.specs.ReadDocument.{
  node_tag,
  document_end_tag,
  Node,
  Opened,
  with_node,
  bad_node,
  read_node,
  read_node_fields,
  is_node_tag,
}
use Rattle.grammar.specs.declared.Refusal.TheVariants.{BadField, BadName, BadTree, BytesAfterEnd}
use Rattle.theory.proofs.Lists.BoolLaws.{or_false}
use Rattle.theory.proofs.Bytes.FieldBytes.{fields_empty, fields_tag, fields_half, fields_front, fields_past}
use Rattle.basis.proofs.FromPlaces.{slice_part}
use Rattle.documents.specs.DocumentNodes.{shape_of, node_from, outcome_of}
use Rattle.documents.specs.DocumentSteps.{end_answer, bad_counts, Sized, rest_of, rest_with}

-- a list is empty when its length is 0
empty_length : {A : Type 0} (l : List A) → is_empty l ≡ eqb (length l) 0
empty_length [] = refl
empty_length (x ∷ l) = sym (eqb-suc-zero (length l))

-- bytes are left where the list has some
bytes_left_lem : (l : List ℕ) → bytes_left (fields_of l) ≡ not (eqb (length l) 0)
bytes_left_lem [] = ap bytes_left fields_empty
bytes_left_lem (t ∷ []) = ap bytes_left (fields_tag t)
bytes_left_lem (t ∷ h ∷ []) = ap bytes_left (fields_half t h)
bytes_left_lem (t ∷ h ∷ l ∷ s) = go (leb (h * 256 + l) (length s)) refl ∙ ap not (sym (eqb-suc-zero (suc (suc (length s)))))
  where
    go : (b : Bool) → leb (h * 256 + l) (length s) ≡ b → bytes_left (fields_of (t ∷ h ∷ l ∷ s)) ≡ true
    go true e = ap bytes_left (fields_front t h l s (leb-true (h * 256 + l) (length s) e))
    go false e = ap bytes_left (fields_past t h l s (leb-false (h * 256 + l) (length s) e))

-- the end field
module _ (lim : Limits) (classes : Classes) (o : Opened) where
  at_the_end : (value : List ℕ) (rest : Fields)
      → read_node_fields lim classes o (record { tag = document_end_tag; value = value } then rest)
      ≡ (turn_back (not (is_empty value)) BadField
      >> (turn_back (not (is_empty o.to_come)) BadTree >> (turn_back (bytes_left rest) BytesAfterEnd >> Ok o.nodes)))
  unfolding read_node_fields
  at_the_end value rest = refl

  pub ends : (value l : List ℕ)
      → read_node_fields lim classes o (record { tag = document_end_tag; value = value } then fields_of l)
      ≡ outcome_of (end_answer (length value) (length o.to_come) (length l)) o.nodes
  unfolding end_answer
  ends value l =
      at_the_end value (fields_of l)
      ∙ ap
      (λ (b : Bool).
      turn_back (not b) BadField
      >> (turn_back (not (is_empty o.to_come)) BadTree >> (turn_back (bytes_left (fields_of l)) BytesAfterEnd >> Ok o.nodes)))
      (empty_length value)
      ∙ ap
      (λ (b : Bool).
      turn_back (not (eqb (length value) 0)) BadField
      >> (turn_back (not b) BadTree >> (turn_back (bytes_left (fields_of l)) BytesAfterEnd >> Ok o.nodes)))
      (empty_length o.to_come)
      ∙ ap
      (λ (b : Bool).
      turn_back (not (eqb (length value) 0)) BadField
      >> (turn_back (not (eqb (length o.to_come) 0)) BadTree >> (turn_back b BytesAfterEnd >> Ok o.nodes)))
      (bytes_left_lem l)
      ∙ go (eqb (length value) 0) refl (eqb (length o.to_come) 0) refl (eqb (length l) 0) refl
    where
      tests : Bool → Bool → Bool → Result (List Node) Refusal
      tests a b c =
          turn_back (not a) BadField >> (turn_back (not b) BadTree >> (turn_back (not c) BytesAfterEnd >> Ok o.nodes))

      go : (a : Bool) → eqb (length value) 0 ≡ a → (b : Bool) → eqb (length o.to_come) 0 ≡ b → (c : Bool) → eqb (length l) 0 ≡ c
          → tests (eqb (length value) 0) (eqb (length o.to_come) 0) (eqb (length l) 0)
          ≡ outcome_of (end_answer (length value) (length o.to_come) (length l)) o.nodes
      go false p b q c r = rw (p, end_answer)
      go true p false q c r = rw (p, q, end_answer)
      go true p true q false r = rw (p, q, r, end_answer)
      go true p true q true r = rw (p, q, r, end_answer)

-- a node's faults by numbers
pub bad_counts_lem : (lim : Limits) (o : Opened) (n : Node)
    → bad_node lim o n ≡ bad_counts lim (length o.nodes) n.children (length o.to_come)
unfolding bad_node
bad_counts_lem lim o n =
    ap
    (λ (b : Bool).
    leb lim.nodes (length o.nodes) || ltb lim.children n.children || ltb lim.levels (length o.to_come) || b)
    (empty_length o.to_come)

-- a node without a fault is within the limits
pub record Counts (lim : Limits) (nodes children depth : ℕ) : Type 0 where
  pub room : nodes < lim.nodes
  pub few : children ≤ lim.children
  pub level : depth ≤ lim.levels
  pub some_level : 0 < depth

pub good_counts : (lim : Limits) (nodes children depth : ℕ) → bad_counts lim nodes children depth ≡ false → Counts lim nodes children depth
good_counts lim nodes children depth e =
    let a = leb lim.nodes nodes in
    let b = ltb lim.children children in
    let c = ltb lim.levels depth in
    let last = or_false (a || b || c) (eqb depth 0) e in
    let third = or_false (a || b) c last.0 in
    let first = or_false a b third.0 in
    let room = leb-false lim.nodes nodes first.0 in
    let few = ltb-false lim.children children first.1 in
    let level = ltb-false lim.levels depth third.1 in
    let some_level = eqb-false depth 0 last.1 in
    record { room = room; few = few; level = level; some_level = omega arith }

-- a node field, test by test
abbrev tried : Bool → Bool → Bool → Opened → Result Opened Refusal
tried fits named bad more =
    turn_back (not fits) BadField >> (turn_back (not named) BadName >> (turn_back bad BadTree >> Ok more))

module _ (lim : Limits) (classes : Classes) (o : Opened) where
  read_empty : (tag : ℕ) → read_node lim classes o (record { tag = tag; value = [] }) ≡ Err BadField
  unfolding read_node
  read_empty tag = refl

  module _ (tag k : ℕ) (name : List ℕ) where
    abbrev fits : Bool
    fits = is_node_tag tag && leb 1 (length name) && leb (length name) lim.name

    read_tried : read_node lim classes o (record { tag = tag; value = k ∷ name })
        ≡ tried
        fits
        (is_name classes name)
        (bad_counts lim (length o.nodes) k (length o.to_come))
        (with_node o (record { head = record { name = name; text = eqb tag (node_tag true) }; children = k }))
    unfolding read_node
    read_tried =
        ap
        (λ (b : Bool). tried fits (is_name classes name) b (with_node o (record { head = record { name = name; text = eqb tag (node_tag true) }; children = k })))
        (bad_counts_lem lim o (record { head = record { name = name; text = eqb tag (node_tag true) }; children = k }))

    read_misfit : fits ≡ false → read_node lim classes o (record { tag = tag; value = k ∷ name }) ≡ Err BadField
    read_misfit p =
        read_tried
        ∙ ap
        (λ (b : Bool).
        tried
        b
        (is_name classes name)
        (bad_counts lim (length o.nodes) k (length o.to_come))
        (with_node o (record { head = record { name = name; text = eqb tag (node_tag true) }; children = k })))
        p

    module _ (tagged : is_node_tag tag ≡ true) (some : 1 ≤ length name) (short : length name ≤ lim.name) where
      all_fits : fits ≡ true
      all_fits =
          ap (λ (b : Bool). b && leb 1 (length name) && leb (length name) lim.name) tagged
          ∙ ap (λ (b : Bool). b && leb (length name) lim.name) (le-leb 1 (length name) some)
          ∙ le-leb (length name) lim.name short

      read_fits : (named : Bool) → is_name classes name ≡ named → (bad : Bool)
          → bad_counts lim (length o.nodes) k (length o.to_come) ≡ bad
          → read_node lim classes o (record { tag = tag; value = k ∷ name })
          ≡ tried true named bad (with_node o (record { head = record { name = name; text = eqb tag (node_tag true) }; children = k }))
      read_fits named p bad q =
          let more = with_node o (record { head = record { name = name; text = eqb tag (node_tag true) }; children = k }) in
          let counts = bad_counts lim (length o.nodes) k (length o.to_come) in
          read_tried
          ∙ ap (λ (b : Bool). tried b (is_name classes name) counts more) all_fits
          ∙ ap (λ (b : Bool). tried true b counts more) p
          ∙ ap (λ (b : Bool). tried true named b more) q

first_fails : (a b c : Bool) → a ≡ false → (a && b && c) ≡ false
first_fails a b c e = ap (λ (x : Bool). x && b && c) e

second_fails : (a b c : Bool) → b ≡ false → (a && b && c) ≡ false
second_fails true b c e = ap (λ (x : Bool). x && c) e
second_fails false b c e = refl

third_fails : (a b c : Bool) → c ≡ false → (a && b && c) ≡ false
third_fails true true c e = e
third_fails true false c e = refl
third_fails false b c e = refl

-- what a shape tells
shape_text : (text : Bool) (children : ℕ) → children < 256 → leb 256 (shape_of text children) ≡ text
shape_text true children h = le-leb 256 (256 + children) (omega arith)
shape_text false children h = lt-leb 256 children h

pub shape_children : (text : Bool) (children : ℕ) → children < 256 → shape_of text children % 256 ≡ children
shape_children true children h = omega arith
shape_children false children h = omega arith

pub shape_small : (text : Bool) (children : ℕ) → children < 256 → shape_of text children < 512
shape_small true children h = omega arith
shape_small false children h = omega arith

-- the value of a field, and the name behind its first byte
module _ (s : List ℕ) (from to : ℕ) (order : from ≤ to) (within : to ≤ length s) where
  abbrev value : List ℕ
  value = slice from to s

  abbrev name : List ℕ
  name = take (to - (from + 1)) (drop (from + 1) s)

  no_value : to - from < 1 → value ≡ []
  no_value h = let e : from ≡ to = omega arith in ap (λ (k : ℕ). slice k to s) e ∙ slice_empty to s

  first_and_name : 1 ≤ to - from → value ≡ get_or s from 0 ∷ name
  first_and_name h =
      let whole : to ≡ from + 1 + (to - (from + 1)) = omega arith in
      slice-cons from to s 0 (omega arith) within
      ∙ ap₂ (λ (f t : ℕ). get_or s from 0 ∷ slice f t s) (sym (add-one from)) whole
      ∙ ap (λ (l : List ℕ). get_or s from 0 ∷ l) (slice_part (from + 1) (to - (from + 1)) s (omega arith))

  name_length : 1 ≤ to - from → length name ≡ to - (from + 1)
  name_length h = let d = length-drop (from + 1) s in length-take-le (to - (from + 1)) (drop (from + 1) s) (omega arith)

  -- the cases of a field that is no end
  module _ (lim : Limits) (classes : Classes) (tag : ℕ) (rest : Fields) (o : Opened) where
    abbrev field : Field
    field = record { tag = tag; value = value }

    goes_on : (v : List ℕ) → value ≡ v → (r : Result Opened Refusal)
        → read_node lim classes o (record { tag = tag; value = v }) ≡ r
        → rest_with lim classes field rest o ≡ (r >>= λ more. rest_of lim classes more rest)
    goes_on v p r q =
        ap (λ (l : List ℕ). rest_with lim classes (record { tag = tag; value = l }) rest o) p
        ∙ ap (λ (x : Result Opened Refusal). x >>= λ more. rest_of lim classes more rest) q

    node_misfit : (1 ≤ to - from → fits lim classes o tag (get_or s from 0) name ≡ false) → rest_with lim classes field rest o ≡ Err BadField
    node_misfit p = go (leb 1 (to - from)) refl
      where
        go : (b : Bool) → leb 1 (to - from) ≡ b → rest_with lim classes field rest o ≡ Err BadField
        go false q = goes_on [] (no_value (leb-false 1 (to - from) q)) (Err BadField) (read_empty lim classes o tag)
        go true q =
            let some = leb-true 1 (to - from) q in
            goes_on
            (get_or s from 0 ∷ name)
            (first_and_name some)
            (Err BadField)
            (read_misfit lim classes o tag (get_or s from 0) name (p some))

    pub node_foreign : is_node_tag tag ≡ false → rest_with lim classes field rest o ≡ Err BadField
    node_foreign p =
        node_misfit
        (λ q. first_fails (is_node_tag tag) (leb 1 (length name)) (leb (length name) lim.name) p)

    pub node_short : to - from < 2 → rest_with lim classes field rest o ≡ Err BadField
    node_short p =
        node_misfit
        (λ q.
        let long = name_length q in
        second_fails
        (is_node_tag tag)
        (leb 1 (length name))
        (leb (length name) lim.name)
        (lt-leb 1 (length name) (omega arith)))

    pub node_long : lim.name < to - from - 1 → rest_with lim classes field rest o ≡ Err BadField
    node_long p =
        node_misfit
        (λ q.
        let long = name_length q in
        third_fails
        (is_node_tag tag)
        (leb 1 (length name))
        (leb (length name) lim.name)
        (lt-leb (length name) lim.name (omega arith)))

    module _ (tagged : is_node_tag tag ≡ true) (some : 2 ≤ to - from) (short : to - from - 1 ≤ lim.name) where
      abbrev head : Head
      head = record { name = name; text = eqb tag (node_tag true) }

      node_tried : (named : Bool) → is_name classes name ≡ named → (bad : Bool)
          → bad_counts lim (length o.nodes) (get_or s from 0) (length o.to_come) ≡ bad
          → rest_with lim classes field rest o
          ≡ (tried true named bad (with_node o (record { head = head; children = get_or s from 0 }))
          >>= λ more. rest_of lim classes more rest)
      node_tried named p bad q =
          let long = name_length (omega arith) in
          goes_on
          (get_or s from 0 ∷ name)
          (first_and_name (omega arith))
          (tried true named bad (with_node o (record { head = head; children = get_or s from 0 })))
          (read_fits lim classes o tag (get_or s from 0) name tagged (omega arith) (omega arith) named p bad q)

      pub node_misnamed : is_name classes name ≡ false → rest_with lim classes field rest o ≡ Err BadName
      node_misnamed p = node_tried false p (bad_counts lim (length o.nodes) (get_or s from 0) (length o.to_come)) refl

      module _ (nodes depth children : ℕ) (counted : children ≡ get_or s from 0) (sized : Sized o nodes depth) where
        here : (bad : Bool) → bad_counts lim nodes children depth ≡ bad
            → bad_counts lim (length o.nodes) (get_or s from 0) (length o.to_come) ≡ bad
        here bad e = rw (sized.read, sized.open_levels, ← counted) e

        pub node_misplaced : is_name classes name ≡ true → bad_counts lim nodes children depth ≡ true
            → rest_with lim classes field rest o ≡ Err BadTree
        node_misplaced p q = node_tried true p true (here true q)

        pub node_here : children < 256 → is_name classes name ≡ true → bad_counts lim nodes children depth ≡ false
            → rest_with lim classes field rest o
            ≡ rest_of lim classes (with_node o (node_from s (from + 1) (to - (from + 1)) (shape_of (eqb tag (node_tag true)) children))) rest
        node_here small p q =
            let text = eqb tag (node_tag true) in
            node_tried true p false (here false q)
            ∙ ap₂
            (λ (b : Bool) (k : ℕ). rest_of lim classes (with_node o (record { head = record { name = name; text = b }; children = k })) rest)
            (sym (shape_text text children small))
            (sym (shape_children text children small ∙ counted))
