-- Reading a text tag by tag. `TextSoFar` ties the index to what is read: reading on from `at` is reading the whole. It holds at first
-- (`text_begins`), after an element (`text_element`) and an end tag (`text_closed`), and gives the answer where reading stops.
use Prim.Native.Nat.{ℕ, ◌+◌, ◌-◌, ◌≤◌, ◌<◌}
use native.Mathlib.Omega.{arith}
use mathlib.Core.Bool.{Bool, true, false, not, ◌&&◌, ◌||◌}
use mathlib.Core.List.{List, [], ◌∷◌, append-nil}
use mathlib.Core.Option.{Option, none as nothing, some as just}
use mathlib.Core.Path.{◌≡◌, refl, sym, ◌∙◌, ap, subst}
use lib.Dec.{leb}
use lib.ListN.{length, get_or, set, take, drop, length-set}
use lib.Seq.{slice}
use borrow.Author.Tests.{eq-eqb, ne_eqb}
use Rattle.grammar.specs.Limits.{Limits, child_limit}
use Rattle.grammar.specs.Names.{Name, Classes, is_name}
use Rattle.grammar.specs.Tree.{Tree}
use Rattle.std.specs.Int.{from_bool}
use Rattle.std.specs.Prelude.{Result, Ok, Err}
use Rattle.grammar.specs.Outcome.{◌>>=◌, ◌>>◌, turn_back}
use Rattle.grammar.specs.WriteDocument.{nodes_of}
use Rattle.grammar.specs.ReadText.{
  start_tag,
  empty_tag,
  end_tag,
  Tags,
  no_more,
  not_allowed,
  ◌then◌,
  tags_of,
  Element,
  Elements,
  no_elements,
  opening,
  closing,
  full,
  bad_element,
  read_element,
  names_innermost,
  read_tag,
  root_of,
  read_tags,
}
use Rattle.grammar.specs.declared.Format.TheVariants.{XmlText}
use Rattle.grammar.specs.declared.Refusal.{Refusal}
use Rattle.grammar.specs.declared.Refusal.TheVariants.{BadName, BadTree, BadText, BadEndTag}
use Rattle.theory.proofs.Bytes.TextElements.{nodes_read, nodes_of_root, nodes_opened}
use Rattle.theory.proofs.Bytes.TextWithin.{Allowed, element_was, kept_levels}
use Rattle.basis.proofs.FromPlaces.{slice_taken}
use Rattle.documents.specs.declared.text.Tag.TheVariants.{Element as ElementHere, End}
use Rattle.documents.specs.DocumentNodes.{first_nodes, nodes_in, NodesIndexed, with_node_at, outcome_of, DocumentReads}
use Rattle.documents.specs.TextSteps.{
  element_tag,
  TagIs,
  element_answer,
  innermost,
  full_at,
  one_child_more,
  closes_at,
  InnermostHeld,
  text_end,
  text_nodes,
}
use Rattle.documents.specs.declared.documents.DocumentIndex.{DocumentIndex}
use Rattle.documents.proofs.DocumentLengths.{text_tags}
use Rattle.documents.proofs.OpenElements.{
  Standing,
  stands_none,
  stands_opened,
  stands_closed,
  full_is,
  closes_is,
  innermost_below,
  child_room,
  some_nodes,
}
use Rattle.documents.proofs.FirstNodes.{within_more}
use Rattle.documents.proofs.TextPlaces.{child_length}

-- what the answer to an element means for what is read
abbrev outcome_for : Elements → Result (Unit {0}) Refusal → Result Elements Refusal
outcome_for more (Ok tt) = Ok more
outcome_for more (Err r) = Err r

-- the tests of an element, by numbers and as the text is read
answer_is : (lim : Limits) (classes : Classes) (e : Elements) (name : Name)
    → read_element lim classes e name
    ≡ outcome_for (opening name e) (element_answer lim classes name e.nodes (length e.opened) (full lim e))
unfolding read_element bad_element element_answer
answer_is lim classes e name =
    go (is_name classes name && leb (length name) lim.name)
    (leb lim.nodes e.nodes || leb lim.levels (length e.opened) || full lim e)
  where
    go : (named bad : Bool)
        → (turn_back (not named) BadName >> (turn_back bad BadTree >> Ok (opening name e)))
        ≡ outcome_for (opening name e)
        (elim named as (λ (b : Bool). (Result (Unit {0}) Refusal)) [
          | false ↦ Err BadName
          | true ↦ elim bad as (λ (b : Bool). (Result (Unit {0}) Refusal)) [ true ↦ Err BadTree | false ↦ (Ok tt) ]
        ])
    go false bad = refl
    go true true = refl
    go true false = refl

-- reading on behind a tag
module _ (lim : Limits) (classes : Classes) (e : Elements) (name : Name) (rest : Tags) where
  pub refused_element : (r : Refusal) (stays : Bool) → read_element lim classes e name ≡ Err r
      → text_nodes lim classes e (element_tag stays name then rest) ≡ Err r
  unfolding read_tags read_tag
  refused_element r false w =
      ap
      (λ (o : Result Elements Refusal).
      ((o >>= λ more. Ok (closing more)) >>= λ more. read_tags lim classes more rest) >>= λ d. Ok (nodes_of d))
      w
  refused_element r true w =
      ap (λ (o : Result Elements Refusal). (o >>= λ more. read_tags lim classes more rest) >>= λ d. Ok (nodes_of d)) w

  pub goes_start : read_element lim classes e name ≡ Ok (opening name e)
      → text_nodes lim classes e (start_tag name then rest) ≡ text_nodes lim classes (opening name e) rest
  unfolding read_tags read_tag
  goes_start w = ap (λ (o : Result Elements Refusal). (o >>= λ more. read_tags lim classes more rest) >>= λ d. Ok (nodes_of d)) w

  pub goes_empty : read_element lim classes e name ≡ Ok (opening name e)
      → text_nodes lim classes e (empty_tag name then rest) ≡ text_nodes lim classes (closing (opening name e)) rest
  unfolding read_tags read_tag
  goes_empty w =
      ap
      (λ (o : Result Elements Refusal).
      ((o >>= λ more. Ok (closing more)) >>= λ more. read_tags lim classes more rest) >>= λ d. Ok (nodes_of d))
      w

  pub goes_closed : names_innermost name e ≡ true
      → text_nodes lim classes e (end_tag name then rest) ≡ text_nodes lim classes (closing e) rest
  unfolding read_tags read_tag
  goes_closed w =
      ap
      (λ (b : Bool).
      ((turn_back (not b) BadEndTag >> Ok (closing e)) >>= λ more. read_tags lim classes more rest) >>= λ d. Ok (nodes_of d))
      w

  pub refused_end : names_innermost name e ≡ false → text_nodes lim classes e (end_tag name then rest) ≡ Err BadEndTag
  unfolding read_tags read_tag
  refused_end w =
      ap
      (λ (b : Bool).
      ((turn_back (not b) BadEndTag >> Ok (closing e)) >>= λ more. read_tags lim classes more rest) >>= λ d. Ok (nodes_of d))
      w

-- the end of a text
module _ (lim : Limits) (classes : Classes) (s names sizes shapes : List ℕ) (nodes : ℕ) (places : List ℕ) (depth : ℕ) (e : Elements)
    (st : Standing lim classes s names sizes shapes nodes places depth e) where
  end_says : (root_of e >>= λ d. Ok (nodes_of d)) ≡ outcome_of (text_end nodes depth) (first_nodes s names sizes shapes nodes)
  unfolding root_of text_end nodes_read nodes_of_root nodes_opened
  end_says = go e.opened refl e.root refl
    where
      Says : Type 0
      Says = (root_of e >>= λ d. Ok (nodes_of d)) ≡ outcome_of (text_end nodes depth) (first_nodes s names sizes shapes nodes)

      go : (l : List Element) → e.opened ≡ l → (o : Option Tree) → e.root ≡ o → Says
      go (inner ∷ outer) q o r =
          let d = st.deep in
          let l = ap length q in
          rw (q, root_of, ne_eqb depth 0 (λ z. omega arith), text_end)
      go [] q nothing r =
          let d = st.deep in
          let l = ap length q in
          let all : nodes_read e ≡ [] = rw (q, r, nodes_read) in
          let none = ap length all in
          let count = st.kept.count in
          let n = st.counted in
          rw (q, r, root_of, eq-eqb depth 0 (omega arith), eq-eqb nodes 0 (omega arith), text_end)
      go [] q (just t) r =
          let d = st.deep in
          let l = ap length q in
          let all : nodes_read e ≡ nodes_of t = rw (q, r, nodes_read) (append-nil (nodes_of t)) in
          let some = ap length all in
          let count = st.kept.count in
          let n = st.counted in
          let h = some_nodes t in
          rw (q, r, root_of, eq-eqb depth 0 (omega arith), ne_eqb nodes 0 (λ z. omega arith), text_end)
          (ap Ok (sym (st.arrays ∙ all)))

pub record TextSoFar (lim : Limits) (classes : Classes) (s : List ℕ) (ix : DocumentIndex) (at : ℕ) (places : List ℕ) (depth : ℕ)
    : Type 0 where
  pub elements : Elements
  pub standing : Standing lim classes s ix.names ix.sizes ix.shapes ix.nodes places depth elements
  pub reached : at ≤ length s
  pub names_room : lim.nodes ≤ length ix.names
  pub sizes_room : lim.nodes ≤ length ix.sizes
  pub shapes_room : lim.nodes ≤ length ix.shapes
  pub within : (i : ℕ) → i < ix.nodes → get_or ix.names i 0 + get_or ix.sizes i 0 ≤ length s
  pub goes_on : text_nodes lim classes no_elements (tags_of s) ≡ text_nodes lim classes elements (tags_of (drop at s))

module _ {lim : Limits} {classes : Classes} (children : lim.children ≡ child_limit) (many : lim.nodes ≤ 2048)
    {s : List ℕ} {ix : DocumentIndex} where
  pub text_begins : (places : List ℕ) → ix.nodes ≡ 0 → lim.nodes ≤ length ix.names → lim.nodes ≤ length ix.sizes → lim.nodes ≤ length ix.shapes
      → TextSoFar lim classes s ix 0 places 0
  text_begins places z p q r =
      record {
        elements = no_elements;
        standing = rw z (stands_none lim classes s ix.names ix.sizes ix.shapes places);
        reached = omega arith;
        names_room = p;
        sizes_room = q;
        shapes_room = r;
        within = λ i h. absurd (omega arith);
        goes_on = refl;
      }

  module _ {at : ℕ} {places : List ℕ} {depth : ℕ} (far : TextSoFar lim classes s ix at places depth) where
    abbrev e : Elements
    e = far.elements

    abbrev st : Standing lim classes s ix.names ix.sizes ix.shapes ix.nodes places depth e
    st = far.standing

    pub few_nodes : ix.nodes ≤ lim.nodes
    few_nodes = let k = st.kept.few in let n = st.counted in omega arith

    pub few_levels : depth ≤ lim.levels
    few_levels = let d = st.deep in let l = kept_levels lim classes e st.kept in omega arith

    pub nodes_indexed : NodesIndexed s ix.names ix.sizes ix.shapes ix.nodes
    nodes_indexed =
        let few = few_nodes in
        record { few = omega arith; within = far.within; counts = λ i h. let small = st.few i h in omega arith }

    -- reading stops with an answer
    pub stopped : length s ≤ lim.input → (answer : Result (Unit {0}) Refusal)
        → text_nodes lim classes no_elements (tags_of s) ≡ outcome_of answer (nodes_in s ix)
        → DocumentReads lim classes XmlText s ix answer
    stopped short answer w = record { outcome = text_tags lim classes s short ∙ w; few = few_nodes; indexed = nodes_indexed }

    pub innermost_held : 0 < depth → InnermostHeld s ix.names ix.sizes (innermost places depth)
    innermost_held h =
        let below = innermost_below lim classes children s ix.names ix.sizes ix.shapes ix.nodes places depth e st h in
        let few = few_nodes in
        record {
          in_names = omega (arith, far.names_room);
          in_sizes = omega (arith, far.sizes_room);
          within = far.within (innermost places depth) below;
        }

    pub innermost_shape : 0 < depth → innermost places depth < length ix.shapes
    innermost_shape h =
        let below = innermost_below lim classes children s ix.names ix.sizes ix.shapes ix.nodes places depth e st h in
        let few = few_nodes in
        omega (arith, far.shapes_room)

    -- reading stops
    pub text_ends : tags_of (drop at s) ≡ no_more
        → text_nodes lim classes no_elements (tags_of s) ≡ outcome_of (text_end ix.nodes depth) (nodes_in s ix)
    unfolding read_tags
    text_ends w =
        far.goes_on ∙ ap (text_nodes lim classes e) w ∙ end_says lim classes s ix.names ix.sizes ix.shapes ix.nodes places depth e st

    pub text_stray : tags_of (drop at s) ≡ not_allowed → text_nodes lim classes no_elements (tags_of s) ≡ Err BadText
    unfolding read_tags
    text_stray w = far.goes_on ∙ ap (text_nodes lim classes e) w

    -- an end tag
    module _ (from to next : ℕ) (says : TagIs s at (End from to next)) where
      abbrev name : Name
      name = slice from to s

      told : (b : Bool) → closes_at s ix.names ix.sizes places depth (take (to - from) (drop from s)) ≡ b
          → closes_at s ix.names ix.sizes places depth name ≡ b
      told b w =
          let order = says.0.order in
          let ends = says.0.ends in
          let within = says.0.within in
          ap (closes_at s ix.names ix.sizes places depth) (slice_taken from to s order (omega arith)) ∙ w

      pub text_unclosed : closes_at s ix.names ix.sizes places depth (take (to - from) (drop from s)) ≡ false
          → text_nodes lim classes no_elements (tags_of s) ≡ Err BadEndTag
      text_unclosed w =
          far.goes_on
          ∙ ap (text_nodes lim classes e) says.1
          ∙ refused_end lim classes e name (tags_of (drop next s))
          (sym (closes_is lim classes children s ix.names ix.sizes ix.shapes ix.nodes places depth e st name) ∙ told false w)

      pub text_closed : closes_at s ix.names ix.sizes places depth (take (to - from) (drop from s)) ≡ true → 0 < depth
          → TextSoFar lim classes s ix next places (depth - 1)
      text_closed w h =
          record {
            elements = closing e;
            standing = stands_closed lim classes children s ix.names ix.sizes ix.shapes ix.nodes places depth e st h;
            reached = says.0.within;
            names_room = far.names_room;
            sizes_room = far.sizes_room;
            shapes_room = far.shapes_room;
            within = far.within;
            goes_on =
                far.goes_on
                ∙ ap (text_nodes lim classes e) says.1
                ∙ goes_closed lim classes e name (tags_of (drop next s))
                (sym (closes_is lim classes children s ix.names ix.sizes ix.shapes ix.nodes places depth e st name) ∙ told true w);
          }

    -- an element
    module _ (from to next : ℕ) (stays : Bool) (says : TagIs s at (ElementHere from to next stays)) where
      abbrev element : Name
      element = slice from to s

      taken : take (to - from) (drop from s) ≡ element
      taken =
          let order = says.0.order in
          let ends = says.0.ends in
          let within = says.0.within in
          sym (slice_taken from to s order (omega arith))

      -- as the code tries it
      module _ (fullness : Bool) (is_full : fullness ≡ full_at ix.shapes places depth ix.nodes) (answer : Result (Unit {0}) Refusal)
          (answered : answer ≡ element_answer lim classes (take (to - from) (drop from s)) ix.nodes depth fullness) where
        tried : (r : Result (Unit {0}) Refusal) → answer ≡ r
            → element_answer lim classes element e.nodes (length e.opened) (full lim e) ≡ r
        tried r w =
            let full_here = is_full ∙ full_is lim classes children s ix.names ix.sizes ix.shapes ix.nodes places depth e st in
            same taken (sym st.counted) (sym st.deep) full_here ∙ sym answered ∙ w
          where
            same : {n m : Name} {i j k l : ℕ} {b c : Bool} → n ≡ m → i ≡ j → k ≡ l → b ≡ c
                → element_answer lim classes m j l c ≡ element_answer lim classes n i k b
            same x y z u = rw (x, y, z, u)

        pub text_refused : (r : Refusal) → answer ≡ Err r → text_nodes lim classes no_elements (tags_of s) ≡ Err r
        text_refused r w =
            far.goes_on
            ∙ ap (text_nodes lim classes e) says.1
            ∙ refused_element lim classes e element (tags_of (drop next s)) r stays
            (answer_is lim classes e element ∙ ap (outcome_for (opening element e)) (tried (Err r) w))

        module _ (w : answer ≡ Ok tt) where
          read : read_element lim classes e element ≡ Ok (opening element e)
          read = answer_is lim classes e element ∙ ap (outcome_for (opening element e)) (tried (Ok tt) w)

          pub allowed : Allowed lim classes e element
          allowed = (element_was lim classes e element (opening element e) read).0

          pub node_room : ix.nodes < lim.nodes
          node_room = let n = st.counted in let r = allowed.room in omega arith

          pub level_room : depth < lim.levels
          level_room = let d = st.deep in let r = allowed.level in omega arith

          pub shape_room : 0 < depth → get_or ix.shapes (innermost places depth) 0 < 256
          shape_room h =
              let few = few_nodes in
              let r =
              child_room lim classes children s ix.names ix.sizes ix.shapes ix.nodes places depth e st (omega (arith, far.shapes_room))
              allowed.not_full h in
              omega arith

          module _ (places_room : depth < length places) where
            abbrev names_more : List ℕ
            names_more = set ix.names ix.nodes from

            abbrev sizes_more : List ℕ
            sizes_more = set ix.sizes ix.nodes (to - from)

            abbrev shapes_more : List ℕ
            shapes_more = set (one_child_more ix.shapes places depth) ix.nodes 0

            abbrev index_more : DocumentIndex
            index_more = record { names = names_more; sizes = sizes_more; shapes = shapes_more; nodes = ix.nodes + 1 }

            abbrev places_more : List ℕ
            places_more = set places depth ix.nodes

            opened : Standing lim classes s names_more sizes_more shapes_more (ix.nodes + 1) places_more (depth + 1) (opening element e)
            opened =
                let room = node_room in
                stands_opened lim classes children s ix.names ix.sizes ix.shapes ix.nodes places depth e st element allowed from to taken
                (omega (arith, far.names_room)) (omega (arith, far.sizes_room)) (omega (arith, far.shapes_room)) places_room

            with_elements : (f : Elements) (d : ℕ) → Standing lim classes s names_more sizes_more shapes_more (ix.nodes + 1) places_more d f
                → text_nodes lim classes e (element_tag stays element then tags_of (drop next s))
                ≡ text_nodes lim classes f (tags_of (drop next s))
                → TextSoFar lim classes s index_more next places_more d
            with_elements f d standing goes =
                let room = node_room in
                let few = few_nodes in
                let order = says.0.order in
                let ends = says.0.ends in
                let inside = says.0.within in
                let long = child_length ix.shapes places depth in
                let long_set = length-set (one_child_more ix.shapes places depth) ix.nodes 0 in
                record {
                  elements = f;
                  standing = standing;
                  reached = inside;
                  names_room = simp length-set far.names_room;
                  sizes_room = simp length-set far.sizes_room;
                  shapes_room = omega (arith, far.shapes_room);
                  within =
                      within_more s ix.names ix.sizes ix.nodes from (to - from) (omega (arith, far.names_room)) (omega (arith, far.sizes_room))
                      (omega arith)
                      far.within;
                  goes_on = far.goes_on ∙ ap (text_nodes lim classes e) says.1 ∙ goes;
                }

            element_more : (b : Bool) → stays ≡ b → TextSoFar lim classes s index_more next places_more (depth + from_bool b)
            element_more false q =
                let same : depth + 1 - 1 ≡ depth + 0 = omega arith in
                with_elements (closing (opening element e)) (depth + 0)
                (subst
                (λ (d : ℕ). Standing lim classes s names_more sizes_more shapes_more (ix.nodes + 1) places_more d (closing (opening element e)))
                same
                (stands_closed lim classes children s names_more sizes_more shapes_more (ix.nodes + 1) places_more (depth + 1)
                (opening element e) opened (omega arith)))
                (ap (λ (b : Bool). text_nodes lim classes e (element_tag b element then tags_of (drop next s))) q
                ∙ goes_empty lim classes e element (tags_of (drop next s)) read)
            element_more true q =
                with_elements (opening element e) (depth + 1) opened
                (ap (λ (b : Bool). text_nodes lim classes e (element_tag b element then tags_of (drop next s))) q
                ∙ goes_start lim classes e element (tags_of (drop next s)) read)

            -- as it is stored
            pub text_element : {ix' : DocumentIndex} {counted : List ℕ} → counted ≡ one_child_more ix.shapes places depth
                → ix' ≡ with_node_at (record { names = ix.names; sizes = ix.sizes; shapes = counted; nodes = ix.nodes }) from to 0
                → TextSoFar lim classes s ix' next places_more (depth + from_bool stays)
            text_element c p = rw (p, c) (element_more stays refl)
