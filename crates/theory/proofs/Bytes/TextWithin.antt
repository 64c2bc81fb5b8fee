-- A tree that is read from a text is within the limits of trees, and has no text marks.
--     text_kept      read_text lim classes bytes ≡ given d → TreeKept d: TreeWithin lim classes d, and no node of d holds text
-- `Kept` is what holds of all that is read, tag by tag (`tag_kept`).
use Prim.Native.Nat.{ℕ, suc, ◌+◌, ◌≤◌, ◌<◌}
use native.Mathlib.Omega.{arith}
use mathlib.Core.Bool.{Bool, true, false, not, ◌&&◌, ◌||◌, true≢false}
use mathlib.Core.List.Memᴰ
use mathlib.Core.List.{List, [], ◌∷◌, ◌++◌, append-nil}
use mathlib.Core.Option.{Option, none as nothing, some as just}
use mathlib.Core.Path.{◌≡◌, refl, sym, ◌∙◌, ap, subst}
use lib.ListN.{length, length-append}
use lib.Dec.{leb, ltb}
use borrow.Author.Tests.{leb-true, leb-false, le-leb, lt-leb, not-false}
use Rattle.grammar.specs.Limits.{Limits}
use Rattle.grammar.specs.Names.{Name, Classes, is_name}
use Rattle.grammar.specs.Tree.{Tree, trees, depth, depth_of}
use Rattle.std.specs.Prelude.{Ok}
use Rattle.grammar.specs.declared.Refusal.TheVariants.{InputTooLong, BadName, BadTree, BadEndTag}
use Rattle.grammar.specs.ReadDocument.{Node}
use Rattle.grammar.specs.WriteDocument.{nodes_of, nodes_of_all}
use Rattle.grammar.specs.WithinLimits.{NameWithin, NodeWithin, TreeWithin}
use Rattle.grammar.specs.ReadText.{
  Tag,
  start_tag,
  empty_tag,
  end_tag,
  Tags,
  no_more,
  not_allowed,
  ◌then◌,
  tags_of,
  Element,
  Elements,
  no_elements,
  tree_for,
  opening,
  closing,
  full,
  bad_element,
  read_element,
  names_innermost,
  read_tag,
  root_of,
  read_tags,
  read_text,
}
use Rattle.theory.proofs.Lists.BoolLaws.{and_left, and_right, and_intro, or_false, or_none}
use Rattle.theory.proofs.Lists.ListLaws.{Each, each_none, each_cons, each_append, each_end}
use Rattle.theory.proofs.Bytes.OutcomeLaws.{no_fault, was_given, had_no_fault, given_eq}
use Rattle.theory.proofs.Bytes.TextElements.{
  element_node,
  nodes_opened,
  nodes_of_root,
  NoRoot,
  nodes_read,
  followed_depth,
  opened_count,
  closing_nodes,
  closing_nothing,
  closing_root,
  closing_around,
  opening_nodes,
}

-- the node is there, and holds no text
abbrev pub Plain : Node → Type 0
Plain n = n.head.text ≡ false

module _ (lim : Limits) (classes : Classes) where
  -- each open element and the trees below it, outermost at level 1, reach no deeper than the limit
  abbrev Shallow : List Element → Type 0
  Shallow [] = Unit {0}
  Shallow (e ∷ outer) = (suc (length outer) + depth_of e.below ≤ lim.levels) × Shallow outer

  abbrev ShallowRoot : Option Tree → Type 0
  ShallowRoot nothing = Unit {0}
  ShallowRoot (just t) = depth t ≤ lim.levels

  abbrev pub Good : Node → Type 0
  Good n = NodeWithin lim classes n × Plain n

  pub record Kept (e : Elements) : Type 0 where
    pub count : length (nodes_read e) ≡ e.nodes
    pub few : e.nodes ≤ lim.nodes
    pub each : Each Good (nodes_read e)
    pub levels : Shallow e.opened
    pub root_levels : ShallowRoot e.root
    pub no_root : NoRoot e.root e.opened

  pub kept_none : Kept no_elements
  unfolding nodes_read nodes_of_root nodes_opened
  kept_none =
      record { count = refl; few = omega arith; each = each_none Good; levels = tt; root_levels = tt; no_root = tt }

  -- no more elements are open than there are levels
  pub kept_levels : (e : Elements) → Kept e → length e.opened ≤ lim.levels
  kept_levels e k = go e.opened k.levels
    where
      go : (l : List Element) → Shallow l → length l ≤ lim.levels
      go [] h = omega arith
      go (inner ∷ outer) h = let d = h.0 in omega arith

  -- an element that may stand here
  pub record Allowed (e : Elements) (name : Name) : Type 0 where
    pub name_within : NameWithin lim classes name
    pub room : e.nodes < lim.nodes
    pub level : length e.opened < lim.levels
    pub not_full : full lim e ≡ false

  pub element_was : (e : Elements) (name : Name) (more : Elements) → read_element lim classes e name ≡ Ok more
      → Allowed e name × (opening name e ≡ more)
  unfolding read_element bad_element
  element_was e name more w =
      let fits = is_name classes name && leb (length name) lim.name in
      let a = had_no_fault (not fits) BadName _ more w in
      let b = had_no_fault (bad_element lim e) BadTree _ more a.1 in
      let named = not-false fits a.0 in
      let many = leb lim.nodes e.nodes in
      let deep = leb lim.levels (length e.opened) in
      let placed = or_false (many || deep) (full lim e) b.0 in
      let counted = or_false many deep placed.0 in (
        record {
          name_within =
              record {
                rule = and_left (is_name classes name) (leb (length name) lim.name) named;
                size = leb-true (length name) lim.name (and_right (is_name classes name) (leb (length name) lim.name) named);
              };
          room = leb-false lim.nodes e.nodes counted.0;
          level = leb-false lim.levels (length e.opened) counted.1;
          not_full = placed.1;
        },
        given_eq b.1,
      )

  pub element_read : (e : Elements) (name : Name) → Allowed e name → read_element lim classes e name ≡ Ok (opening name e)
  unfolding read_element bad_element
  element_read e name a =
      let fits = is_name classes name && leb (length name) lim.name in
      let many = leb lim.nodes e.nodes in
      let deep = leb lim.levels (length e.opened) in
      let named = and_intro (is_name classes name) _ a.name_within.rule (le-leb (length name) lim.name a.name_within.size) in
      let counted = or_none many deep (lt-leb lim.nodes e.nodes a.room) (lt-leb lim.levels (length e.opened) a.level) in
      no_fault (not fits) BadName _ (ap not named)
      ∙ no_fault (bad_element lim e) BadTree _ (or_none (many || deep) (full lim e) counted a.not_full)

  -- the innermost element has room for a child
  abbrev RoomIn : List Element → Type 0
  RoomIn [] = Unit {0}
  RoomIn (inner ∷ outer) = trees inner.below < lim.children

  pub room_in : (e : Elements) (l : List Element) → e.opened ≡ l → full lim e ≡ false → RoomIn l
  unfolding full
  room_in e [] q w = tt
  room_in e (inner ∷ outer) q w = leb-false lim.children (trees inner.below) (rw (q, full) at w)

  -- and the root is not complete
  pub no_root_yet : (e : Elements) → NoRoot e.root e.opened → full lim e ≡ false → e.root ≡ nothing
  unfolding full
  no_root_yet e alone w = go e.opened refl alone
    where
      at_root : (o : Option Tree) → elim o as (λ (x : Option Tree). Bool) [ nothing ↦ false | just t ↦ true ] ≡ false → o ≡ nothing
      at_root nothing q = refl
      at_root (just t) q = absurd (true≢false q)

      go : (l : List Element) → e.opened ≡ l → NoRoot e.root l → e.root ≡ nothing
      go [] q a = at_root e.root (rw (q, full) at w)
      go (inner ∷ outer) q a = a

  one_more : (l : List Element) → RoomIn l → Each Good (nodes_opened 0 l) → Each Good (nodes_opened 1 l)
  unfolding nodes_opened
  one_more [] room each = each
  one_more (inner ∷ outer) room each =
      let outers = nodes_opened 1 outer in
      let below = nodes_of_all inner.below in
      let was = element_node inner.name (trees inner.below + 0) in
      let now = element_node inner.name (trees inner.below + 1) in
      let old = each was (Memᴰ.append_right outers (Memᴰ.head refl)) in
      each_append Good outers (now ∷ below) (λ n m. each n (Memᴰ.append_left (was ∷ below) m))
      (each_cons Good now below (record { name = old.0.name; children = omega arith }, refl)
      (λ n m. each n (Memᴰ.append_right outers (Memᴰ.tail m))))

  pub kept_opening : (e : Elements) (name : Name) → Allowed e name → Kept e → Kept (opening name e)
  unfolding opening nodes_read depth_of
  kept_opening e name allowed k =
      let root = nodes_of_root e.root in
      let l = length-append root (nodes_opened 0 e.opened) in
      let same = opened_count e.opened 1 0 in
      let n = length-append root (nodes_opened 1 e.opened ++ (element_node name 0 ∷ [])) in
      let m = length-append (nodes_opened 1 e.opened) (element_node name 0 ∷ []) in
      let old = k.count in
      let new = ap length (opening_nodes name e) in
      let room = allowed.room in
      let level = allowed.level in
      let here : NodeWithin lim classes (element_node name 0) = record { name = allowed.name_within; children = omega arith } in
      record {
        count = omega arith;
        few = omega arith;
        each =
            subst (Each Good) (sym (opening_nodes name e))
            (each_append Good root _ (λ x p. k.each x (Memᴰ.append_left (nodes_opened 0 e.opened) p))
            (each_end Good (nodes_opened 1 e.opened) (element_node name 0)
            (one_more e.opened (room_in e e.opened refl allowed.not_full) (λ x p. k.each x (Memᴰ.append_right root p)))
            (here, refl)));
        levels = (omega arith, k.levels);
        root_levels = k.root_levels;
        no_root = no_root_yet e k.no_root allowed.not_full;
      }

  pub kept_closing : (e : Elements) → Kept e → Kept (closing e)
  unfolding depth
  kept_closing e k = go e.opened refl k.levels k.no_root
    where
      -- the nodes stay
      with_nodes : (f : Elements) → closing e ≡ f → f.nodes ≡ e.nodes → Shallow f.opened → ShallowRoot f.root
          → NoRoot f.root f.opened → Kept (closing e)
      with_nodes f q n s r a =
          let same : nodes_read f ≡ nodes_read e = ap nodes_read (sym q) ∙ closing_nodes e k.no_root in
          let l = ap length same in
          let old = k.count in
          let few = k.few in
          subst Kept (sym q)
          (record {
            count = omega arith;
            few = omega arith;
            each = subst (Each Good) (sym same) k.each;
            levels = s;
            root_levels = r;
            no_root = a;
          })

      go : (l : List Element) → e.opened ≡ l → Shallow l → NoRoot e.root l → Kept (closing e)
      go [] q s a = subst Kept (sym (closing_nothing e q)) k
      go (inner ∷ []) q s a = with_nodes _ (closing_root e inner q) refl tt (let d = s.0 in omega arith) tt
      go (inner ∷ around ∷ outer) q s a =
          let d = s.0 in
          let o = s.1.0 in
          with_nodes _ (closing_around e inner around outer q) refl
          (followed_depth around.below (tree_for inner) (suc (length outer)) lim.levels (omega arith) (omega arith), s.1.1)
          k.root_levels
          a

  tag_kept : (e : Elements) (tag : Tag) (more : Elements) → read_tag lim classes e tag ≡ Ok more → Kept e → Kept more
  unfolding read_tag
  tag_kept e (start_tag name) more w k =
      let (allowed, q) = element_was e name more w in
      subst Kept q (kept_opening e name allowed k)
  tag_kept e (empty_tag name) more w k =
      let (inside, p, q) = was_given (read_element lim classes e name) (λ x. Ok (closing x)) more w in
      let (allowed, r) = element_was e name inside p in
      subst Kept (given_eq q) (kept_closing inside (subst Kept r (kept_opening e name allowed k)))
  tag_kept e (end_tag name) more w k =
      subst Kept (given_eq (had_no_fault (not (names_innermost name e)) BadEndTag (Ok (closing e)) more w).1) (kept_closing e k)

  -- what is read in the end
  pub record TreeKept (d : Tree) : Type 0 where
    pub within : TreeWithin lim classes d
    pub plain : Each Plain (nodes_of d)

  root_kept : (e : Elements) (d : Tree) → root_of e ≡ Ok d → Kept e → TreeKept d
  unfolding root_of nodes_read nodes_of_root nodes_opened
  root_kept e d w k = go e.opened refl e.root refl
    where
      go : (l : List Element) → e.opened ≡ l → (o : Option Tree) → e.root ≡ o → TreeKept d
      go (inner ∷ outer) q o r = let x = rw (q, root_of) at w in let z : ◌≡◌ {A = ℕ} 0 1 = cc in absurd (omega arith)
      go [] q nothing r = let x = rw (q, r, root_of) at w in let z : ◌≡◌ {A = ℕ} 0 1 = cc in absurd (omega arith)
      go [] q (just t) r =
          let same : t ≡ d = given_eq (rw (q, r, root_of) at w) in
          let nodes : nodes_read e ≡ nodes_of t = rw (q, r, nodes_read) (append-nil (nodes_of t)) in
          let each = subst (Each Good) nodes k.each in
          let count = ap length nodes in
          let old = k.count in
          let few = k.few in
          subst TreeKept same
          (record {
            within =
                record {
                  each_node = λ n m. (each n m).0;
                  nodes = omega arith;
                  levels = subst ShallowRoot r k.root_levels;
                };
            plain = λ n m. (each n m).1;
          })

  tags_kept : (ts : Tags) (e : Elements) (d : Tree) → read_tags lim classes e ts ≡ Ok d → Kept e → TreeKept d
  unfolding read_tags
  tags_kept no_more e d w k = root_kept e d w k
  tags_kept not_allowed e d w k = let z : ◌≡◌ {A = ℕ} 0 1 = cc in absurd (omega arith)
  tags_kept (tag then ts) e d w k =
      let (more, p, q) = was_given (read_tag lim classes e tag) (λ x. read_tags lim classes x ts) d w in
      tags_kept ts more d q (tag_kept e tag more p k)

  pub text_kept : (bytes : List ℕ) (d : Tree) → read_text lim classes bytes ≡ Ok d → TreeKept d
  unfolding read_text
  text_kept bytes d w =
      tags_kept (tags_of bytes) no_elements d (had_no_fault (ltb lim.input (length bytes)) InputTooLong _ d w).1 kept_none
