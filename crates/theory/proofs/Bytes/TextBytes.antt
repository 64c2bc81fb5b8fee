-- A tree within the limits, without text marks, is read back from its text:
--   text_read_back : Loads classes → TreeWithin lim classes d → no node of d holds text → length (text_bytes d) ≤ lim.input
--       → read_text lim classes (text_bytes d) ≡ given d
use Prim.Native.Nat.{ℕ, suc, ◌+◌, ◌≤◌}
use native.Mathlib.Omega.{arith}
use mathlib.Core.Bool.{Bool, true, false, not, ◌||◌}
use mathlib.Core.List.Memᴰ
use mathlib.Core.List.{
  List,
  [],
  ◌∷◌,
  ◌++◌,
  append_assoc,
  append-nil,
  Memᴰ,
}
use mathlib.Core.Option.{Option, some as just}
use mathlib.Core.Logic.{⊎_elim}
use mathlib.Core.Path.{◌≡◌, refl, sym, ◌∙◌, ap, ap₂, subst}
use lib.ListN.{length, length-append}
use lib.Dec.{eqb, ltb}
use borrow.Author.Tests.{eqb-true, lt-leb, le-ltb}
use Rattle.grammar.specs.Lists.{is_in, same_numbers}
use Rattle.grammar.specs.Limits.{Limits}
use Rattle.grammar.specs.Names.{Name, Classes, is_name, never_in_names, Loads}
use Rattle.grammar.specs.Tree.{Tree, node, Forest, []ᵗ, ◌∷ᵗ◌, trees, depth, depth_of}
use Rattle.std.specs.Prelude.{Result, Ok}
use Rattle.grammar.specs.declared.Refusal.{Refusal}
use Rattle.grammar.specs.declared.Refusal.TheVariants.{InputTooLong, BadEndTag}
use Rattle.grammar.specs.WriteDocument.{nodes_of, nodes_of_all}
use Rattle.grammar.specs.WithinLimits.{TreeWithin}
use Rattle.grammar.specs.WriteText.{start_tag_bytes, end_tag_bytes, text_bytes, text_bytes_of}
use Rattle.grammar.specs.ReadText.{
  less_than,
  slash,
  greater_than,
  is_white,
  ends_name,
  past_white,
  name_front,
  past_name,
  Tag,
  start_tag,
  end_tag,
  Element,
  Elements,
  followed_by,
  opening,
  closing,
  full,
  names_innermost,
  read_tag,
  root_of,
  ended_by,
  element_end,
  front_tag,
  tags_of,
  no_elements,
  read_text,
  read_tags,
}
use Rattle.theory.proofs.Lists.BoolLaws.{or_cases, or_false, false_of}
use Rattle.theory.proofs.Lists.ListLaws.{Each, same_numbers_refl}
use Rattle.theory.proofs.Bytes.OutcomeLaws.{given_then, no_fault}
use Rattle.theory.proofs.Bytes.TextTags.{tags_end, tags_next}
use Rattle.theory.proofs.Bytes.TextWithin.{Plain, Good, element_read}
use Rattle.theory.proofs.Bytes.TextElements.{followed_trees}
use Rattle.theory.proofs.Bytes.ReadSteps.{name_has_bytes}
use Rattle.theory.proofs.Bytes.ClassLaws.{never_named}

-- no byte of a name ends it
abbrev NoEnd : Name → Type 0
NoEnd name = (b : ℕ) → Memᴰ b name → ends_name b ≡ false

-- a byte that ends a name is in none
never_as : (b k : ℕ) → is_in k never_in_names ≡ true → eqb b k ≡ true → is_in b never_in_names ≡ true
never_as b k among q = subst (λ (x : ℕ). is_in x never_in_names ≡ true) (sym (eqb-true b k q)) among

never_white : (b : ℕ) → is_white b ≡ true → is_in b never_in_names ≡ true
unfolding is_white is_in never_in_names
never_white b e =
    ⊎_elim
    (λ p.
    ⊎_elim
    (λ q. ⊎_elim (never_as b 0x20 refl) (never_as b 0x09 refl) (or_cases (eqb b 0x20) (eqb b 0x09) q))
    (never_as b 0x0D refl)
    (or_cases _ (eqb b 0x0D) p))
    (never_as b 0x0A refl)
    (or_cases _ (eqb b 0x0A) e)

never_ends : (b : ℕ) → ends_name b ≡ true → is_in b never_in_names ≡ true
unfolding ends_name is_in never_in_names
never_ends b e =
    ⊎_elim
    (λ p. ⊎_elim (never_white b) (never_as b slash refl) (or_cases (is_white b) (eqb b slash) p))
    (never_as b greater_than refl)
    (or_cases (is_white b || eqb b slash) (eqb b greater_than) e)

name_no_end : (classes : Classes) → Loads classes → (name : Name) → is_name classes name ≡ true → NoEnd name
name_no_end classes l name e b m = false_of (ends_name b) (λ t. never_named classes l name e b (never_ends b t) m)

module _ (rest : List ℕ) where
  name_front_lem : (name : Name) → NoEnd name → name_front (name ++ (greater_than ∷ rest)) ≡ name
  unfolding name_front ends_name
  name_front_lem [] h = refl
  name_front_lem (b ∷ bs) h =
      rw (h b (Memᴰ.head refl), name_front) (ap (λ (l : List ℕ). b ∷ l) (name_front_lem bs (λ c m. h c (Memᴰ.tail m))))

  past_name_lem : (name : Name) → NoEnd name → past_name (name ++ (greater_than ∷ rest)) ≡ greater_than ∷ rest
  unfolding past_name ends_name
  past_name_lem [] h = refl
  past_name_lem (b ∷ bs) h = rw (h b (Memᴰ.head refl), past_name) (past_name_lem bs (λ c m. h c (Memᴰ.tail m)))

  -- the tags as they are written
  end_tag_lem : (name : Name) → NoEnd name → front_tag (slash ∷ name ++ (greater_than ∷ rest)) ≡ just (end_tag name, rest)
  unfolding front_tag past_white is_white ended_by
  end_tag_lem name h = rw (name_front_lem name h, past_name_lem name h, front_tag)

  start_tag_lem : (name : Name) → NoEnd name → 1 ≤ length name → front_tag (name ++ (greater_than ∷ rest)) ≡ just (start_tag name, rest)
  unfolding front_tag past_white is_white ended_by element_end ends_name
  start_tag_lem [] h z = absurd (omega arith)
  start_tag_lem (b ∷ bs) h z =
      let ends = or_false (is_white b || eqb b slash) (eqb b greater_than) (h b (Memᴰ.head refl)) in
      let no_slash = (or_false (is_white b) (eqb b slash) ends.0).1 in
      rw (no_slash, name_front_lem (b ∷ bs) h, past_name_lem (b ∷ bs) h, front_tag)

module _ (lim : Limits) (classes : Classes) (loaded : Loads classes) where
  -- the rest of a text, as bytes
  abbrev read_on : Elements → List ℕ → Result Tree Refusal
  read_on e bytes = read_tags lim classes e (tags_of bytes)

  -- a tag that is written, at the front of a text
  next_tag : (inside rest : List ℕ) (tag : Tag) (e more : Elements) → front_tag inside ≡ just (tag, rest)
      → read_tag lim classes e tag ≡ Ok more
      → read_on e (less_than ∷ inside) ≡ read_on more rest
  unfolding read_tags past_white is_white
  next_tag inside rest tag e more q r =
      ap (read_tags lim classes e) (tags_next (less_than ∷ inside) inside refl tag rest q)
      ∙ given_then (read_tag lim classes e tag) more (λ x. read_tags lim classes x (tags_of rest)) r

  -- an open element with so much complete below it, inside others
  abbrev inside : Name → Forest → List Element → Option Tree → ℕ → Elements
  inside name below outer root nodes = record { opened = record { name = name; below = below } ∷ outer; root = root; nodes = nodes }

  -- when a tree is read
  abbrev with_tree : Tree → Elements → Elements
  with_tree (node h ts) e = closing (inside h.name ts e.opened e.root (e.nodes + length (nodes_of (node h ts))))

  -- trees are read one after the other
  abbrev beside : Forest → Forest → Forest
  beside us []ᵗ = us
  beside us (t ∷ᵗ ts) = beside (followed_by us t) ts

  beside_next : (u : Tree) (us ts : Forest) → beside (u ∷ᵗ us) ts ≡ u ∷ᵗ beside us ts
  unfolding followed_by
  beside_next u us []ᵗ = refl
  beside_next u us (t ∷ᵗ ts) = beside_next u (followed_by us t) ts

  beside_none : (ts : Forest) → beside []ᵗ ts ≡ ts
  unfolding followed_by
  beside_none []ᵗ = refl
  beside_none (t ∷ᵗ ts) = beside_next t []ᵗ ts ∙ ap (λ (us : Forest). t ∷ᵗ us) (beside_none ts)

  tree_below : (t : Tree) (name : Name) (us : Forest) (outer : List Element) (root : Option Tree) (n : ℕ) → Each Plain (nodes_of t)
      → with_tree t (inside name us outer root n) ≡ inside name (followed_by us t) outer root (n + length (nodes_of t))
  unfolding closing nodes_of
  tree_below (node h ts) name us outer root n plain =
      ap
      (λ (text : Bool).
      inside name (followed_by us (node (record { name = h.name; text = text }) ts)) outer root (n + length (nodes_of (node h ts))))
      (sym (plain _ (Memᴰ.head refl)))

  closes : (name : Name) (us : Forest) (outer : List Element) (root : Option Tree) (n : ℕ)
      → read_tag lim classes (inside name us outer root n) (end_tag name) ≡ Ok (closing (inside name us outer root n))
  unfolding read_tag names_innermost
  closes name us outer root n = no_fault (not (same_numbers name name)) BadEndTag _ (ap not (same_numbers_refl name))

  mutual
    unfolding text_bytes text_bytes_of start_tag_bytes end_tag_bytes nodes_of nodes_of_all depth depth_of trees read_tag opening full

    tree_read : (t : Tree) (e : Elements) → Each (Good lim classes) (nodes_of t) → full lim e ≡ false
        → e.nodes + length (nodes_of t) ≤ lim.nodes → length e.opened + depth t ≤ lim.levels → (rest : List ℕ)
        → read_on e (text_bytes t ++ rest) ≡ read_on (with_tree t e) rest
    tree_read (node h ts) e each room few shallow rest =
        let name = h.name in
        let here = (each _ (Memᴰ.head refl)).0 in
        let good = here.name in
        let few_children = here.children in
        let no_end = name_no_end classes loaded name good.rule in
        let below = text_bytes_of ts in
        let last = end_tag_bytes name ++ rest in
        let counted : suc e.nodes + length (nodes_of_all ts) ≡ e.nodes + suc (length (nodes_of_all ts)) = omega arith in
        ap (read_on e)
        (append_assoc (start_tag_bytes name ++ below) (end_tag_bytes name) rest
        ∙ append_assoc (start_tag_bytes name) below last
        ∙ ap (λ (bs : List ℕ). less_than ∷ bs) (append_assoc name (greater_than ∷ []) (below ++ last)))
        ∙ next_tag (name ++ (greater_than ∷ below ++ last)) (below ++ last) (start_tag name) e (opening name e)
        (start_tag_lem (below ++ last) name no_end (name_has_bytes classes name good.rule))
        (element_read lim classes e name (record { name_within = good; room = omega arith; level = omega arith; not_full = room }))
        ∙ forest_read ts name []ᵗ e.opened e.root (suc e.nodes) (λ n m. each n (Memᴰ.tail m)) (omega arith) (omega arith)
        (omega arith)
        last
        ∙ ap
        (λ (bs : List ℕ).
        read_on (inside name (beside []ᵗ ts) e.opened e.root (suc e.nodes + length (nodes_of_all ts))) (less_than ∷ slash ∷ bs))
        (append_assoc name (greater_than ∷ []) rest)
        ∙ next_tag (slash ∷ name ++ (greater_than ∷ rest)) rest (end_tag name) _ _ (end_tag_lem rest name no_end)
        (closes name (beside []ᵗ ts) e.opened e.root (suc e.nodes + length (nodes_of_all ts)))
        ∙ ap₂ (λ (us : Forest) (n : ℕ). read_on (closing (inside name us e.opened e.root n)) rest) (beside_none ts) counted

    forest_read : (ts : Forest) (name : Name) (us : Forest) (outer : List Element) (root : Option Tree) (n : ℕ)
        → Each (Good lim classes) (nodes_of_all ts) → trees us + trees ts ≤ lim.children → n + length (nodes_of_all ts) ≤ lim.nodes
        → suc (length outer) + depth_of ts ≤ lim.levels → (rest : List ℕ)
        → read_on (inside name us outer root n) (text_bytes_of ts ++ rest)
        ≡ read_on (inside name (beside us ts) outer root (n + length (nodes_of_all ts))) rest
    forest_read []ᵗ name us outer root n each few_children few shallow rest =
        let z : n ≡ n + 0 = omega arith in
        ap (λ (k : ℕ). read_on (inside name us outer root k) rest) z
    forest_read (t ∷ᵗ ts) name us outer root n each few_children few shallow rest =
        let l = length-append (nodes_of t) (nodes_of_all ts) in
        let more = followed_trees us t in
        let counted : n + length (nodes_of t) + length (nodes_of_all ts) ≡ n + length (nodes_of t ++ nodes_of_all ts) = omega arith in
        let e = inside name us outer root n in
        ap (read_on e) (append_assoc (text_bytes t) (text_bytes_of ts) rest)
        ∙ tree_read t e (λ m p. each m (Memᴰ.append_left (nodes_of_all ts) p)) (lt-leb lim.children (trees us) (omega arith)) (omega arith)
        (omega arith)
        (text_bytes_of ts ++ rest)
        ∙ ap (λ (x : Elements). read_on x (text_bytes_of ts ++ rest))
        (tree_below t name us outer root n (λ m p. (each m (Memᴰ.append_left (nodes_of_all ts) p)).1))
        ∙ forest_read ts name (followed_by us t) outer root (n + length (nodes_of t)) (λ m p. each m (Memᴰ.append_right (nodes_of t) p))
        (omega arith)
        (omega arith)
        (omega arith)
        rest
        ∙ ap (λ (k : ℕ). read_on (inside name (beside (followed_by us t) ts) outer root k) rest) counted

  -- the text ends behind the root
  root_ends : (d : Tree) → Each Plain (nodes_of d) → read_on (with_tree d no_elements) [] ≡ Ok d
  unfolding read_tags root_of closing nodes_of past_white
  root_ends (node h ts) plain =
      ap (read_tags lim classes (with_tree (node h ts) no_elements)) (tags_end [] refl)
      ∙ ap (λ (text : Bool). Ok (node (record { name = h.name; text = text }) ts)) (sym (plain _ (Memᴰ.head refl)))

  pub text_read_back : (d : Tree) → TreeWithin lim classes d → Each Plain (nodes_of d) → length (text_bytes d) ≤ lim.input
      → read_text lim classes (text_bytes d) ≡ Ok d
  unfolding read_text full
  text_read_back d within plain size =
      let few = within.nodes in
      let shallow = within.levels in
      no_fault (ltb lim.input (length (text_bytes d))) InputTooLong _ (le-ltb lim.input (length (text_bytes d)) size)
      ∙ ap (read_on no_elements) (sym (append-nil (text_bytes d)))
      ∙ tree_read d no_elements (λ n m. (within.each_node n m, plain n m)) refl (omega arith) (omega arith) []
      ∙ root_ends d plain
