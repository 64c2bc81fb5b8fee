-- What the rules of a document's sample say, in terms of the document's visits:
--     visit_fits         the type of a visit's path fits the visit's name, its text and its children's types
--     content_type       a type that stands in the content at a path is that of a child of a visit there
--     path_types         visited paths have one type iff they are equal
--     child_visited      each child's path is visited
--     sample_root        the root's path has type 0, the only start
--     sample_names       no two labels of the sample have equal names
--     sample_labelled    each rule's label is among the labels
use Prim.Native.Nat.{ℕ, zero, ◌<◌}
use mathlib.Core.Bool.{Bool, true}
use mathlib.Core.List.Memᴰ
use mathlib.Core.List.{
  List,
  [],
  ◌∷◌,
  ◌++◌,
  map,
  Memᴰ,
}
use mathlib.Core.Logic.{◌↔◌}
use mathlib.Core.Path.{◌≡◌, refl, sym, ap, subst}
use lib.ListN.{length}
use Rattle.grammar.specs.Lists.{any_pass, keep, distinct, place}
use Rattle.grammar.specs.Names.{Name, same_name, SameName}
use Rattle.grammar.specs.Content.{Content, Word, choice_of, types_in}
use Rattle.grammar.specs.ReadContent.{same_content}
use Rattle.grammar.specs.Tree.{Tree, node}
use Rattle.grammar.specs.Table.{Rule, Named, DistinctNames}
use Rattle.grammar.specs.Derivation.{Fits}
use Rattle.grammar.specs.Sample.{
  Visit,
  visits,
  same_path,
  paths_of,
  names_of,
  sequence_of,
  child_sequence,
  visits_at,
  content_at,
  text_at,
  rule_at,
  sample,
}
use Rattle.theory.specs.SamplePaths.{path_type}
use Rattle.theory.specs.Conditions.{Labelled}
use Rattle.theory.proofs.Lists.ListLaws.{any_of, kept, keep_mem, distinct_was, distinct_has, at_below, distinct_mem}
use Rattle.theory.proofs.Lists.PlaceLaws.{place_found, place_same, same_place}
use Rattle.theory.proofs.Trees.NameLaws.{name_refl, name_sym, name_trans}
use Rattle.theory.proofs.Trees.PathLaws.{SamePath, path_refl, path_sym, path_trans, path_parts}
use Rattle.theory.proofs.Contents.WordLaws.{choice_words}
use Rattle.theory.proofs.Sample.SampleRuns.{sequence_word, sequence_type}
use Rattle.theory.proofs.Trees.VisitedTrees.{
  root_named,
  visit_of,
  stands_visit,
  visit_stands,
  stands_child,
  Ends,
  stands_ends,
}
use Rattle.theory.proofs.Lists.NoTwo.{no_two_distinct}
use Rattle.theory.proofs.Contents.ContentBytes.{same_content_lem}
use Rattle.theory.proofs.Trees.TreeParts.{root_name, children_of}
use Rattle.theory.proofs.Contents.Standing.{StandsIn, choice_type}
use Rattle.theory.proofs.Tables.NamedLabels.{same_named}

-- a path of a visit ends with the visit's name
pub path_ends : (d : Tree) (above : List Name) (v : Visit) → Memᴰ v (visits d above) → Ends v.path v.name
path_ends d above v m =
    let o = visit_stands d above v m in
    subst (λ (n : Name). Ends v.path n) (ap (λ (u : Visit). u.name) (sym o.visits))
    (stands_ends d above v.path o.tree o.stands)

-- equal paths end with equal names
pub ends_agree : {p q : List Name} {m n : Name} → Ends p m → Ends q n → SamePath p q → SameName m n
ends_agree {p} {q} {m} {n} a b e =
    (path_parts a.above b.above m n
    (subst (λ (z : List Name). SamePath (a.above ++ (m ∷ [])) z) b.ends
    (subst (λ (z : List Name). SamePath z q) a.ends e))
    ).1

module _ (d : Tree) where
  abbrev pub seen : List Visit
  seen = visits d []

  -- the types of a visit's children
  abbrev pub child_types : Visit → List ℕ
  child_types v = map (λ n. path_type d (v.path ++ (n ∷ []))) v.children

  pub path_found : (v : Visit) → Memᴰ v seen → any_pass (same_path v.path) (paths_of seen) ≡ true
  unfolding paths_of
  path_found v m =
      let (p, n, e) = distinct_has same_path path_refl path_trans (Memᴰ.map (λ (v : Visit). v.path) m) in
      any_of (same_path v.path) n (path_sym p v.path e)

  name_found : (v : Visit) → Memᴰ v seen → any_pass (same_name v.name) (names_of seen) ≡ true
  unfolding names_of
  name_found v m =
      let (p, n, e) = distinct_has same_name name_refl name_trans (Memᴰ.map (λ (v : Visit). v.name) m) in
      any_of (same_name v.name) n (name_sym p v.name e)

  -- equal paths have one type, and visited paths of one type are equal
  pub path_type_lem : (p q : List Name) → SamePath p q → path_type d p ≡ path_type d q
  path_type_lem p q e = place_same same_path path_sym path_trans p q e (paths_of seen)

  pub path_types : (u v : Visit) → Memᴰ u seen → Memᴰ v seen
      → (path_type d u.path ≡ path_type d v.path) ↔ SamePath u.path v.path
  path_types u v m n = (
    same_place same_path path_sym path_trans u.path v.path (paths_of seen) (path_found u m) (path_found v n),
    path_type_lem u.path v.path,
  )

  -- each child's path is visited
  pub record VisitAt (p : List Name) : Type 0 where
    pub visit : Visit
    pub visited : Memᴰ visit seen
    pub at_path : visit.path ≡ p

  pub child_visited : (v : Visit) → Memᴰ v seen → (n : Name) → Memᴰ n v.children → VisitAt (v.path ++ (n ∷ []))
  child_visited v m n c =
      let o = visit_stands d [] v m in
      let (t, a, e) =
      root_named (children_of o.tree)
      (subst (λ (ns : List Name). Memᴰ n ns) (ap (λ (u : Visit). u.children) o.visits) c) in
      record {
        visit = visit_of (v.path ++ (root_name t ∷ [])) t;
        visited = stands_visit d [] (v.path ++ (root_name t ∷ [])) t (stands_child d [] v.path o.tree t o.stands a);
        at_path = ap (λ (k : Name). v.path ++ (k ∷ [])) e;
      }

  -- a visit at the path whose children's types make the sequence
  pub record SequenceAt (p : List Name) (c : Content) : Type 0 where
    pub visit : Visit
    pub visited : Memᴰ visit seen
    pub at_path : SamePath p visit.path
    pub sequence : sequence_of (child_types visit) ≡ c

  -- the contents that the content at a path is the choice of
  pub sequences_at : List Name → List Content
  sequences_at p = distinct same_content (map (child_sequence seen) (visits_at seen p))

  pub content_at_lem : (p : List Name) → content_at seen p ≡ choice_of (sequences_at p)
  unfolding content_at sequences_at
  content_at_lem p = refl

  pub sequence_at : (p : List Name) (c : Content) → Memᴰ c (sequences_at p) ↔ SequenceAt p c
  unfolding sequences_at visits_at child_sequence
  sequence_at p c = (
    λ m.
        let (v, n, e) = Memᴰ.of_map (child_sequence seen) (keep at_path seen) (distinct_was same_content sequences m) in
        let (o, s) = kept at_path seen n in
        record { visit = v; visited = o; at_path = s; sequence = e },
    λ s.
        Memᴰ.cast (sym s.sequence)
        (distinct_mem same_content same_content_lem (Memᴰ.map (child_sequence seen) (keep_mem at_path s.visited s.at_path))),
  )
    where
      at_path : Visit → Bool
      at_path v = same_path p v.path

      sequences : List Content
      sequences = map (child_sequence seen) (keep at_path seen)

  -- the types of a visit's children are a word of the content at its path
  content_word : (p : List Name) (v : Visit) → Memᴰ v seen → SamePath p v.path → Word (content_at seen p) (child_types v)
  content_word p v m e =
      let c = sequence_of (child_types v) in
      let s : SequenceAt p c = record { visit = v; visited = m; at_path = e; sequence = refl } in
      subst (λ (c : Content). Word c (child_types v)) (sym (content_at_lem p))
      ((choice_words (sequences_at p) (child_types v)).1 (c, (sequence_at p c).1 s, sequence_word (child_types v)))

  -- the types that stand in the content at a path are those of children of visits there
  pub record ChildAt (p : List Name) (k : ℕ) : Type 0 where
    pub visit : Visit
    pub visited : Memᴰ visit seen
    pub at_path : SamePath p visit.path
    pub name : Name
    pub child : Memᴰ name visit.children
    pub of_type : path_type d (visit.path ++ (name ∷ [])) ≡ k

  pub content_type : (p : List Name) (k : ℕ) → StandsIn k (content_at seen p) → ChildAt p k
  content_type p k m =
      let (c, l, n) = (choice_type k (sequences_at p)).0 (subst (StandsIn k) (content_at_lem p) m) in
      let s = (sequence_at p c).0 l in
      let v = s.visit in
      let (x, y, z) =
      Memᴰ.of_map (λ x. path_type d (v.path ++ (x ∷ []))) v.children
      (sequence_type (child_types v) k (subst (λ (x : Content). Memᴰ k (types_in x)) (sym s.sequence) n)) in
      record { visit = v; visited = s.visited; at_path = s.at_path; name = x; child = y; of_type = z }

  -- the rules of the sample
  abbrev pub one_visit : Visit → Visit → Bool
  one_visit u v = same_path u.path v.path

  abbrev firsts : List Visit
  firsts = distinct one_visit seen

  first_was : {v : Visit} → Memᴰ v firsts → Memᴰ v seen
  first_was m = distinct_was one_visit seen m

  first_at : {v : Visit} → Memᴰ v seen → (u : Visit) × Memᴰ u firsts × SamePath u.path v.path
  first_at m =
      distinct_has one_visit (λ v. path_refl v.path) (λ u v w. path_trans u.path v.path w.path) m

  pub sample_rule : {r : Rule} → Memᴰ r (sample d).rules → (v : Visit) × Memᴰ v seen × (rule_at seen v ≡ r)
  unfolding sample
  sample_rule m = let (v, n, e) = Memᴰ.of_map (rule_at seen) firsts m in (v, first_was n, e)

  rule_sample : {v : Visit} → Memᴰ v firsts → Memᴰ (rule_at seen v) (sample d).rules
  unfolding sample
  rule_sample m = Memᴰ.map (rule_at seen) m

  -- the label of a visit's rule has the visit's name
  own_name : (v : Visit) → Memᴰ v seen → Named (sample d) (rule_at seen v).label v.name
  unfolding sample rule_at
  own_name v m =
      let (n, at, e) = place_found same_name v.name (names_of seen) (name_found v m) in
      record { name = n; listed = at; same = name_sym v.name n e }

  same_names : {u v : Visit} → Memᴰ u seen → Memᴰ v seen → SamePath u.path v.path → SameName u.name v.name
  same_names {u} {v} m n e = ends_agree (path_ends d [] u m) (path_ends d [] v n) e

  -- a path of a visit with text is for text
  text_at_lem : (p : List Name) (v : Visit) → Memᴰ v seen → SamePath p v.path → v.text ≡ true → text_at seen p ≡ true
  unfolding text_at visits_at
  text_at_lem p v m e t = any_of (λ (u : Visit). u.text) (keep_mem (λ (u : Visit). same_path p u.path) m e) t

  pub visit_fits : (v : Visit) → Memᴰ v seen
      → Fits (sample d) (path_type d v.path) (record { name = v.name; text = v.text }) (child_types v)
  unfolding rule_at
  visit_fits v m =
      let (u, n, e) = first_at m in
      record {
        rule = rule_at seen u;
        of_table = rule_sample n;
        of_type = path_type_lem u.path v.path e;
        of_name = same_named (own_name u (first_was n)) (same_names (first_was n) m e);
        of_text = text_at_lem u.path v m e;
        word = content_word u.path v m e;
      }

  pub sample_names : DistinctNames (sample d)
  unfolding sample
  sample_names = no_two_distinct same_name name_sym (map (λ (v : Visit). v.name) seen)

  pub sample_labelled : Labelled (sample d)
  sample_labelled r m =
      let (v, n, e) = sample_rule m in
      subst (λ (q : Rule). q.label < length (sample d).labels) e
      (at_below (sample d).labels (rule_at seen v).label (own_name v n).listed)

  pub sample-starts : (sample d).starts ≡ zero ∷ []
  unfolding sample
  sample-starts = refl

  pub sample_start : (k : ℕ) → Memᴰ k (sample d).starts ↔ (k ≡ zero)
  unfolding sample
  sample_start k = (λ m. Memᴰ.eq_of_singleton m, λ e. Memᴰ.head e)

-- the root's path is the first
pub sample_root : (d : Tree) → path_type d (root_name d ∷ []) ≡ zero
unfolding visits paths_of place
sample_root (node h ts) = rw (path_refl (h.name ∷ []), place)
