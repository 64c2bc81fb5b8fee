-- The sample of a document: one type for each distinct path of names from the root.
use Rattle.std.specs.Prelude.{ℕ, zero, Bool, true, false, ◌&&◌, List, [], ◌∷◌, ◌++◌, map, eqb}
use Rattle.grammar.specs.Lists.{any_pass, keep, distinct, place}
use Rattle.grammar.specs.Names.{Name, same_name}
use Rattle.grammar.specs.Content.{Content, empty, type, sequence, one_or_more, choice_of, operands}
use Rattle.grammar.specs.Tree.{Tree, node, Forest, []ᵗ, ◌∷ᵗ◌}
use Rattle.grammar.specs.Table.{Rule, Table}
use Rattle.grammar.specs.ReadContent.{same_content}

-- a node: whether it holds text, the path of names that leads to it, itself included, and its children's names
pub record Visit : Type 0 where
  pub name : Name
  pub text : Bool
  pub path : List Name
  pub children : List Name

unfoldable pub root_names : Forest → List Name
root_names []ᵗ = []
root_names (node h ts ∷ᵗ more) = h.name ∷ root_names more

-- the nodes in the order of the file, parent before children, left to right
unfoldable mutual
  unfolding root_names

  pub visits : Tree → List Name → List Visit
  visits (node h ts) above =
      let path : List Name = above ++ (h.name ∷ []) in
      record { name = h.name; text = h.text; path = path; children = root_names ts } ∷ visits_all ts path

  pub visits_all : Forest → List Name → List Visit
  visits_all []ᵗ above = []
  visits_all (t ∷ᵗ ts) above = visits t above ++ visits_all ts above

unfoldable pub same_path : List Name → List Name → Bool
unfolding same_name
same_path [] [] = true
same_path [] (n ∷ ns) = false
same_path (m ∷ ms) [] = false
same_path (m ∷ ms) (n ∷ ns) = same_name m n && same_path ms ns

-- the distinct paths, by first visit: a path's type is its place here
unfoldable pub paths_of : List Visit → List (List Name)
unfolding distinct same_path
paths_of vs = distinct same_path (map (λ (v : Visit). v.path) vs)

-- the distinct names, by first visit
unfoldable pub names_of : List Visit → List Name
unfolding distinct same_name
names_of vs = distinct same_name (map (λ (v : Visit). v.name) vs)

-- neighbouring children of one name, which have one type: that type, and whether there are two or more
pub record Run : Type 0 where
  pub type : ℕ
  pub several : Bool

-- one child more, in front: it belongs to the first run if that is of its type, else it is a run of its own
unfoldable pub with_child : ℕ → List Run → List Run
with_child k [] = record { type = k; several = false } ∷ []
with_child k (r ∷ rs) =
    elim (eqb k r.type) [
      | true ↦ record { type = k; several = true } ∷ rs
      | false ↦ record { type = k; several = false } ∷ r ∷ rs
    ]

-- the runs of children, each as long as can be
unfoldable pub runs_of : List ℕ → List Run
unfolding with_child
runs_of [] = []
runs_of (k ∷ ks) = with_child k (runs_of ks)

-- A run of two or more is one or more of that type; a child alone is the type itself.
unfoldable pub run_content : Run → Content
run_content r = elim r.several [ true ↦ one_or_more (type r.type) | false ↦ type r.type ]

-- No child is empty; a run that is the whole sequence stands alone.
unfoldable pub as_sequence : List Content → Content
unfolding operands
as_sequence [] = empty
as_sequence (c ∷ []) = c
as_sequence (c ∷ d ∷ ds) = sequence (operands (c ∷ d ∷ ds))

unfoldable pub sequence_of : List ℕ → Content
unfolding runs_of run_content as_sequence
sequence_of ks = as_sequence (map run_content (runs_of ks))

-- the child sequence of one node
unfoldable pub child_sequence : List Visit → Visit → Content
unfolding place same_path paths_of sequence_of
child_sequence vs v = sequence_of (map (λ n. place same_path (v.path ++ (n ∷ [])) (paths_of vs)) v.children)

-- the nodes at a path
unfoldable pub visits_at : List Visit → List Name → List Visit
unfolding keep same_path
visits_at vs path = keep (λ (v : Visit). same_path path v.path) vs

-- the choice of the distinct child sequences seen at a path, by first sight; one sequence needs no choice
unfoldable pub content_at : List Visit → List Name → Content
unfolding visits_at distinct child_sequence same_content choice_of
content_at vs path = choice_of (distinct same_content (map (child_sequence vs) (visits_at vs path)))

-- a path with any node that holds text is for text
unfoldable pub text_at : List Visit → List Name → Bool
unfolding visits_at any_pass
text_at vs path = any_pass (λ (v : Visit). v.text) (visits_at vs path)

-- the rule of the path of a visit
unfoldable pub rule_at : List Visit → Visit → Rule
unfolding place same_path paths_of same_name names_of content_at text_at
rule_at vs v =
    record {
      type = place same_path v.path (paths_of vs);
      label = place same_name v.name (names_of vs);
      content = content_at vs v.path;
      text = text_at vs v.path;
    }

-- Types by first visit, root 0 and only start; labels by first visit; rules by type.
unfoldable pub sample : Tree → Table
unfolding visits names_of rule_at distinct same_path
sample d =
    let vs : List Visit = visits d [] in
    record {
      labels = names_of vs;
      starts = zero ∷ [];
      rules = map (rule_at vs) (distinct (λ (v w : Visit). same_path v.path w.path) vs);
    }
