-- A document's nodes in file order: the parent of each, and the visit that comes to each. The nodes still to come are told apart by
-- what their parents left for them, nearest first: a node takes what stands first, and leaves its own, once for each child.
use Rattle.std.specs.Prelude.{ℕ, zero, suc, ◌+◌, ◌-◌, ◌%◌, ◌≤◌, ◌<◌}
use Rattle.std.specs.Prelude.{Bool, false, ◌&&◌, List, [], ◌∷◌, ◌++◌, map, ◌≡◌, eqb, length, get_or, take, drop, replicate, Ok}
use Rattle.grammar.specs.Lists.{any_pass, keep, distinct, place, numbers_from, numbers_below}
use Rattle.grammar.specs.Names.{Name, same_name}
use Rattle.grammar.specs.Content.{Content, choice_of}
use Rattle.grammar.specs.ReadContent.{same_content}
use Rattle.grammar.specs.Tree.{Tree}
use Rattle.grammar.specs.Table.{Rule, Table}
use Rattle.grammar.specs.ReadDocument.{Node, forest_of, first_trees, tree_of}
use Rattle.grammar.specs.Sample.{Visit, root_names, same_path, sequence_of}
use Rattle.theory.specs.SamplePaths.{path_type}
use Rattle.documents.specs.NodeTrees.{tree_count, Enough}

-- The parents of nodes of which the first has the number `i`, where the parents of those still to come are these.
unfoldable pub parents_from : ℕ → List ℕ → List Node → List ℕ
parents_from i ps [] = []
parents_from i [] (n ∷ ns) = []
parents_from i (p ∷ ps) (n ∷ ns) = p ∷ parents_from (suc i) (replicate n.children i ++ ps) ns

-- the parent of each node; the root counts as its own
unfoldable pub parents_of : List Node → List ℕ
unfolding parents_from
parents_of ns = parents_from zero (zero ∷ []) ns

-- the visits to nodes, where the paths above those still to come are these
unfoldable pub visits_from : List (List Name) → List Node → List Visit
visits_from tops [] = []
visits_from [] (n ∷ ns) = []
visits_from (a ∷ tops) (n ∷ ns) =
    record {
      name = n.head.name;
      text = n.head.text;
      path = a ++ (n.head.name ∷ []);
      children = root_names (first_trees n.children (forest_of ns));
    }
    ∷ visits_from (replicate n.children (a ++ (n.head.name ∷ [])) ++ tops) ns

-- what a list of visits or nodes says at a place
abbrev pub paths_in : List Visit → List (List Name)
paths_in vs = map (λ (v : Visit). v.path) vs

abbrev pub children_in : List Visit → List (List Name)
children_in vs = map (λ (v : Visit). v.children) vs

abbrev pub names_in : List Node → List Name
names_in ns = map (λ (n : Node). n.head.name) ns

abbrev pub marks_in : List Node → List Bool
marks_in ns = map (λ (n : Node). n.head.text) ns

module _ (ns : List Node) where
  abbrev pub visits_found : List Visit
  visits_found = visits_from ([] ∷ []) ns

  -- the name, whether it holds text, the path, the parent and the visit of a node
  abbrev pub name_at : ℕ → Name
  name_at i = get_or (names_in ns) i []

  abbrev pub mark_at : ℕ → Bool
  mark_at i = get_or (marks_in ns) i false

  abbrev pub path_at : ℕ → List Name
  path_at i = get_or (paths_in visits_found) i []

  abbrev pub parent_at : ℕ → ℕ
  parent_at i = get_or (parents_of ns) i 0

  abbrev pub visit_at : ℕ → Visit
  visit_at i = record { name = name_at i; text = mark_at i; path = path_at i; children = get_or (children_in visits_found) i [] }

  -- the children of a node: the later nodes of which it is the parent
  abbrev pub kids_of : ℕ → List ℕ
  kids_of i = keep (λ j. eqb (parent_at j) i) (numbers_from (suc i) (length ns - suc i))

module _ (ns : List Node) (d : Tree) where
  -- the type of a node, and what its parent's type is: none for the root
  abbrev pub type_at : ℕ → ℕ
  type_at i = path_type d (path_at ns i)

  abbrev pub above_at : ℕ → ℕ
  above_at zero = zero
  above_at (suc i) = suc (type_at (parent_at ns (suc i)))

  abbrev pub same_at : ℕ → ℕ → Bool
  same_at i j = same_path (path_at ns i) (path_at ns j)

  abbrev pub same_named : ℕ → ℕ → Bool
  same_named i j = same_name (name_at ns i) (name_at ns j)

  -- the first node of each path, and of these the first of each name
  abbrev pub firsts_of : List ℕ
  firsts_of = distinct same_at (numbers_below (length ns))

  abbrev pub label_nodes : List ℕ
  label_nodes = distinct same_named firsts_of

  -- the child sequence of a node, and the choice of those of a type
  abbrev pub sequence_at : ℕ → Content
  sequence_at i = sequence_of (map type_at (kids_of ns i))

  abbrev pub of_type : ℕ → List ℕ
  of_type k = keep (λ i. eqb (type_at i) k) (numbers_below (length ns))

  abbrev pub content_of_type : ℕ → Content
  content_of_type k = choice_of (distinct same_content (map sequence_at (of_type k)))

  -- a type is for text if any node of it holds text
  abbrev pub text_of_type : ℕ → Bool
  text_of_type k = any_pass (mark_at ns) (of_type k)

  abbrev pub rule_of_node : ℕ → Rule
  rule_of_node i =
      record {
        type = type_at i;
        label = place same_named i label_nodes;
        content = content_of_type (type_at i);
        text = text_of_type (type_at i);
      }

  abbrev pub sample_of_nodes : Table
  sample_of_nodes = record { labels = map (name_at ns) label_nodes; starts = zero ∷ []; rules = map rule_of_node firsts_of }

-- how many children a node has: its shape tells
abbrev pub kid_count : List ℕ → ℕ → ℕ
kid_count shapes i = get_or shapes i 0 % 256

-- nodes of one tree, with the child counts that an array of shapes holds
pub record CountedTree (shapes : List ℕ) (n : ℕ) : Type 0 where
  pub list : List Node
  pub counts : (i : ℕ) → i < n → kid_count shapes i ≡ get_or (map (λ (m : Node). m.children) list) i 0
  pub many : length list ≡ n
  pub one : tree_count list ≡ 1
  pub enough : Enough list

-- a node's name, where the arrays say
abbrev pub name_in : (s names sizes : List ℕ) → ℕ → Name
name_in s names sizes i = take (get_or sizes i 0) (drop (get_or names i 0) s)

-- equal keys and equal names
abbrev pub same_key : (s names sizes keys : List ℕ) → ℕ → ℕ → Bool
same_key s names sizes keys i j = eqb (get_or keys i 0) (get_or keys j 0) && same_name (name_in s names sizes i) (name_in s names sizes j)

-- the arrays hold a node's key and name
pub record KeyAt (s names sizes keys : List ℕ) (i : ℕ) : Type 0 where
  pub name_held : i < length names
  pub size_held : i < length sizes
  pub key_held : i < length keys
  pub within : get_or names i 0 + get_or sizes i 0 ≤ length s

-- and those of the first nodes listed
pub record KeysAt (s names sizes keys firsts : List ℕ) (count : ℕ) : Type 0 where
  pub few : count ≤ length firsts
  pub each : (t : ℕ) → t < count → KeyAt s names sizes keys (get_or firsts t 0)

-- The nodes that arrays hold are those of one tree: where the names stand, and what the parents are.
pub record Whole (s names sizes parents : List ℕ) (n : ℕ) : Type 0 where
  pub list : List Node
  pub tree : Tree
  pub is_tree : tree_of list ≡ Ok tree
  pub one : tree_count list ≡ 1
  pub enough : Enough list
  pub many : length list ≡ n
  pub names_are : (i : ℕ) → i < n → name_in s names sizes i ≡ name_at list i
  pub parents_are : take n parents ≡ parents_of list
  pub within : (i : ℕ) → i < n → get_or names i 0 + get_or sizes i 0 ≤ length s
  pub few : n ≤ 2048
  pub names_held : n ≤ length names
  pub sizes_held : n ≤ length sizes
  pub parents_held : n ≤ length parents

-- what a node's key is: none for the root, else from its parent's type
abbrev pub above_in : List ℕ → ℕ → ℕ → ℕ
above_in types parent zero = zero
above_in types parent (suc i) = suc (get_or types parent 0)

-- the types that arrays hold are those of the nodes up to here, and the first node of each type
pub record TypedTo (ns : List Node) (d : Tree) (types firsts : List ℕ) (count i : ℕ) : Type 0 where
  pub types_are : (j : ℕ) → j < i → get_or types j 0 ≡ type_at ns d j
  pub small : (j : ℕ) → j < i → get_or types j 0 < count
  pub firsts_are : take count firsts ≡ distinct (same_at ns d) (numbers_below i)
  pub few : count ≤ i

-- nodes' names
abbrev pub same_name_in : (s names sizes : List ℕ) → ℕ → ℕ → Bool
same_name_in s names sizes i j = same_name (name_in s names sizes i) (name_in s names sizes j)

-- the labels of listed nodes up to here, and the first node of each label
pub record LabelledTo (s names sizes nodes labels firsts : List ℕ) (count t : ℕ) : Type 0 where
  pub labels_are : (j : ℕ) → j < t
      → get_or labels j 0 ≡ place (same_name_in s names sizes) (get_or nodes j 0) (distinct (same_name_in s names sizes) (take t nodes))
  pub small : (j : ℕ) → j < t → get_or labels j 0 < count
  pub firsts_are : take count firsts ≡ distinct (same_name_in s names sizes) (take t nodes)
  pub few : count ≤ t
