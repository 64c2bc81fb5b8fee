-- The visits of a document, node by node:
--   visits_nodes  : the visits of the tree of some nodes are the visits to these nodes in file order
--   visit_names, visit_marks : one visit for each node, with its name and whether it holds text
--   visit-paths   : a path is the parent's path and the node's name, and the parent comes before
--   visit-children : a visit's children are the later nodes of which it is the parent
use Prim.Native.Nat.{ℕ, zero, suc, ◌+◌, ◌-◌, ◌≤◌, ◌<◌}
use native.Mathlib.Omega.{arith}
use mathlib.Core.Bool.{Bool, true, false}
use mathlib.Core.List.Memᴰ
use mathlib.Core.List.{List, [], ◌∷◌, ◌++◌, map, append_assoc, append-nil, Memᴰ}
use mathlib.Core.Logic.{⊎_elim}
use mathlib.Core.Path.{◌≡◌, refl, sym, ◌∙◌, ap}
use lib.Dec.{eqb}
use lib.ListN.{length, length-append, length-replicate, get_or, drop, replicate}
use borrow.Author.Tests.{eq-eqb, ne_eqb}
use Rattle.grammar.specs.Names.{Name}
use Rattle.std.specs.Prelude.{Ok}
use Rattle.grammar.specs.Tree.{Tree, node, Forest, []ᵗ, ◌∷ᵗ◌, trees}
use Rattle.grammar.specs.ReadDocument.{Node, forest_of, first_trees, other_trees, tree_of}
use Rattle.grammar.specs.Sample.{Visit, root_names, visits, visits_all}
use Rattle.theory.proofs.Bytes.OutcomeLaws.{given_eq}
use Rattle.documents.specs.NodeTrees.{tree_count, Enough}
use Rattle.documents.proofs.DocumentTrees.{forest_trees}
use Rattle.paths.specs.SampleNodes.{parents_from, visits_from, paths_in, children_in, names_in, marks_in}

-- the visits of trees, each with its own path above
visits_per : Forest → List (List Name) → List Visit
visits_per []ᵗ tops = []
visits_per (t ∷ᵗ ts) [] = []
visits_per (t ∷ᵗ ts) (a ∷ tops) = visits t a ++ visits_per ts tops

per_none : (f : Forest) → visits_per f [] ≡ []
unfolding visits_per
per_none []ᵗ = refl
per_none (t ∷ᵗ ts) = refl

-- the first trees with one path above
per_same : (k : ℕ) (a : List Name) (tops : List (List Name)) (f : Forest)
    → visits_per f (replicate k a ++ tops) ≡ visits_all (first_trees k f) a ++ visits_per (other_trees k f) tops
unfolding visits_per visits_all first_trees other_trees
per_same zero a tops f = refl
per_same (suc k) a tops []ᵗ = refl
per_same (suc k) a tops (t ∷ᵗ ts) =
    ap (λ (l : List Visit). visits t a ++ l) (per_same k a tops ts)
    ∙ sym (append_assoc (visits t a) (visits_all (first_trees k ts) a) (visits_per (other_trees k ts) tops))

per_nodes : (ns : List Node) (tops : List (List Name)) → visits_per (forest_of ns) tops ≡ visits_from tops ns
unfolding visits_per visits forest_of visits_from
per_nodes [] tops = refl
per_nodes (n ∷ ns) [] = refl
per_nodes (n ∷ ns) (a ∷ tops) =
    ap (λ (l : List Visit). record {
      name = n.head.name;
      text = n.head.text;
      path = a ++ (n.head.name ∷ []);
      children = root_names (first_trees n.children (forest_of ns));
    } ∷ l)
    (sym (per_same n.children (a ++ (n.head.name ∷ [])) tops (forest_of ns))
    ∙ per_nodes ns (replicate n.children (a ++ (n.head.name ∷ [])) ++ tops))

pub visits_nodes : (ns : List Node) (d : Tree) → tree_of ns ≡ Ok d → visits d [] ≡ visits_from ([] ∷ []) ns
unfolding tree_of visits_per
visits_nodes [] d e = let z : ◌≡◌ {A = ℕ} 0 1 = cc in absurd (omega arith)
visits_nodes (n ∷ ns) d e =
    let root : Tree = node n.head (first_trees n.children (forest_of ns)) in
    let later : Forest = other_trees n.children (forest_of ns) in
    let same : root ≡ d = given_eq e in
    ap (λ (t : Tree). visits t []) (sym same)
    ∙ sym (ap (λ (l : List Visit). visits root [] ++ l) (per_none later) ∙ append-nil (visits root []))
    ∙ per_nodes (n ∷ ns) ([] ∷ [])

-- as many are left for those to come as there are trees to come
pub handed_many : {A : Type 0} (k : ℕ) (a : A) (tops : List A) (m : ℕ) → suc (length tops) ≡ suc (m - k) → k ≤ m → length (replicate k a ++ tops) ≡ m
handed_many k a tops m e h =
    let l = length-append (replicate k a) tops in
    let r = length-replicate k a in
    omega arith

pub visit_names : (ns : List Node) (tops : List (List Name)) → length tops ≡ tree_count ns → Enough ns
    → map (λ (v : Visit). v.name) (visits_from tops ns) ≡ names_in ns
unfolding visits_from tree_count
visit_names [] tops e h = refl
visit_names (n ∷ ns) [] e h = absurd (omega arith)
visit_names (n ∷ ns) (a ∷ tops) e h =
    ap (λ (l : List Name). n.head.name ∷ l)
    (visit_names ns (replicate n.children (a ++ (n.head.name ∷ [])) ++ tops)
    (handed_many n.children (a ++ (n.head.name ∷ [])) tops (tree_count ns) e h.0) h.1)

pub visit_marks : (ns : List Node) (tops : List (List Name)) → length tops ≡ tree_count ns → Enough ns
    → map (λ (v : Visit). v.text) (visits_from tops ns) ≡ marks_in ns
unfolding visits_from tree_count
visit_marks [] tops e h = refl
visit_marks (n ∷ ns) [] e h = absurd (omega arith)
visit_marks (n ∷ ns) (a ∷ tops) e h =
    ap (λ (l : List Bool). n.head.text ∷ l)
    (visit_marks ns (replicate n.children (a ++ (n.head.name ∷ [])) ++ tops)
    (handed_many n.children (a ++ (n.head.name ∷ [])) tops (tree_count ns) e h.0) h.1)

pub parents_many : (i : ℕ) (ns : List Node) (ps : List ℕ) → length ps ≡ tree_count ns → Enough ns → length (parents_from i ps ns) ≡ length ns
unfolding parents_from tree_count
parents_many i [] ps e h = refl
parents_many i (n ∷ ns) [] e h = absurd (omega arith)
parents_many i (n ∷ ns) (p ∷ ps) e h =
    ap suc
    (parents_many (suc i) ns (replicate n.children i ++ ps) (handed_many n.children i ps (tree_count ns) e h.0) h.1)

-- numbers that are all below another
abbrev pub Below : ℕ → List ℕ → Type 0
Below i ps = (p : ℕ) → Memᴰ p ps → p < i

pub same_below : (k i : ℕ) → Below (suc i) (replicate k i)
same_below zero i p m = elim m [ ]
same_below (suc k) i p (Memᴰ.head e) = omega arith
same_below (suc k) i p (Memᴰ.tail m) = same_below k i p m

pub handed_below : (k i : ℕ) (ps : List ℕ) → Below i ps → Below (suc i) (replicate k i ++ ps)
handed_below k i ps h p m =
    ⊎_elim (λ q. same_below k i p q) (λ q. let b = h p q in omega arith) (Memᴰ.append_cases (replicate k i) m)

pub map_handed : {A : Type 0} (f : ℕ → A) (k i : ℕ) (ps : List ℕ) → map f (replicate k i ++ ps) ≡ replicate k (f i) ++ map f ps
map_handed f zero i ps = refl
map_handed f (suc k) i ps = ap (λ (l : List _). f i ∷ l) (map_handed f k i ps)

-- a path is the parent's path and the name; f gives the path of each node from i on, and of those before that are still parents
pub path_step : (f : ℕ → List Name) (i : ℕ) (ps : List ℕ) (ns : List Node) → length ps ≡ tree_count ns → Enough ns → Below i ps
    → ((j : ℕ) → j < length ns → f (i + j) ≡ get_or (paths_in (visits_from (map f ps) ns)) j []) → (j : ℕ) → j < length ns
    → (f (i + j) ≡ f (get_or (parents_from i ps ns) j 0) ++ (get_or (names_in ns) j [] ∷ [])) × (get_or (parents_from i ps ns) j 0 < i + j)
unfolding parents_from visits_from tree_count
path_step f i ps [] e h b g j l = absurd (omega arith)
path_step f i [] (n ∷ ns) e h b g j l = absurd (omega arith)
path_step f i (p ∷ ps) (n ∷ ns) e h b g zero l = (g zero l, let q = b p (Memᴰ.head refl) in omega arith)
path_step f i (p ∷ ps) (n ∷ ns) e h b g (suc j) l =
    let k = n.children in
    let z : i + 0 ≡ i = omega arith in
    let here : f i ≡ f p ++ (n.head.name ∷ []) = ap f (sym z) ∙ g zero (omega arith) in
    let handed : map f (replicate k i ++ ps) ≡ replicate k (f p ++ (n.head.name ∷ [])) ++ map f ps =
    map_handed f k i ps ∙ ap (λ (a : List Name). replicate k a ++ map f ps) here in
    let on : (m : ℕ) → suc i + m ≡ i + suc m = λ m. omega arith in
    let r =
    path_step f (suc i) (replicate k i ++ ps) ns (handed_many k i ps (tree_count ns) e h.0) h.1
    (handed_below k i ps (λ q m. b q (Memᴰ.tail m)))
    (λ m q. ap f (on m) ∙ g (suc m) (omega arith) ∙ ap (λ (tops : List (List Name)). get_or (paths_in (visits_from tops ns)) m []) (sym handed))
    j
    (omega arith) in
    (ap f (sym (on j)) ∙ r.0, let q = r.1 in omega arith)

-- the elements at whose place the number q stands
abbrev pub picked : {A : Type 0} → Bool → A → List A → List A
picked true x xs = x ∷ xs
picked false x xs = xs

unfoldable pub pick : {A : Type 0} → ℕ → List ℕ → List A → List A
pick q ps [] = []
pick q [] (x ∷ xs) = []
pick q (p ∷ ps) (x ∷ xs) = picked (eqb p q) x (pick q ps xs)

pick_others : (k q i : ℕ) (ps : List ℕ) (f : Forest) → eqb i q ≡ false
    → pick q (replicate k i ++ ps) (root_names f) ≡ pick q ps (root_names (other_trees k f))
unfolding pick root_names other_trees
pick_others zero q i ps f e = refl
pick_others (suc k) q i ps []ᵗ e = refl
pick_others (suc k) q i ps (node h ts ∷ᵗ us) e =
    ap (λ (b : Bool). picked b h.name (pick q (replicate k i ++ ps) (root_names us))) e ∙ pick_others k q i ps us e

pick_none : {A : Type 0} (i : ℕ) (ps : List ℕ) (xs : List A) → Below i ps → pick i ps xs ≡ []
unfolding pick
pick_none i ps [] b = refl
pick_none i [] (x ∷ xs) b = refl
pick_none i (p ∷ ps) (x ∷ xs) b =
    let l = b p (Memᴰ.head refl) in
    ap (λ (c : Bool). picked c x (pick i ps xs)) (ne_eqb p i (omega arith)) ∙ pick_none i ps xs (λ q m. b q (Memᴰ.tail m))

pub pick_own : (k i : ℕ) (ps : List ℕ) (f : Forest) → Below i ps → pick i (replicate k i ++ ps) (root_names f) ≡ root_names (first_trees k f)
unfolding pick root_names first_trees
pick_own zero i ps f b = pick_none i ps (root_names f) b
pick_own (suc k) i ps []ᵗ b = refl
pick_own (suc k) i ps (node h ts ∷ᵗ us) b =
    ap (λ (c : Bool). picked c h.name (pick i (replicate k i ++ ps) (root_names us))) (eq-eqb i i refl)
    ∙ ap (λ (l : List Name). h.name ∷ l) (pick_own k i ps us b)

-- among the nodes, those of a parent before them are roots that were left to it
pub pick_roots : (i q : ℕ) (ps : List ℕ) (ns : List Node) → q < i
    → pick q (parents_from i ps ns) (names_in ns) ≡ pick q ps (root_names (forest_of ns))
unfolding pick root_names forest_of parents_from
pick_roots i q ps [] l = refl
pick_roots i q [] (n ∷ ns) l = refl
pick_roots i q (p ∷ ps) (n ∷ ns) l =
    ap (picked (eqb p q) n.head.name)
    (pick_roots (suc i) q (replicate n.children i ++ ps) ns (omega arith)
    ∙ pick_others n.children q i ps (forest_of ns) (ne_eqb i q (omega arith)))

pub child_names : (i : ℕ) (ps : List ℕ) (tops : List (List Name)) (ns : List Node) → length ps ≡ tree_count ns → length tops ≡ tree_count ns → Enough ns
    → Below i ps → (j : ℕ) → j < length ns
    → get_or (children_in (visits_from tops ns)) j [] ≡ pick (i + j) (drop (suc j) (parents_from i ps ns)) (drop (suc j) (names_in ns))
unfolding parents_from visits_from tree_count
child_names i ps tops [] e f h b j l = absurd (omega arith)
child_names i [] tops (n ∷ ns) e f h b j l = absurd (omega arith)
child_names i (p ∷ ps) [] (n ∷ ns) e f h b j l = absurd (omega arith)
child_names i (p ∷ ps) (a ∷ tops) (n ∷ ns) e f h b zero l =
    let k = n.children in
    let z : i ≡ i + 0 = omega arith in
    sym (pick_own k i ps (forest_of ns) (λ q m. b q (Memᴰ.tail m)))
    ∙ sym (pick_roots (suc i) i (replicate k i ++ ps) ns (omega arith))
    ∙ ap (λ (q : ℕ). pick q (parents_from (suc i) (replicate k i ++ ps) ns) (names_in ns)) z
child_names i (p ∷ ps) (a ∷ tops) (n ∷ ns) e f h b (suc j) l =
    let k = n.children in
    let z : suc i + j ≡ i + suc j = omega arith in
    child_names (suc i) (replicate k i ++ ps) (replicate k (a ++ (n.head.name ∷ [])) ++ tops) ns
    (handed_many k i ps (tree_count ns) e h.0)
    (handed_many k (a ++ (n.head.name ∷ [])) tops (tree_count ns) f h.0)
    h.1
    (handed_below k i ps (λ q m. b q (Memᴰ.tail m)))
    j
    (omega arith)
    ∙ ap
    (λ (q : ℕ). pick q (drop (suc j) (parents_from (suc i) (replicate k i ++ ps) ns)) (drop (suc j) (names_in ns)))
    z

-- a visit has as many children as its node says
first_many : (k : ℕ) (f : Forest) → k ≤ trees f → length (root_names (first_trees k f)) ≡ k
unfolding root_names first_trees trees
first_many zero f h = refl
first_many (suc k) []ᵗ h = absurd (omega arith)
first_many (suc k) (node i ts ∷ᵗ us) h = ap suc (first_many k us (omega arith))

pub visit_counts : (ns : List Node) (tops : List (List Name)) → length tops ≡ tree_count ns → Enough ns
    → map (λ (v : Visit). length v.children) (visits_from tops ns) ≡ map (λ (n : Node). n.children) ns
unfolding visits_from tree_count
visit_counts [] tops e h = refl
visit_counts (n ∷ ns) [] e h = absurd (omega arith)
visit_counts (n ∷ ns) (a ∷ tops) e h =
    let t = forest_trees ns in
    let k = h.0 in
    ap
    (λ (m : ℕ).
    m ∷ map (λ (v : Visit). length v.children) (visits_from (replicate n.children (a ++ (n.head.name ∷ [])) ++ tops) ns))
    (first_many n.children (forest_of ns) (omega arith))
    ∙ ap (λ (l : List ℕ). n.children ∷ l)
    (visit_counts ns (replicate n.children (a ++ (n.head.name ∷ [])) ++ tops)
    (handed_many n.children (a ++ (n.head.name ∷ [])) tops (tree_count ns) e h.0) h.1)
