-- The sample of a document lets it in (`sample_lets_in`): the type of a path derives the trees that stand there.
use Prim.Native.Nat.{ℕ, zero}
use mathlib.Core.List.{List, [], ◌∷◌, ◌++◌, map, Memᴰ}
use mathlib.Core.Path.{◌≡◌, refl, ap, subst}
use Rattle.grammar.specs.Names.{Name}
use Rattle.grammar.specs.Tree.{Tree, node, Forest, []ᵗ, ◌∷ᵗ◌}
use Rattle.grammar.specs.Derivation.{Derives, derives, DerivesAll, derives_none, derives_next, LetsIn}
use Rattle.grammar.specs.Sample.{root_names, sample}
use Rattle.theory.specs.SamplePaths.{path_type}
use Rattle.theory.proofs.Sample.SampleRules.{visit_fits, sample_root, sample_start}
use Rattle.theory.proofs.Trees.VisitedTrees.{StandsAt, root_stands, visit_of, stands_visit, stands_child}
use Rattle.theory.proofs.Trees.TreeParts.{root_name, trees_of}

-- the roots' names are those of the trees
roots_are : (f : Name → ℕ) (ts : Forest) → map (λ t. f (root_name t)) (trees_of ts) ≡ map f (root_names ts)
unfolding root_names
roots_are f []ᵗ = refl
roots_are f (node h us ∷ᵗ ts) = ap (λ (l : List ℕ). f h.name ∷ l) (roots_are f ts)

module _ (d : Tree) where
  mutual
    path_derives : (t : Tree) (p : List Name) → StandsAt d [] p t → Derives (sample d) (path_type d p) t
    path_derives (node h ts) p s =
        derives (visit_fits d (visit_of p (node h ts)) (stands_visit d [] p (node h ts) s))
        (subst (λ (w : List ℕ). DerivesAll (sample d) w ts) (roots_are (λ m. path_type d (p ++ (m ∷ []))) ts)
        (paths_derive ts p (λ c. stands_child d [] p (node h ts) c s)))

    paths_derive : (ts : Forest) (p : List Name) → ((c : Tree) → Memᴰ c (trees_of ts) → StandsAt d [] (p ++ (root_name c ∷ [])) c)
        → DerivesAll (sample d) (map (λ c. path_type d (p ++ (root_name c ∷ []))) (trees_of ts)) ts
    paths_derive []ᵗ p h = derives_none
    paths_derive (t ∷ᵗ ts) p h =
        derives_next (path_derives t (p ++ (root_name t ∷ [])) (h t (Memᴰ.head refl)))
        (paths_derive ts p (λ c o. h c (Memᴰ.tail o)))

  pub sample_lets_in : LetsIn (sample d) d
  sample_lets_in =
      record {
        start = zero;
        of_table = (sample_start d zero).1 refl;
        derived = subst (λ (k : ℕ). Derives (sample d) k d) (sample_root d) (path_derives d (root_name d ∷ []) (root_stands d []));
      }
