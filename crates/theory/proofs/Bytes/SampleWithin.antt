-- The sample of a document within the limits is a table that a file can hold, if it is not too large:
--   sample_within : LimitsAgree lim → TreeWithin lim classes d → sample_table lim d ≡ given g → TableWithin lim classes g
-- A document that is read is within the limits (document-tree-within).
use Prim.Native.Nat.{ℕ, zero, ◌≤◌, ◌<◌}
use native.Mathlib.Omega.{arith}
use mathlib.Core.Bool.{true}
use mathlib.Core.List.Memᴰ
use mathlib.Core.List.{List, [], ◌∷◌, ◌++◌, map, Memᴰ}
use mathlib.Core.Path.{◌≡◌, refl, sym, ◌∙◌, ap, subst}
use lib.ListN.{length, length-map, get_or}
use lib.Dec.{eqb}
use borrow.Author.Tests.{eq-eqb}
use Rattle.grammar.specs.Lists.{any_pass, distinct, all_distinct, numbers_below}
use Rattle.grammar.specs.Limits.{Limits, LimitsAgree}
use Rattle.grammar.specs.Names.{Name, same_name, SameName, Classes}
use Rattle.grammar.specs.Content.{Content, types_in}
use Rattle.grammar.specs.Tree.{Tree, node}
use Rattle.grammar.specs.Table.{Rule, Table}
use Rattle.std.specs.Prelude.{Ok}
use Rattle.grammar.specs.declared.Refusal.TheVariants.{ResultTooLarge}
use Rattle.grammar.specs.WithinLimits.{NameWithin, TableWithin, TreeWithin}
use Rattle.grammar.specs.UsedLabels.{used_labels, with_used_labels}
use Rattle.grammar.specs.Size.{too_large}
use Rattle.grammar.specs.Sample.{Visit, visits, same_path, paths_of, names_of, content_at, rule_at, sample}
use Rattle.grammar.specs.Widen.{of_size, sample_table}
use Rattle.theory.specs.SamplePaths.{path_type}
use Rattle.theory.specs.Conditions.{Counted}
use Rattle.theory.proofs.Lists.ListLaws.{
  any_of,
  distinct_was,
  at_mem,
  at_below,
  below_at,
  numbers_below_lem,
  numbers_length,
  distinct-map,
  keep_all,
}
use Rattle.theory.proofs.Lists.PlaceLaws.{place_found}
use Rattle.theory.proofs.Bytes.OutcomeLaws.{had_no_fault, given_eq}
use Rattle.theory.proofs.Steps.UsedLabelsDocuments.{used_labels_count}
use Rattle.theory.proofs.Sample.SampleRules.{
  seen,
  child_types,
  child_visited,
  visit_fits,
  sample_names,
  sample_labelled,
  sample-starts,
  one_visit,
  path_found,
  sample_rule,
  content_type,
  content_at_lem,
  sequences_at,
  sequence_at,
  sample_start,
}
use Rattle.theory.proofs.Sample.SampleRuns.{sequence_counted}
use Rattle.theory.proofs.Contents.CountedContents.{choice_counted}
use Rattle.theory.proofs.Bytes.DocumentWithin.{node_of_visit, visit_node}
use Rattle.theory.proofs.Bytes.NumberedTable.{Numbered, table_small, numbered_within}

first_visit : (d : Tree) → (v : Visit) × Memᴰ v (visits d [])
unfolding visits
first_visit (node n ts) = (_, Memᴰ.head refl)

module _ (d : Tree) where
  -- There are as many rules as paths.
  paths_are : paths_of (seen d) ≡ map (λ (v : Visit). v.path) (distinct (one_visit d) (seen d))
  unfolding paths_of
  paths_are = distinct-map (λ (v : Visit). v.path) same_path (seen d)

  rules_are : length (sample d).rules ≡ length (paths_of (seen d))
  unfolding sample
  rules_are =
      length-map (distinct (one_visit d) (seen d)) (rule_at (seen d))
      ∙ sym (ap length paths_are ∙ length-map (distinct (one_visit d) (seen d)) (λ (v : Visit). v.path))

  path_below : (v : Visit) → Memᴰ v (seen d) → path_type d v.path < length (sample d).rules
  path_below v m =
      let (p, i, s) = place_found same_path v.path (paths_of (seen d)) (path_found d v m) in
      let b = at_below (paths_of (seen d)) (path_type d v.path) i in
      let l = rules_are in
      omega arith

  rule_below : (r : Rule) → Memᴰ r (sample d).rules → r.type < length (sample d).rules
  unfolding rule_at
  rule_below r m =
      let (v, n, e) = sample_rule d m in
      subst (λ (q : Rule). q.type < length (sample d).rules) e (path_below v n)

  child_below : (v : Visit) → Memᴰ v (seen d) → (n : Name) → Memᴰ n v.children
      → path_type d (v.path ++ (n ∷ [])) < length (sample d).rules
  child_below v m n c =
      let u = child_visited d v m n c in
      subst (λ (p : List Name). path_type d p < length (sample d).rules) u.at_path (path_below u.visit u.visited)

  content_is : {r : Rule} → Memᴰ r (sample d).rules → (p : List Name) × (r.content ≡ content_at (seen d) p)
  unfolding rule_at
  content_is m = let (v, n, e) = sample_rule d m in (v.path, sym (ap (λ (q : Rule). q.content) e))

  content_below : (r : Rule) → Memᴰ r (sample d).rules → (k : ℕ) → Memᴰ k (types_in r.content)
      → k < length (sample d).rules
  content_below r m k n =
      let (p, e) = content_is m in
      let c = content_type d p k (subst (λ (z : Content). Memᴰ k (types_in z)) e n) in
      subst (λ (i : ℕ). i < length (sample d).rules) c.of_type (child_below c.visit c.visited c.name c.child)

  content_counted : (lim : Limits) → ((v : Visit) → Memᴰ v (seen d) → length v.children ≤ lim.operands) → (r : Rule)
      → Memᴰ r (sample d).rules → Counted lim r.content
  content_counted lim few r m =
      let (p, e) = content_is m in
      subst (Counted lim) (sym (e ∙ content_at_lem d p))
      (choice_counted lim (sequences_at d p)
      (λ c l.
      let s = (sequence_at d p c).0 l in
      let v = s.visit in
      let n = few v s.visited in
      let o = length-map v.children (λ x. path_type d (v.path ++ (x ∷ []))) in
      subst (Counted lim) s.sequence (sequence_counted lim (child_types d v) (omega arith))))

  name_from : (n : Name) → Memᴰ n (sample d).labels → (v : Visit) × Memᴰ v (seen d) × (v.name ≡ n)
  unfolding sample names_of
  name_from n m =
      Memᴰ.of_map (λ (v : Visit). v.name) (seen d) (distinct_was same_name (map (λ (v : Visit). v.name) (seen d)) m)

  -- Every label is the label of some rule, so there are no more labels than rules.
  label_used : (l : ℕ) → l < length (sample d).labels → any_pass (λ (r : Rule). eqb r.label l) (sample d).rules ≡ true
  label_used l h =
      let (n, at) = below_at (sample d).labels l h in
      let (v, m, e) = name_from n (at_mem (sample d).labels l at) in
      let f = visit_fits d v m in
      let same = subst (λ (x : Name). SameName f.of_name.name x) e f.of_name.same in
      any_of (λ (r : Rule). eqb r.label l) f.of_table
      (eq-eqb f.rule.label l (sample_names d f.rule.label l f.of_name.name n f.of_name.listed at same))

  all_used : used_labels (sample d) ≡ numbers_below (length (sample d).labels)
  unfolding used_labels
  all_used =
      keep_all (λ l. any_pass (λ (r : Rule). eqb r.label l) (sample d).rules) (numbers_below (length (sample d).labels))
      (λ l m. label_used l ((numbers_below_lem (length (sample d).labels) l).0 m))

  few_labels : length (sample d).labels ≤ length (sample d).rules
  unfolding with_used_labels numbers_below
  few_labels =
      let few = used_labels_count (sample d) in
      let a = length-map (used_labels (sample d)) (λ l. get_or (sample d).labels l []) in
      let b = ap length all_used in
      let c = numbers_length zero (length (sample d).labels) in
      omega arith

module _ (lim : Limits) (classes : Classes) (agree : LimitsAgree lim) (d : Tree) (within : TreeWithin lim classes d) where
  sample_numbered : Numbered lim classes (sample d)
  unfolding all_distinct
  sample_numbered =
      let (v, m) = first_visit d in
      let some = path_below d v m in
      record {
        names =
            λ n o.
            let (u, p, e) = name_from d n o in
            subst (NameWithin lim classes) e (within.each_node (node_of_visit u) (visit_node d [] u p)).name;
        names_differ = sample_names d;
        start_types =
            λ k o.
            let z = (sample_start d k).0 o in
            omega arith;
        starts_differ = rw (sample-starts d);
        few_starts = rw (sample-starts d) (omega arith);
        rule_types = rule_below d;
        labelled = sample_labelled d;
        content_types = content_below d;
        counted =
            content_counted d lim
            (λ u p.
            let a = agree.children in
            let b = (within.each_node (node_of_visit u) (visit_node d [] u p)).children in
            omega arith);
      }

  pub sample_within : (g : Table) → sample_table lim d ≡ Ok g → TableWithin lim classes g
  unfolding sample_table of_size
  sample_within g e =
      let (small, same) = had_no_fault (too_large lim (sample d)) ResultTooLarge _ g e in
      subst (TableWithin lim classes) (given_eq same)
      (numbered_within lim classes agree (sample d) sample_numbered (few_labels d) (table_small lim (sample d) small))
