-- Tables of counted contents: the steps of widening keep the contents counted, and the names among those of the two tables.
--     union_counted    the contents of the reduced union, if those of both tables are counted
--     map_counted      the contents of rules made of rules
--     local_counted, single_type_counted    the contents of the forms of a table whose contents are
--     union_name       a name of the reduced union is a name of one of the two tables
use Prim.Native.Nat.{ℕ}
use mathlib.Core.Bool.{Bool, not}
use mathlib.Core.List.Memᴰ
use mathlib.Core.List.{List, map, Memᴰ}
use mathlib.Core.Logic.{◌⊎◌, inl, inr, ⊎_elim}
use mathlib.Core.Path.{subst}
use lib.Dec.{eqb}
use Rattle.grammar.specs.Lists.{any_pass, keep, distinct, place, is_in, same_numbers}
use Rattle.grammar.specs.Limits.{Limits}
use Rattle.grammar.specs.Names.{Name, same_name, Classes}
use Rattle.grammar.specs.Content.{Content, type, choice_of, replace}
use Rattle.grammar.specs.Table.{Rule, Table}
use Rattle.grammar.specs.WithinLimits.{TableWithin}
use Rattle.grammar.specs.KindTests.{same_pair}
use Rattle.grammar.specs.Unite.{united_labels, shifted, added, unite}
use Rattle.grammar.specs.Normalise.{pairs_of, in_pairs, rule_of_pair, normalise}
use Rattle.grammar.specs.Reduce.{fruitful, without_unfruitful, without_unreached, reduce}
use Rattle.grammar.specs.UsedLabels.{used_labels}
use Rattle.grammar.specs.LocalForm.{label_of, type_of_label, rule_of_label, local_form}
use Rattle.grammar.specs.SingleTypeForm.{of_label, members, types_met, all_sets, content_of_set, rule_of_set, single_type_form}
use Rattle.grammar.specs.Widen.{reduced_union}
use Rattle.theory.specs.Conditions.{Counted}
use Rattle.theory.proofs.Lists.ListLaws.{kept}
use Rattle.theory.proofs.Contents.CountedContents.{proper_counted, choice_counted, replace_counted, prune_counted}

module _ (lim : Limits) where
  abbrev pub RulesCounted : List Rule → Type 0
  RulesCounted rs = (r : Rule) → Memᴰ r rs → Counted lim r.content

  pub within_counted : (classes : Classes) (g : Table) → TableWithin lim classes g → RulesCounted g.rules
  within_counted classes g within r m = proper_counted r.content lim (within.each_rule r m).content.proper

  -- rules made of rules by a step that keeps contents counted
  pub map_counted : (f : Rule → Rule) (rs : List Rule) → ((r : Rule) → Memᴰ r rs → Counted lim (f r).content)
      → RulesCounted (map f rs)
  map_counted f rs h r m =
      let (s, n, e) = Memᴰ.of_map f rs m in
      subst (λ (q : Rule). Counted lim q.content) e (h s n)

  kept_counted : (test : Rule → Bool) (rs : List Rule) → RulesCounted rs → RulesCounted (keep test rs)
  kept_counted test rs h r m = h r (kept test rs m).0

  -- the choice of contents made of the contents of rules
  choices_counted : (f : Rule → Content) (rs : List Rule) → RulesCounted rs
      → ((r : Rule) → Counted lim r.content → Counted lim (f r)) → Counted lim (choice_of (map f rs))
  choices_counted f rs h k =
      choice_counted lim (map f rs)
      (λ c m.
      let (r, n, e) = Memᴰ.of_map f rs m in
      subst (Counted lim) e (k r (h r n)))

  renamed_counted : (f : ℕ → ℕ) (c : Content) → Counted lim c → Counted lim (replace c (λ k. type (f k)))
  renamed_counted f c h = replace_counted lim (λ k. type (f k)) (λ k. tt) c h

  unite_counted : (old addition : Table) → RulesCounted old.rules → RulesCounted addition.rules
      → RulesCounted (unite lim old addition).rules
  unfolding unite
  unite_counted old addition p q r m =
      ⊎_elim
      (p r)
      (map_counted (added lim old addition) addition.rules (λ s n. renamed_counted (shifted lim) s.content (q s n)) r)
      (Memᴰ.append_cases old.rules m)

  pairs_counted : (g : Table) (c : Content) → Counted lim c → Counted lim (in_pairs g c)
  unfolding in_pairs
  pairs_counted g c h =
      replace_counted lim (λ k. choice_of (map type (pairs_of g k)))
      (λ k.
      choice_counted lim (map type (pairs_of g k))
      (λ d m. let (p, n, e) = Memᴰ.of_map type (pairs_of g k) m in subst (Counted lim) e tt))
      c
      h

  normalise_counted : (g : Table) → RulesCounted g.rules → RulesCounted (normalise g).rules
  unfolding normalise rule_of_pair
  normalise_counted g h =
      map_counted (rule_of_pair g) (distinct same_pair g.rules)
      (λ r m.
      choices_counted (λ s. in_pairs g s.content) (keep (same_pair r) g.rules) (kept_counted (same_pair r) g.rules h)
      (λ s. pairs_counted g s.content))

  reduce_counted : (g : Table) → RulesCounted g.rules → RulesCounted (reduce g).rules
  unfolding reduce without_unreached without_unfruitful
  reduce_counted g h =
      kept_counted _ (without_unfruitful g).rules
      (map_counted _ (keep (λ (r : Rule). is_in r.type (fruitful g)) g.rules)
      (λ r m.
      prune_counted lim (fruitful g) r.content
      (kept_counted (λ (r : Rule). is_in r.type (fruitful g)) g.rules h r m)))

  pub union_counted : (old addition : Table) → RulesCounted old.rules → RulesCounted addition.rules
      → RulesCounted (reduced_union lim old addition).rules
  unfolding reduced_union
  union_counted old addition p q =
      reduce_counted (normalise (unite lim old addition))
      (normalise_counted (unite lim old addition) (unite_counted old addition p q))

  pub union_name : (old addition : Table) (n : Name) → Memᴰ n (reduced_union lim old addition).labels
      → Memᴰ n old.labels ⊎ Memᴰ n addition.labels
  unfolding reduced_union reduce without_unreached without_unfruitful normalise unite united_labels
  union_name old addition n m =
      ⊎_elim
      inl
      (λ o. inr (kept (λ x. not (any_pass (same_name x) old.labels)) addition.labels o).0)
      (Memᴰ.append_cases old.labels m)

  pub local_counted : (g : Table) → RulesCounted g.rules → RulesCounted (local_form g).rules
  unfolding local_form rule_of_label
  local_counted g h r m =
      let (l, n, e) = Memᴰ.of_map (rule_of_label g) (used_labels g) m in
      subst (λ (q : Rule). Counted lim q.content) e
      (choices_counted _ (keep (λ (s : Rule). eqb s.label l) g.rules) (kept_counted _ g.rules h)
      (λ s. renamed_counted (λ k. type_of_label g (label_of g k)) s.content))

  pub single_type_counted : (g : Table) → RulesCounted g.rules → RulesCounted (single_type_form lim g).rules
  unfolding single_type_form rule_of_set content_of_set members
  single_type_counted g h r m =
      let (s, n, e) = Memᴰ.of_map (rule_of_set g (all_sets lim g)) (all_sets lim g) m in
      subst (λ (q : Rule). Counted lim q.content) e
      (choices_counted _ (members g s) (kept_counted _ g.rules h)
      (λ q. renamed_counted (λ k. place same_numbers (of_label g (types_met g s) (label_of g k)) (all_sets lim g)) q.content))
