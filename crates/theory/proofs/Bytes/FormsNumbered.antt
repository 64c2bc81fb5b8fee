-- The form of a reduced table is numbered, of either kind, if it has at most as many types as there may be:
--   form_numbered : ReducedTable g → names and contents of g are so → length (form lim kind g).rules ≤ lim.types
--       → Numbered lim classes (form lim kind g)
use Prim.Native.Nat.{ℕ, zero, ◌≤◌, ◌<◌}
use native.Mathlib.Omega.{arith}
use mathlib.Core.Bool.{Bool, true}
use mathlib.Core.List.Memᴰ
use mathlib.Core.List.{Memᴰ}
use mathlib.Core.Path.{◌≡◌, sym, ap, subst}
use lib.ListN.{length, length-append, length-map}
use lib.Dec.{eqb}
use Rattle.grammar.specs.Lists.{any_pass, keep, all_distinct, numbers_below}
use Rattle.grammar.specs.Limits.{Limits}
use Rattle.grammar.specs.Names.{Name, Classes}
use Rattle.grammar.specs.Content.{types_in}
use Rattle.grammar.specs.Table.{Rule, Table}
use Rattle.grammar.specs.WithinLimits.{NameWithin}
use Rattle.grammar.specs.Kinds.{Kind, local, single_type}
use Rattle.grammar.specs.UsedLabels.{used_labels}
use Rattle.grammar.specs.LocalForm.{label_of, type_of_label, rule_of_label, local_form}
use Rattle.grammar.specs.SingleTypeForm.{start_sets, all_sets, single_type_form}
use Rattle.grammar.specs.Widen.{form}
use Rattle.theory.proofs.Lists.ListLaws.{
  kept,
  mem_at,
  at_below,
  numbers_below_lem,
  numbers_differ,
  numbers_length,
  keep_differ,
  keep_shorter,
  eqb_decides,
}
use Rattle.theory.proofs.Lists.PlaceLaws.{place_of}
use Rattle.theory.proofs.Tables.ReducedTable.{ReducedTable}
use Rattle.theory.proofs.Steps.LocalMerge.{local_form_names, local_form_labelled, merged, merged_at}
use Rattle.theory.proofs.Steps.SetsClosed.{starts_first}
use Rattle.theory.proofs.Steps.SingleTypeMerge.{
  single_type_form-labels,
  single_type_form_names,
  single_type_form_length,
  single_type_form_place,
  single_type_form_labelled,
  single_type_form_starts,
  single_type_form_types,
}
use Rattle.theory.proofs.Bytes.CountedTables.{RulesCounted, local_counted, single_type_counted}
use Rattle.theory.proofs.Bytes.NumberedTable.{Numbered}
use Rattle.theory.proofs.Tables.TableConditions.{HasRule}
use Rattle.theory.proofs.Contents.Standing.{merge_type}

-- numbers kept of those below a bound
module _ (test : ℕ → Bool) (n : ℕ) where
  pub few_kept : length (keep test (numbers_below n)) ≤ n
  unfolding numbers_below
  few_kept =
      let a = keep_shorter test (numbers_below n) in
      let b = numbers_length zero n in
      omega arith

module _ (g : Table) (reduced : ReducedTable g) where
  -- the type of a used label is its place among them
  label_below : (l : ℕ) → Memᴰ l (used_labels g) → type_of_label g l < length (used_labels g)
  unfolding type_of_label
  label_below l m = at_below (used_labels g) (type_of_label g l) (place_of eqb eqb_decides m)

  merged_below : (k : ℕ) → HasRule g k → type_of_label g (label_of g k) < length (used_labels g)
  unfolding merged
  merged_below k h = at_below (used_labels g) (merged g k) (merged_at g reduced h)

  local_rules : length (local_form g).rules ≡ length (used_labels g)
  unfolding local_form
  local_rules = length-map (used_labels g) (rule_of_label g)

  local_types : (r : Rule) → Memᴰ r (local_form g).rules → (k : ℕ) → Memᴰ k (types_in r.content)
      → k < length (used_labels g)
  unfolding local_form rule_of_label
  local_types r m k n =
      let (l, o, e) = Memᴰ.of_map (rule_of_label g) (used_labels g) m in
      let of_label = keep (λ (s : Rule). eqb s.label l) g.rules in
      let (s, t, j, u, v) =
      merge_type (λ j. type_of_label g (label_of g j)) of_label k
      (subst (λ (q : Rule). Memᴰ k (types_in q.content)) (sym e) n) in
      rw (← v) (merged_below j (reduced.content_rules s (kept (λ (s : Rule). eqb s.label l) g.rules t).0 j u))

  local_rule_types : (r : Rule) → Memᴰ r (local_form g).rules → r.type < length (used_labels g)
  unfolding local_form rule_of_label
  local_rule_types r m =
      let (l, o, e) = Memᴰ.of_map (rule_of_label g) (used_labels g) m in
      subst (λ (q : Rule). q.type < length (used_labels g)) e (label_below l o)

  single_type_starts_differ : (lim : Limits) → all_distinct eqb (single_type_form lim g).starts ≡ true
  unfolding single_type_form
  single_type_starts_differ lim = numbers_differ (length (start_sets g))

  few_single_type_starts : (lim : Limits) → length (single_type_form lim g).starts ≤ length (all_sets lim g)
  unfolding single_type_form numbers_below
  few_single_type_starts lim =
      let (rest, e) = starts_first lim g in
      let a = numbers_length zero (length (start_sets g)) in
      let b = ap length e in
      let c = length-append (start_sets g) rest in
      omega arith

  module _ (lim : Limits) (classes : Classes) (named : (n : Name) → Memᴰ n g.labels → NameWithin lim classes n)
      (counted : RulesCounted lim g.rules) where
    local_numbered : Numbered lim classes (local_form g)
    unfolding local_form
    local_numbered =
        let used = length (used_labels g) in
        let rules = local_rules in
        let is_start : ℕ → Bool = λ t. any_pass (λ k. eqb (type_of_label g (label_of g k)) t) g.starts in
        record {
          names = named;
          names_differ = local_form_names g reduced.names;
          start_types =
              λ k m.
              let b = (numbers_below_lem used k).0 (kept is_start (numbers_below used) m).0 in
              omega arith;
          starts_differ = keep_differ eqb is_start (numbers_below used) (numbers_differ used);
          few_starts = let few = few_kept is_start used in omega arith;
          rule_types = λ r m. let b = local_rule_types r m in omega arith;
          labelled = local_form_labelled g;
          content_types = λ r m k n. let b = local_types r m k n in omega arith;
          counted = local_counted lim g counted;
        }

    single_type_numbered : length (all_sets lim g) ≤ lim.types → Numbered lim classes (single_type_form lim g)
    single_type_numbered few =
        let rules = single_type_form_length lim g in
        record {
          names = λ n m. named n (rw (single_type_form-labels lim g) at m);
          names_differ = single_type_form_names lim g reduced.names;
          start_types = λ k m. let b = single_type_form_starts lim g reduced k m in omega arith;
          starts_differ = single_type_starts_differ lim;
          few_starts = let b = few_single_type_starts lim in omega arith;
          rule_types =
              λ r m.
              let (i, at) = mem_at m in
              let e = single_type_form_place lim g reduced i at in
              let b = at_below (single_type_form lim g).rules i at in
              omega arith;
          labelled = single_type_form_labelled lim g reduced;
          content_types = λ r m k n. let b = single_type_form_types lim g reduced few r m k n in omega arith;
          counted = single_type_counted lim g counted;
        }

    pub form_numbered : (kind : Kind) → length (form lim kind g).rules ≤ lim.types → Numbered lim classes (form lim kind g)
    unfolding form
    form_numbered local few = local_numbered
    form_numbered single_type few = let n = single_type_form_length lim g in single_type_numbered (omega arith)
