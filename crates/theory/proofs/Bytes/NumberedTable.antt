-- Tables as the forms and the sample give them: the types are numbers below the number of rules, and contents are counted.
--     numbered_within      such a table, of no more labels than rules and not too large, is one that a file can hold
--     finished_numbered    it stays such when only its used labels are kept and its contents are tidied
--     table_small          what not being too large says
-- where the limits agree, as those of every size do (`sized_agree`).
use Prim.Native.Nat.{ℕ, ◌≤◌, ◌<◌}
use native.Mathlib.Omega.{arith}
use mathlib.Core.Bool.{Bool, true, false}
use mathlib.Core.List.Memᴰ
use mathlib.Core.List.{[], Memᴰ}
use mathlib.Core.Path.{◌≡◌, subst}
use lib.ListN.{length, length-map, get_or}
use lib.Dec.{eqb, ltb}
use borrow.Author.Tests.{ltb-false}
use Rattle.grammar.specs.Lists.{any_pass, all_distinct}
use Rattle.grammar.specs.Limits.{Limits, LimitsAgree, limits_for}
use Rattle.grammar.specs.Names.{Name, same_name, Classes}
use Rattle.grammar.specs.Content.{Content, types_in, nesting}
use Rattle.grammar.specs.Table.{Rule, Table, DistinctNames}
use Rattle.grammar.specs.ReadContent.{content_bytes}
use Rattle.grammar.specs.WriteTable.{table_bytes}
use Rattle.grammar.specs.WithinLimits.{NameWithin, ContentWithin, TableWithin}
use Rattle.grammar.specs.Size.{widest_choice, content_too_large, too_large}
use Rattle.grammar.specs.UsedLabels.{used_labels, with_used_labels}
use Rattle.grammar.specs.Tidy.{tidy_table}
use Rattle.theory.specs.Conditions.{Labelled}
use Rattle.theory.proofs.Lists.BoolLaws.{or_false, false_of, not_both}
use Rattle.theory.proofs.Lists.ListLaws.{any_of, at_mem, at_or_else, all_differ, related_mem, related_length}
use Rattle.theory.proofs.Steps.TidyTable.{tidy_labels, tidy_same_rules}
use Rattle.theory.proofs.Steps.UsedLabelsDocuments.{used_below, used_labels_names, used_labels_count, used_labels_same_rules}
use Rattle.theory.proofs.Contents.CountedContents.{counted_proper, tidy_counted}
use Rattle.theory.proofs.Steps.FinishedForm.{finished}
use Rattle.theory.proofs.Tables.SameRules.{SameRules, same_labelled}
use Rattle.theory.proofs.Bytes.CountedTables.{RulesCounted, map_counted}

-- the limits that a size sets agree, whatever its four numbers are
pub sized_agree : (rules nodes levels words : ℕ) → LimitsAgree (limits_for rules nodes levels words)
sized_agree rules nodes levels words = record { labels = omega arith; starts = omega arith; rules = omega arith; children = omega arith }

pub record Numbered (lim : Limits) (classes : Classes) (g : Table) : Type 0 where
  pub names : (n : Name) → Memᴰ n g.labels → NameWithin lim classes n
  pub names_differ : DistinctNames g
  pub start_types : (k : ℕ) → Memᴰ k g.starts → k < length g.rules
  pub starts_differ : all_distinct eqb g.starts ≡ true
  pub few_starts : length g.starts ≤ length g.rules
  pub rule_types : (r : Rule) → Memᴰ r g.rules → r.type < length g.rules
  pub labelled : Labelled g
  pub content_types : (r : Rule) → Memᴰ r g.rules → (k : ℕ) → Memᴰ k (types_in r.content) → k < length g.rules
  pub counted : RulesCounted lim g.rules

-- what is not too large
record ContentSmall (lim : Limits) (c : Content) : Type 0 where
  size : length (content_bytes c) ≤ lim.content
  nests : nesting c ≤ lim.nesting
  narrow : widest_choice c ≤ lim.operands

content_small : (lim : Limits) (c : Content) → content_too_large lim c ≡ false → ContentSmall lim c
unfolding content_too_large
content_small lim c e =
    let (p, w) = or_false _ (ltb lim.operands (widest_choice c)) e in
    let (s, n) = or_false (ltb lim.content (length (content_bytes c))) (ltb lim.nesting (nesting c)) p in
    record {
      size = ltb-false lim.content (length (content_bytes c)) s;
      nests = ltb-false lim.nesting (nesting c) n;
      narrow = ltb-false lim.operands (widest_choice c) w;
    }

pub record TableSmall (lim : Limits) (g : Table) : Type 0 where
  pub few : length g.rules ≤ lim.types
  pub contents : (r : Rule) → Memᴰ r g.rules → content_too_large lim r.content ≡ false
  pub size : length (table_bytes g) ≤ lim.input

pub table_small : (lim : Limits) (g : Table) → too_large lim g ≡ false → TableSmall lim g
unfolding too_large
table_small lim g e =
    let large : Rule → Bool = λ r. content_too_large lim r.content in
    let (p, s) = or_false _ (ltb lim.input (length (table_bytes g))) e in
    let (f, c) = or_false (ltb lim.types (length g.rules)) (any_pass large g.rules) p in
    record {
      few = ltb-false lim.types (length g.rules) f;
      contents = λ r m. false_of (content_too_large lim r.content) (λ t. not_both (any_of large m t) c);
      size = ltb-false lim.input (length (table_bytes g)) s;
    }

module _ (lim : Limits) (classes : Classes) (agree : LimitsAgree lim) (g : Table) where
  pub numbered_within : Numbered lim classes g → length g.labels ≤ length g.rules → TableSmall lim g
      → TableWithin lim classes g
  numbered_within h l small =
      let a = agree.labels in
      let b = agree.starts in
      let c = agree.rules in
      let few = small.few in
      let s = h.few_starts in
      record {
        names = h.names;
        labels_differ = all_differ same_name g.labels h.names_differ;
        labels = omega arith;
        start_types = λ k m. let t = h.start_types k m in omega arith;
        starts_differ = h.starts_differ;
        starts = omega arith;
        each_rule =
            λ r m.
            let t = h.rule_types r m in
            record { type = omega arith; label = h.labelled r m; content = content r m };
        rules = omega arith;
        size = small.size;
      }
    where
      content : (r : Rule) → Memᴰ r g.rules → ContentWithin lim r.content
      content r m =
          let s = content_small lim r.content (small.contents r m) in
          let few = small.few in
          record {
            proper =
                counted_proper r.content lim (h.counted r m) s.narrow
                (λ k n. let t = h.content_types r m k n in omega arith);
            size = s.size;
            nests = s.nests;
          }

module _ (lim : Limits) (classes : Classes) where
  -- a table with rules as those of another, counted, and names of it
  like_numbered : {Label : ℕ → ℕ → Type 0} (g h : Table) → SameRules Label g h
      → ((n : Name) → Memᴰ n h.labels → Memᴰ n g.labels) → DistinctNames h → RulesCounted lim h.rules
      → Numbered lim classes g → Numbered lim classes h
  like_numbered g h same named differ counted n =
      let starts = same.starts in
      let rules = related_length same.rules in
      record {
        names = λ x m. n.names x (named x m);
        names_differ = differ;
        start_types = λ k m. rw (← rules) (n.start_types k (rw starts m));
        starts_differ = rw (← starts) n.starts_differ;
        few_starts = rw (← starts, ← rules) n.few_starts;
        rule_types =
            λ r m.
            let (s, o, a) = related_mem same.rules m in
            let e = a.type in
            let below = n.rule_types s o in
            omega arith;
        labelled = same_labelled same n.labelled;
        content_types =
            λ r m k p.
            let (s, o, a) = related_mem same.rules m in
            rw (← rules) (n.content_types s o k ((a.types k).1 p));
        counted = counted;
      }

  used_numbered : (g : Table) → Numbered lim classes g → Numbered lim classes (with_used_labels g)
  unfolding with_used_labels
  used_numbered g n =
      like_numbered g (with_used_labels g) (used_labels_same_rules g n.labelled) named (used_labels_names g n.names_differ)
      (map_counted lim _ g.rules n.counted) n
    where
      named : (x : Name) → Memᴰ x (with_used_labels g).labels → Memᴰ x g.labels
      named x m =
          let (l, p, e) = Memᴰ.of_map (λ l. get_or g.labels l []) (used_labels g) m in
          subst (λ (y : Name). Memᴰ y g.labels) e
          (at_mem g.labels l (at_or_else g.labels l [] (used_below g p)))

  tidy_numbered : (g : Table) → Numbered lim classes g → Numbered lim classes (tidy_table g)
  unfolding tidy_table
  tidy_numbered g n =
      like_numbered g (tidy_table g) (tidy_same_rules g) (λ x m. m) n.names_differ
      (map_counted lim _ g.rules (λ r m. tidy_counted lim r.content (n.counted r m))) n

  pub finished_numbered : (g : Table) → Numbered lim classes g → Numbered lim classes (finished g)
  finished_numbered g n = tidy_numbered (with_used_labels g) (used_numbered g n)

pub finished_rules : (g : Table) → length (finished g).rules ≡ length g.rules
unfolding tidy_table with_used_labels
finished_rules g = simp length-map

-- of used labels there are no more than rules
pub finished_labels : (g : Table) → length (finished g).labels ≤ length (finished g).rules
finished_labels g = rw (finished_rules g, tidy_labels (with_used_labels g)) (used_labels_count g)
