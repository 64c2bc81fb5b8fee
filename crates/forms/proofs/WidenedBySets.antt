-- Widening by sets of pairs, of either kind:
--   table_of_kind     the table that widening gives, unless it is too large
--   set_of_kind       its sets are of left pairs of one label each
--   rules_of_kind     its rules are those of its sets, rule_count as many as there are sets
--   regular_by_set    where there are no more sets than there may be types, the contents of its rules are regular
--   too_many_sets     where there are more, it is too large
use Prim.Native.Nat.{ℕ, zero, ◌≤◌, ◌<◌}
use native.Mathlib.Omega.{arith}
use mathlib.Core.Bool.{Bool, true, ◌||◌}
use mathlib.Core.List.Memᴰ
use mathlib.Core.List.{List, map, Memᴰ}
use mathlib.Core.Path.{◌≡◌, refl, sym, ◌∙◌, ap, subst}
use lib.ListN.{length, length-map}
use lib.Dec.{ltb}
use borrow.Author.Tests.{lt-ltb}
use Rattle.grammar.specs.Lists.{any_pass, numbers_below}
use Rattle.grammar.specs.Limits.{Limits, large}
use Rattle.grammar.specs.Table.{Rule, Table}
use Rattle.grammar.specs.WriteTable.{table_bytes}
use Rattle.grammar.specs.Size.{content_too_large, too_large}
use Rattle.grammar.specs.Kinds.{Kind, local, single_type}
use Rattle.grammar.specs.UsedLabels.{with_used_labels}
use Rattle.grammar.specs.Normalise.{normalise}
use Rattle.grammar.specs.Reduce.{reduce}
use Rattle.grammar.specs.SingleTypeForm.{TypeSet}
use Rattle.grammar.specs.Tidy.{tidy_table}
use Rattle.grammar.specs.Widen.{form}
use Rattle.theory.specs.Conditions.{Regular, all_letters}
use Rattle.theory.proofs.Lists.BoolLaws.{or_left}
use Rattle.theory.proofs.Lists.ListLaws.{numbers_below_lem, numbers_length}
use Rattle.theory.proofs.Bytes.NumberedTable.{Numbered, finished_numbered}
use Rattle.theory.proofs.Bytes.FormsNumbered.{form_numbered}
use Rattle.theory.proofs.Tables.RoomierLimits.{counted_roomier}
use Rattle.forms.specs.SetForms.{rule_by_set, table_by_sets, pairs_within, local_table, single_type_table, sets_of, table_of}
use Rattle.forms.proofs.UnionFit.{UnionFit}
use Rattle.forms.proofs.SetsFound.{SetOfLabel}
use Rattle.forms.proofs.TablesBySets.{FormOfSets}
use Rattle.forms.proofs.SingleTypeBySets.{single_type_set, single_form, single_by_sets}
use Rattle.forms.proofs.LocalBySets.{local_set, local_form_lem, local_by_sets}

module _ {lim : Limits} (u : Table) (fit : UnionFit lim u) where
  pub table_of_kind : (kind : Kind) → tidy_table (with_used_labels (form lim kind (reduce (normalise u)))) ≡ table_of lim kind u
  unfolding form table_of
  table_of_kind local = local_by_sets u fit
  table_of_kind single_type = single_by_sets u fit

  form_of_kind : (kind : Kind) → FormOfSets u (sets_of lim kind u) (pairs_within kind u) (form lim kind (reduce (normalise u)))
  unfolding form sets_of
  form_of_kind local = local_form_lem u fit
  form_of_kind single_type = single_form u fit

  -- its sets are of one label each
  pub set_of_kind : (kind : Kind) (s : TypeSet) → Memᴰ s (sets_of lim kind u) → SetOfLabel u s
  unfolding sets_of
  set_of_kind local = local_set u fit
  set_of_kind single_type = single_type_set u fit

  -- its rules are those of its sets
  pub rules_of_kind : (kind : Kind)
      → (table_of lim kind u).rules ≡ map (rule_by_set u (sets_of lim kind u) (pairs_within kind u)) (numbers_below (length (sets_of lim kind u)))
  unfolding table_of sets_of local_table single_type_table table_by_sets
  rules_of_kind local = refl
  rules_of_kind single_type = refl

  table_numbered : (kind : Kind) → length (sets_of lim kind u) ≤ lim.types → Numbered lim all_letters (table_of lim kind u)
  table_numbered kind few =
      let n = (form_of_kind kind).count in
      subst (Numbered lim all_letters) (table_of_kind kind)
      (finished_numbered lim all_letters (form lim kind (reduce (normalise u)))
      (form_numbered (reduce (normalise u)) fit.reduced lim all_letters fit.named fit.counted kind
      (omega arith)))

  -- as many as there are sets
  pub rule_count : (kind : Kind) → length (table_of lim kind u).rules ≡ length (sets_of lim kind u)
  unfolding numbers_below
  rule_count kind =
      ap length (rules_of_kind kind)
      ∙ length-map (numbers_below (length (sets_of lim kind u))) (rule_by_set u (sets_of lim kind u) (pairs_within kind u))
      ∙ numbers_length zero (length (sets_of lim kind u))

  types_room : lim.types ≤ 128
  unfolding large
  types_room = fit.room.types

  pub regular_by_set : (kind : Kind) → length (sets_of lim kind u) ≤ lim.types → (i : ℕ) → i < length (sets_of lim kind u)
      → Regular (rule_by_set u (sets_of lim kind u) (pairs_within kind u) i).content
  regular_by_set kind few i h =
      let rule = rule_by_set u (sets_of lim kind u) (pairs_within kind u) i in
      let t = table_numbered kind few in
      let m =
      subst (λ (rs : List Rule). Memᴰ rule rs) (sym (rules_of_kind kind))
      (Memᴰ.map (rule_by_set u (sets_of lim kind u) (pairs_within kind u)) ((numbers_below_lem (length (sets_of lim kind u)) i).1 h)) in
      record {
        counted = counted_roomier fit.room rule.content (t.counted rule m);
        below =
            λ k n.
            let b = t.content_types rule m k n in
            let c = rule_count kind in
            let room = types_room in
            omega arith;
      }

  pub too_many_sets : (kind : Kind) → lim.types < length (sets_of lim kind u) → too_large lim (table_of lim kind u) ≡ true
  unfolding too_large
  too_many_sets kind h =
      let table = table_of lim kind u in
      let is_large : (Rule → Bool) = λ r. content_too_large lim r.content in
      let many = ltb lim.types (length table.rules) in
      let n = rule_count kind in
      or_left (many || any_pass is_large table.rules) (ltb lim.input (length (table_bytes table)))
      (or_left many (any_pass is_large table.rules) (lt-ltb lim.types (length table.rules) (omega arith)))
