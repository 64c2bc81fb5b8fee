-- The single-type form of a union's reduced normal form, by sets of pairs:
--   single_by_sets : tidy_table (with_used_labels (single_type_form lim (reduce (normalise u)))) ≡ single_type_table lim u
-- and its sets are of one label each, single_type_set.
use Prim.Native.Nat.{ℕ}
use mathlib.Core.List.{List, Memᴰ}
use mathlib.Core.Path.{◌≡◌, refl, sym, ◌∙◌, ap, ap₂, subst, fun_ext}
use lib.ListN.{length, get_or}
use Rattle.grammar.specs.Lists.{joined_of, place, is_in, same_numbers, numbers_below}
use Rattle.grammar.specs.Limits.{Limits}
use Rattle.grammar.specs.Content.{Content}
use Rattle.grammar.specs.Table.{Rule, Table}
use Rattle.grammar.specs.UsedLabels.{with_used_labels}
use Rattle.grammar.specs.Normalise.{pairs_of, normalise}
use Rattle.grammar.specs.Reduce.{fruitful, without_unfruitful, without_unreached, reduce}
use Rattle.grammar.specs.LocalForm.{label_of}
use Rattle.grammar.specs.SingleTypeForm.{TypeSet, of_label, types_met, content_of_set, rule_of_set, single_type_form, text_of_set, members}
use Rattle.grammar.specs.Tidy.{tidy, tidy_table}
use Rattle.theory.specs.Alternatives.{alts, one_content, results_of}
use Rattle.theory.proofs.Lists.ListLaws.{at_mem, at_map, just_eq, in_mem, mem_in}
use Rattle.theory.proofs.Emission.EmittedRule.{set_content}
use Rattle.theory.proofs.Steps.SetsClosed.{OneLabelSet, sets_induct, set_met, start_set}
use Rattle.theory.proofs.Steps.SingleTypeMerge.{single_type_form_length, single_type_form_place}
use Rattle.union.specs.PairNumbers.{met_in}
use Rattle.forms.specs.SetForms.{
  label_left,
  set_number,
  set_label,
  content_by_set,
  met_within,
  single_type_sets,
  single_type_table,
  table_by_sets,
  text_by_set,
}
use Rattle.forms.proofs.UnionFit.{UnionFit}
use Rattle.forms.proofs.StandingPairs.{
  AllLeft,
  left_pair,
  left_label,
  label_set,
  contents_of_set,
  types_met_lem,
  met_left,
  text_of_pairs,
}
use Rattle.forms.proofs.SetsFound.{SetOfLabel, set_of_label, labelled_pair, start_sets_lem, start_left, label_of_left}
use Rattle.forms.proofs.TablesBySets.{FormOfSets, table_by_sets_lem}

module _ {lim : Limits} (u : Table) (fit : UnionFit lim u) where
  abbrev reduced : Table
  reduced = reduce (normalise u)

  -- the set of the label of a left type
  one_label_set : (types : List ℕ) → AllLeft u types → {s : TypeSet}
      → OneLabelSet (reduce (normalise u)) types s → SetOfLabel u s
  one_label_set types left {s} o =
      let l = label_of reduced o.type in
      let h = left o.type o.listed in
      subst (SetOfLabel u) (sym (o.alike ∙ label_set u types left l))
      (set_of_label u fit (λ p. is_in p types) (λ p e. left p (in_mem p types e)) l
      ((labelled_pair u (λ p. is_in p types) l o.type).1
      (record {
        below = (left_pair u o.type h).below;
        listed = mem_in o.listed;
        label = sym (label_of_left u o.type h);
      })))

  starts_left : AllLeft u (reduce (normalise u)).starts
  unfolding reduce without_unreached
  starts_left = start_left u

  pub single_type_set : (s : TypeSet) → Memᴰ s (single_type_sets lim u) → SetOfLabel u s
  single_type_set =
      sets_induct lim reduced (SetOfLabel u)
      (λ s m. one_label_set reduced.starts starts_left ((start_set reduced fit.reduced s).0 m))
      (λ s t f m.
      one_label_set (types_met reduced s)
      (subst (AllLeft u) (sym (types_met_lem u s f.left)) (met_left u s f.left))
      ((set_met reduced s t).0 m))

  content_of_set_lem : (sets : List TypeSet) (s : TypeSet) → AllLeft u s
      → tidy (content_of_set (reduce (normalise u)) sets s) ≡ content_by_set u sets (met_within u s) s
  unfolding content_by_set set_number
  content_of_set_lem sets s left =
      set_content u fit.labelled sets s
      ∙ ap₂
      (λ (target : ℕ → ℕ) (cs : List Content).
      one_content (joined_of (alts (results_of (pairs_of u) (fruitful (normalise u)) target)) cs))
      (fun_ext (λ p.
      ap (λ (t : TypeSet). place same_numbers t sets)
      (ap₂ (of_label reduced) (types_met_lem u s left) (left_label u p)
      ∙ label_set u (met_in u (λ q. is_in q s)) (met_left u s left) (label_left u p))))
      (contents_of_set u s left)

  text_of_set_lem : (s : TypeSet) → AllLeft u s → text_of_set (reduce (normalise u)) s ≡ text_by_set u s
  unfolding text_of_set members
  text_of_set_lem s left =
      text_of_pairs u fit.labelled s left (λ (r : Rule). is_in r.type s)
      (λ p e.
      let first = (left_pair u p e).first in
      (λ t. in_mem p s (ap (λ (q : ℕ). is_in q s) (sym first) ∙ t), λ m. ap (λ (q : ℕ). is_in q s) first ∙ mem_in m))

  pub single_form : FormOfSets u (single_type_sets lim u) (met_within u) (single_type_form lim (reduce (normalise u)))
  unfolding single_type_form rule_of_set set_label reduce without_unreached without_unfruitful normalise
  single_form =
      record {
        labels = refl;
        count = single_type_form_length lim reduced;
        rule =
            λ i s r p q.
            let (t, at, e) = at_map (rule_of_set reduced (single_type_sets lim u)) (single_type_sets lim u) i q in
            let same : t ≡ s = just_eq (sym p ∙ at) in
            let h = single_type_set s (at_mem (single_type_sets lim u) i p) in
            let made = sym e ∙ ap (rule_of_set reduced (single_type_sets lim u)) same in
            record {
              type = single_type_form_place lim reduced fit.reduced i q;
              label = ap (λ (x : Rule). x.label) made ∙ label_of_left u (get_or s 0 0) (h.left (get_or s 0 0) h.first);
              content = ap (λ (x : Rule). tidy x.content) made ∙ content_of_set_lem (single_type_sets lim u) s h.left;
              text = ap (λ (x : Rule). x.text) made ∙ text_of_set_lem s h.left;
            };
      }

  pub single_by_sets : tidy_table (with_used_labels (single_type_form lim (reduce (normalise u)))) ≡ single_type_table lim u
  unfolding single_type_table single_type_form
  single_by_sets =
      table_by_sets_lem u (single_type_sets lim u) (met_within u) (single_type_form lim reduced) single_form
      ∙ ap (λ (sets : List TypeSet). table_by_sets u (single_type_sets lim u) (met_within u) (numbers_below (length sets))) (start_sets_lem u)
