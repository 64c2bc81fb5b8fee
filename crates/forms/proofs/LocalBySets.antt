-- The local form of a union's reduced normal form, by sets of pairs:
--   local_by_sets : tidy_table (with_used_labels (local_form (reduce (normalise u)))) ≡ local_table u
-- and its sets are of one label each, local_set.
use Prim.Native.Nat.{ℕ}
use mathlib.Core.Bool.{Bool, true, not, ◌&&◌}
use mathlib.Core.List.Memᴰ
use mathlib.Core.List.{List, map, Memᴰ}
use mathlib.Core.Option.{some as just}
use mathlib.Core.Path.{◌≡◌, refl, sym, ◌∙◌, ap, ap₂, subst, fun_ext}
use lib.ListN.{length, length-map, get_elem?}
use lib.Dec.{eqb}
use borrow.Author.Tests.{eqb-true, eq-eqb}
use Rattle.grammar.specs.Lists.{any_pass, keep, joined_of, place, is_in, same_numbers, numbers_below}
use Rattle.grammar.specs.Limits.{Limits}
use Rattle.grammar.specs.Content.{Content}
use Rattle.grammar.specs.Table.{Rule, Table}
use Rattle.grammar.specs.ReadTable.{is_empty}
use Rattle.grammar.specs.UsedLabels.{used_labels, with_used_labels}
use Rattle.grammar.specs.Normalise.{pairs_of, normalise}
use Rattle.grammar.specs.Reduce.{fruitful, without_unfruitful, without_unreached, reduce}
use Rattle.grammar.specs.LocalForm.{label_of, type_of_label, rule_of_label, local_form}
use Rattle.grammar.specs.SingleTypeForm.{TypeSet}
use Rattle.grammar.specs.Tidy.{tidy, tidy_table}
use Rattle.theory.specs.Alternatives.{alts, one_content, results_of}
use Rattle.theory.proofs.Lists.BoolLaws.{same_test}
use Rattle.theory.proofs.Lists.ListLaws.{
  any_found,
  any_of,
  kept,
  at_mem,
  at_map,
  just_eq,
  one_place,
  eqb_decides,
  in_mem,
  numbers_below_lem,
  some_mem,
  mem_some,
}
use Rattle.theory.proofs.Lists.PlaceLaws.{place_of, place_image}
use Rattle.theory.proofs.Emission.EmittedRule.{pair_contents, pairs_standing, local_content}
use Rattle.theory.proofs.Steps.UsedLabelsDocuments.{used_differ}
use Rattle.union.specs.PairNumbers.{rule_numbered, is_left, contents_in}
use Rattle.forms.specs.SetForms.{
  pairs_labelled,
  label_sets,
  label_left,
  set_number,
  set_label,
  content_by_set,
  local_sets,
  local_starts,
  local_table,
  table_by_sets,
  text_by_set,
}
use Rattle.forms.proofs.KeptLists.{in_kept}
use Rattle.forms.proofs.UnionFit.{UnionFit}
use Rattle.forms.proofs.StandingPairs.{left_pair, left_label, rule_left_lem, left_rule, set_contents, text_of_pairs}
use Rattle.forms.proofs.SetsFound.{
  SetOfLabel,
  set_of_label,
  label_of_set,
  labelled_pair,
  labels_with_set,
  label_sets_are,
  same_label_lem,
}
use Rattle.forms.proofs.TablesBySets.{FormOfSets, table_by_sets_lem}

module _ (u : Table) where
  abbrev reduced : Table
  reduced = reduce (normalise u)

  abbrev set_of : ℕ → TypeSet
  set_of = pairs_labelled u (is_left u)

  -- the labels used are those that have a set
  labels_used : used_labels (reduce (normalise u)) ≡ labels_with_set u (is_left u)
  unfolding used_labels reduce without_unreached without_unfruitful normalise
  labels_used =
      ap (λ test. keep test (numbers_below (length u.labels)))
      (fun_ext (λ l.
      same_test (any_pass (λ (r : Rule). eqb r.label l) reduced.rules) (not (is_empty (set_of l))) (there l, back l)))
    where
      there : (l : ℕ) → any_pass (λ (r : Rule). eqb r.label l) reduced.rules ≡ true → not (is_empty (set_of l)) ≡ true
      there l e =
          let (r, m, t) = any_found (λ (r : Rule). eqb r.label l) reduced.rules e in
          let (q, h, f) = rule_left_lem u r m in
          mem_some
          ((labelled_pair u (is_left u) l q).1
          (record {
            below = (left_pair u q h).below;
            listed = h;
            label = ap (λ (s : Rule). s.label) f ∙ eqb-true r.label l t;
          }))

      back : (l : ℕ) → not (is_empty (set_of l)) ≡ true → any_pass (λ (r : Rule). eqb r.label l) reduced.rules ≡ true
      back l e =
          let (p, m) = some_mem (set_of l) e in
          let h = (labelled_pair u (is_left u) l p).0 m in
          any_of (λ (r : Rule). eqb r.label l) (left_rule u p h.listed) (eq-eqb (rule_numbered u p).label l h.label)

  local_sets_lem : label_sets u (is_left u) ≡ map (pairs_labelled u (is_left u)) (used_labels (reduce (normalise u)))
  local_sets_lem = label_sets_are u (is_left u) ∙ ap (map set_of) (sym labels_used)

  -- a used label has a set with a member
  used_member : {l : ℕ} → Memᴰ l (used_labels (reduce (normalise u))) → (p : ℕ) × Memᴰ p (pairs_labelled u (is_left u) l)
  used_member {l} m =
      some_mem (set_of l)
      (kept (λ l. not (is_empty (set_of l))) (numbers_below (length u.labels))
      (subst (λ (ls : List ℕ). Memᴰ l ls) labels_used m)).1

  -- the number of a label's set is that of the label among the used ones
  set_place : (l : ℕ) → type_of_label (reduce (normalise u)) l
      ≡ place same_numbers (pairs_labelled u (is_left u) l) (label_sets u (is_left u))
  unfolding type_of_label
  set_place l =
      place_image set_of eqb same_numbers l (used_labels reduced)
      (λ y m. let (p, n) = used_member m in same_label_lem u (is_left u) l y p n)
      ∙ ap (place same_numbers (set_of l)) (sym local_sets_lem)

  set_number_lem : (λ p. type_of_label (reduce (normalise u)) (label_of (reduce (normalise u)) p))
      ≡ set_number u (label_sets u (is_left u)) (is_left u)
  unfolding set_number
  set_number_lem = fun_ext (λ p. ap (type_of_label reduced) (left_label u p) ∙ set_place (label_left u p))

  label_contents : (l : ℕ) → joined_of (pair_contents u) (keep (λ (s : Rule). eqb s.label l) (pairs_standing u))
      ≡ contents_in u (λ p. is_in p (pairs_labelled u (is_left u) l))
  unfolding pairs_labelled
  label_contents l =
      set_contents u (λ p. is_in p (set_of l))
      (λ p e. ((labelled_pair u (is_left u) l p).0 (in_mem p (set_of l) e)).listed)
      (λ (s : Rule). eqb s.label l)
      (λ p e.
      sym
      (in_kept (λ q. is_left u q && eqb (rule_numbered u q).label l) p (numbers_below (length u.rules))
      ((numbers_below_lem (length u.rules) p).1 (left_pair u p e).below)
      ∙ ap (λ (b : Bool). b && eqb (rule_numbered u p).label l) e))

  module _ {lim : Limits} (fit : UnionFit lim u) where
    pub local_set : (s : TypeSet) → Memᴰ s (local_sets u) → SetOfLabel u s
    local_set s m =
        let (l, n, e) = Memᴰ.of_map set_of (used_labels reduced) (subst (λ (ss : List TypeSet). Memᴰ s ss) local_sets_lem m) in
        let (p, o) = used_member n in
        subst (SetOfLabel u) e (set_of_label u fit (is_left u) (λ q h. h) l o)

    content_of_label : (l : ℕ) → tidy (rule_of_label (reduce (normalise u)) l).content
        ≡ content_by_set u (label_sets u (is_left u)) (is_left u) (pairs_labelled u (is_left u) l)
    unfolding content_by_set
    content_of_label l =
        local_content u fit.labelled l
        ∙ ap₂
        (λ (target : ℕ → ℕ) (cs : List Content).
        one_content (joined_of (alts (results_of (pairs_of u) (fruitful (normalise u)) target)) cs))
        set_number_lem
        (label_contents l)

    text_of_label : (l : ℕ) → (rule_of_label (reduce (normalise u)) l).text ≡ text_by_set u (pairs_labelled u (is_left u) l)
    unfolding rule_of_label
    text_of_label l =
        text_of_pairs u fit.labelled (set_of l) (λ p m. ((labelled_pair u (is_left u) l p).0 m).listed)
        (λ (r : Rule). eqb r.label l)
        (λ p e. (
          λ t.
              (labelled_pair u (is_left u) l p).1
              (record { below = (left_pair u p e).below; listed = e; label = eqb-true (rule_numbered u p).label l t }),
          λ m. eq-eqb (rule_numbered u p).label l ((labelled_pair u (is_left u) l p).0 m).label,
        ))

    pub local_form_lem : FormOfSets u (label_sets u (is_left u)) (λ s. is_left u) (local_form (reduce (normalise u)))
    unfolding local_form rule_of_label type_of_label reduce without_unreached without_unfruitful normalise
    local_form_lem =
        record {
          labels = refl;
          count =
              length-map (used_labels reduced) (rule_of_label reduced)
              ∙ sym (ap length local_sets_lem ∙ length-map (used_labels reduced) set_of);
          rule =
              λ i s r p q.
              let (l, at, e) = at_map (rule_of_label reduced) (used_labels reduced) i q in
              let (k, bt, d) =
              at_map set_of (used_labels reduced) i (subst (λ (ss : List TypeSet). get_elem? ss i ≡ just s) local_sets_lem p) in
              let same : k ≡ l = just_eq (sym at ∙ bt) in
              let used = at_mem (used_labels reduced) i at in
              let set : set_of l ≡ s = ap set_of (sym same) ∙ d in
              record {
                type =
                    ap (λ (x : Rule). x.type) (sym e)
                    ∙ one_place (used_labels reduced) (type_of_label reduced l) i (used_differ reduced)
                    (place_of eqb eqb_decides used) at refl;
                label =
                    ap (λ (x : Rule). x.label) (sym e)
                    ∙ sym (label_of_set u (is_left u) l (used_member used).1)
                    ∙ ap (set_label u) set;
                content =
                    ap (λ (x : Rule). tidy x.content) (sym e)
                    ∙ content_of_label l
                    ∙ ap (content_by_set u (label_sets u (is_left u)) (is_left u)) set;
                text = ap (λ (x : Rule). x.text) (sym e) ∙ text_of_label l ∙ ap (text_by_set u) set;
              };
        }

    pub local_by_sets : tidy_table (with_used_labels (local_form (reduce (normalise u)))) ≡ local_table u
    unfolding local_table local_starts local_form reduce without_unreached
    local_by_sets =
        table_by_sets_lem u (local_sets u) (λ s. is_left u) (local_form reduced) local_form_lem
        ∙ ap₂
        (λ (target : ℕ → ℕ) (n : ℕ).
        table_by_sets u (local_sets u) (λ s. is_left u)
        (keep (λ t. any_pass (λ p. eqb (target p) t) (without_unfruitful (normalise u)).starts) (numbers_below n)))
        set_number_lem
        (sym (ap length local_sets_lem ∙ length-map (used_labels reduced) set_of))
