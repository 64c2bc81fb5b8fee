-- The result of a widening by sets of pairs, of either kind: local from one set a label, single-type from the sets as they are met.
-- A set is a list of pairs' numbers in rule order, as in the single-type form.
use Rattle.std.specs.Prelude.{ℕ, Bool, true, false, ◌&&◌, length}
use Rattle.std.proofs.Math.Bool.{not}
use mathlib.Core.List.{List, [], map}
use Rattle.std.proofs.Math.ListN.{get_or}
use Rattle.std.proofs.Math.Dec.{eqb}
use Rattle.grammar.specs.Lists.{any_pass, keep, place, joined_of, is_in, same_numbers, numbers_below}
use Rattle.grammar.specs.Limits.{Limits}
use Rattle.grammar.specs.Content.{Content}
use Rattle.grammar.specs.Table.{Rule, Table}
use Rattle.grammar.specs.Kinds.{Kind, local, single_type}
use Rattle.grammar.specs.ReadTable.{is_empty}
use Rattle.grammar.specs.Normalise.{pairs_of, normalise}
use Rattle.grammar.specs.Reduce.{fruitful, without_unfruitful, reduce}
use Rattle.grammar.specs.SingleTypeForm.{TypeSet, all_sets}
use Rattle.theory.specs.Alternatives.{alts, one_content, results_of}
use Rattle.union.specs.PairNumbers.{rule_numbered, is_left, is_start, is_text, contents_in, met_in}

module _ (u : Table) where
  -- those of some pairs that have a label
  unfoldable pub pairs_labelled : (ℕ → Bool) → ℕ → TypeSet
  unfolding keep numbers_below
  pairs_labelled pairs l = keep (λ p. pairs p && eqb (rule_numbered u p).label l) (numbers_below (length u.rules))

  -- one set a label, in label order
  unfoldable pub label_sets : (ℕ → Bool) → List TypeSet
  unfolding keep pairs_labelled numbers_below
  label_sets pairs = keep (λ s. not (is_empty s)) (map (pairs_labelled pairs) (numbers_below (length u.labels)))

  -- the label of a pair, where it is left
  unfoldable pub label_left : ℕ → ℕ
  label_left p = elim (is_left u p) [ true ↦ (rule_numbered u p).label | false ↦ 0 ]

  -- the number of the set, among some sets, of those pairs that share the label of a pair
  unfoldable pub set_number : List TypeSet → (pairs : ℕ → Bool) → ℕ → ℕ
  unfolding place same_numbers pairs_labelled label_left
  set_number sets pairs p = place same_numbers (pairs_labelled pairs (label_left p)) sets

  -- the label of a set, and the labels of some sets, ascending
  unfoldable pub set_label : TypeSet → ℕ
  set_label s = (rule_numbered u (get_or s 0 0)).label

  unfoldable pub labels_of : List TypeSet → List ℕ
  unfolding keep any_pass set_label numbers_below
  labels_of sets = keep (λ l. any_pass (λ s. eqb (set_label s) l) sets) (numbers_below (length u.labels))

  -- the content of a set: what the contents of its pairs give, with the number of a set for each pair
  unfoldable pub content_by_set : List TypeSet → (pairs : ℕ → Bool) → TypeSet → Content
  unfolding one_content joined_of alts set_number contents_in is_in
  content_by_set sets pairs s =
      one_content
      (joined_of (alts (results_of (pairs_of u) (fruitful (normalise u)) (set_number sets pairs))) (contents_in u (λ p. is_in p s)))

  -- a set with a pair for text is for text
  unfoldable pub text_by_set : TypeSet → Bool
  unfolding any_pass is_text
  text_by_set s = any_pass (is_text u) s

  unfoldable pub rule_by_set : List TypeSet → (TypeSet → ℕ → Bool) → ℕ → Rule
  unfolding place set_label labels_of content_by_set text_by_set
  rule_by_set sets pairs i =
      let s : TypeSet = get_or sets i [] in
      record {
        type = i;
        label = place eqb (set_label s) (labels_of sets);
        content = content_by_set sets (pairs s) s;
        text = text_by_set s;
      }

  unfoldable pub table_by_sets : List TypeSet → (TypeSet → ℕ → Bool) → (starts : List ℕ) → Table
  unfolding labels_of rule_by_set numbers_below
  table_by_sets sets pairs starts =
      record {
        labels = map (λ l. get_or u.labels l []) (labels_of sets);
        starts = starts;
        rules = map (rule_by_set sets pairs) (numbers_below (length sets));
      }

  -- Local: one set a label; the pairs that share a label with another are all that are left.
  abbrev pub local_sets : List TypeSet
  local_sets = label_sets (is_left u)

  unfoldable pub local_starts : List ℕ
  unfolding keep any_pass set_number numbers_below
  local_starts =
      keep (λ t. any_pass (λ p. eqb (set_number local_sets (is_left u) p) t) (without_unfruitful (normalise u)).starts)
      (numbers_below (length local_sets))

  unfoldable pub local_table : Table
  unfolding table_by_sets local_starts
  local_table = table_by_sets local_sets (λ s. is_left u) local_starts

  -- within a set, the pairs that share a label are those met in its contents
  abbrev pub met_within : TypeSet → ℕ → Bool
  met_within s p = is_in p (met_in u (λ q. is_in q s))

-- Single-type: the start sets and those met, as many as are looked into under a limit on types.
abbrev pub single_type_sets : Limits → Table → List TypeSet
single_type_sets lim u = all_sets lim (reduce (normalise u))

unfoldable pub single_type_table : Limits → Table → Table
unfolding table_by_sets label_sets numbers_below
single_type_table lim u = table_by_sets u (single_type_sets lim u) (met_within u) (numbers_below (length (label_sets u (is_start u))))

-- within which pairs those of one label are put together
abbrev pub pairs_within : Kind → Table → TypeSet → ℕ → Bool
pairs_within local u = λ s. is_left u
pairs_within single_type u = met_within u

-- the sets of a kind, and the table that is made of them
unfoldable pub sets_of : Limits → Kind → Table → List TypeSet
sets_of lim local u = local_sets u
sets_of lim single_type u = single_type_sets lim u

unfoldable pub table_of : Limits → Kind → Table → Table
table_of lim local u = local_table u
table_of lim single_type u = single_type_table lim u
