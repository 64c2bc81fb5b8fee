-- The steps of widening by a united table's own rules, with no table between. A pair stands by its first rule, and its contents
-- are those of its rules, in order.
--   newly_fruitful_lem  the pairs that a round of Reduce finds fruitful: those whose contents have alternatives
--   newly_reached_lem   the pairs that a round finds reached: those met in the contents of the reached ones
--   left_rules      the rules that reducing the normal form leaves: one for each pair that is left
--   emitted_merge   the tidied choice of the contents of some rules left, result types for pairs: what the alternatives of all
--                   the source contents of those pairs make, in order
--   local_content   so of the rule of a label in the local form
--   set_content     so of a set in the single-type form, and set_met: the pairs met in a set
use Prim.Native.Nat.{ℕ}
use mathlib.Core.Bool.{Bool, true}
use mathlib.Core.List.Memᴰ
use mathlib.Core.List.{List, map, map-map, Memᴰ}
use mathlib.Core.Path.{◌≡◌, refl, sym, ◌∙◌, ap, fun_ext}
use lib.Dec.{eqb}
use Rattle.grammar.specs.Lists.{any_pass, keep, distinct, place, joined_of, is_in, same_numbers}
use Rattle.grammar.specs.Content.{Content, types_in, choice_of}
use Rattle.grammar.specs.Tree.{Tree}
use Rattle.grammar.specs.Table.{Rule, Table}
use Rattle.grammar.specs.Derivation.{Derives, derives}
use Rattle.grammar.specs.KindTests.{same_pair}
use Rattle.grammar.specs.Normalise.{pair_of, pairs_of, in_pairs, marks, rule_of_pair, normalise}
use Rattle.grammar.specs.Reduce.{
  has_word,
  not_known,
  newly_fruitful,
  fruitful,
  prune,
  without_unfruitful,
  newly_reached,
  reached,
  without_unreached,
  reduce,
}
use Rattle.grammar.specs.LocalForm.{label_of, type_of_label, rule_of_label}
use Rattle.grammar.specs.SingleTypeForm.{TypeSet, of_label, members, types_met, content_of_set}
use Rattle.grammar.specs.Tidy.{tidy}
use Rattle.theory.specs.Conditions.{Labelled}
use Rattle.theory.specs.Alternatives.{one_content, alts, has_alts, pairs_met, pairs_left, has_left, results_of}
use Rattle.theory.proofs.Lists.ListLaws.{any_of, keep_mem, kept, keep-map, distinct_was, in_mem}
use Rattle.theory.proofs.Steps.Fruitful.{has_word_lem, forest_fruitful, fruitful_is}
use Rattle.theory.proofs.Steps.NormaliseDocuments.{OfPair, same_pair_lem, pair_words, fits_pair, normalise_labelled}
use Rattle.theory.proofs.Emission.AlternativeLaws.{in_pairs_of, retyped}
use Rattle.theory.proofs.Emission.EmittedContent.{emitted_rule, joined_map}
use Rattle.theory.proofs.Emission.MetPairs.{met_in_pairs, word_met, word_met_in_pair}

module _ (u : Table) where
  -- the first rules of the pairs, in order, and the contents of a pair
  abbrev pub first_rules : List Rule
  first_rules = distinct same_pair u.rules

  abbrev pub pair_contents : Rule → List Content
  pair_contents s = map (λ (r : Rule). r.content) (keep (same_pair s) u.rules)

  -- a pair's rule in the normal form
  rule_content : (s : Rule) → (rule_of_pair u s).content ≡ choice_of (map (in_pairs_of (pairs_of u)) (pair_contents s))
  unfolding rule_of_pair in_pairs
  rule_content s = ap choice_of (sym (map-map (in_pairs_of (pairs_of u)) (λ (r : Rule). r.content) (keep (same_pair s) u.rules)))

  pub newly_fruitful_lem : (known : List ℕ) → newly_fruitful (normalise u) known
      ≡ not_known known (map (pair_of u) (keep (λ s. any_pass (has_alts (has_left (pairs_of u) known)) (pair_contents s)) first_rules))
  unfolding newly_fruitful normalise rule_of_pair
  newly_fruitful_lem known =
      ap (λ (rs : List Rule). not_known known (map (λ (r : Rule). r.type) rs))
      (keep-map (rule_of_pair u) (λ (r : Rule). has_word known r.content) first_rules)
      ∙ ap (not_known known)
      (map-map (λ (r : Rule). r.type) (rule_of_pair u) (keep (λ s. has_word known (rule_of_pair u s).content) first_rules)
      ∙ ap (λ test. map (pair_of u) (keep test first_rules))
      (fun_ext (λ s. ap (has_word known) (rule_content s) ∙ word_met_in_pair (pairs_of u) known (pair_contents s))))

  -- the fruitful pairs, and of them the reached ones, which are left
  abbrev pub fruitful_pairs : List Rule
  fruitful_pairs = keep (λ s. is_in (pair_of u s) (fruitful (normalise u))) first_rules

  abbrev pub pairs_standing : List Rule
  pairs_standing = keep (λ s. is_in (pair_of u s) (reached (without_unfruitful (normalise u)))) fruitful_pairs

  abbrev pub rule_left : Rule → Rule
  rule_left s =
      record {
        type = pair_of u s;
        label = s.label;
        content = prune (fruitful (normalise u)) (choice_of (map (in_pairs_of (pairs_of u)) (pair_contents s)));
        text = any_pass (marks u) (keep (same_pair s) u.rules);
      }

  pub fruitful_rules : (without_unfruitful (normalise u)).rules ≡ map rule_left fruitful_pairs
  unfolding without_unfruitful normalise rule_of_pair
  fruitful_rules =
      ap (map pruned) (keep-map (rule_of_pair u) (λ (r : Rule). is_in r.type (fruitful (normalise u))) first_rules)
      ∙ map-map pruned (rule_of_pair u) fruitful_pairs
      ∙ ap (λ f. map f fruitful_pairs) (fun_ext (λ s. ap (with_content s) (rule_content s)))
    where
      pruned : Rule → Rule
      pruned r =
          record { type = r.type; label = r.label; content = prune (fruitful (normalise u)) r.content; text = r.text }

      with_content : Rule → Content → Rule
      with_content s c =
          record {
            type = pair_of u s;
            label = s.label;
            content = prune (fruitful (normalise u)) c;
            text = any_pass (marks u) (keep (same_pair s) u.rules);
          }

  pub left_rules : (reduce (normalise u)).rules ≡ map rule_left pairs_standing
  unfolding reduce without_unreached
  left_rules =
      ap (keep (λ (r : Rule). is_in r.type (reached (without_unfruitful (normalise u))))) fruitful_rules
      ∙ keep-map rule_left (λ (r : Rule). is_in r.type (reached (without_unfruitful (normalise u)))) fruitful_pairs

  pub newly_reached_lem : (seen : List ℕ) → newly_reached (without_unfruitful (normalise u)) seen
      ≡ not_known seen
      (joined_of (pairs_met (pairs_left (pairs_of u) (fruitful (normalise u))))
      (joined_of pair_contents (keep (λ s. is_in (pair_of u s) seen) fruitful_pairs)))
  unfolding newly_reached
  newly_reached_lem seen =
      ap (not_known seen)
      (ap (joined_of (λ (r : Rule). types_in r.content))
      (ap (keep (λ (r : Rule). is_in r.type seen)) fruitful_rules
      ∙ keep-map rule_left (λ (r : Rule). is_in r.type seen) fruitful_pairs)
      ∙ joined_map (λ (r : Rule). types_in r.content) rule_left (keep (λ s. is_in (pair_of u s) seen) fruitful_pairs)
      ∙ met_in_pairs (pairs_of u) (fruitful (normalise u)) pair_contents (keep (λ s. is_in (pair_of u s) seen) fruitful_pairs))

  module _ (listed : Labelled u) where
    -- a fruitful pair has alternatives
    has_tree : (s : Rule) {p : ℕ} {t : Tree} → OfPair u p s → Derives (normalise u) p t
        → any_pass (has_alts (has_left (pairs_of u) (fruitful (normalise u)))) (pair_contents s) ≡ true
    unfolding in_pairs
    has_tree s o (derives {w = w} f all) =
        let known : List ℕ = fruitful (normalise u) in
        let q = fits_pair u f in
        let c = q.rule.content in
        let e = (has_word_lem known (in_pairs u c)).1 (w, (pair_words u c w).1 q.word, forest_fruitful (normalise u) all) in
        let m = keep_mem (same_pair s) q.of_pair.of_table (same_pair_lem u s q.rule o q.of_pair) in
        any_of (has_alts (has_left (pairs_of u) known)) (Memᴰ.map (λ (r : Rule). r.content) m)
        (sym (word_met (pairs_of u) known c) ∙ e)

    pair_has : (s : Rule) → Memᴰ s fruitful_pairs
        → any_pass (has_alts (has_left (pairs_of u) (fruitful (normalise u)))) (pair_contents s) ≡ true
    pair_has s m =
        let k = kept (λ r. is_in (pair_of u r) (fruitful (normalise u))) first_rules m in
        let n = in_mem (pair_of u s) (fruitful (normalise u)) k.1 in
        let t = (fruitful_is (normalise u) (normalise_labelled u listed) (pair_of u s)).0 n in
        has_tree s (record { of_table = distinct_was same_pair u.rules k.0; numbered = refl }) t.1

    pub emitted_merge : (target : ℕ → ℕ) (test : Rule → Bool)
        → tidy (choice_of (map (λ (r : Rule). retyped target r.content) (keep test (reduce (normalise u)).rules)))
        ≡ one_content
        (joined_of (alts (results_of (pairs_of u) (fruitful (normalise u)) target))
        (joined_of pair_contents (keep (λ s. test (rule_left s)) pairs_standing)))
    emitted_merge target test =
        let merged : List Rule = keep (λ s. test (rule_left s)) pairs_standing in
        ap (λ (rs : List Rule). tidy (choice_of (map (λ (r : Rule). retyped target r.content) rs)))
        (ap (keep test) left_rules ∙ keep-map rule_left test pairs_standing)
        ∙ ap (λ (cs : List Content). tidy (choice_of cs)) (map-map (λ (r : Rule). retyped target r.content) rule_left merged)
        ∙ emitted_rule (pairs_of u) (fruitful (normalise u)) target pair_contents merged
        (λ s m.
        let n = (kept (λ r. test (rule_left r)) pairs_standing m).0 in
        pair_has s (kept (λ r. is_in (pair_of u r) (reached (without_unfruitful (normalise u)))) fruitful_pairs n).0)

    abbrev left : Table
    left = reduce (normalise u)

    -- the rule of a label in the local form
    pub local_content : (l : ℕ)
        → tidy (rule_of_label (reduce (normalise u)) l).content
        ≡ one_content
        (joined_of
        (alts
        (results_of (pairs_of u) (fruitful (normalise u))
        (λ p. type_of_label (reduce (normalise u)) (label_of (reduce (normalise u)) p))))
        (joined_of pair_contents (keep (λ (s : Rule). eqb s.label l) pairs_standing)))
    unfolding rule_of_label
    local_content l = emitted_merge (λ p. type_of_label left (label_of left p)) (λ (r : Rule). eqb r.label l)

    -- the content of a set in the single-type form
    pub set_content : (sets : List TypeSet) (s : TypeSet)
        → tidy (content_of_set (reduce (normalise u)) sets s)
        ≡ one_content
        (joined_of
        (alts
        (results_of (pairs_of u) (fruitful (normalise u))
        (λ p.
        place same_numbers
        (of_label (reduce (normalise u)) (types_met (reduce (normalise u)) s) (label_of (reduce (normalise u)) p))
        sets)))
        (joined_of pair_contents (keep (λ r. is_in (pair_of u r) s) pairs_standing)))
    unfolding content_of_set members
    set_content sets s =
        emitted_merge (λ p. place same_numbers (of_label left (types_met left s) (label_of left p)) sets)
        (λ (r : Rule). is_in r.type s)

  -- the pairs met in a set
  pub set_met : (s : TypeSet)
      → types_met (reduce (normalise u)) s
      ≡ joined_of (pairs_met (pairs_left (pairs_of u) (fruitful (normalise u))))
      (joined_of pair_contents (keep (λ r. is_in (pair_of u r) s) pairs_standing))
  unfolding types_met members
  set_met s =
      let ms : List Rule = keep (λ r. is_in (pair_of u r) s) pairs_standing in
      ap (joined_of (λ (r : Rule). types_in r.content))
      (ap (keep (λ (r : Rule). is_in r.type s)) left_rules ∙ keep-map rule_left (λ (r : Rule). is_in r.type s) pairs_standing)
      ∙ joined_map (λ (r : Rule). types_in r.content) rule_left ms
      ∙ met_in_pairs (pairs_of u) (fruitful (normalise u)) pair_contents ms
