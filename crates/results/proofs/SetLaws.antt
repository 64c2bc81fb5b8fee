-- The sets that stand in the words, by number: what stands there, and the label of each.
use Prim.Native.Nat.{ℕ, ◌+◌, ◌*◌, ◌≤◌, ◌<◌}
use native.Mathlib.Omega.{arith}
use mathlib.Core.Bool.{Bool, true, false, ◌&&◌}
use mathlib.Core.List.{List, [], Memᴰ}
use mathlib.Core.Option.{some as just}
use mathlib.Core.Path.{◌≡◌, sym, ◌∙◌, ap, ap₂}
use lib.Dec.{eqb}
use lib.ListN.{length, get_or, get_elem?}
use borrow.Author.Tests.{eq-eqb}
use Rattle.grammar.specs.Lists.{keep, place, joined_of, is_in, numbers_below, any_pass}
use Rattle.grammar.specs.Table.{Table}
use Rattle.grammar.specs.Kinds.{Kind}
use Rattle.grammar.specs.ReadTable.{is_empty}
use Rattle.grammar.specs.Normalise.{pairs_of, normalise}
use Rattle.grammar.specs.Reduce.{fruitful}
use Rattle.grammar.specs.SingleTypeForm.{TypeSet}
use Rattle.theory.specs.Alternatives.{alts, one_content, results_of}
use Rattle.theory.proofs.Lists.BoolLaws.{and_left, and_right, and_intro, same_test}
use Rattle.theory.proofs.Lists.ListLaws.{any_of, at_mem, at_or_else, any_found, in_mem, numbers_below_lem, mem_in}
use Rattle.sets.specs.Sets.{member, words_at, KeptAround}
use Rattle.sets.proofs.SetLaws.{length-words, eight_before}
use Rattle.reader.proofs.TableFaults.{is_some}
use Rattle.union.specs.declared.united.United.{United}
use Rattle.union.specs.Places.{left_at, used_at}
use Rattle.union.specs.PairNumbers.{rule_numbered, contents_in, no_rule, is_text}
use Rattle.forms.specs.SetWords.{Ascending}
use Rattle.forms.specs.SetForms.{set_label, labels_of, set_number, content_by_set, rule_by_set, pairs_within, text_by_set}
use Rattle.forms.proofs.SetWordLaws.{sets_stay}
use Rattle.results.specs.declared.plan.Plan.{Plan}
use Rattle.results.specs.Results.{result_rule, is_used, SetsIn, RulesFrom}

first_there : (s : List ℕ) → 0 < length s → Memᴰ (get_or s 0 0) s
first_there s h = at_mem s 0 (at_or_else s 0 0 h)

module _ {old add : List ℕ} {v : United} {words : List ℕ} {count : ℕ} (q : SetsIn old add v words count) where
  module _ (i : ℕ) (h : i < count) where
    there : get_elem? q.sets i ≡ just (get_or q.sets i [])
    there = let e = q.count_is in at_or_else q.sets i [] (omega arith)

    among : Memᴰ (get_or q.sets i []) q.sets
    among = at_mem q.sets i there

    pub set_held : (set : List ℕ) → set ≡ words_at words (8 * i) 8 → member set 0 ≡ (λ p. is_in p (get_or q.sets i []))
    set_held set e = ap (λ (w : List ℕ). member w 0) e ∙ q.held.set i (get_or q.sets i []) there

    pub set_room : 8 * i + 8 ≤ length words
    set_room =
        let a = q.held.few in
        let b = q.held.room in
        let c = q.count_is in
        omega arith

    pub set_eight : (set : List ℕ) → set ≡ words_at words (8 * i) 8 → length set ≡ 8
    set_eight set e = ap length e ∙ length-words words (8 * i) 8 set_room

    pub set_ascending : Ascending (get_or q.sets i [])
    set_ascending = q.held.ascending (get_or q.sets i []) among

    pub set_some : is_empty (get_or q.sets i []) ≡ false
    set_some = is_some (get_or q.sets i []) (q.some (get_or q.sets i []) among)

    pub set_labelled : set_label q.table (get_or q.sets i []) < length q.table.labels
    unfolding set_label
    set_labelled =
        let s = get_or q.sets i [] in
        let p = get_or s 0 0 in
        let below = q.pairs s among p (first_there s (q.some s among)) in
        q.labelled (rule_numbered q.table p)
        (at_mem q.table.rules p (at_or_else q.table.rules p no_rule below))

    pub set_pairs : (p : ℕ) → Memᴰ p (get_or q.sets i []) → p < v.rules
    set_pairs p m = let below = q.pairs (get_or q.sets i []) among p m in omega (arith, q.views.rules)

    pub label_small : (l : ℕ) → l ≡ set_label q.table (get_or q.sets i []) → l < 256
    label_small l e =
        let a = set_labelled in
        let b = q.labels_few in
        omega arith

    pub label_used : (on : ℕ → Bool) (l : ℕ) → on ≡ is_used q.table q.sets → l ≡ set_label q.table (get_or q.sets i []) → on l ≡ true
    label_used on l e f =
        ap (λ (t : ℕ → Bool). t l) e
        ∙ any_of (λ s. eqb (set_label q.table s) l) among (eq-eqb (set_label q.table (get_or q.sets i [])) l (sym f))

-- the content, the label, the text and the rule of a set
module _ (u : Table) (sets : List TypeSet) (kind : Kind) (i : ℕ) where
  pub content_is : (set within : ℕ → Bool) → set ≡ (λ p. is_in p (get_or sets i [])) → within ≡ pairs_within kind u (get_or sets i [])
      → one_content (joined_of (alts (results_of (pairs_of u) (fruitful (normalise u)) (set_number u sets within))) (contents_in u set))
      ≡ (result_rule u sets kind i).content
  unfolding rule_by_set content_by_set
  content_is set within e f =
      ap
      (λ (w : ℕ → Bool).
      one_content (joined_of (alts (results_of (pairs_of u) (fruitful (normalise u)) (set_number u sets w))) (contents_in u set)))
      f
      ∙ ap
      (λ (t : ℕ → Bool).
      one_content
      (joined_of (alts (results_of (pairs_of u) (fruitful (normalise u)) (set_number u sets (pairs_within kind u (get_or sets i [])))))
      (contents_in u t)))
      e

  pub rule_is : (on : ℕ → Bool) (l : ℕ) → on ≡ is_used u sets
      → l ≡ place eqb (set_label u (get_or sets i [])) (keep on (numbers_below (length u.labels)))
      → record { type = i; label = l; content = (result_rule u sets kind i).content; text = (result_rule u sets kind i).text }
      ≡ result_rule u sets kind i
  unfolding rule_by_set labels_of
  rule_is on l e f =
      ap
      (λ (n : ℕ). record { type = i; label = n; content = (result_rule u sets kind i).content; text = (result_rule u sets kind i).text })
      (f ∙ ap (λ (t : ℕ → Bool). place eqb (set_label u (get_or sets i [])) (keep t (numbers_below (length u.labels)))) e)

  -- a set has a pair for text among all pairs of the union just where it has one of itself
  pub text_is : (pairs : ℕ) → ((p : ℕ) → Memᴰ p (get_or sets i []) → p < pairs) → (set text : ℕ → Bool)
      → set ≡ (λ p. is_in p (get_or sets i [])) → text ≡ is_text u
      → any_pass (λ p. set p && text p) (numbers_below pairs) ≡ (result_rule u sets kind i).text
  unfolding rule_by_set text_by_set
  text_is pairs below set text e f =
      ap₂ (λ (s t : ℕ → Bool). any_pass (λ p. s p && t p) (numbers_below pairs)) e f
      ∙ same_test (any_pass both (numbers_below pairs)) (any_pass (is_text u) (get_or sets i [])) (
        λ t.
            let (p, m, on) = any_found both (numbers_below pairs) t in
            any_of (is_text u) (in_mem p (get_or sets i []) (and_left (is_in p (get_or sets i [])) (is_text u p) on))
            (and_right (is_in p (get_or sets i [])) (is_text u p) on),
        λ t.
            let (p, m, on) = any_found (is_text u) (get_or sets i []) t in
            any_of both ((numbers_below_lem pairs p).1 (below p m)) (and_intro (is_in p (get_or sets i [])) (is_text u p) (mem_in m) on),
      )
    where
      both : ℕ → Bool
      both p = is_in p (get_or sets i []) && is_text u p

-- what the rules are made from stays when the labels used are laid down
module _ {old add : List ℕ} {plan : Plan} {before after : List ℕ} where
  abbrev pub rules_stay : RulesFrom old add plan before → KeptAround used_at 8 before after → length after ≡ length before
      → RulesFrom old add plan after
  rules_stay q kept same =
      let s = q.in_words in
      let room = q.room in
      record {
        in_words =
            record {
              table = s.table;
              sets = s.sets;
              views = s.views;
              labelled = s.labelled;
              labels_few = s.labels_few;
              held = sets_stay before after used_at kept.front (omega arith) (omega arith) s.held;
              count_is = s.count_is;
              some = s.some;
              pairs = s.pairs;
            };
        labels_are = q.labels_are;
        lists_are = q.lists_are;
        text_is = q.text_is;
        room = omega arith;
        left_is = eight_before kept left_at (omega arith) ∙ q.left_is;
        shallow = q.shallow;
        regular = q.regular;
      }
