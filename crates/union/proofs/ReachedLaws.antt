-- The reached pairs of a union's normal form without its unfruitful pairs, by the union's own rules:
--   start_pairs     the starts are the fruitful pairs of the start types
--   met_reached     the pairs met in the contents of a reached fruitful pair are reached
--   reached_set     a set of reached pairs that has the starts, and with a fruitful pair all pairs met in its contents, is that of
--                   all reached pairs
use Prim.Native.Nat.{ℕ}
use native.Mathlib.Omega.{arith}
use mathlib.Core.Bool.{Bool, true}
use mathlib.Core.List.Memᴰ
use mathlib.Core.List.{List, [], map, Memᴰ}
use mathlib.Core.Logic.{◌↔◌}
use mathlib.Core.Path.{◌≡◌, sym, ◌∙◌, ap, subst, fun_ext}
use lib.ListN.{length, length-map}
use Rattle.grammar.specs.Lists.{keep, is_in, joined_of}
use Rattle.grammar.specs.Content.{Content}
use Rattle.grammar.specs.Table.{Rule, Table}
use Rattle.grammar.specs.KindTests.{same_pair}
use Rattle.grammar.specs.Normalise.{pair_of, pairs_of, normalise}
use Rattle.grammar.specs.Reduce.{fruitful, without_unfruitful, newly_reached, reached}
use Rattle.theory.specs.Alternatives.{pairs_met, pairs_left}
use Rattle.theory.proofs.Lists.BoolLaws.{same_test}
use Rattle.theory.proofs.Lists.ListLaws.{kept, keep_mem, distinct_has, joined_from, joined_mem, in_mem}
use Rattle.theory.proofs.Steps.Rounds.{not_known_lem, rounds_hold, rounds_closed, closed_has}
use Rattle.theory.proofs.Steps.NormaliseDocuments.{pair_refl, pair_trans, pair_same, pairs_of_lem}
use Rattle.theory.proofs.Emission.EmittedRule.{first_rules, pair_contents, fruitful_pairs, rule_left, fruitful_rules, newly_reached_lem}
use Rattle.union.proofs.MetLaws.{met_hold}

module _ (u : Table) where
  abbrev found : List ℕ
  found = fruitful (normalise u)

  abbrev fruits : Table
  fruits = without_unfruitful (normalise u)

  abbrev left : ℕ → List ℕ
  left = pairs_left (pairs_of u) found

  abbrev types : List ℕ
  types = map (λ (r : Rule). r.type) fruits.rules

  -- the first rule of a rule's pair, where that is fruitful
  first_fruitful : (r : Rule) → Memᴰ r u.rules → is_in (pair_of u r) found ≡ true
      → (s : Rule) × Memᴰ s (fruitful_pairs u) × (same_pair s r ≡ true)
  first_fruitful r m e =
      let f = distinct_has same_pair pair_refl pair_trans m in
      let same = pair_same u f.0 r f.2 in
      (f.0, keep_mem (λ s. is_in (pair_of u s) found) f.1 (ap (λ (p : ℕ). is_in p found) same ∙ e), f.2)

  -- a fruitful pair has a rule
  left_ruled : (k p : ℕ) → Memᴰ p (left k) → Memᴰ p types
  left_ruled k p m =
      let n = kept (λ q. is_in q found) (pairs_of u k) m in
      let t = (pairs_of_lem u k p).0 n.0 in
      let e = t.of_pair.numbered in
      let f = first_fruitful t.rule t.of_pair.of_table (ap (λ (q : ℕ). is_in q found) e ∙ n.1) in
      let rule = subst (λ (l : List Rule). Memᴰ (rule_left u f.0) l) (sym (fruitful_rules u)) (Memᴰ.map (rule_left u) f.1) in
      Memᴰ.cast (sym (pair_same u f.0 t.rule f.2 ∙ e)) (Memᴰ.map (λ (r : Rule). r.type) rule)

  -- what a round finds
  record Newly (seen : List ℕ) (p : ℕ) : Type 0 where
    pub rule : Rule
    pub of_table : Memᴰ rule u.rules
    pub of_fruitful : is_in (pair_of u rule) found ≡ true
    pub of_seen : is_in (pair_of u rule) seen ≡ true
    pub meets : Memᴰ p (pairs_met left rule.content)
    pub new : Memᴰ p seen → ⊥

  abbrev seen_pairs : List ℕ → List Rule
  seen_pairs seen = keep (λ s. is_in (pair_of u s) seen) (fruitful_pairs u)

  newly_was : (seen : List ℕ) (p : ℕ) → Memᴰ p (newly_reached fruits seen) → Newly seen p
  newly_was seen p m =
      let cs = joined_of (pair_contents u) (seen_pairs seen) in
      let n = (not_known_lem seen (joined_of (pairs_met left) cs) p).0 (subst (λ (l : List ℕ). Memᴰ p l) (newly_reached_lem u seen) m) in
      let c = joined_from (pairs_met left) cs n.0 in
      let s = joined_from (pair_contents u) (seen_pairs seen) c.1 in
      let r = Memᴰ.of_map (λ (r : Rule). r.content) (keep (same_pair s.0) u.rules) s.2 in
      let k = kept (same_pair s.0) u.rules r.1 in
      let a = kept (λ q. is_in (pair_of u q) seen) (fruitful_pairs u) s.1 in
      let b = kept (λ q. is_in (pair_of u q) found) (first_rules u) a.0 in
      let same = pair_same u s.0 r.0 k.1 in
      record {
        rule = r.0;
        of_table = k.0;
        of_fruitful = ap (λ (q : ℕ). is_in q found) (sym same) ∙ b.1;
        of_seen = ap (λ (q : ℕ). is_in q seen) (sym same) ∙ a.1;
        meets = subst (λ (d : Content). Memᴰ p (pairs_met left d)) (sym r.2) c.2;
        new = n.1;
      }

  was_newly : (seen : List ℕ) (p : ℕ) → Newly seen p → Memᴰ p (newly_reached fruits seen)
  was_newly seen p w =
      let cs = joined_of (pair_contents u) (seen_pairs seen) in
      let f = first_fruitful w.rule w.of_table w.of_fruitful in
      let same = pair_same u f.0 w.rule f.2 in
      let s = keep_mem (λ q. is_in (pair_of u q) seen) f.1 (ap (λ (q : ℕ). is_in q seen) same ∙ w.of_seen) in
      let c = Memᴰ.map (λ (r : Rule). r.content) (keep_mem (same_pair f.0) w.of_table f.2) in
      let m = joined_mem (pairs_met left) (joined_mem (pair_contents u) s c) w.meets in
      subst (λ (l : List ℕ). Memᴰ p l) (sym (newly_reached_lem u seen))
      ((not_known_lem seen (joined_of (pairs_met left) cs) p).1 (m, w.new))

  reached_closed : newly_reached fruits (reached fruits) ≡ []
  unfolding reached
  reached_closed =
      rounds_closed (newly_reached fruits) types (λ seen p m. (newly_was seen p m).new)
      (λ seen p m. let n = newly_was seen p m in met_hold left (λ q. Memᴰ q types) left_ruled n.rule.content p n.meets)
      (length fruits.rules)
      fruits.starts
      (rw (length-map fruits.rules (λ (r : Rule). r.type)) (omega arith))

  pub start_pairs : (p : ℕ) → Memᴰ p fruits.starts ↔ ((k : ℕ) × Memᴰ k u.starts × Memᴰ p (left k))
  unfolding without_unfruitful normalise
  start_pairs p = (
    λ m.
        let n = kept (λ q. is_in q found) (joined_of (pairs_of u) u.starts) m in
        let j = joined_from (pairs_of u) u.starts n.0 in
        (j.0, j.1, keep_mem (λ q. is_in q found) j.2 n.1),
    λ s.
        let n = kept (λ q. is_in q found) (pairs_of u s.0) s.2 in
        keep_mem (λ q. is_in q found) (joined_mem (pairs_of u) s.1 n.0) n.1,
  )

  pub met_reached : (r : Rule) (p : ℕ) → Memᴰ r u.rules → is_in (pair_of u r) (fruitful (normalise u)) ≡ true
      → is_in (pair_of u r) (reached (without_unfruitful (normalise u))) ≡ true
      → Memᴰ p (pairs_met (pairs_left (pairs_of u) (fruitful (normalise u))) r.content)
      → Memᴰ p (reached (without_unfruitful (normalise u)))
  met_reached r p m f s e =
      closed_has (newly_reached fruits) (reached fruits) p reached_closed
      (λ n. was_newly (reached fruits) p
      (record { rule = r; of_table = m; of_fruitful = f; of_seen = s; meets = e; new = n }))

  -- the least such set
  module _ (seen : ℕ → Bool) (starts : (p : ℕ) → Memᴰ p (without_unfruitful (normalise u)).starts → seen p ≡ true)
      (closed : (r : Rule) (p : ℕ) → Memᴰ r u.rules → is_in (pair_of u r) (fruitful (normalise u)) ≡ true
      → seen (pair_of u r) ≡ true
      → Memᴰ p (pairs_met (pairs_left (pairs_of u) (fruitful (normalise u))) r.content)
      → seen p ≡ true) where
    all_seen : (p : ℕ) → Memᴰ p (reached fruits) → seen p ≡ true
    unfolding reached
    all_seen =
        rounds_hold (newly_reached fruits) (λ p. seen p ≡ true)
        (λ list h p m.
        let n = newly_was list p m in
        closed n.rule p n.of_table n.of_fruitful
        (h (pair_of u n.rule) (in_mem (pair_of u n.rule) list n.of_seen))
        n.meets)
        (length fruits.rules)
        fruits.starts
        starts

    pub reached_set : ((p : ℕ) → seen p ≡ true → is_in p (reached (without_unfruitful (normalise u))) ≡ true)
        → seen ≡ (λ p. is_in p (reached (without_unfruitful (normalise u))))
    reached_set sound =
        fun_ext (λ p. same_test (seen p) (is_in p (reached fruits)) (sound p, λ e. all_seen p (in_mem p (reached fruits) e)))
