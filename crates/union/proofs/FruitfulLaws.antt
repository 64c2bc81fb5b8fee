-- The fruitful pairs by rounds on sets:
--   types_left, left_types   a type has a known pair just where some pair of its is known
--   round_sound              from fruitful pairs a round makes fruitful pairs
--   rounds_fruitful          a set of fruitful pairs to which a round adds nothing is that of all fruitful pairs
-- and `more_alts`: over a larger set of types, what had alternatives has them.
use Prim.Native.Nat.{ℕ}
use mathlib.Core.Bool.{Bool, true, false≢true}
use mathlib.Core.List.Memᴰ
use mathlib.Core.List.{List, [], map, Memᴰ}
use mathlib.Core.Logic.{⊎_elim}
use mathlib.Core.Path.{◌≡◌, refl, sym, ◌∙◌, ap, subst, fun_ext}
use lib.ListN.{length}
use Rattle.grammar.specs.Lists.{any_pass, keep, is_in}
use Rattle.grammar.specs.Content.{Content, none, empty, type, sequence, choice, any_number, one_or_more, optional, Contents, []ᶜ, ◌∷ᶜ◌}
use Rattle.grammar.specs.Table.{Rule, Table}
use Rattle.grammar.specs.KindTests.{same_pair}
use Rattle.grammar.specs.Normalise.{pair_of, pairs_of, normalise}
use Rattle.grammar.specs.Reduce.{newly_fruitful, fruitful}
use Rattle.theory.specs.Alternatives.{has_alts, all_have_alts, one_has_alts, has_left}
use Rattle.theory.proofs.Lists.BoolLaws.{and_left, and_right, and_intro, or_cases, or_left, or_right, same_test}
use Rattle.theory.proofs.Lists.ListLaws.{any_found, any_of, kept, keep_mem, distinct_has, in_mem, mem_in, at_mem}
use Rattle.theory.proofs.Steps.Rounds.{not_known_lem, rounds_hold, closed_has}
use Rattle.theory.proofs.Steps.Fruitful.{fruitful_closed}
use Rattle.theory.proofs.Steps.NormaliseDocuments.{pair_refl, pair_trans, pair_same, pairs_of_lem}
use Rattle.theory.proofs.Emission.EmittedRule.{first_rules, pair_contents, newly_fruitful_lem}
use Rattle.sets.specs.Sets.{nothing}
use Rattle.union.specs.declared.united.United.{United}
use Rattle.union.specs.View.{Views, first_in, type_in}
use Rattle.union.specs.Rounds.{puts, content_of_rule, types_with, after_round}
use Rattle.union.proofs.PutsLaws.{puts_was, puts_has, puts_keeps}
use Rattle.union.proofs.ViewLaws.{content_is, seen, rule_seen}

-- over more types there are no fewer alternatives
module _ (few many : ℕ → Bool) (more : (k : ℕ) → few k ≡ true → many k ≡ true) where
  mutual
    unfolding has_alts

    pub more_alts : (c : Content) → has_alts few c ≡ true → has_alts many c ≡ true
    more_alts none e = e
    more_alts empty e = e
    more_alts (type k) e = more k e
    more_alts (sequence cs) e = all_more_alts cs e
    more_alts (choice cs) e = one_more_alts cs e
    more_alts (any_number c) e = refl
    more_alts (one_or_more c) e = more_alts c e
    more_alts (optional c) e = refl

    all_more_alts : (cs : Contents) → all_have_alts few cs ≡ true → all_have_alts many cs ≡ true
    all_more_alts []ᶜ e = e
    all_more_alts (c ∷ᶜ cs) e =
        and_intro (has_alts many c) (all_have_alts many cs) (more_alts c (and_left (has_alts few c) (all_have_alts few cs) e))
        (all_more_alts cs (and_right (has_alts few c) (all_have_alts few cs) e))

    one_more_alts : (cs : Contents) → one_has_alts few cs ≡ true → one_has_alts many cs ≡ true
    one_more_alts []ᶜ e = e
    one_more_alts (c ∷ᶜ cs) e =
        ⊎_elim
        (λ h. or_left (has_alts many c) (one_has_alts many cs) (more_alts c h))
        (λ h. or_right (has_alts many c) (one_has_alts many cs) (one_more_alts cs h))
        (or_cases (has_alts few c) (one_has_alts few cs) e)

module _ (u : Table) where
  abbrev found : List ℕ
  found = fruitful (normalise u)

  -- what a round of the definition finds, by the rules of the union
  pub record Newly (known : List ℕ) (p : ℕ) : Type 0 where
    pub rule : Rule
    pub of_table : Memᴰ rule u.rules
    pub of_pair : pair_of u rule ≡ p
    pub alts : has_alts (has_left (pairs_of u) known) rule.content ≡ true
    pub new : Memᴰ p known → ⊥

  abbrev pair_has : List ℕ → Rule → Bool
  pair_has known s = any_pass (has_alts (has_left (pairs_of u) known)) (pair_contents u s)

  newly_was : (known : List ℕ) (p : ℕ) → Memᴰ p (newly_fruitful (normalise u) known) → Newly known p
  newly_was known p m =
      let n = (not_known_lem known (map (pair_of u) (keep (pair_has known) (first_rules u))) p).0
      (subst (λ (l : List ℕ). Memᴰ p l) (newly_fruitful_lem u known) m) in
      let o = Memᴰ.of_map (pair_of u) (keep (pair_has known) (first_rules u)) n.0 in
      let k = kept (pair_has known) (first_rules u) o.1 in
      let a = any_found (has_alts (has_left (pairs_of u) known)) (pair_contents u o.0) k.1 in
      let b = Memᴰ.of_map (λ (r : Rule). r.content) (keep (same_pair o.0) u.rules) a.1 in
      let c = kept (same_pair o.0) u.rules b.1 in
      record {
        rule = b.0;
        of_table = c.0;
        of_pair = sym (pair_same u o.0 b.0 c.1) ∙ o.2;
        alts = ap (has_alts (has_left (pairs_of u) known)) b.2 ∙ a.2;
        new = n.1;
      }

  was_newly : (known : List ℕ) (p : ℕ) → Newly known p → Memᴰ p (newly_fruitful (normalise u) known)
  was_newly known p w =
      let f = distinct_has same_pair pair_refl pair_trans w.of_table in
      let m = keep_mem (same_pair f.0) w.of_table f.2 in
      let a = any_of (has_alts (has_left (pairs_of u) known)) (Memᴰ.map (λ (r : Rule). r.content) m) w.alts in
      let k = Memᴰ.map (pair_of u) (keep_mem (pair_has known) f.1 a) in
      subst (λ (l : List ℕ). Memᴰ p l) (sym (newly_fruitful_lem u known))
      ((not_known_lem known (map (pair_of u) (keep (pair_has known) (first_rules u))) p).1
      (Memᴰ.cast (sym w.of_pair ∙ sym (pair_same u f.0 w.rule f.2)) k, w.new))

  -- the pair of a rule that has alternatives over the fruitful pairs is fruitful
  pub fruitful_on : (r : Rule) → Memᴰ r u.rules → has_alts (has_left (pairs_of u) found) r.content ≡ true
      → Memᴰ (pair_of u r) found
  fruitful_on r m e =
      closed_has (newly_fruitful (normalise u)) found (pair_of u r) (fruitful_closed (normalise u))
      (λ n. was_newly found (pair_of u r) (record { rule = r; of_table = m; of_pair = refl; alts = e; new = n }))

module _ {old add : List ℕ} {v : United} {u : Table} (x : Views old add v u) (known : ℕ → Bool) where
  -- types with a known pair
  pub types_left : (list : List ℕ) → ((p : ℕ) → known p ≡ true → is_in p list ≡ true) → (k : ℕ) → types_with v known k ≡ true
      → has_left (pairs_of u) list k ≡ true
  unfolding types_with
  types_left list h k e =
      ⊎_elim
      (λ b. absurd (false≢true b))
      (λ q.
      let s = seen x q.number q.below in
      let p = first_in v q.number in
      let m = (pairs_of_lem u k p).1
      (record {
        rule = s.0;
        of_pair = record { of_table = at_mem u.rules q.number s.1; numbered = sym s.2.first };
        of_type = sym s.2.type ∙ q.keyed;
      }) in
      any_of (λ r. is_in r list) m (h p q.is_on))
      (puts_was (λ i. known (first_in v i)) (type_in v) nothing v.rules k e)

  pub left_types : (list : List ℕ) → ((p : ℕ) → Memᴰ p list → known p ≡ true) → (k : ℕ)
      → has_left (pairs_of u) list k ≡ true
      → types_with v known k ≡ true
  unfolding types_with
  left_types list h k e =
      let a = any_found (λ r. is_in r list) (pairs_of u k) e in
      let t = (pairs_of_lem u k a.0).0 a.1 in
      let s = rule_seen x t.rule t.of_pair.of_table in
      let i = s.0 in
      let on = h a.0 (in_mem a.0 list a.2) in
      let is_on : known (first_in v i) ≡ true = ap known (s.3.first ∙ t.of_pair.numbered) ∙ on in
      ap (puts (λ j. known (first_in v j)) (type_in v) nothing v.rules) (sym (s.3.type ∙ t.of_type))
      ∙ puts_has (λ j. known (first_in v j)) (type_in v) nothing v.rules i s.1 is_on

  -- a round keeps what is known
  pub round_keeps : (p : ℕ) → known p ≡ true → after_round u v known p ≡ true
  unfolding after_round
  round_keeps p e = puts_keeps (λ i. has_alts (types_with v known) (content_of_rule u i)) (first_in v) known v.rules p e

  pub round_sound : ((p : ℕ) → known p ≡ true → is_in p (fruitful (normalise u)) ≡ true) → (p : ℕ) → after_round u v known p ≡ true
      → is_in p (fruitful (normalise u)) ≡ true
  unfolding after_round
  round_sound h p e =
      ⊎_elim
      (h p)
      (λ q.
      let s = seen x q.number q.below in
      let alts = ap (has_alts (types_with v known)) (sym (content_is u q.number s.0 s.1)) ∙ q.is_on in
      let more = more_alts (types_with v known) (has_left (pairs_of u) (fruitful (normalise u))) (types_left (fruitful (normalise u)) h)
      s.0.content alts in
      let m = fruitful_on u s.0 (at_mem u.rules q.number s.1) more in
      mem_in (Memᴰ.cast (sym q.keyed ∙ s.2.first) m))
      (puts_was (λ i. has_alts (types_with v known) (content_of_rule u i)) (first_in v) known v.rules p e)

  -- where a round adds nothing, every fruitful pair is known
  round_complete : after_round u v known ≡ known → (p : ℕ) → Memᴰ p (fruitful (normalise u)) → known p ≡ true
  unfolding fruitful after_round
  round_complete closed =
      rounds_hold (newly_fruitful (normalise u)) (λ p. known p ≡ true)
      (λ list h p m.
      let n = newly_was u list p m in
      let s = rule_seen x n.rule n.of_table in
      let i = s.0 in
      let alts = more_alts (has_left (pairs_of u) list) (types_with v known) (left_types list h) n.rule.content n.alts in
      let is_on : has_alts (types_with v known) (content_of_rule u i) ≡ true =
      ap (has_alts (types_with v known)) (content_is u i n.rule s.2) ∙ alts in
      ap known (sym (s.3.first ∙ n.of_pair))
      ∙ sym (ap (λ (f : ℕ → Bool). f (first_in v i)) closed)
      ∙ puts_has (λ j. has_alts (types_with v known) (content_of_rule u j)) (first_in v) known v.rules i s.1 is_on)
      (length (normalise u).rules)
      []
      (λ p m. absurd (Memᴰ.not-nil m))

  pub rounds_fruitful : ((p : ℕ) → known p ≡ true → is_in p (fruitful (normalise u)) ≡ true) → after_round u v known ≡ known
      → known ≡ (λ p. is_in p (fruitful (normalise u)))
  rounds_fruitful sound closed =
      fun_ext
      (λ p.
      same_test (known p) (is_in p (fruitful (normalise u)))
      (sound p, λ e. round_complete closed p (in_mem p (fruitful (normalise u)) e)))
