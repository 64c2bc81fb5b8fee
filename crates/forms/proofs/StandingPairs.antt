-- What reducing the normal form of a union leaves, by pairs' numbers:
--   left_pair     a left pair is fruitful, and the number of its first rule
--   standing      the pairs that stand are the left numbers, ascending
--   left_label    the label of a type that is left; of another it is 0
--   label_set     the types of a label among left pairs
--   set_contents  the contents of standing pairs that pass a test
--   text_of_pairs whether a rule left of some left pairs is for text
--   types_met_lem     the pairs met in a set of left pairs, and met_left: they are left
use Prim.Native.Nat.{ℕ, ◌<◌}
use mathlib.Core.Bool.{Bool, true, false, ◌&&◌}
use mathlib.Core.List.Memᴰ
use mathlib.Core.List.{List, [], ◌∷◌, map, map-map, Memᴰ}
use mathlib.Core.Logic.{◌↔◌}
use mathlib.Core.Option.{none as nowhere, some as just, Option}
use mathlib.Core.Path.{◌≡◌, refl, sym, ◌∙◌, ap, ap₂, subst, fun_ext}
use lib.ListN.{length, get_elem?, get_or-eq_default}
use lib.Dec.{eqb}
use borrow.Author.Tests.{eqb-true, eq-eqb}
use Rattle.grammar.specs.Lists.{any_pass, keep, joined_of, is_in, numbers_below}
use Rattle.grammar.specs.Content.{Content}
use Rattle.grammar.specs.Table.{Rule, Table}
use Rattle.grammar.specs.KindTests.{same_pair}
use Rattle.grammar.specs.Normalise.{pair_of, pairs_of, marks, normalise}
use Rattle.grammar.specs.Reduce.{fruitful, reduce, without_unfruitful}
use Rattle.grammar.specs.LocalForm.{label_of}
use Rattle.grammar.specs.SingleTypeForm.{TypeSet, of_label, types_met}
use Rattle.theory.specs.Conditions.{Labelled}
use Rattle.theory.specs.Alternatives.{pairs_met}
use Rattle.theory.proofs.Lists.BoolLaws.{and_left, and_right, and_intro, same_test, not_both}
use Rattle.theory.proofs.Lists.ListLaws.{
  any_found,
  any_of,
  kept,
  keep_mem,
  keep-map,
  at_mem,
  at_below,
  at_else,
  at_or_else,
  past_end,
  joined_from,
  in_mem,
  mem_in,
  numbers_below_lem,
  keep_on,
  joined_on,
}
use Rattle.theory.proofs.Steps.Reached.{start_reached}
use Rattle.theory.proofs.Lists.PlaceLaws.{place_found}
use Rattle.theory.proofs.Lists.DistinctLaws.{keep_within}
use Rattle.theory.proofs.Tables.KindTests.{same_pair_sym}
use Rattle.theory.proofs.Steps.NormaliseDocuments.{pair_refl, pair_same, same_pair_lem, pairs_of_lem}
use Rattle.theory.proofs.Emission.EmittedContent.{joined_map}
use Rattle.theory.proofs.Emission.MarkingRules.{marks_by_alts}
use Rattle.theory.proofs.Emission.EmittedRule.{first_rules, pairs_standing, pair_contents, rule_left, left_rules, set_met}
use Rattle.union.specs.Rounds.{content_of_rule}
use Rattle.union.specs.PairNumbers.{no_rule, rule_numbered, fruitful_of, is_left, is_marking, is_text, contents_of_pair, contents_in, met_in}
use Rattle.union.proofs.PairLists.{firsts_are}
use Rattle.union.proofs.MetLaws.{met_hold}
use Rattle.union.proofs.ReachedLaws.{start_pairs, met_reached, reached_set}
use Rattle.forms.specs.SetForms.{pairs_labelled, label_left, text_by_set}
use Rattle.forms.proofs.KeptLists.{map_itself, numbered, first_itself}

-- all of a set are left
abbrev pub AllLeft : Table → TypeSet → Type 0
AllLeft u s = (p : ℕ) → Memᴰ p s → is_left u p ≡ true

-- a pair by its number: that of its first rule, which stands there
pub record LeftPair (u : Table) (p : ℕ) : Type 0 where
  pub below : p < length u.rules
  pub there : Memᴰ (rule_numbered u p) u.rules
  pub first : pair_of u (rule_numbered u p) ≡ p
  pub is_fruitful : is_in p (fruitful (normalise u)) ≡ true

module _ (u : Table) where
  abbrev numbers : List ℕ
  numbers = numbers_below (length u.rules)

  abbrev left_numbers : List ℕ
  left_numbers = keep (is_left u) numbers

  pub rule_there : (i : ℕ) → i < length u.rules → Memᴰ (rule_numbered u i) u.rules
  rule_there i h = at_mem u.rules i (at_or_else u.rules i no_rule h)

  -- the number of a rule's pair
  pair_at : (r : Rule) → Memᴰ r u.rules
      → (pair_of u r < length u.rules) × (pair_of u (rule_numbered u (pair_of u r)) ≡ pair_of u r)
  unfolding pair_of
  pair_at r m =
      let (s, at, e) = place_found same_pair r u.rules (any_of (same_pair r) m (pair_refl r)) in
      let same = at_else u.rules (pair_of u r) no_rule at in
      (at_below u.rules (pair_of u r) at, ap (pair_of u) same ∙ sym (pair_same u r s e))

  -- some rule has this pair, and it is fruitful
  is_pair : ℕ → Bool
  is_pair p = is_in p (fruitful (normalise u)) && any_pass (λ r. eqb (pair_of u r) p) u.rules

  fruitful_pair : (k p : ℕ) → Memᴰ p (fruitful_of u k) → is_pair p ≡ true
  unfolding is_pair
  fruitful_pair k p m =
      let (n, e) = kept (λ q. is_in q (fruitful (normalise u))) (pairs_of u k) m in
      let o = ((pairs_of_lem u k p).0 n).of_pair in
      and_intro (is_in p (fruitful (normalise u))) (any_pass (λ r. eqb (pair_of u r) p) u.rules) e
      (any_of (λ r. eqb (pair_of u r) p) o.of_table (eq-eqb _ p o.numbered))

  left_is_pair : (λ p. is_left u p && is_pair p) ≡ is_left u
  left_is_pair =
      reached_set u (λ p. is_left u p && is_pair p)
      (λ p m.
      and_intro (is_left u p) (is_pair p) (mem_in (start_reached (without_unfruitful (normalise u)) p m))
      (let (k, s, n) = (start_pairs u p).0 m in fruitful_pair k p n))
      (λ r p m f s n.
      and_intro (is_left u p) (is_pair p)
      (mem_in (met_reached u r p m f (and_left (is_left u (pair_of u r)) (is_pair (pair_of u r)) s) n))
      (met_hold (fruitful_of u) (λ q. is_pair q ≡ true) fruitful_pair r.content p n))
      (λ p e. and_left (is_left u p) (is_pair p) e)

  pub left_pair : (p : ℕ) → is_left u p ≡ true → LeftPair u p
  unfolding is_pair
  left_pair p e =
      let t = and_right (is_left u p) (is_pair p) (ap (λ (f : ℕ → Bool). f p) left_is_pair ∙ e) in
      let some = any_pass (λ r. eqb (pair_of u r) p) u.rules in
      let (r, m, q) = any_found (λ r. eqb (pair_of u r) p) u.rules (and_right (is_in p (fruitful (normalise u))) some t) in
      let same = eqb-true (pair_of u r) p q in
      let (below, first) = pair_at r m in
      let b = subst (λ (i : ℕ). i < length u.rules) same below in
      record {
        below = b;
        there = rule_there p b;
        first = subst (λ (i : ℕ). pair_of u (rule_numbered u i) ≡ i) same first;
        is_fruitful = and_left (is_in p (fruitful (normalise u))) some t;
      }

  left_number : {p : ℕ} → Memᴰ p left_numbers → is_left u p ≡ true
  left_number m = (kept (is_left u) numbers m).1

  number_left : (p : ℕ) → is_left u p ≡ true → Memᴰ p left_numbers
  number_left p e = keep_mem (is_left u) ((numbers_below_lem (length u.rules) p).1 (left_pair p e).below) e

  -- the pairs that stand, by their numbers
  left_first : (q : ℕ) → (is_left u (pair_of u (rule_numbered u q)) && eqb (pair_of u (rule_numbered u q)) q) ≡ is_left u q
  left_first q =
      let p = pair_of u (rule_numbered u q) in
      same_test (is_left u p && eqb p q) (is_left u q) (
        λ e. subst (λ (i : ℕ). is_left u i ≡ true) (eqb-true p q (and_right (is_left u p) (eqb p q) e)) (and_left (is_left u p) (eqb p q) e),
        λ e.
            let f = (left_pair q e).first in
            and_intro (is_left u p) (eqb p q) (subst (λ (i : ℕ). is_left u i ≡ true) (sym f) e) (eq-eqb p q f),
      )

  pub standing : pairs_standing u ≡ map (rule_numbered u) (keep (is_left u) (numbers_below (length u.rules)))
  unfolding pair_of
  standing =
      let stands : (Rule → Bool) = λ r. is_left u (pair_of u r) in
      keep_within stands (λ r. is_in (pair_of u r) (fruitful (normalise u))) (first_rules u)
      (λ r e. (left_pair (pair_of u r) e).is_fruitful)
      ∙ sym
      (map-map (rule_numbered u) (pair_of u) (keep stands (first_rules u))
      ∙ map_itself (λ r. rule_numbered u (pair_of u r)) (keep stands (first_rules u))
      (λ r m.
      first_itself same_pair pair_refl same_pair_sym no_rule u.rules
      (kept stands (first_rules u) m).0))
      ∙ ap (map (rule_numbered u))
      (firsts_are same_pair pair_refl same_pair_sym no_rule stands u.rules
      ∙ ap (λ test. keep test numbers) (fun_ext left_first))

  abbrev rule_of : ℕ → Rule
  rule_of q = rule_left u (rule_numbered u q)

  pub left_rules_are : (reduce (normalise u)).rules
      ≡ map (λ q. rule_left u (rule_numbered u q)) (keep (is_left u) (numbers_below (length u.rules)))
  left_rules_are = left_rules u ∙ ap (map (rule_left u)) standing ∙ map-map (rule_left u) (rule_numbered u) left_numbers

  pub rule_left_lem : (r : Rule) → Memᴰ r (reduce (normalise u)).rules
      → (q : ℕ) × (is_left u q ≡ true) × (rule_left u (rule_numbered u q) ≡ r)
  rule_left_lem r m =
      let (q, n, e) = Memᴰ.of_map rule_of left_numbers (subst (λ (l : List Rule). Memᴰ r l) left_rules_are m) in
      (q, left_number n, e)

  pub left_rule : (q : ℕ) → is_left u q ≡ true → Memᴰ (rule_left u (rule_numbered u q)) (reduce (normalise u)).rules
  left_rule q e = subst (λ (l : List Rule). Memᴰ (rule_of q) l) (sym left_rules_are) (Memᴰ.map rule_of (number_left q e))

  pub left_label : (p : ℕ) → label_of (reduce (normalise u)) p ≡ label_left u p
  unfolding label_of label_left
  left_label p = go (is_left u p) refl (keep of_type (reduce (normalise u)).rules) refl
    where
      of_type : Rule → Bool
      of_type r = eqb r.type p

      -- the pair of a rule of this type
      is_of : {r : Rule} → Memᴰ r (keep of_type (reduce (normalise u)).rules)
          → (is_left u p ≡ true) × ((rule_numbered u p).label ≡ r.label)
      is_of {r} m =
          let (n, t) = kept of_type (reduce (normalise u)).rules m in
          let (q, e, f) = rule_left_lem r n in
          let same = sym (left_pair q e).first ∙ ap (λ (s : Rule). s.type) f ∙ eqb-true r.type p t in (
            subst (λ (i : ℕ). is_left u i ≡ true) same e,
            ap (λ (i : ℕ). (rule_numbered u i).label) (sym same) ∙ ap (λ (s : Rule). s.label) f,
          )

      first : {r : Rule} {rs : List Rule} → keep of_type (reduce (normalise u)).rules ≡ r ∷ rs
          → Memᴰ r (keep of_type (reduce (normalise u)).rules)
      first {r} f = subst (λ (l : List Rule). Memᴰ r l) (sym f) (Memᴰ.head refl)

      go : (b : Bool) → is_left u p ≡ b → (rs : List Rule) → keep of_type (reduce (normalise u)).rules ≡ rs
          → label_of (reduce (normalise u)) p ≡ label_left u p
      go true e [] f =
          absurd (Memᴰ.not-nil (subst (λ (l : List Rule). Memᴰ (rule_of p) l) f
          (keep_mem of_type (left_rule p e) (eq-eqb _ p (left_pair p e).first))))
      go true e (r ∷ rs) f = rw (f, e, label_of, label_left) (sym (is_of (first f)).1)
      go false e [] f = rw (f, e, label_of, label_left)
      go false e (r ∷ rs) f = absurd (not_both (is_of (first f)).0 e)

  -- the types of a label among some
  pub label_set : (types : List ℕ) → AllLeft u types → (l : ℕ)
      → of_label (reduce (normalise u)) types l ≡ pairs_labelled u (λ p. is_in p types) l
  unfolding of_label pairs_labelled
  label_set types left l =
      ap (λ (rs : List Rule). map (λ (r : Rule). r.type) (keep test rs)) left_rules_are
      ∙ ap (map (λ (r : Rule). r.type)) (keep-map rule_of test left_numbers)
      ∙ map-map (λ (r : Rule). r.type) rule_of (keep (λ q. test (rule_of q)) left_numbers)
      ∙ map_itself (λ q. (rule_of q).type) (keep (λ q. test (rule_of q)) left_numbers)
      (λ q m. (left_pair q (left_number (kept (λ p. test (rule_of p)) left_numbers m).0)).first)
      ∙ keep_on (λ q. test (rule_of q)) has left_numbers
      (λ q m.
      ap (λ (p : ℕ). eqb (rule_numbered u q).label l && is_in p types) (left_pair q (left_number m)).first
      ∙ turn (eqb (rule_numbered u q).label l) (is_in q types))
      ∙ keep_within has (is_left u) numbers
      (λ q e. left q (in_mem q types (and_left (is_in q types) (eqb (rule_numbered u q).label l) e)))
    where
      test : Rule → Bool
      test r = eqb r.label l && is_in r.type types

      has : ℕ → Bool
      has p = is_in p types && eqb (rule_numbered u p).label l

      turn : (a b : Bool) → (a && b) ≡ (b && a)
      turn true true = refl
      turn true false = refl
      turn false true = refl
      turn false false = refl

  -- the contents of a left pair
  content_at_lem : (i : ℕ) → (rule_numbered u i).content ≡ content_of_rule u i
  unfolding content_of_rule
  content_at_lem i = go (get_elem? u.rules i) refl
    where
      go : (o : Option Rule) → get_elem? u.rules i ≡ o → (rule_numbered u i).content ≡ content_of_rule u i
      go nowhere e =
          rw (e, content_of_rule)
          (ap (λ (s : Rule). s.content) (get_or-eq_default u.rules no_rule (past_end u.rules i e)))
      go (just r) e = rw (e, content_of_rule) (ap (λ (s : Rule). s.content) (at_else u.rules i no_rule e))

  pair_contents_lem : (q : ℕ) → is_left u q ≡ true → pair_contents u (rule_numbered u q) ≡ contents_of_pair u q
  unfolding contents_of_pair
  pair_contents_lem q e =
      let l = left_pair q e in
      let like : (Rule → Bool) = same_pair (rule_numbered u q) in
      ap (λ (rs : List Rule). map (λ (r : Rule). r.content) (keep like rs)) (numbered no_rule u.rules)
      ∙ ap (map (λ (r : Rule). r.content)) (keep-map (rule_numbered u) like numbers)
      ∙ map-map (λ (r : Rule). r.content) (rule_numbered u) (keep (λ i. like (rule_numbered u i)) numbers)
      ∙ ap₂ (λ (f : ℕ → Content) (is : List ℕ). map f is) (fun_ext content_at_lem)
      (keep_on (λ i. like (rule_numbered u i)) (λ i. eqb (pair_of u (rule_numbered u i)) q) numbers
      (λ i m.
      let there = rule_there i ((numbers_below_lem (length u.rules) i).0 m) in
      same_test (like (rule_numbered u i)) (eqb (pair_of u (rule_numbered u i)) q) (
        λ s. eq-eqb (pair_of u (rule_numbered u i)) q (sym (pair_same u (rule_numbered u q) (rule_numbered u i) s) ∙ l.first),
        λ s.
            same_pair_lem u (rule_numbered u q) (rule_numbered u i) (record { of_table = l.there; numbered = l.first })
            (record { of_table = there; numbered = eqb-true (pair_of u (rule_numbered u i)) q s }),
      )))

  -- the text of a left pair
  pair_text : Labelled u → (q : ℕ) → is_left u q ≡ true → (rule_left u (rule_numbered u q)).text ≡ is_text u q
  unfolding is_text is_marking
  pair_text labelled q e =
      let l = left_pair q e in
      let like : (Rule → Bool) = same_pair (rule_numbered u q) in
      let of_pair : (Rule → Bool) = λ r. eqb (pair_of u r) q && is_marking u r in
      same_test (any_pass (marks u) (keep like u.rules)) (any_pass of_pair u.rules) (
        λ t.
            let (r, m, marked) = any_found (marks u) (keep like u.rules) t in
            let (there, s) = kept like u.rules m in
            any_of of_pair there
            (and_intro (eqb (pair_of u r) q) (is_marking u r)
            (eq-eqb (pair_of u r) q (sym (pair_same u (rule_numbered u q) r s) ∙ l.first))
            (sym (marks_by_alts u labelled r) ∙ marked)),
        λ t.
            let (r, there, on) = any_found of_pair u.rules t in
            let same = eqb-true (pair_of u r) q (and_left (eqb (pair_of u r) q) (is_marking u r) on) in
            any_of (marks u)
            (keep_mem like there
            (same_pair_lem u (rule_numbered u q) r (record { of_table = l.there; numbered = l.first })
            (record { of_table = there; numbered = same })))
            (marks_by_alts u labelled r ∙ and_right (eqb (pair_of u r) q) (is_marking u r) on),
      )

  -- of the rules left that pass a test of left pairs, one is for text just where one of those pairs is
  pub text_of_pairs : Labelled u → (s : TypeSet) → AllLeft u s → (test : Rule → Bool)
      → ((p : ℕ) → is_left u p ≡ true → (test (rule_left u (rule_numbered u p)) ≡ true) ↔ Memᴰ p s)
      → any_pass (λ (r : Rule). r.text) (keep test (reduce (normalise u)).rules) ≡ text_by_set u s
  unfolding text_by_set
  text_of_pairs labelled s left test tests =
      same_test (any_pass (λ (r : Rule). r.text) (keep test (reduce (normalise u)).rules)) (any_pass (is_text u) s) (
        λ t.
            let (r, m, on) = any_found (λ (r : Rule). r.text) (keep test (reduce (normalise u)).rules) t in
            let (n, passes) = kept test (reduce (normalise u)).rules m in
            let (q, e, f) = rule_left_lem r n in
            any_of (is_text u) ((tests q e).0 (ap test f ∙ passes)) (sym (pair_text labelled q e) ∙ ap (λ (z : Rule). z.text) f ∙ on),
        λ t.
            let (p, m, on) = any_found (is_text u) s t in
            let e = left p m in
            any_of (λ (r : Rule). r.text) (keep_mem test (left_rule p e) ((tests p e).1 m)) (pair_text labelled p e ∙ on),
      )

  -- the contents of the standing pairs that pass a test, where that is a test of left numbers
  pub set_contents : (test : ℕ → Bool) → ((p : ℕ) → test p ≡ true → is_left u p ≡ true) → (of_rule : Rule → Bool)
      → ((p : ℕ) → is_left u p ≡ true → of_rule (rule_numbered u p) ≡ test p)
      → joined_of (pair_contents u) (keep of_rule (pairs_standing u)) ≡ contents_in u test
  unfolding contents_in
  set_contents test left of_rule same =
      ap (λ (rs : List Rule). joined_of (pair_contents u) (keep of_rule rs)) standing
      ∙ ap (joined_of (pair_contents u)) (keep-map (rule_numbered u) of_rule left_numbers)
      ∙ joined_map (pair_contents u) (rule_numbered u) (keep (λ q. of_rule (rule_numbered u q)) left_numbers)
      ∙ ap (joined_of (λ q. pair_contents u (rule_numbered u q)))
      (keep_on (λ q. of_rule (rule_numbered u q)) test left_numbers (λ q m. same q (left_number m))
      ∙ keep_within test (is_left u) numbers left)
      ∙ joined_on (λ q. pair_contents u (rule_numbered u q)) (contents_of_pair u) (keep test numbers)
      (λ q m. pair_contents_lem q (left q (kept test numbers m).1))

  module _ (s : TypeSet) (left : AllLeft u s) where
    set_left : (p : ℕ) → is_in p s ≡ true → is_left u p ≡ true
    set_left p e = left p (in_mem p s e)

    pub contents_of_set : joined_of (pair_contents u) (keep (λ r. is_in (pair_of u r) s) (pairs_standing u))
        ≡ contents_in u (λ p. is_in p s)
    contents_of_set =
        set_contents (λ p. is_in p s) set_left (λ r. is_in (pair_of u r) s)
        (λ p e. ap (λ (q : ℕ). is_in q s) (left_pair p e).first)

    pub types_met_lem : types_met (reduce (normalise u)) s ≡ met_in u (λ p. is_in p s)
    unfolding met_in
    types_met_lem = set_met u s ∙ ap (joined_of (pairs_met (fruitful_of u))) contents_of_set

    pub met_left : AllLeft u (met_in u (λ p. is_in p s))
    unfolding met_in contents_in contents_of_pair content_of_rule
    met_left p m =
        let (c, n, e) = joined_from (pairs_met (fruitful_of u)) (contents_in u (λ p. is_in p s)) m in
        let (q, o, f) = joined_from (contents_of_pair u) (keep (λ p. is_in p s) numbers) n in
        let l = set_left q (kept (λ p. is_in p s) numbers o).1 in
        let of_pair : (ℕ → Bool) = λ i. eqb (pair_of u (rule_numbered u i)) q in
        let (i, at, d) = Memᴰ.of_map (content_of_rule u) (keep of_pair numbers) f in
        let (b, t) = kept of_pair numbers at in
        let same = eqb-true (pair_of u (rule_numbered u i)) q t in
        mem_in
        (met_reached u (rule_numbered u i) p (rule_there i ((numbers_below_lem (length u.rules) i).0 b))
        (ap (λ (x : ℕ). is_in x (fruitful (normalise u))) same ∙ (left_pair q l).is_fruitful)
        (ap (λ (x : ℕ). is_left u x) same ∙ l)
        (subst (λ (x : Content). Memᴰ p (pairs_met (fruitful_of u) x)) (sym (content_at_lem i ∙ d)) e))
