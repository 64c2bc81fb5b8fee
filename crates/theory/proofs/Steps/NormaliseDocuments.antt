-- Normalise: the normal form lets in all that the table lets in, and perhaps more, since a pair is for text as a whole:
--     normalise_keeps        LetsIn g d → LetsIn (normalise g) d, and normalise_derived, what a type derives, one of its pairs derives
--     pairs_of_lem               the pairs of a type are the pairs of its rules
--     fits_pair              what fits a pair in the normal form fits, up to text, a rule of the pair, each type become one of its pairs
--     pair_fits              and the other way round, with text if the rule marks the pair
--     marked_pair            a pair's rule for text has behind it a rule for text that has a word of fruitful types
--     normalise_types        no two rules of the normal form have one type
--     normalise-labels       the labels are g's, so (normalise_names) no two have equal names if no two of g's do
--     normalise_labelled     each rule's label stays among the labels
--     normalise_contents     each type that stands in a content of the normal form has a rule there
--     normalise_starts       and so has each start, which is a pair of a start of g (normalise_start)
use Prim.Native.Nat.{ℕ, ◌<◌}
use mathlib.Core.Bool.{true}
use mathlib.Core.List.Memᴰ
use mathlib.Core.List.{
  List,
  [],
  ◌∷◌,
  ◌++◌,
  map,
  Memᴰ,
  Forall₂,
}
use mathlib.Core.Logic.{◌↔◌}
use mathlib.Core.Path.{◌≡◌, refl, sym, ◌∙◌, ap, subst}
use lib.ListN.{length}
use lib.Dec.{eqb}
use borrow.Author.Tests.{eqb-true, eq-eqb}
use Rattle.grammar.specs.Lists.{keep, distinct}
use Rattle.grammar.specs.Names.{Name}
use Rattle.grammar.specs.Content.{Content, Word, type, choice_of, types_in}
use Rattle.grammar.specs.Tree.{Head, Tree, Forest}
use Rattle.grammar.specs.Table.{Rule, Table, Named, DistinctNames}
use Rattle.grammar.specs.Derivation.{Fits, Derives, derives, DerivesAll, derives_none, derives_next, LetsIn}
use Rattle.grammar.specs.KindTests.{same_pair}
use Rattle.grammar.specs.Normalise.{pair_of, pairs_of, in_pairs, marks, rule_of_pair, normalise}
use Rattle.grammar.specs.Reduce.{fruitful}
use Rattle.grammar.specs.Least.{LetsInAll}
use Rattle.theory.specs.Conditions.{Labelled}
use Rattle.theory.proofs.Lists.ListLaws.{
  any_of,
  any_found,
  kept,
  keep_mem,
  distinct_was,
  distinct_has,
  joined_from,
  joined_mem,
}
use Rattle.theory.proofs.Lists.PlaceLaws.{place_same, same_place}
use Rattle.theory.proofs.Contents.WordLaws.{choice_words, Spells, spells_none, spells_next, replace_words}
use Rattle.theory.proofs.Tables.TableConditions.{HasRule, AllRuled, OneRuleEach}
use Rattle.theory.proofs.Lists.NoTwo.{no_two_map, no_two_weaken, no_two_distinct}
use Rattle.theory.proofs.Contents.Standing.{choice_type, replace_type}
use Rattle.theory.proofs.Tables.KindTests.{same_pair_lem as pair_decides, same_pair_sym as pair_sym}
use Rattle.theory.proofs.Steps.Fruitful.{KnownWord, forest_fruitful, marks_is}
use Rattle.theory.proofs.Tables.NamedLabels.{same_labels_named}

-- Rules are of one pair when type and label are equal.
pub pair_refl : (r : Rule) → same_pair r r ≡ true
pair_refl r = (pair_decides r r).1 (refl, refl)

pub pair_trans : (r s t : Rule) → same_pair r s ≡ true → same_pair s t ≡ true → same_pair r t ≡ true
pair_trans r s t e f =
    let (p, q) = (pair_decides r s).0 e in
    let (u, v) = (pair_decides s t).0 f in
    (pair_decides r t).1 (p ∙ u, q ∙ v)

module _ (g : Table) where
  -- the rule is of the table, and this is its pair
  pub record OfPair (p : ℕ) (r : Rule) : Type 0 where
    pub of_table : Memᴰ r g.rules
    pub numbered : pair_of g r ≡ p

  -- rules of one pair have one number, and only they
  pub pair_same : (r s : Rule) → same_pair r s ≡ true → pair_of g r ≡ pair_of g s
  unfolding pair_of
  pair_same r s e = place_same same_pair pair_sym pair_trans r s e g.rules

  pub same_pair_lem : {p : ℕ} (r s : Rule) → OfPair p r → OfPair p s → same_pair r s ≡ true
  unfolding pair_of
  same_pair_lem r s a b =
      same_place same_pair pair_sym pair_trans r s g.rules (any_of (same_pair r) a.of_table (pair_refl r))
      (any_of (same_pair s) b.of_table (pair_refl s))
      (a.numbered ∙ sym b.numbered)

  -- the first rule of the pair of a rule
  first_of : {r : Rule} → Memᴰ r g.rules → (s : Rule) × Memᴰ s (distinct same_pair g.rules) × (same_pair s r ≡ true)
  first_of m = distinct_has same_pair pair_refl pair_trans m

  -- the pairs of a type
  pub record TypesPair (k p : ℕ) : Type 0 where
    pub rule : Rule
    pub of_pair : OfPair p rule
    pub of_type : rule.type ≡ k

  pub pairs_of_lem : (k p : ℕ) → Memᴰ p (pairs_of g k) ↔ TypesPair k p
  unfolding pairs_of
  pairs_of_lem k p = (there, back)
    where
      there : Memᴰ p (pairs_of g k) → TypesPair k p
      there m =
          let (r, n, e) = Memᴰ.of_map (pair_of g) (keep (λ (r : Rule). eqb r.type k) (distinct same_pair g.rules)) m in
          let (o, t) = kept (λ (r : Rule). eqb r.type k) (distinct same_pair g.rules) n in
          record {
            rule = r;
            of_pair = record { of_table = distinct_was same_pair g.rules o; numbered = e };
            of_type = eqb-true r.type k t;
          }

      back : TypesPair k p → Memᴰ p (pairs_of g k)
      back a =
          let r = a.rule in
          let (s, m, e) = first_of a.of_pair.of_table in
          Memᴰ.cast (sym a.of_pair.numbered ∙ sym (pair_same s r e))
          (Memᴰ.map (pair_of g)
          (keep_mem (λ (r : Rule). eqb r.type k) m (eq-eqb s.type k (((pair_decides s r).0 e).0 ∙ a.of_type))))

  -- A word of a content in pairs is a word of the content, each type become one of its pairs.
  abbrev pub InPairs : List ℕ → List ℕ → Type 0
  InPairs = Forall₂ (λ k p. Memᴰ p (pairs_of g k))

  pub record PairWord (c : Content) (w : List ℕ) : Type 0 where
    pub source : List ℕ
    pub word : Word c source
    pub paired : InPairs source w

  abbrev choice_of_pairs : ℕ → Content
  choice_of_pairs k = choice_of (map type (pairs_of g k))

  one_letter : (k : ℕ) (w : List ℕ) → Word (choice_of_pairs k) w ↔ ((p : ℕ) × Memᴰ p (pairs_of g k) × (w ≡ p ∷ []))
  one_letter k w = (there, back)
    where
      there : Word (choice_of_pairs k) w → (p : ℕ) × Memᴰ p (pairs_of g k) × (w ≡ p ∷ [])
      there v =
          let o = (choice_words (map type (pairs_of g k)) w).0 v in
          let (p, m, e) = Memᴰ.of_map type (pairs_of g k) o.1 in
          (p, m, subst (λ (c : Content). Word c w) (sym e) o.2)

      back : (p : ℕ) × Memᴰ p (pairs_of g k) × (w ≡ p ∷ []) → Word (choice_of_pairs k) w
      back t =
          (choice_words (map type (pairs_of g k)) w).1
          (type t.0, Memᴰ.map type t.1, t.2)

  spelled : {u w : List ℕ} → Spells (λ k. Word (choice_of_pairs k)) u w → InPairs u w
  spelled spells_none = Forall₂.nil
  spelled (spells_next {k = k} {u = u} {v = v} {w = w} a s) =
      let (p, m, e) = (one_letter k v).0 a in
      subst (λ (z : List ℕ). InPairs (k ∷ u) (z ++ w)) (sym e) (Forall₂.cons m (spelled s))

  spell : {u w : List ℕ} → InPairs u w → Spells (λ k. Word (choice_of_pairs k)) u w
  spell Forall₂.nil = spells_none
  spell (Forall₂.cons {a = k} {b = p} m s) = spells_next ((one_letter k (p ∷ [])).1 (p, m, refl)) (spell s)

  pub pair_words : (c : Content) (w : List ℕ) → Word (in_pairs g c) w ↔ PairWord c w
  unfolding in_pairs
  pair_words c w = (
    λ v.
        let s = (replace_words choice_of_pairs c w).0 v in
        record { source = s.source; word = s.in_language; paired = spelled s.spelling },
    λ a. (replace_words choice_of_pairs c w).1 (record { source = a.source; in_language = a.word; spelling = spell a.paired }),
  )

  -- The contents of one pair join by choice.
  contents_of : Rule → List Content
  contents_of r = map (λ (s : Rule). in_pairs g s.content) (keep (same_pair r) g.rules)

  joined_content : (r : Rule) → (rule_of_pair g r).content ≡ choice_of (contents_of r)
  unfolding rule_of_pair contents_of
  joined_content r = refl

  listed_content : (r : Rule) {c : Content} → Memᴰ c (contents_of r)
      → (s : Rule) × Memᴰ s g.rules × (same_pair r s ≡ true) × (in_pairs g s.content ≡ c)
  unfolding contents_of
  listed_content r m =
      let (s, n, e) = Memᴰ.of_map (λ (s : Rule). in_pairs g s.content) (keep (same_pair r) g.rules) m in
      let (o, p) = kept (same_pair r) g.rules n in
      (s, o, p, e)

  content_listed : (r s : Rule) → Memᴰ s g.rules → same_pair r s ≡ true → Memᴰ (in_pairs g s.content) (contents_of r)
  unfolding contents_of
  content_listed r s m e = Memᴰ.map (λ (s : Rule). in_pairs g s.content) (keep_mem (same_pair r) m e)

  -- the rules of the normal form
  normal_rule : {r : Rule} → Memᴰ r (normalise g).rules
      → (s : Rule) × Memᴰ s (distinct same_pair g.rules) × (rule_of_pair g s ≡ r)
  unfolding normalise
  normal_rule m = Memᴰ.of_map (rule_of_pair g) (distinct same_pair g.rules) m

  rule_normal : {r : Rule} → Memᴰ r (distinct same_pair g.rules) → Memᴰ (rule_of_pair g r) (normalise g).rules
  unfolding normalise
  rule_normal m = Memᴰ.map (rule_of_pair g) m

  -- a rule of the pair has the name n, and w is a word of its content in pairs
  pub record PairFits (p : ℕ) (n : Name) (w : List ℕ) : Type 0 where
    pub rule : Rule
    pub of_pair : OfPair p rule
    pub of_name : Named g rule.label n
    pub word : PairWord rule.content w

  pub normalise-labels : (normalise g).labels ≡ g.labels
  unfolding normalise
  normalise-labels = refl

  -- What fits a pair in the normal form fits, up to text, a rule of the pair; and what fits a rule that marks the pair fits it with text.
  pub fits_pair : {p : ℕ} {h : Head} {w : List ℕ} → Fits (normalise g) p h w → PairFits p h.name w
  unfolding rule_of_pair
  fits_pair {p} {h} {w} f = let (r, m, e) = normal_rule f.of_table in there r m e
    where
      there : (r : Rule) → Memᴰ r (distinct same_pair g.rules) → rule_of_pair g r ≡ f.rule → PairFits p h.name w
      there r m e =
          let v = subst (λ (q : Rule). Word q.content w) (sym e) f.word in
          let o = (choice_words (contents_of r) w).0 (subst (λ (c : Content). Word c w) (joined_content r) v) in
          let (s, l, q, c) = listed_content r o.1 in
          record {
            rule = s;
            of_pair =
                record {
                  of_table = l;
                  numbered = sym (pair_same r s q) ∙ ap (λ (q : Rule). q.type) e ∙ f.of_type;
                };
            of_name =
                subst (λ (l : ℕ). Named g l h.name) ((pair_decides r s).0 q).1
                (same_labels_named normalise-labels
                (subst (λ (q : Rule). Named (normalise g) q.label h.name) (sym e) f.of_name));
            word = (pair_words s.content w).0 (subst (λ (c : Content). Word c w) (sym c) o.2);
          }

  pub pair_fits : {p : ℕ} {h : Head} {w : List ℕ} (f : PairFits p h.name w) → (h.text ≡ true → marks g f.rule ≡ true)
      → Fits (normalise g) p h w
  unfolding rule_of_pair
  pair_fits {p} {h} {w} f marked =
      let s = f.rule in
      let (r, m, e) = first_of f.of_pair.of_table in
      record {
        rule = rule_of_pair g r;
        of_table = rule_normal m;
        of_type = pair_same r s e ∙ f.of_pair.numbered;
        of_name =
            same_labels_named (sym normalise-labels)
            (subst (λ (l : ℕ). Named g l h.name) (sym ((pair_decides r s).0 e).1) f.of_name);
        of_text = λ t. any_of (marks g) (keep_mem (same_pair r) f.of_pair.of_table e) (marked t);
        word =
            subst (λ (c : Content). Word c w) (sym (joined_content r))
            ((choice_words (contents_of r) w).1 (
              in_pairs g s.content,
              content_listed r s f.of_pair.of_table e,
              (pair_words s.content w).1 f.word,
            ));
      }

  -- A pair's rule for text has behind it a rule for text that has a word of fruitful types.
  pub record MarksPair (p : ℕ) : Type 0 where
    pub rule : Rule
    pub of_pair : OfPair p rule
    pub of_text : rule.text ≡ true
    pub word : KnownWord (fruitful g) (Word rule.content)

  pub marked_pair : (r : Rule) → Memᴰ r (normalise g).rules → r.text ≡ true → MarksPair r.type
  unfolding rule_of_pair
  marked_pair r m t =
      let (s, n, e) = normal_rule m in
      let (q, o, p) = any_found (marks g) (keep (same_pair s) g.rules) (ap (λ (z : Rule). z.text) e ∙ t) in
      let (l, same) = kept (same_pair s) g.rules o in
      let w = (marks_is g q).0 p in
      record {
        rule = q;
        of_pair = record { of_table = l; numbered = sym (pair_same s q same) ∙ ap (λ (z : Rule). z.type) e };
        of_text = w.0;
        word = w.1;
      }

  -- each derivation of the table is one of the normal form from some pair
  mutual
    pub normalise_derived : {k : ℕ} {t : Tree} → Derives g k t → (p : ℕ) × Memᴰ p (pairs_of g k) × Derives (normalise g) p t
    normalise_derived (derives {k = k} {h = h} {w = u} f ds) =
        let (w, a, es) = all_derived ds in
        let q : OfPair (pair_of g f.rule) f.rule = record { of_table = f.of_table; numbered = refl } in
        let fits : PairFits (pair_of g f.rule) h.name w =
        record { rule = f.rule; of_pair = q; of_name = f.of_name; word = record { source = u; word = f.word; paired = a } } in (
          pair_of g f.rule,
          (pairs_of_lem k (pair_of g f.rule)).1 (record { rule = f.rule; of_pair = q; of_type = f.of_type }),
          derives (pair_fits fits (λ t. (marks_is g f.rule).1 (f.of_text t, (u, f.word, forest_fruitful g ds)))) es,
        )

    all_derived : {u : List ℕ} {ts : Forest} → DerivesAll g u ts → (w : List ℕ) × InPairs u w × DerivesAll (normalise g) w ts
    all_derived derives_none = ([], Forall₂.nil, derives_none)
    all_derived (derives_next d ds) =
        let (p, m, e) = normalise_derived d in
        let (w, a, es) = all_derived ds in
        (p ∷ w, Forall₂.cons m a, derives_next e es)

  pub normalise_keeps : LetsInAll (normalise g) (LetsIn g)
  unfolding normalise
  normalise_keeps d l =
      let (p, m, e) = normalise_derived l.derived in
      record { start = p; of_table = joined_mem (pairs_of g) l.of_table m; derived = e }

  pub normalise_start : (p : ℕ) → Memᴰ p (normalise g).starts → (k : ℕ) × Memᴰ k g.starts × Memᴰ p (pairs_of g k)
  unfolding normalise
  normalise_start p m = joined_from (pairs_of g) g.starts m

  pub normalise_types : OneRuleEach (normalise g)
  unfolding normalise
  normalise_types =
      no_two_map (rule_of_pair g) (λ r s. r.type ≡ s.type) (distinct same_pair g.rules)
      (no_two_weaken (λ r s. pair_of g r ≡ pair_of g s) (λ r s. same_pair r s ≡ true) (distinct same_pair g.rules)
      (no_two_distinct same_pair pair_sym g.rules)
      (λ r s m n e.
      same_pair_lem r s (record { of_table = distinct_was same_pair g.rules m; numbered = e })
      (record { of_table = distinct_was same_pair g.rules n; numbered = refl })))

  pub normalise_names : DistinctNames g → DistinctNames (normalise g)
  unfolding normalise
  normalise_names h = h

  pub normalise_labelled : Labelled g → Labelled (normalise g)
  unfolding normalise rule_of_pair
  normalise_labelled h r m =
      let (s, n, e) = normal_rule m in
      subst (λ (q : Rule). q.label < length g.labels) e (h s (distinct_was same_pair g.rules n))

  pair_has_rule : (k p : ℕ) → Memᴰ p (pairs_of g k) → HasRule (normalise g) p
  unfolding rule_of_pair
  pair_has_rule k p m =
      let a = (pairs_of_lem k p).0 m in
      let (r, n, e) = first_of a.of_pair.of_table in
      record {
        rule = rule_of_pair g r;
        of_table = rule_normal n;
        of_type = pair_same r a.rule e ∙ a.of_pair.numbered;
      }

  pub normalise_starts : (p : ℕ) → Memᴰ p (normalise g).starts → HasRule (normalise g) p
  normalise_starts p m = let (k, n, q) = normalise_start p m in pair_has_rule k p q

  -- The types that stand in a content in pairs are the pairs of the types that stand in the content.
  pub pair_stands : (c : Content) (p : ℕ)
      → Memᴰ p (types_in (in_pairs g c)) ↔ ((k : ℕ) × Memᴰ k (types_in c) × Memᴰ p (pairs_of g k))
  unfolding in_pairs types_in
  pair_stands c p = (there, back)
    where
      there : Memᴰ p (types_in (in_pairs g c)) → (k : ℕ) × Memᴰ k (types_in c) × Memᴰ p (pairs_of g k)
      there m =
          let (k, n, q) = (replace_type choice_of_pairs p c).0 m in
          let (d, o, s) = (choice_type p (map type (pairs_of g k))).0 q in
          let (l, t, e) = Memᴰ.of_map type (pairs_of g k) o in
          (k, n, Memᴰ.cast (Memᴰ.eq_of_singleton (subst (λ (d : Content). Memᴰ p (types_in d)) (sym e) s)) t)

      back : (k : ℕ) × Memᴰ k (types_in c) × Memᴰ p (pairs_of g k) → Memᴰ p (types_in (in_pairs g c))
      back a =
          (replace_type choice_of_pairs p c).1
          (a.0, a.1, (choice_type p (map type (pairs_of g a.0))).1 (type p, Memᴰ.map type a.2, Memᴰ.head refl))

  pub normalise_contents : AllRuled (normalise g)
  normalise_contents r m p n =
      let (s, o, e) = normal_rule m in
      let c : r.content ≡ choice_of (contents_of s) = sym (ap (λ (q : Rule). q.content) e) ∙ joined_content s in
      let (d, l, q) = (choice_type p (contents_of s)).0 (subst (λ (z : Content). Memᴰ p (types_in z)) c n) in
      let (t, a, b, f) = listed_content s l in
      let (k, h, i) = (pair_stands t.content p).0 (subst (λ (z : Content). Memᴰ p (types_in z)) (sym f) q) in
      pair_has_rule k p i
