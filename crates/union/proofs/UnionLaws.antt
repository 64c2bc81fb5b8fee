-- The view of a union rule by rule: the place of a pair (`pair_here`, `pair_nowhere`), one rule more (`views_more`), no rules
-- (`no_views`), the next rule of the old table (`old_next`) and of the addition (`new_next`), and the view of the whole
-- (`views_same`, `union_rules`).
use Rattle.reader.specs.declared.index.TableIndex.{TableIndex}
use Prim.Native.Nat.{ℕ, ◌+◌, ◌≤◌, ◌<◌}
use native.Mathlib.Omega.{arith}
use native.Mathlib.Numerals.{add-one}
use mathlib.Core.Bool.{Bool, true, false, ◌&&◌}
use mathlib.Core.List.{List, [], ◌∷◌, ◌++◌, map, append-nil, append_assoc, map-append}
use mathlib.Core.Logic.{⊎_elim}
use mathlib.Core.Option.{some as just}
use mathlib.Core.Path.{◌≡◌, refl, sym, ◌∙◌, ap, ap₂, subst}
use lib.ListN.{length, get_or, get_elem?, set, take, length-append, length-set}
use lib.Seq.{take-suc, take_all, get_or-set_same, get_or-set_other}
use lib.Dec.{eqb}
use Rattle.grammar.specs.Lists.{place}
use Rattle.grammar.specs.Limits.{large}
use Rattle.grammar.specs.Names.{same_name}
use Rattle.grammar.specs.Content.{Content}
use Rattle.grammar.specs.Table.{Rule, Table}
use Rattle.grammar.specs.KindTests.{same_pair}
use Rattle.grammar.specs.ReadContent.{content_bytes, is_proper}
use Rattle.grammar.specs.Unite.{shifted, united_labels, added, unite}
use Rattle.grammar.specs.Normalise.{pair_of}
use Rattle.theory.proofs.Lists.ListLaws.{at_else, any_of, at_mem, at_below, below_at}
use Rattle.theory.proofs.Lists.PlaceLaws.{place_front, place_end}
use Rattle.theory.proofs.Steps.NormaliseDocuments.{pair_refl}
use Rattle.reader.specs.TableIndex.{BytesStand, rule_type, rule_label, content_from, content_to, rule_count}
use Rattle.reader.specs.Held.{Held}
use Rattle.reader.proofs.LabelSearch.{place_first, place_nowhere}
use Rattle.reader.proofs.TableFoundLaws.{content_in_part, rule_found_at}
use Rattle.reader.proofs.TableIndexLaws.{at_end}
use Rattle.union.specs.declared.labels.Names.{Names}
use Rattle.union.specs.declared.united.United.{United}
use Rattle.union.specs.View.{SourceContent, type_in, label_in, RuleSeen, Views, rules_only, NextRule, AddingTo}
use Rattle.union.specs.UnitedLabels.{new_names, united_names}
use Rattle.union.proofs.ViewLaws.{source_so, tag_so}

-- the place of a pair
module _ {old add : List ℕ} {v : United} {rs : List Rule} (w : Views old add v (rules_only rs)) {ty label : ℕ} (x : Rule)
    (of_type : ty ≡ x.type) (of_label_lem : label ≡ x.label) where
  abbrev test : ℕ → Bool
  test i = eqb ty (type_in v i) && eqb label (label_in v i)

  test_is : (i : ℕ) (z : Rule) → get_elem? rs i ≡ just z → same_pair x z ≡ test i
  unfolding same_pair
  test_is i z e =
      let s = w.rule i z e in
      ap₂ ◌&&◌ (ap₂ eqb (sym of_type) (sym s.type)) (ap₂ eqb (sym of_label_lem) (sym s.label))

  pub pair_here : (i : ℕ) → i < v.rules → ((j : ℕ) → j < i → test j ≡ false) → test i ≡ true → i ≡ place same_pair x rs
  pair_here i h before e =
      let p = below_at rs i (omega (arith, w.rules)) in
      sym (place_first same_pair x rs i p.1 (test_is i p.0 p.1 ∙ e) (λ j z k q. test_is j z q ∙ before j k))

  pub pair_nowhere : ((j : ℕ) → j < v.rules → test j ≡ false) → v.rules ≡ place same_pair x rs
  pair_nowhere before =
      w.rules
      ∙ sym
      (place_nowhere same_pair x rs
      (λ j z q. let b = at_below rs j q in test_is j z q ∙ before j (omega (arith, w.rules))))

-- one rule more
abbrev pub add_united_rule : United → (ty label first from to : ℕ) → United
add_united_rule v ty label first from to =
    record {
      rules = v.rules + 1;
      old_rules = v.old_rules;
      types = set v.types v.rules ty;
      labels = set v.labels v.rules label;
      firsts = set v.firsts v.rules first;
      content_from = set v.content_from v.rules from;
      content_to = set v.content_to v.rules to;
    }

module _ {old add : List ℕ} {v : United} {rs : List Rule} (w : Views old add v (rules_only rs)) where
  other : (l : List ℕ) (i a : ℕ) → i < v.rules → get_or (set l v.rules a) i 0 ≡ get_or l i 0
  other l i a h = get_or-set_other l v.rules i a 0 (λ e. omega arith)

  own : (l : List ℕ) (i a : ℕ) → length l ≡ 256 → v.rules < 256 → i ≡ v.rules → get_or (set l v.rules a) i 0 ≡ a
  own l i a size h e =
      ap (λ (k : ℕ). get_or (set l v.rules a) k 0) e ∙ get_or-set_same l v.rules a 0 (omega arith)

  pub views_more : (ty label first from to : ℕ) (x : Rule) → v.rules < 256 → NextRule old add v ty label from to x
      → first ≡ place same_pair x rs
      → Views old add (add_united_rule v ty label first from to) (rules_only (rs ++ (x ∷ [])))
  unfolding pair_of
  views_more ty label first from to x room n placed =
      let l = length-append rs (x ∷ []) in
      let c = w.rules in
      let rooms = w.rooms in
      record {
        rooms =
            record {
              types = length-set v.types v.rules ty ∙ rooms.types;
              labels = length-set v.labels v.rules label ∙ rooms.labels;
              firsts = length-set v.firsts v.rules first ∙ rooms.firsts;
              content_from = length-set v.content_from v.rules from ∙ rooms.content_from;
              content_to = length-set v.content_to v.rules to ∙ rooms.content_to;
            };
        rules = omega arith;
        few = omega arith;
        rule =
            λ i r e.
            ⊎_elim
            (λ q.
            let h = at_below rs i q in
            let b : i < v.rules = omega arith in
            let s = w.rule i r q in
            let m = at_mem rs i q in
            record {
              type = other v.types i ty b ∙ s.type;
              small = s.small;
              label = other v.labels i label b ∙ s.label;
              first = other v.firsts i first b ∙ s.first ∙ sym (place_front same_pair r rs (x ∷ []) (any_of (same_pair r) m (pair_refl r)));
              in_old =
                  λ p.
                  source_so (sym (other v.content_from i from b)) (sym (other v.content_to i to b)) (s.in_old p);
              in_addition =
                  λ p.
                  let f = s.in_addition p in
                  record {
                    source = f.source;
                    stands =
                        source_so (sym (other v.content_from i from b)) (sym (other v.content_to i to b)) f.stands;
                    same = f.same;
                  };
              tag_old = λ p. tag_so (sym (other v.content_from i from b)) (s.tag_old p);
              tag_addition = λ p. tag_so (sym (other v.content_from i from b)) (s.tag_addition p);
            })
            (λ q.
            let at : i ≡ v.rules = q.0 ∙ sym c in
            let xr : x ≡ r = q.1 in
            subst (λ (y : Rule). RuleSeen old add (add_united_rule v ty label first from to) (rules_only (rs ++ (x ∷ []))) i y) xr
            (record {
              type = own v.types i ty rooms.types room at ∙ n.type;
              small = n.small;
              label = own v.labels i label rooms.labels room at ∙ n.label_is;
              first = own v.firsts i first rooms.firsts room at ∙ placed ∙ sym (place_end same_pair x (pair_refl x) rs);
              in_old =
                  λ p.
                  source_so
                  (sym (own v.content_from i from rooms.content_from room at))
                  (sym (own v.content_to i to rooms.content_to room at))
                  (n.in_old (subst (λ (k : ℕ). k < v.old_rules) at p));
              in_addition =
                  λ p.
                  let f = n.in_addition (subst (λ (k : ℕ). v.old_rules ≤ k) at p) in
                  record {
                    source = f.0;
                    stands =
                        source_so
                        (sym (own v.content_from i from rooms.content_from room at))
                        (sym (own v.content_to i to rooms.content_to room at))
                        f.1;
                    same = f.2;
                  };
              tag_old =
                  λ p.
                  tag_so (sym (own v.content_from i from rooms.content_from room at))
                  (n.tag_old (subst (λ (k : ℕ). k < v.old_rules) at p));
              tag_addition =
                  λ p.
                  tag_so (sym (own v.content_from i from rooms.content_from room at))
                  (n.tag_addition (subst (λ (k : ℕ). v.old_rules ≤ k) at p));
            }))
            (at_end rs x i r e);
      }

pub views_same : {old add : List ℕ} {v : United} {u t : Table} → u.rules ≡ t.rules → Views old add v u → Views old add v t
unfolding pair_of
views_same {old} {add} {v} {u} {t} e w =
    record {
      rooms = w.rooms;
      rules = w.rules ∙ ap length e;
      few = w.few;
      rule =
          λ i r q.
          let s = w.rule i r (ap (λ (l : List Rule). get_elem? l i) e ∙ q) in
          record {
            type = s.type;
            small = s.small;
            label = s.label;
            first = s.first ∙ ap (place same_pair r) e;
            in_old = s.in_old;
            in_addition = s.in_addition;
            tag_old = s.tag_old;
            tag_addition = s.tag_addition;
          };
    }

pub no_views : (old add : List ℕ) (v : United) → v.rules ≡ 0 → length v.types ≡ 256 → length v.labels ≡ 256
    → length v.firsts ≡ 256
    → length v.content_from ≡ 256
    → length v.content_to ≡ 256
    → Views old add v (rules_only [])
no_views old add v e a b c d f =
    record {
      rooms = record { types = a; labels = b; firsts = c; content_from = d; content_to = f };
      rules = e;
      few = omega arith;
      rule = λ i r q. let z : ◌≡◌ {A = ℕ} 0 1 = cc in absurd (omega arith);
    }

-- a content of a table that was read
source_of : {s : List ℕ} {from to : ℕ} {c : Content} → BytesStand s from to (content_bytes c) → is_proper large c ≡ true
    → SourceContent s from to c
source_of {s} {from} {to} {c} w p =
    record { order = w.inside.order; within = w.inside.within; stands = content_in_part c w; proper = p }

take_more : {A : Type 0} (xs : List A) (i : ℕ) {x : A} → get_elem? xs i ≡ just x → take (i + 1) xs ≡ take i xs ++ (x ∷ [])
take_more xs i {x} e =
    ap (λ (k : ℕ). take k xs) (add-one i)
    ∙ take-suc xs i x (at_below xs i e)
    ∙ ap (λ y. take i xs ++ (y ∷ [])) (at_else xs i x e)

-- the next rule of the old table
module _ {old add : List ℕ} {v : United} {index : TableIndex} {g : Table} (t : Held large old index g) (i : ℕ)
    (h : i < rule_count index) (few : v.old_rules ≡ rule_count index) (at : v.rules ≡ i) where
  pub old_next : (ty label from to : ℕ) → ty ≡ rule_type index i → label ≡ rule_label index i → from ≡ content_from index i
      → to ≡ content_to index i
      → (x : Rule)
      × ((rules_only (take i g.rules ++ (x ∷ []))).rules ≡ (rules_only (take (i + 1) g.rules)).rules)
      × NextRule old add v ty label from to x
  old_next ty label from to k l f e =
      let r = rule_found_at t.indexes t.within i h in
      let small = r.type_below in
      let type = r.at.type in (
        r.rule,
        sym (take_more g.rules i r.listed),
        record {
          type = k ∙ type;
          small = omega arith;
          label_is = l ∙ r.at.label;
          in_old = λ p. source_so (sym f) (sym e) (source_of r.at.content r.within.content.proper);
          in_addition = λ p. absurd (omega arith);
          tag_old = λ p. tag_so (sym f) r.at.tag;
          tag_addition = λ p. absurd (omega arith);
        },
      )

-- the next rule of the addition
module _ {old : List ℕ} {olds : TableIndex} {add : List ℕ} {adds : TableIndex} {v : United} {fresh : Names} {g h : Table} (a : AddingTo old olds add adds fresh g h) (i : ℕ)
    (below : i < rule_count adds) (at : v.rules ≡ v.old_rules + i) where
  pub new_next : (ty l label from to : ℕ) → ty ≡ 128 + rule_type adds i → l ≡ rule_label adds i
      → label ≡ place same_name (get_or h.labels l []) (united_names g.labels h.labels)
      → from ≡ content_from adds i
      → to ≡ content_to adds i
      → (x : Rule)
      × ((g.rules ++ map (added large g h) (take i h.rules)) ++ (x ∷ [])
      ≡ g.rules ++ map (added large g h) (take (i + 1) h.rules))
      × NextRule old add v ty label from to x
  unfolding large added united_labels new_names shifted
  new_next ty l label from to k m e f d =
      let r = rule_found_at a.addition.indexes a.addition.within i below in
      let y = r.rule in
      let small = r.type_below in
      let type = r.at.type in (
        added large g h y,
        append_assoc g.rules (map (added large g h) (take i h.rules)) (added large g h y ∷ [])
            ∙ ap
            (λ (rs : List Rule). g.rules ++ rs)
            (sym
            (ap (map (added large g h)) (take_more h.rules i r.listed)
            ∙ map-append (added large g h) (take i h.rules) (y ∷ []))),
        record {
          type = k ∙ ap (λ (n : ℕ). 128 + n) type;
          small = omega arith;
          label_is =
              e
              ∙ ap
              (λ (n : ℕ). place same_name (get_or h.labels n []) (united_names g.labels h.labels))
              (m ∙ r.at.label);
          in_old = λ p. absurd (omega arith);
          in_addition =
              λ p. (y.content, source_so (sym f) (sym d) (source_of r.at.content r.within.content.proper), refl);
          tag_old = λ p. absurd (omega arith);
          tag_addition = λ p. tag_so (sym f) r.at.tag;
        },
      )

-- the rules of the whole
pub union_rules : (g h : Table) (i : ℕ) → length h.rules ≤ i
    → (rules_only (g.rules ++ map (added large g h) (take i h.rules))).rules ≡ (unite large g h).rules
unfolding unite
union_rules g h i e = ap (λ (l : List Rule). g.rules ++ map (added large g h) l) (take_all i h.rules e)

pub union_starts : (g h : Table) → (rules_only g.rules).rules ≡ (rules_only (g.rules ++ map (added large g h) (take 0 h.rules))).rules
union_starts g h = sym (append-nil g.rules)

pub united_labels_lem : (g h : Table) → united_labels g h ≡ united_names g.labels h.labels
unfolding united_labels new_names
united_labels_lem g h = refl
