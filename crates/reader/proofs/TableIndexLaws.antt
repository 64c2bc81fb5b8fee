-- Laws of indexes: what stands at each number, and the index after one label, start or rule more.
use Rattle.reader.specs.declared.index.TableIndex.{TableIndex}
use mathlib.Core.Bool.{true, Bool, false}
use lib.Dec.{eqb}
use Prim.Native.Nat.{ℕ, zero, suc, ◌+◌, ◌≤◌, ◌<◌, ◌-◌}
use native.Mathlib.Omega.{arith}
use mathlib.Core.List.{List, [], ◌∷◌, ◌++◌}
use mathlib.Core.Logic.{◌⊎◌, inl, inr, ⊎_elim}
use mathlib.Core.Option.{some as just}
use mathlib.Core.Path.{◌≡◌, refl, sym, ◌∙◌, ap, subst}
use lib.ListN.{length, get_or, get_elem?, set, length-append, length-set}
use lib.Seq.{get_or-set_same, get_or-set_other}
use Rattle.grammar.specs.Names.{Name}
use Rattle.grammar.specs.Table.{Rule, Table, empty_table}
use Rattle.grammar.specs.ReadTable.{with_label, with_start, with_rule, rule_tag}
use Rattle.grammar.specs.ReadContent.{content_bytes}
use Rattle.theory.proofs.Lists.ListLaws.{below_at, at_below, just_eq}
use Rattle.reader.specs.TableIndex.{
  label_from,
  label_to,
  start_type,
  rule_type,
  rule_label,
  content_from,
  content_to,
  label_count,
  start_count,
  rule_count,
  with_none,
  with_label_at,
  with_start_of,
  with_rule_at,
  part,
  Inside,
  BytesStand,
  RuleAt,
  HasRows,
  Indexes,
}
use Rattle.reader.specs.FieldAt.{TagBefore}

-- one element more at the end: it is one of the others, or the last
module _ {A : Type 0} where
  pub at_end : (xs : List A) (x : A) (i : ℕ) (y : A) → get_elem? (xs ++ (x ∷ [])) i ≡ just y
      → (get_elem? xs i ≡ just y) ⊎ ((i ≡ length xs) × (x ≡ y))
  at_end [] x zero y e = inr (refl, sym (just_eq e))
  at_end [] x (suc i) y e = inl e
  at_end (z ∷ xs) x zero y e = inl e
  at_end (z ∷ xs) x (suc i) y e = ⊎_elim (λ p. inl p) (λ p. inr (ap suc p.0, p.1)) (at_end xs x i y e)

-- what stands in an array after numbers are put at other places
pub put : (l : List ℕ) (n i a : ℕ) → n < length l → i ≡ n → get_or (set l n a) i 0 ≡ a
put l n i a h e = ap (λ (k : ℕ). get_or (set l n a) k 0) e ∙ get_or-set_same l n a 0 h

kept : (l : List ℕ) (n i a : ℕ) → (i ≡ n → ⊥) → get_or (set l n a) i 0 ≡ get_or l i 0
kept l n i a h = get_or-set_other l n i a 0 h

-- bytes that stand where another says the same
pub stands_so : {s : List ℕ} {from from' to to' : ℕ} {bytes bytes' : List ℕ} → BytesStand s from to bytes → from' ≡ from → to' ≡ to → bytes ≡ bytes'
    → BytesStand s from' to' bytes'
stands_so w p q r = rw (p, q, ← r) w

-- a rule stands where the index says the same of it
rule_so : {s : List ℕ} {index index' : TableIndex} {i : ℕ} {r : Rule} → RuleAt s index i r → rule_type index' i ≡ rule_type index i
    → rule_label index' i ≡ rule_label index i → content_from index' i ≡ content_from index i → content_to index' i ≡ content_to index i
    → RuleAt s index' i r
rule_so {s = s} {r = r} w p q f t =
    record {
      type = p ∙ w.type;
      label = q ∙ w.label;
      content = stands_so w.content f t refl;
      tag = subst (λ (n : ℕ). TagBefore s (n - 2) (rule_tag r.text)) (sym f) w.tag;
    }

-- a rule's tag, five bytes before its content, tells whether it is for text
pub tag_tells : {s : List ℕ} {from : ℕ} (text : Bool) → TagBefore s (from - 2) (rule_tag text)
    → (5 ≤ from) × (eqb (get_or s (from - 5) 0) (rule_tag true) ≡ text)
tag_tells {s} {from} text x =
    let behind = x.behind in
    let at : from - 5 ≡ from - 2 - 3 = omega arith in
    (omega arith, ap (λ (j : ℕ). eqb (get_or s j 0) (rule_tag true)) at ∙ ap (λ (t : ℕ). eqb t (rule_tag true)) x.tagged ∙ tells text)
  where
    tells : (text : Bool) → eqb (rule_tag text) (rule_tag true) ≡ text
    tells true = refl
    tells false = refl

module _ {s : List ℕ} {index : TableIndex} {g : Table} (x : Indexes s index g) where
  -- at each number below the count
  pub label_at : (i : ℕ) → i < label_count index
      → (n : Name) × (get_elem? g.labels i ≡ just n) × BytesStand s (label_from index i) (label_to index i) n
  label_at i h =
      let p = below_at g.labels i (omega (arith, x.labels)) in
      (p.0, p.1, x.label i p.0 p.1)

  pub start_at : (i : ℕ) → i < start_count index → get_elem? g.starts i ≡ just (start_type index i)
  start_at i h =
      let p = below_at g.starts i (omega (arith, x.starts)) in
      p.1 ∙ ap just (sym (x.start i p.0 p.1))

  pub rule_at : (i : ℕ) → i < rule_count index → (r : Rule) × (get_elem? g.rules i ≡ just r) × RuleAt s index i r
  rule_at i h =
      let p = below_at g.rules i (omega (arith, x.rules)) in
      (p.0, p.1, x.rule i p.0 p.1)

  -- the tag of a rule's field tells whether it is for text
  pub text_at : (i : ℕ) (r : Rule) → get_elem? g.rules i ≡ just r
      → (5 ≤ content_from index i) × (content_from index i - 5 < length s)
      × (eqb (get_or s (content_from index i - 5) 0) (rule_tag true) ≡ r.text)
  text_at i r e =
      let w = x.rule i r e in
      let (behind, told) = tag_tells r.text w.tag in
      let order = w.content.inside.order in
      let within = w.content.inside.within in
      (behind, omega arith, told)

  one_more : {A : Type 0} (n m : ℕ) (xs : List A) (y : A) → m ≡ n + 1 → n ≡ length xs → m ≡ length (xs ++ (y ∷ []))
  one_more n m xs y e f = let l = length-append xs (y ∷ []) in omega arith

  module _ (from to : ℕ) (few : label_count index < 128) where
    n : ℕ
    n = label_count index

    more : TableIndex
    more = with_label_at index from to

    label_kept : (i : ℕ) → (i ≡ n → ⊥) → (i ≡ 128 + n → ⊥) → get_or more.names i 0 ≡ get_or index.names i 0
    unfolding n more
    label_kept i p q = kept (set index.names n from) (128 + n) i to q ∙ kept index.names n i from p

    label_from_put : (i : ℕ) → i ≡ n → label_from more i ≡ from
    unfolding n more
    label_from_put i e =
        let room = x.room.names in
        kept (set index.names n from) (128 + n) i to (λ h. omega arith) ∙ put index.names n i from (omega arith) e

    label_to_put : (i : ℕ) → i ≡ n → label_to more i ≡ to
    unfolding n more
    label_to_put i e =
        let room = length-set index.names n from ∙ x.room.names in
        put (set index.names n from) (128 + n) (128 + i) to (omega arith) (ap (λ (k : ℕ). 128 + k) e)

    pub label_added : Inside s from to → Indexes s (with_label_at index from to) (with_label g (part s from to))
    unfolding n more
    label_added h =
        record {
          labels = one_more n (n + 1) g.labels (part s from to) refl x.labels;
          few_labels = omega arith;
          label = λ i m e. ⊎_elim (older i m) (newest i m) (at_end g.labels (part s from to) i m e);
          starts = x.starts;
          few_starts = x.few_starts;
          start = x.start;
          rules = x.rules;
          few_rules = x.few_rules;
          rule = λ i r e. rule_so (x.rule i r e) refl refl refl refl;
          room = record {
            names = length-set (set index.names n from) (128 + n) to ∙ length-set index.names n from ∙ x.room.names;
            start_types = x.room.start_types;
            rule_types = x.room.rule_types;
            rule_labels = x.room.rule_labels;
            contents_from = x.room.contents_from;
            contents_to = x.room.contents_to;
          };
        }
      where
        older : (i : ℕ) (m : Name) → get_elem? g.labels i ≡ just m → BytesStand s (label_from more i) (label_to more i) m
        older i m e =
            let b = at_below g.labels i e in
            let k = x.labels in
            stands_so
            (x.label i m e)
            (label_kept i (λ h. omega arith) (λ h. omega arith))
            (label_kept (128 + i) (λ h. omega arith) (λ h. omega arith))
            refl

        newest : (i : ℕ) (m : Name) → (i ≡ length g.labels) × (part s from to ≡ m) → BytesStand s (label_from more i) (label_to more i) m
        newest i m p =
            let here : BytesStand s from to (part s from to) = record { inside = h; bytes_are = refl } in
            let at : i ≡ n = p.0 ∙ sym x.labels in
            stands_so here (label_from_put i at) (label_to_put i at) p.1

  module _ (k : ℕ) (few : start_count index < 128) where
    first : ℕ
    first = start_count index

    pub start_added : Indexes s (with_start_of index k) (with_start g k)
    unfolding first
    start_added =
        record {
          labels = x.labels;
          few_labels = x.few_labels;
          label = x.label;
          starts = one_more first (first + 1) g.starts k refl x.starts;
          few_starts = omega arith;
          start = λ i t e. ⊎_elim (older i t) (newest i t) (at_end g.starts k i t e);
          rules = x.rules;
          few_rules = x.few_rules;
          rule = λ i r e. rule_so (x.rule i r e) refl refl refl refl;
          room = record {
            names = x.room.names;
            start_types = length-set index.start_types first k ∙ x.room.start_types;
            rule_types = x.room.rule_types;
            rule_labels = x.room.rule_labels;
            contents_from = x.room.contents_from;
            contents_to = x.room.contents_to;
          };
        }
      where
        older : (i t : ℕ) → get_elem? g.starts i ≡ just t → start_type (with_start_of index k) i ≡ t
        older i t e =
            let b = at_below g.starts i e in
            let m = x.starts in
            kept index.start_types first i k (λ h. omega arith) ∙ x.start i t e

        newest : (i t : ℕ) → (i ≡ length g.starts) × (k ≡ t) → start_type (with_start_of index k) i ≡ t
        newest i t p = let room = x.room.start_types in put index.start_types first i k (omega arith) (p.0 ∙ sym x.starts) ∙ p.1

  module _ (k l from to : ℕ) (few : rule_count index < 128) where
    last : ℕ
    last = rule_count index

    longest : TableIndex
    longest = with_rule_at index k l from to

    pub rule_added : (r : Rule) → k ≡ r.type → l ≡ r.label → BytesStand s from to (content_bytes r.content)
        → TagBefore s (from - 2) (rule_tag r.text) → Indexes s (with_rule_at index k l from to) (with_rule g r)
    unfolding last longest
    rule_added r is_type is_label h tag =
        record {
          labels = x.labels;
          few_labels = x.few_labels;
          label = x.label;
          starts = x.starts;
          few_starts = x.few_starts;
          start = x.start;
          rules = one_more last (last + 1) g.rules r refl x.rules;
          few_rules = omega arith;
          rule = λ i q e. ⊎_elim (older i q) (newest i q) (at_end g.rules r i q e);
          room = record {
            names = x.room.names;
            start_types = x.room.start_types;
            rule_types = length-set index.rule_types last k ∙ x.room.rule_types;
            rule_labels = length-set index.rule_labels last l ∙ x.room.rule_labels;
            contents_from = length-set index.contents_from last from ∙ x.room.contents_from;
            contents_to = length-set index.contents_to last to ∙ x.room.contents_to;
          };
        }
      where
        older : (i : ℕ) (q : Rule) → get_elem? g.rules i ≡ just q → RuleAt s longest i q
        older i q e =
            let b = at_below g.rules i e in
            let m = x.rules in
            let other : i ≡ last → ⊥ = λ z. omega arith in
            rule_so
            (x.rule i q e)
            (kept index.rule_types last i k other)
            (kept index.rule_labels last i l other)
            (kept index.contents_from last i from other)
            (kept index.contents_to last i to other)

        newest : (i : ℕ) (q : Rule) → (i ≡ length g.rules) × (r ≡ q) → RuleAt s longest i q
        newest i q p =
            let at : i ≡ last = p.0 ∙ sym x.rules in
            let r₁ = x.room.rule_types in
            let r₂ = x.room.rule_labels in
            let r₃ = x.room.contents_from in
            let r₄ = x.room.contents_to in
            let begins : content_from longest i ≡ from = put index.contents_from last i from (omega arith) at in
            record {
              type = put index.rule_types last i k (omega arith) at ∙ is_type ∙ ap (λ (z : Rule). z.type) p.1;
              label = put index.rule_labels last i l (omega arith) at ∙ is_label ∙ ap (λ (z : Rule). z.label) p.1;
              content = stands_so h begins (put index.contents_to last i to (omega arith) at) (ap (λ (z : Rule). content_bytes z.content) p.1);
              tag =
                  subst (λ (z : Rule). TagBefore s (content_from longest i - 2) (rule_tag z.text)) p.1
                  (subst (λ (n : ℕ). TagBefore s (n - 2) (rule_tag r.text)) (sym begins) tag);
            }

-- an index with no labels, starts or rules is that of the empty table
pub none_indexed : (s : List ℕ) (index : TableIndex) → HasRows index → Indexes s (with_none index) empty_table
none_indexed s index room =
    record {
      labels = refl;
      few_labels = omega arith;
      label = λ i n e. let z = at_below {A = Name} [] i e in absurd (omega arith);
      starts = refl;
      few_starts = omega arith;
      start = λ i k e. let z = at_below {A = ℕ} [] i e in absurd (omega arith);
      rules = refl;
      few_rules = omega arith;
      rule = λ i r e. let z = at_below {A = Rule} [] i e in absurd (omega arith);
      room = record {
        names = room.names;
        start_types = room.start_types;
        rule_types = room.rule_types;
        rule_labels = room.rule_labels;
        contents_from = room.contents_from;
        contents_to = room.contents_to;
      };
    }
