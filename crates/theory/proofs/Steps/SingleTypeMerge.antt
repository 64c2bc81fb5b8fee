-- The single-type form of a reduced table whose sets are at most as many as there may be types:
--     single_type_form_kind      it is single-type
--     single_type_form_keeps     it lets in all that the table lets in
--     single_type_form_least     a single-type table that lets in all that the table lets in lets in all that the form lets in
--     single_type_form_merge     it merges the table's automaton: the members of its i-th type are those of the i-th set
--     single_type_form-labels    its labels are the table's (so names stay distinct, -names, and rules labelled, -labelled)
--     single_type_form_each      each of its types has one rule
--     single_type_form_place     the i-th rule is that of type i
--     single_type_form_length    there are as many rules as sets; starts and types in contents are below that (-starts, -types)
use Prim.Native.Nat.{ℕ, ◌≤◌, ◌<◌}
use mathlib.Core.Bool.{Bool, true, false, false≢true}
use mathlib.Core.List.Memᴰ
use mathlib.Core.List.{List, [], ◌∷◌, map, Memᴰ, Forall₂}
use mathlib.Core.Logic.{◌↔◌}
use mathlib.Core.Option.{some as just}
use mathlib.Core.Path.{◌≡◌, refl, sym, ◌∙◌, ap, subst}
use lib.ListN.{length, length-map, get_elem?, get_or}
use Rattle.grammar.specs.Lists.{place, same_numbers}
use Rattle.grammar.specs.Limits.{Limits}
use Rattle.grammar.specs.Names.{Name, SameName}
use Rattle.grammar.specs.Content.{Word, types_in}
use Rattle.grammar.specs.Tree.{Head}
use Rattle.grammar.specs.Table.{Rule, Table, Named, DistinctNames}
use Rattle.grammar.specs.Derivation.{Fits, LetsIn}
use Rattle.grammar.specs.Kinds.{Competing, SingleType}
use Rattle.grammar.specs.Least.{LetsInAll}
use Rattle.grammar.specs.LocalForm.{label_of}
use Rattle.grammar.specs.SingleTypeForm.{
  TypeSet,
  of_label,
  start_sets,
  members,
  types_met,
  all_sets,
  content_of_set,
  text_of_set,
  rule_of_set,
  single_type_form,
}
use Rattle.theory.specs.Conditions.{Labelled}
use Rattle.theory.proofs.Lists.ListLaws.{
  any_of,
  any_found,
  at_mem,
  mem_at,
  at_below,
  below_at,
  just_eq,
  numbers_below_lem,
  at_else,
  at_map,
  at_front,
  related_map,
  related_turn,
  numbers_decide,
}
use Rattle.theory.proofs.Lists.PlaceLaws.{place_of}
use Rattle.theory.proofs.Trees.NameLaws.{name_refl}
use Rattle.theory.proofs.Contents.WordLaws.{merge_words}
use Rattle.theory.proofs.Contents.Standing.{word_stands, merge_type}
use Rattle.theory.proofs.Automata.Automaton.{Automaton}
use Rattle.theory.proofs.Automata.Merge.{Forth, Back, TextStep, StartType, accepted_let_in}
use Rattle.theory.proofs.Automata.LeastSingleType.{Arises, SingleTypeMerge, least_single_type}
use Rattle.theory.proofs.Automata.TableAutomaton.{type_name, Steps, table_automaton, table_accepts, table_kept}
use Rattle.theory.proofs.Tables.ReducedTable.{ReducedTable}
use Rattle.theory.proofs.Steps.SetsClosed.{
  OneLabelSet,
  founded_member,
  founded_label,
  founded_alike,
  of_label_lem,
  member_rule,
  MetIn,
  type_met,
  set_met,
  start_set,
  start_founded,
  met_rules,
  label_below,
  starts_first,
  sets_closed,
  sets_distinct,
  each_set,
}
use Rattle.theory.proofs.Tables.TableConditions.{OneRuleEach, HasRule}
use Rattle.theory.proofs.Automata.ReducedAutomaton.{step_alive, rule_step}

-- the first of a set with members
pub first_member : (s : TypeSet) {k : ℕ} → Memᴰ k s → Memᴰ (get_or s 0 0) s
first_member [] m = elim m [ ]
first_member (k ∷ s) m = Memᴰ.head refl

-- the number of the set of a type's label among those met in a set
abbrev set_number : Table → List TypeSet → TypeSet → ℕ → ℕ
set_number g sets s k = place same_numbers (of_label g (types_met g s) (label_of g k)) sets

-- a word of a set's content: that of a member's rule, types replaced by the number of their set
record WordOfSet (g : Table) (sets : List TypeSet) (s : TypeSet) (w : List ℕ) : Type 0 where
  rule : Rule
  of_table : Memᴰ rule g.rules
  of_set : Memᴰ rule.type s
  source : List ℕ
  word : Word rule.content source
  renamed : w ≡ map (set_number g sets s) source

word_of_set : (g : Table) (sets : List TypeSet) (s : TypeSet) (w : List ℕ) → Word (content_of_set g sets s) w ↔ WordOfSet g sets s w
unfolding content_of_set
word_of_set g sets s w = (there, back)
  where
    there : Word (content_of_set g sets s) w → WordOfSet g sets s w
    there v =
        let u = (merge_words (set_number g sets s) (members g s) w).0 v in
        let p = (member_rule g s u.rule).0 u.listed in
        record { rule = u.rule; of_table = p.0; of_set = p.1; source = u.source; word = u.word; renamed = u.renamed }

    back : WordOfSet g sets s w → Word (content_of_set g sets s) w
    back h =
        (merge_words (set_number g sets s) (members g s) w).1
        (record {
          rule = h.rule;
          listed = (member_rule g s h.rule).1 (h.of_table, h.of_set);
          source = h.source;
          word = h.word;
          renamed = h.renamed;
        })

-- a set's rule is for text where a member's is
text_of_set_lem : (g : Table) (s : TypeSet) → (text_of_set g s ≡ true)
    ↔ ((r : Rule) × Memᴰ r g.rules × Memᴰ r.type s × (r.text ≡ true))
unfolding text_of_set
text_of_set_lem g s = (
  λ e.
      let (r, m, t) = any_found (λ (r : Rule). r.text) (members g s) e in
      let (p, q) = (member_rule g s r).0 m in
      (r, p, q, t),
  λ a. any_of (λ (r : Rule). r.text) ((member_rule g s a.0).1 (a.1, a.2)) a.3,
)

-- A type that stands in a set's content is the number of the set of a type met.
type_of_set : (g : Table) (sets : List TypeSet) (s : TypeSet) (k : ℕ) → Memᴰ k (types_in (content_of_set g sets s))
    → (j : ℕ) × Memᴰ j (types_met g s) × (set_number g sets s j ≡ k)
unfolding content_of_set
type_of_set g sets s k m =
    let (r, q, j, o, e) = merge_type (set_number g sets s) (members g s) k m in
    let (a, b) = (member_rule g s r).0 q in
    (j, (type_met g s j).1 (record { rule = r; of_table = a; of_set = b; stands = o }), e)

-- the members of the i-th type: those of the i-th set
pub record SetMemberOf (lim : Limits) (g : Table) (i k : ℕ) : Type 0 where
  pub set : TypeSet
  pub at : get_elem? (all_sets lim g) i ≡ just set
  pub listed : Memᴰ k set

module _ (lim : Limits) (g : Table) where
  abbrev sets : List TypeSet
  sets = all_sets lim g

  abbrev form : Table
  form = single_type_form lim g

  abbrev Member : ℕ → ℕ → Type 0
  Member = SetMemberOf lim g

  -- a rule of a type is that of its set
  record RuleOf (k : ℕ) (r : Rule) : Type 0 where
    set : TypeSet
    at : get_elem? sets k ≡ just set
    alike : rule_of_set g sets set ≡ r

  -- What fits a type of the form: a word of its set's content, the name of the member whose rule gives it, and text if a member's rule
  -- is for text.
  record FitsSet (k : ℕ) (h : Head) (w : List ℕ) : Type 0 where
    set : TypeSet
    at : get_elem? sets k ≡ just set
    word : WordOfSet g sets set w
    named : SameName (type_name g word.rule.type) h.name
    of_text : h.text ≡ true → text_of_set g set ≡ true

  pub single_type_form-labels : (single_type_form lim g).labels ≡ g.labels
  unfolding single_type_form
  single_type_form-labels = refl

  pub single_type_form_names : DistinctNames g → DistinctNames (single_type_form lim g)
  unfolding single_type_form
  single_type_form_names names = names

  pub single_type_form_length : length (single_type_form lim g).rules ≡ length (all_sets lim g)
  unfolding single_type_form
  single_type_form_length = length-map (all_sets lim g) (rule_of_set g (all_sets lim g))

  module _ (reduced : ReducedTable g) where
    -- A set that is found at a place is found there alone.
    number_at : {s : TypeSet} → Memᴰ s sets → get_elem? sets (place same_numbers s sets) ≡ just s
    number_at m = place_of same_numbers numbers_decide m

    one_place : {s t : TypeSet} {i j : ℕ} → get_elem? sets i ≡ just s → get_elem? sets j ≡ just t → s ≡ t → i ≡ j
    one_place {s} {t} {i} {j} p q e = sets_distinct lim g reduced i j s t p q e

    -- the rules are those of the sets, each at its set's place
    rule_at : (i : ℕ) {r : Rule} → get_elem? form.rules i ≡ just r
        → (s : TypeSet) × (get_elem? sets i ≡ just s) × (rule_of_set g sets s ≡ r)
    unfolding single_type_form
    rule_at i e = at_map (rule_of_set g sets) sets i e

    pub single_type_form_place : (i : ℕ) {r : Rule} → get_elem? (single_type_form lim g).rules i ≡ just r → r.type ≡ i
    unfolding rule_of_set
    single_type_form_place i e =
        let (s, at, q) = rule_at i e in
        ap (λ (r : Rule). r.type) (sym q) ∙ one_place (number_at (at_mem sets i at)) at refl

    pub single_type_form_each : OneRuleEach (single_type_form lim g)
    single_type_form_each i j r s p q e = sym (single_type_form_place i p) ∙ e ∙ single_type_form_place j q

    rule_of : (k : ℕ) (r : Rule) → Memᴰ r form.rules → r.type ≡ k → RuleOf k r
    rule_of k r m e =
        let (i, p) = mem_at m in
        let (s, at, q) = rule_at i p in
        record {
          set = s;
          at = subst (λ (j : ℕ). get_elem? sets j ≡ just s) (sym (single_type_form_place i p) ∙ e) at;
          alike = q;
        }

    -- the label of a set's rule is that of each member
    set_label : {s : TypeSet} → Memᴰ s sets → {k : ℕ} → Memᴰ k s
        → (rule_of_set g sets s).label ≡ label_of g k
    unfolding rule_of_set
    set_label {s} m n = founded_alike g reduced (each_set lim g reduced s m) (first_member s n) n

    pub single_type_form_labelled : Labelled (single_type_form lim g)
    unfolding single_type_form
    single_type_form_labelled r m =
        let h = rule_of r.type r m refl in
        let in_all = at_mem sets r.type h.at in
        let f = each_set lim g reduced h.set in_all in
        subst (λ (l : ℕ). l < length g.labels)
        (sym (set_label in_all (founded_member g reduced f)) ∙ ap (λ (q : Rule). q.label) h.alike)
        (label_below g reduced (founded_label g reduced f (founded_member g reduced f)).has_rule)

    -- a label of the form has the name of the types with that label
    form_named : {k l : ℕ} → HasRule g k → l ≡ label_of g k → (n : Name) → Named form l n ↔ SameName (type_name g k) n
    unfolding single_type_form type_name
    form_named {k} {l} h e n = (
      λ p. subst (λ (m : Name). SameName m n) (sym (at_else g.labels (label_of g k) [] (listed p.listed))) p.same,
      λ p.
          let (m, at) = below_at g.labels (label_of g k) (label_below g reduced h) in
          record {
            name = m;
            listed = subst (λ (j : ℕ). get_elem? g.labels j ≡ just m) (sym e) at;
            same = subst (λ (m : Name). SameName m n) (at_else g.labels (label_of g k) [] at) p;
          },
    )
      where
        listed : {m : Name} → get_elem? g.labels l ≡ just m → get_elem? g.labels (label_of g k) ≡ just m
        listed {m} p = subst (λ (j : ℕ). get_elem? g.labels j ≡ just m) e p

    -- Sets of one label each among the same types: no two of them compete.
    sets_compete : (types : List ℕ) → ((k : ℕ) → Memᴰ k types → HasRule g k) → (k l : ℕ) (s t : TypeSet)
        → get_elem? sets k ≡ just s → get_elem? sets l ≡ just t → OneLabelSet g types s → OneLabelSet g types t → Competing form k l
        → k ≡ l
    sets_compete types have k l s t p q a b c =
        one_place p q
        (a.alike ∙ ap (of_label g types) (sym (label k s p a c.rule₁ c.of_table₁ c.of_type₁)
        ∙ c.one_label
        ∙ label l t q b c.rule₂ c.of_table₂ c.of_type₂) ∙ sym b.alike)
      where
        label : (k : ℕ) (s : TypeSet) → get_elem? sets k ≡ just s → (a : OneLabelSet g types s) (r : Rule)
            → Memᴰ r form.rules → r.type ≡ k → r.label ≡ label_of g a.type
        label k s p a r m e =
            let h = rule_of k r m e in
            let same : h.set ≡ s = just_eq (sym p ∙ h.at) in
            ap (λ (q : Rule). q.label) (sym h.alike)
            ∙ ap (λ (q : TypeSet). (rule_of_set g sets q).label) same
            ∙ set_label (at_mem sets k p)
            (founded_member g reduced (record { types = types; have_rules = have; one_label = a }))

    -- the set of a start type is a start set
    start_at : (k : ℕ) → Memᴰ k form.starts
        → (s : TypeSet) × (get_elem? sets k ≡ just s) × OneLabelSet g g.starts s
    unfolding single_type_form
    start_at k m =
        let (s, at) = below_at (start_sets g) k ((numbers_below_lem (length (start_sets g)) k).0 m) in
        let (rest, e) = starts_first lim g in (
          s,
          subst (λ (l : List TypeSet). get_elem? l k ≡ just s) (sym e) (at_front (start_sets g) rest k at),
          (start_set g reduced s).0 (at_mem (start_sets g) k at),
        )

    pub single_type_form_starts : (k : ℕ) → Memᴰ k (single_type_form lim g).starts → k < length (all_sets lim g)
    single_type_form_starts k m = at_below sets k (start_at k m).1

    module _ (few : length (all_sets lim g) ≤ lim.types) where
      -- a type met in a set: the set of its label is found at its number, and has it as a member
      met_at : {s : TypeSet} → Memᴰ s sets → {k : ℕ} → Memᴰ k (types_met g s)
          → get_elem? sets (set_number g sets s k) ≡ just (of_label g (types_met g s) (label_of g k))
      met_at {s} m {k} n =
          number_at
          (sets_closed lim g few s (of_label g (types_met g s) (label_of g k)) m
          ((set_met g s (of_label g (types_met g s) (label_of g k))).1 (record { type = k; listed = n; alike = refl })))

      met_member : {s : TypeSet} → Memᴰ s sets → {k : ℕ} → Memᴰ k (types_met g s)
          → Member (set_number g sets s k) k
      met_member {s} m {k} n =
          record {
            set = of_label g (types_met g s) (label_of g k);
            at = met_at m n;
            listed =
                (of_label_lem g reduced (types_met g s) (label_of g k) k).1
                (record { has_rule = met_rules g reduced s k n; listed = n; label = refl });
          }

      -- the set of a type that stands in a rule's content is of one label among the types met in the rule's set
      set_of : (r : Rule) (h : RuleOf r.type r) (k : ℕ) → Memᴰ k (types_in r.content)
          → (s : TypeSet) × (get_elem? sets k ≡ just s) × OneLabelSet g (types_met g h.set) s
      unfolding rule_of_set
      set_of r h k m =
          let (j, n, e) =
          type_of_set g sets h.set k (subst (λ (q : Rule). Memᴰ k (types_in q.content)) (sym h.alike) m)
          in (
            of_label g (types_met g h.set) (label_of g j),
            sym (ap (get_elem? sets) e) ∙ met_at (at_mem sets r.type h.at) n,
            record { type = j; listed = n; alike = refl },
          )

      pub single_type_form_types : (r : Rule) → Memᴰ r (single_type_form lim g).rules → (k : ℕ) → Memᴰ k (types_in r.content)
          → k < length (all_sets lim g)
      single_type_form_types r m k n = at_below sets k (set_of r (rule_of r.type r m refl) k n).1

      pub single_type_form_kind : SingleType (single_type_form lim g)
      single_type_form_kind =
          record {
            rules = λ i j r s p q e. single_type_form_each i j r s p q e.0;
            starts =
                λ k l m n c.
                let (s, p, a) = start_at k m in
                let (t, q, b) = start_at l n in
                sets_compete g.starts reduced.start_rules k l s t p q a b c;
            contents = λ r m k l p q c. within r (rule_of r.type r m refl) k l p q c;
          }
        where
          within : (r : Rule) → RuleOf r.type r → (k l : ℕ) → Memᴰ k (types_in r.content)
              → Memᴰ l (types_in r.content) → Competing form k l → k ≡ l
          within r h k l p q c =
              let (s, at, a) = set_of r h k p in
              let (t, bt, b) = set_of r h l q in
              sets_compete (types_met g h.set) (met_rules g reduced h.set) k l s t at bt a b c

      fits_set : (k : ℕ) (h : Head) (w : List ℕ) → Fits form k h w ↔ FitsSet k h w
      unfolding single_type_form rule_of_set
      fits_set k i w = (there, back)
        where
          rule_type : {s : TypeSet} (v : WordOfSet g sets s w) → HasRule g v.rule.type
          rule_type v = record { rule = v.rule; of_table = v.of_table; of_type = refl }

          there : Fits form k i w → FitsSet k i w
          there f =
              let h = rule_of k f.rule f.of_table f.of_type in
              let v = (word_of_set g sets h.set w).0 (subst (λ (r : Rule). Word r.content w) (sym h.alike) f.word) in
              record {
                set = h.set;
                at = h.at;
                word = v;
                named =
                    (form_named (rule_type v)
                    (ap (λ (r : Rule). r.label) (sym h.alike) ∙ set_label (at_mem sets k h.at) v.of_set) i.name).0
                    f.of_name;
                of_text = λ e. ap (λ (r : Rule). r.text) h.alike ∙ f.of_text e;
              }

          back : FitsSet k i w → Fits form k i w
          back f =
              let m = at_mem sets k f.at in
              record {
                rule = rule_of_set g sets f.set;
                of_table = Memᴰ.map (rule_of_set g sets) m;
                of_type = one_place (number_at m) f.at refl;
                of_name = (form_named (rule_type f.word) (set_label m f.word.of_set) i.name).1 f.named;
                of_text = f.of_text;
                word = (word_of_set g sets f.set w).1 f.word;
              }

      -- types of a word of a member's rule: they are met, they are members of the sets that they are replaced by
      word_met : {s : TypeSet} {w : List ℕ} (v : WordOfSet g sets s w) {j : ℕ} → Memᴰ j v.source
          → Memᴰ j (types_met g s)
      word_met {s} v {j} m =
          (type_met g s j).1
          (record {
            rule = v.rule;
            of_table = v.of_table;
            of_set = v.of_set;
            stands = word_stands v.rule.content v.source v.word j m;
          })

      word_members : {s : TypeSet} → Memᴰ s sets → {w : List ℕ} (v : WordOfSet g sets s w)
          → Forall₂ Member w v.source
      word_members {s} m v =
          subst (λ (z : List ℕ). Forall₂ Member z v.source) (sym v.renamed)
          (related_turn {R = λ j i. Member i j} (λ j i p. p)
          (related_map (set_number g sets s) v.source (λ j n. met_member m (word_met v n))))

      abbrev automaton : Automaton ℕ
      automaton = table_automaton g

      forward : (k : ℕ) (s : ℕ) (text : Bool) (u : List ℕ) → Member k s → Steps g s text u → Forth automaton form Member k s text u
      forward k s text u m step =
          record {
            word = map (set_number g sets m.set) u;
            fits =
                (fits_set k (record { name = type_name g s; text = text }) (map (set_number g sets m.set) u)).1
                (record {
                  set = m.set;
                  at = m.at;
                  word = v;
                  named =
                      subst (λ (j : ℕ). SameName (type_name g j) (type_name g s)) (sym step.of_type) (name_refl (type_name g s));
                  of_text =
                      λ e.
                      (text_of_set_lem g m.set).1
                      (step.rule, step.of_table, Memᴰ.cast step.of_type m.listed, step.of_text e);
                });
            members = word_members (at_mem sets k m.at) v;
          }
        where
          v : WordOfSet g sets m.set (map (set_number g sets m.set) u)
          v =
              record {
                rule = step.rule;
                of_table = step.of_table;
                of_set = Memᴰ.cast step.of_type m.listed;
                source = u;
                word = step.word;
                renamed = refl;
              }

      backward : (k : ℕ) (i : Head) (w : List ℕ) → Fits form k i w → Back automaton form Member k i.name w
      backward k i w f =
          let h = (fits_set k i w).0 f in
          let v = h.word in
          let step : Steps g v.rule.type false v.source =
          record { rule = v.rule; of_table = v.of_table; of_type = refl; of_text = λ e. absurd (false≢true e); word = v.word }
          in
          record {
            state = v.rule.type;
            member = record { set = h.set; at = h.at; listed = v.of_set };
            named = h.named;
            next = v.source;
            step = step;
            members = word_members (at_mem sets k h.at) v;
            alive = step_alive g reduced step;
          }

      -- a rule for text has a member whose rule is for text, and that has a step
      textual : (k : ℕ) (i : Head) (w : List ℕ) → Fits form k i w → i.text ≡ true → TextStep automaton form Member k
      textual k i w f e =
          let h = (fits_set k i w).0 f in
          let (r, m, listed, t) = (text_of_set_lem g h.set).0 (h.of_text e) in
          let (u, step) = rule_step g reduced r m true (λ p. t) in
          record {
            state = r.type;
            member = record { set = h.set; at = h.at; listed = listed };
            next = u;
            step = step;
            alive = step_alive g reduced step;
          }

      one_name : (k r s : ℕ) → Member k r → Member k s → SameName (type_name g r) (type_name g s)
      unfolding type_name
      one_name k r s m n =
          let same : n.set ≡ m.set = just_eq (sym m.at ∙ n.at) in
          let e =
          founded_alike g reduced (each_set lim g reduced m.set (at_mem sets k m.at)) m.listed
          (subst (λ (t : TypeSet). Memᴰ s t) same n.listed)
          in
          subst (λ (l : ℕ). SameName (type_name g r) (get_or g.labels l [])) e (name_refl (type_name g r))

      start_type : (s : ℕ) → Memᴰ s g.starts → StartType automaton form Member s
      unfolding single_type_form
      start_type s m =
          let set = of_label g g.starts (label_of g s) in
          let o : OneLabelSet g g.starts set = record { type = s; listed = m; alike = refl } in
          let (i, at) = mem_at ((start_set g reduced set).1 o) in
          let (rest, e) = starts_first lim g in
          record {
            type = i;
            of_table = (numbers_below_lem (length (start_sets g)) i).1 (at_below (start_sets g) i at);
            member =
                record {
                  set = set;
                  at = subst (λ (l : List TypeSet). get_elem? l i ≡ just set) (sym e) (at_front (start_sets g) rest i at);
                  listed = founded_member g reduced (start_founded g reduced o);
                };
          }

      -- Each member of a type within a word was met in the content of some member, which has a word with it.
      arises : (k : ℕ) (i : Head) (w : List ℕ) → Fits form k i w → (l : ℕ) → Memᴰ l w → (s : ℕ) → Member l s
          → Arises automaton form Member k s
      arises k i w f l m s p =
          let h = (fits_set k i w).0 f in
          let v = h.word in
          let (j, q, e) =
          Memᴰ.of_map (set_number g sets h.set) v.source (subst (λ (z : List ℕ). Memᴰ l z) v.renamed m)
          in
          let at = met_at (at_mem sets k h.at) (word_met v q) in
          let same : p.set ≡ of_label g (types_met g h.set) (label_of g j) =
          just_eq (sym at ∙ ap (get_elem? sets) e ∙ p.at)
          in
          from h.set h.at
          ((type_met g h.set s).0
          ((of_label_lem g reduced (types_met g h.set) (label_of g j) s).0
          (subst (λ (t : TypeSet). Memᴰ s t) same p.listed)).listed)
        where
          from : (t : TypeSet) → get_elem? sets k ≡ just t → MetIn g t s
              → Arises automaton form Member k s
          from t at r =
              let v = reduced.content_words r.rule r.of_table s r.stands in
              let step : Steps g r.rule.type false v.0 =
              record { rule = r.rule; of_table = r.of_table; of_type = refl; of_text = λ e. absurd (false≢true e); word = v.1 }
              in
              record {
                state = r.rule.type;
                member = record { set = t; at = at; listed = r.of_set };
                next = v.0;
                step = step;
                alive = step_alive g reduced step;
                within = v.2;
              }

      start_states : (k : ℕ) → Memᴰ k form.starts → (s : ℕ) → Member k s → Memᴰ s g.starts
      start_states k m s p =
          let (t, at, o) = start_at k m in
          let same : p.set ≡ t = just_eq (sym at ∙ p.at) in
          (founded_label g reduced (start_founded g reduced o)
          (subst (λ (u : TypeSet). Memᴰ s u) same p.listed)).listed

      pub single_type_form_merge : SingleTypeMerge (table_automaton g) (single_type_form lim g) (SetMemberOf lim g)
      single_type_form_merge =
          record {
            merge = record { one_name = one_name; backward = backward; textual = textual };
            arises = arises;
            start_states = start_states;
          }

      pub single_type_form_keeps : LetsInAll (single_type_form lim g) (LetsIn g)
      single_type_form_keeps d l =
          accepted_let_in (record { forward = forward; starts = start_type }) d
          ((table_accepts g reduced.one_rule_each reduced.labelled d).1 l)

      pub single_type_form_least : (H : Table) → DistinctNames H → SingleType H → LetsInAll H (LetsIn g)
          → LetsInAll H (LetsIn (single_type_form lim g))
      single_type_form_least H names kind keeps =
          least_single_type single_type_form_merge H names kind
          (table_kept g reduced.one_rule_each reduced.labelled H keeps)
