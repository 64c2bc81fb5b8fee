-- The automaton of a table in which each type has at most one rule, with a label among the labels: its states are the types, and a
-- type steps to the words of its rule's content, for a node with text if its rule is for text.
--     label_rule       the label of a type is that of its rule
--     type_accepts     a type accepts just what it derives
--     table_accepts    the automaton accepts just what the table lets in
--     table_kept       so a table that lets in all that this one lets in lets in all that the automaton accepts
use Prim.Native.Nat.{ℕ}
use mathlib.Core.Bool.{Bool, true}
use mathlib.Core.List.Memᴰ
use mathlib.Core.List.{List, [], ◌∷◌, Memᴰ}
use mathlib.Core.Logic.{◌↔◌}
use mathlib.Core.Option.{some as just}
use mathlib.Core.Path.{◌≡◌, refl, sym, ap, subst}
use lib.Dec.{eqb}
use lib.ListN.{get_elem?, get_or}
use borrow.Author.Tests.{eqb-true, eq-eqb}
use Rattle.grammar.specs.Lists.{keep}
use Rattle.grammar.specs.Names.{Name, SameName}
use Rattle.grammar.specs.Content.{Word}
use Rattle.grammar.specs.Tree.{Head, Tree, Forest}
use Rattle.grammar.specs.Table.{Rule, Table}
use Rattle.grammar.specs.Derivation.{Fits, Derives, derives, DerivesAll, derives_none, derives_next, LetsIn}
use Rattle.grammar.specs.Least.{LetsInAll}
use Rattle.grammar.specs.LocalForm.{label_of}
use Rattle.theory.specs.Conditions.{Labelled}
use Rattle.theory.proofs.Lists.ListLaws.{kept, keep_mem, below_at, at_else}
use Rattle.theory.proofs.Tables.KindLaws.{one_rule}
use Rattle.theory.proofs.Automata.Automaton.{
  Automaton,
  Accepts,
  accepts,
  AcceptsAll,
  accepts_none,
  accepts_next,
  AcceptsDocument,
}
use Rattle.theory.proofs.Tables.TableConditions.{OneRuleEach, HasRule}

-- the name of a type: that of its one rule's label
unfoldable pub type_name : Table → ℕ → Name
type_name g k = get_or g.labels (label_of g k) []

-- a word of the content of a rule of the type, which is for text if the node holds some
pub record Steps (g : Table) (k : ℕ) (text : Bool) (w : List ℕ) : Type 0 where
  pub rule : Rule
  pub of_table : Memᴰ rule g.rules
  pub of_type : rule.type ≡ k
  pub of_text : text ≡ true → rule.text ≡ true
  pub word : Word rule.content w

abbrev pub table_automaton : Table → Automaton ℕ
table_automaton g = record { name = type_name g; Step = Steps g; Start = λ k. Memᴰ k g.starts }

module _ (g : Table) (one_each : OneRuleEach g) where
  pub label_of_lem : (r : Rule) → Memᴰ r g.rules → label_of g r.type ≡ r.label
  unfolding label_of
  label_of_lem r m = go (keep of_type g.rules) refl
    where
      of_type : Rule → Bool
      of_type s = eqb s.type r.type

      go : (l : List Rule) → keep of_type g.rules ≡ l → label_of g r.type ≡ r.label
      go [] e =
          absurd (Memᴰ.not-nil (subst (λ (l : List Rule). Memᴰ r l) e (keep_mem of_type m (eq-eqb r.type r.type refl))))
      go (s ∷ ss) e =
          let k = kept of_type g.rules (subst (λ (l : List Rule). Memᴰ s l) (sym e) (Memᴰ.head refl)) in
          let same : s ≡ r = one_rule g (λ r s. r.type ≡ s.type) one_each s r k.0 m (eqb-true s.type r.type k.1) in
          rw (e, label_of) (ap (λ (q : Rule). q.label) same)

  pub label_rule : {k : ℕ} (h : HasRule g k) → label_of g k ≡ h.rule.label
  label_rule h = subst (λ (j : ℕ). label_of g j ≡ h.rule.label) h.of_type (label_of_lem h.rule h.of_table)

  pub type_name_lem : (r : Rule) → Memᴰ r g.rules → {n : Name} → get_elem? g.labels r.label ≡ just n → type_name g r.type ≡ n
  unfolding type_name
  type_name_lem r m e = rw (label_of_lem r m) (at_else g.labels r.label [] e)

  module _ (labelled : Labelled g) where
    -- A word that fits a type and a name is a step of the type, and the name the type's.
    pub fits_steps : (k : ℕ) (h : Head) (w : List ℕ) → Fits g k h w ↔ (SameName (type_name g k) h.name × Steps g k h.text w)
    fits_steps k h w = (there, λ p. back p.0 p.1)
      where
        n : Name
        n = h.name

        there : Fits g k h w → SameName (type_name g k) n × Steps g k h.text w
        there f = (
          subst (λ (j : ℕ). SameName (type_name g j) n) f.of_type
              (subst (λ (m : Name). SameName m n) (sym (type_name_lem f.rule f.of_table f.of_name.listed)) f.of_name.same),
          record { rule = f.rule; of_table = f.of_table; of_type = f.of_type; of_text = f.of_text; word = f.word },
        )

        back : SameName (type_name g k) n → Steps g k h.text w → Fits g k h w
        back e s =
            let at = below_at g.labels s.rule.label (labelled s.rule s.of_table) in
            let e' = subst (λ (j : ℕ). SameName (type_name g j) n) (sym s.of_type) e in
            record {
              rule = s.rule;
              of_table = s.of_table;
              of_type = s.of_type;
              of_name =
                  record {
                    name = at.0;
                    listed = at.1;
                    same = subst (λ (m : Name). SameName m n) (type_name_lem s.rule s.of_table at.1) e';
                  };
              of_text = s.of_text;
              word = s.word;
            }

    mutual
      accepted_derived : {k : ℕ} {t : Tree} → Accepts (table_automaton g) k t → Derives g k t
      accepted_derived (accepts {s = k} {h = h} {u = w} e step all) =
          derives ((fits_steps k h w).1 (e, step)) (accepted_derived_all all)

      accepted_derived_all : {w : List ℕ} {ts : Forest} → AcceptsAll (table_automaton g) w ts → DerivesAll g w ts
      accepted_derived_all accepts_none = derives_none
      accepted_derived_all (accepts_next a all) = derives_next (accepted_derived a) (accepted_derived_all all)

    mutual
      derived_accepted : {k : ℕ} {t : Tree} → Derives g k t → Accepts (table_automaton g) k t
      derived_accepted (derives {k = k} {h = h} {w = w} f all) =
          let p = (fits_steps k h w).0 f in
          accepts p.0 p.1 (derived_accepted_all all)

      derived_accepted_all : {w : List ℕ} {ts : Forest} → DerivesAll g w ts → AcceptsAll (table_automaton g) w ts
      derived_accepted_all derives_none = accepts_none
      derived_accepted_all (derives_next d all) = accepts_next (derived_accepted d) (derived_accepted_all all)

    pub type_accepts : (k : ℕ) (t : Tree) → Accepts (table_automaton g) k t ↔ Derives g k t
    type_accepts k t = (accepted_derived, derived_accepted)

    pub table_accepts : (d : Tree) → AcceptsDocument (table_automaton g) d ↔ LetsIn g d
    table_accepts d = (
      λ a. record { start = a.start; of_table = a.of_automaton; derived = accepted_derived a.accepted },
      λ l. record { start = l.start; of_automaton = l.of_table; accepted = derived_accepted l.derived },
    )

    pub table_kept : (H : Table) → LetsInAll H (LetsIn g) → LetsInAll H (AcceptsDocument (table_automaton g))
    table_kept H keeps d a = keeps d ((table_accepts d).0 a)
