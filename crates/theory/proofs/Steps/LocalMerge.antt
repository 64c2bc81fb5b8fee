-- The local form of a reduced table merges the types of one label.
--     local_form_local        it is local
--     local_form_names        no two of its labels have equal names, as in the table
--     local_form_labelled     its rules' labels are among its labels
--     local_form_merge        it is a merge of the table's automaton: its types have the types of their label as members
--     local_form_keeps        it lets in all that the table lets in
--     local_form_least        a local table that lets in all that the table lets in lets in all that the local form lets in
use Prim.Native.Nat.{ℕ, ◌<◌}
use mathlib.Core.Bool.{Bool, true, false, false≢true}
use mathlib.Core.List.Memᴰ
use mathlib.Core.List.{List, [], map, Memᴰ, Forall₂}
use mathlib.Core.Option.{some as just}
use mathlib.Core.Path.{◌≡◌, refl, sym, ◌∙◌, ap, subst}
use lib.Dec.{eqb}
use lib.ListN.{length, get_elem?, get_or}
use borrow.Author.Tests.{eqb-true, eq-eqb}
use Rattle.grammar.specs.Lists.{any_pass, keep, numbers_below}
use Rattle.grammar.specs.Names.{Name, SameName}
use Rattle.grammar.specs.Content.{type, Word}
use Rattle.grammar.specs.Tree.{Head}
use Rattle.grammar.specs.Table.{Rule, Table, Named, DistinctNames}
use Rattle.grammar.specs.Derivation.{Fits, LetsIn}
use Rattle.grammar.specs.Kinds.{Local}
use Rattle.grammar.specs.Least.{LetsInAll}
use Rattle.grammar.specs.UsedLabels.{used_labels}
use Rattle.grammar.specs.LocalForm.{label_of, type_of_label, rule_of_label, local_form}
use Rattle.theory.specs.Conditions.{Labelled}
use Rattle.theory.proofs.Trees.NameLaws.{name_refl}
use Rattle.theory.proofs.Lists.ListLaws.{
  any_of,
  any_found,
  kept,
  keep_mem,
  at_below,
  just_eq,
  numbers_below_lem,
  one_place,
  related_map,
  related_turn,
  eqb_decides,
}
use Rattle.theory.proofs.Lists.PlaceLaws.{place_of}
use Rattle.theory.proofs.Contents.WordLaws.{merge_words}
use Rattle.theory.proofs.Automata.Merge.{Forth, Back, TextStep, StartType, accepted_let_in}
use Rattle.theory.proofs.Automata.LeastMerge.{StartMember}
use Rattle.theory.proofs.Automata.LeastLocal.{Reached, LocalMerge, least_local}
use Rattle.theory.proofs.Automata.TableAutomaton.{
  Steps,
  type_name,
  table_automaton,
  label_of_lem,
  fits_steps,
  table_accepts,
  label_rule,
  table_kept,
}
use Rattle.theory.proofs.Tables.ReducedTable.{ReducedTable}
use Rattle.theory.proofs.Automata.ReducedAutomaton.{type_alive, step_rules, step_alive, rule_step, type_reached}
use Rattle.theory.proofs.Steps.UsedLabelsDocuments.{used_below, used_differ, label_used}
use Rattle.theory.proofs.Tables.TableConditions.{HasRule, rule_that_fits}
use Rattle.theory.proofs.Lists.NoTwo.{no_two_map}

module _ (g : Table) where
  pub local_form_local : Local (local_form g)
  unfolding local_form rule_of_label
  local_form_local =
      no_two_map (rule_of_label g) (λ r s. r.label ≡ s.label) (used_labels g)
      (λ i j l m p q e. one_place (used_labels g) i j (used_differ g) p q e)

  pub local_form_names : DistinctNames g → DistinctNames (local_form g)
  unfolding local_form
  local_form_names names = names

  pub local_form_labelled : Labelled (local_form g)
  unfolding local_form rule_of_label
  local_form_labelled r m =
      let a = Memᴰ.of_map (rule_of_label g) (used_labels g) m in
      subst (λ (t : Rule). t.label < length g.labels) a.2 (used_below g a.1)

  -- the type of the label of a type
  unfoldable pub merged : ℕ → ℕ
  merged k = type_of_label g (label_of g k)

  -- type i merges the types of one label, and k is one of them
  pub record Merges (i k : ℕ) : Type 0 where
    pub has_rule : HasRule g k
    pub of_label : merged k ≡ i

  -- a word of the rule of a label: a word of a rule with that label, with each type merged
  record MergedWord (l : ℕ) (w : List ℕ) : Type 0 where
    rule : Rule
    of_table : Memᴰ rule g.rules
    of_label : rule.label ≡ l
    source : List ℕ
    word : Word rule.content source
    renamed : w ≡ map merged source

  merged_word : (l : ℕ) {w : List ℕ} → Word (rule_of_label g l).content w → MergedWord l w
  unfolding rule_of_label merged
  merged_word l {w} v =
      let u = (merge_words merged (keep (λ (r : Rule). eqb r.label l) g.rules) w).0 v in
      let k = kept (λ (r : Rule). eqb r.label l) g.rules u.listed in
      record {
        rule = u.rule;
        of_table = k.0;
        of_label = eqb-true u.rule.label l k.1;
        source = u.source;
        word = u.word;
        renamed = u.renamed;
      }

  word_merged : (r : Rule) → Memᴰ r g.rules → (u : List ℕ) → Word r.content u
      → Word (rule_of_label g r.label).content (map merged u)
  unfolding rule_of_label merged
  word_merged r m u v =
      (merge_words merged (keep (λ (s : Rule). eqb s.label r.label) g.rules) (map merged u)).1
      (record {
        rule = r;
        listed = keep_mem (λ (s : Rule). eqb s.label r.label) m (eq-eqb r.label r.label refl);
        source = u;
        word = v;
        renamed = refl;
      })

  -- a rule for text of the local form has a rule for text behind it
  text_merged : (r : Rule) → Memᴰ r g.rules → r.text ≡ true → (rule_of_label g r.label).text ≡ true
  unfolding rule_of_label
  text_merged r m e =
      any_of (λ (s : Rule). s.text) (keep_mem (λ (s : Rule). eqb s.label r.label) m (eq-eqb r.label r.label refl)) e

  merged_text : (l : ℕ) → (rule_of_label g l).text ≡ true → (r : Rule) × Memᴰ r g.rules × (r.label ≡ l) × (r.text ≡ true)
  unfolding rule_of_label
  merged_text l e =
      let (r, m, t) = any_found (λ (s : Rule). s.text) (keep (λ (s : Rule). eqb s.label l) g.rules) e in
      let k = kept (λ (s : Rule). eqb s.label l) g.rules m in
      (r, k.0, eqb-true r.label l k.1, t)

module _ (g : Table) (reduced : ReducedTable g) where
  -- the label of a type with a rule is used
  pub merged_at : {k : ℕ} → HasRule g k → get_elem? (used_labels g) (merged g k) ≡ just (label_of g k)
  unfolding merged type_of_label
  merged_at {k} h =
      place_of eqb eqb_decides
      (subst (λ (l : ℕ). Memᴰ l (used_labels g)) (sym (label_rule g reduced.one_rule_each h))
      (label_used g reduced.labelled h.rule h.of_table))

  -- What fits a type fits the type that merges it.
  fits_merged : {k : ℕ} {h : Head} {u : List ℕ} → Fits g k h u → Fits (local_form g) (merged g k) h (map (merged g) u)
  unfolding local_form rule_of_label merged
  fits_merged {u = u} f =
      record {
        rule = rule_of_label g f.rule.label;
        of_table = Memᴰ.map (rule_of_label g) (label_used g reduced.labelled f.rule f.of_table);
        of_type = ap (type_of_label g) (sym (label_rule g reduced.one_rule_each (rule_that_fits f)));
        of_name = record { name = f.of_name.name; listed = f.of_name.listed; same = f.of_name.same };
        of_text = λ e. text_merged g f.rule f.of_table (f.of_text e);
        word = word_merged g f.rule f.of_table u f.word;
      }

  -- And all that fits a type of the local form comes from there, up to text.
  record Source (i : ℕ) (n : Name) (w : List ℕ) : Type 0 where
    type : ℕ
    word : List ℕ
    fits : Fits g type (record { name = n; text = false }) word
    of_label : merged g type ≡ i
    renamed : w ≡ map (merged g) word

  source : {i : ℕ} {h : Head} {w : List ℕ} → Fits (local_form g) i h w → Source i h.name w
  unfolding local_form rule_of_label merged
  source {i} {h} {w} f =
      let a = Memᴰ.of_map (rule_of_label g) (used_labels g) f.of_table in
      let l = a.0 in
      let m = merged_word g l (subst (λ (r : Rule). Word r.content w) (sym a.2) f.word) in
      let of_name = subst (λ (r : Rule). Named (local_form g) r.label h.name) (sym a.2) f.of_name in
      record {
        type = m.rule.type;
        word = m.source;
        fits =
            record {
              rule = m.rule;
              of_table = m.of_table;
              of_type = refl;
              of_name =
                  record {
                    name = of_name.name;
                    listed = ap (λ (j : ℕ). get_elem? g.labels j) m.of_label ∙ of_name.listed;
                    same = of_name.same;
                  };
              of_text = λ e. absurd (false≢true e);
              word = m.word;
            };
        of_label =
            ap (type_of_label g) (label_of_lem g reduced.one_rule_each m.rule m.of_table ∙ m.of_label)
            ∙ ap (λ (r : Rule). r.type) a.2
            ∙ f.of_type;
        renamed = m.renamed;
      }

  step_merges : {k : ℕ} {text : Bool} {u : List ℕ} → Steps g k text u → Forall₂ (Merges g) (map (merged g) u) u
  step_merges {u = u} step =
      related_turn {R = λ j i. Merges g i j} (λ j i p. p)
      (related_map (merged g) u (λ j at. record { has_rule = step_rules g reduced step j at; of_label = refl }))

  one_name : (i j k : ℕ) → Merges g i j → Merges g i k → SameName (type_name g j) (type_name g k)
  unfolding type_name
  one_name i j k p q =
      let e =
      just_eq
      (sym (merged_at q.has_rule)
      ∙ ap (λ (m : ℕ). get_elem? (used_labels g) m) (q.of_label ∙ sym p.of_label)
      ∙ merged_at p.has_rule)
      in
      subst (λ (l : ℕ). SameName (type_name g j) (get_or g.labels l [])) e (name_refl (type_name g j))

  forward : (i k : ℕ) (text : Bool) (u : List ℕ) → Merges g i k → Steps g k text u
      → Forth (table_automaton g) (local_form g) (Merges g) i k text u
  forward i k text u m step =
      let h : Head = record { name = type_name g k; text = text } in
      let f = (fits_steps g reduced.one_rule_each reduced.labelled k h u).1 (name_refl (type_name g k), step) in
      record {
        word = map (merged g) u;
        fits = subst (λ (j : ℕ). Fits (local_form g) j h (map (merged g) u)) m.of_label (fits_merged f);
        members = step_merges step;
      }

  backward : (i : ℕ) (h : Head) (w : List ℕ) → Fits (local_form g) i h w
      → Back (table_automaton g) (local_form g) (Merges g) i h.name w
  backward i h w f =
      let s = source f in
      let plain : Head = record { name = h.name; text = false } in
      let p = (fits_steps g reduced.one_rule_each reduced.labelled s.type plain s.word).0 s.fits in
      record {
        state = s.type;
        member =
            record {
              has_rule = rule_that_fits s.fits;
              of_label = s.of_label;
            };
        named = p.0;
        next = s.word;
        step = p.1;
        members = subst (λ (v : List ℕ). Forall₂ (Merges g) v s.word) (sym s.renamed) (step_merges p.1);
        alive = step_alive g reduced p.1;
      }

  -- a rule for text merges a rule for text, which has a step
  textual : (i : ℕ) (h : Head) (w : List ℕ) → Fits (local_form g) i h w → h.text ≡ true
      → TextStep (table_automaton g) (local_form g) (Merges g) i
  unfolding local_form rule_of_label merged
  textual i h w f e =
      let a = Memᴰ.of_map (rule_of_label g) (used_labels g) f.of_table in
      let (r, m, l, t) = merged_text g a.0 (ap (λ (q : Rule). q.text) a.2 ∙ f.of_text e) in
      let (u, step) = rule_step g reduced r m true (λ p. t) in
      record {
        state = r.type;
        member =
            record {
              has_rule = record { rule = r; of_table = m; of_type = refl };
              of_label =
                  ap (type_of_label g) (label_of_lem g reduced.one_rule_each r m ∙ l)
                  ∙ ap (λ (q : Rule). q.type) a.2
                  ∙ f.of_type;
            };
        next = u;
        step = step;
        alive = step_alive g reduced step;
      }

  starts : (k : ℕ) → Memᴰ k g.starts → StartType (table_automaton g) (local_form g) (Merges g) k
  unfolding local_form merged
  starts k m =
      let h = reduced.start_rules k m in
      record {
        type = merged g k;
        of_table =
            keep_mem
            (λ t. any_pass (λ j. eqb (merged g j) t) g.starts)
            ((numbers_below_lem (length (used_labels g)) (merged g k)).1 (at_below (used_labels g) (merged g k) (merged_at h)))
            (any_of (λ j. eqb (merged g j) (merged g k)) m (eq-eqb (merged g k) (merged g k) refl));
        member = record { has_rule = h; of_label = refl };
      }

  start_members : (i : ℕ) → Memᴰ i (local_form g).starts → StartMember (table_automaton g) (local_form g) (Merges g) i
  unfolding local_form merged
  start_members i m =
      let a = kept (λ t. any_pass (λ j. eqb (merged g j) t) g.starts) (numbers_below (length (used_labels g))) m in
      let b = any_found (λ j. eqb (merged g j) i) g.starts a.1 in
      let h = reduced.start_rules b.0 b.1 in
      record {
        state = b.0;
        member = record { has_rule = h; of_label = eqb-true (merged g b.0) i b.2 };
        start = b.1;
        alive = type_alive g reduced h;
      }

  pub local_form_merge : LocalMerge (table_automaton g) (local_form g) (Merges g)
  local_form_merge =
      record {
        merge = record { one_name = one_name; backward = backward; textual = textual };
        reached =
            λ i k m.
            let h = m.has_rule in
            subst (λ (j : ℕ). Reached (table_automaton g) j) h.of_type
            (type_reached g reduced (reduced.reaches h.rule h.of_table));
        start_members = start_members;
      }

  pub local_form_keeps : LetsInAll (local_form g) (LetsIn g)
  local_form_keeps d l =
      accepted_let_in (record { forward = forward; starts = starts }) d
      ((table_accepts g reduced.one_rule_each reduced.labelled d).1 l)

  pub local_form_least : (H : Table) → DistinctNames H → Local H → LetsInAll H (LetsIn g) → LetsInAll H (LetsIn (local_form g))
  local_form_least H names local keeps =
      least_local local_form_merge H names local
      (table_kept g reduced.one_rule_each reduced.labelled H keeps)
