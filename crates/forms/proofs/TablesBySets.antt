-- A form by sets: `table_by_sets_lem`: a form whose i-th rule has type i, the label and the text of the i-th set, and a content that tidied is
-- that by the set, is after the last two steps, used labels and tidying, the table by sets.
use Prim.Native.Nat.{ℕ, zero}
use native.Mathlib.Omega.{arith}
use mathlib.Core.Bool.{Bool}
use mathlib.Core.List.{List, [], map, map-map}
use mathlib.Core.Option.{some as just}
use mathlib.Core.Path.{◌≡◌, sym, ◌∙◌, ap, ap₂, fun_ext}
use lib.ListN.{length, length-map, get_elem?, get_or}
use lib.Dec.{eqb}
use Rattle.grammar.specs.Lists.{any_pass, keep, place, numbers_below}
use Rattle.grammar.specs.Content.{Content}
use Rattle.grammar.specs.Names.{Name}
use Rattle.grammar.specs.Table.{Rule, Table}
use Rattle.grammar.specs.UsedLabels.{used_labels, with_used_labels}
use Rattle.grammar.specs.SingleTypeForm.{TypeSet}
use Rattle.grammar.specs.Tidy.{tidy, tidy_table}
use Rattle.theory.proofs.Lists.ListLaws.{at_map, at_else, at_below, below_at, numbers_at, numbers_length, any_map}
use Rattle.forms.specs.SetForms.{set_label, labels_of, content_by_set, rule_by_set, table_by_sets, text_by_set}
use Rattle.forms.proofs.KeptLists.{same_at}

-- the rule of a set, before the labels are numbered anew and its content is tidied
pub record RuleOfSet (u : Table) (sets : List TypeSet) (pairs : TypeSet → ℕ → Bool) (i : ℕ) (s : TypeSet) (r : Rule)
    : Type 0 where
  pub type : r.type ≡ i
  pub label : r.label ≡ set_label u s
  pub content : tidy r.content ≡ content_by_set u sets (pairs s) s
  pub text : r.text ≡ text_by_set u s

pub record FormOfSets (u : Table) (sets : List TypeSet) (pairs : TypeSet → ℕ → Bool) (form : Table) : Type 0 where
  pub labels : form.labels ≡ u.labels
  pub count : length form.rules ≡ length sets
  pub rule : (i : ℕ) (s : TypeSet) (r : Rule) → get_elem? sets i ≡ just s → get_elem? form.rules i ≡ just r
      → RuleOfSet u sets pairs i s r

module _ (u : Table) (sets : List TypeSet) (pairs : TypeSet → ℕ → Bool) (form : Table) (f : FormOfSets u sets pairs form) where
  rule_labels : map (λ (r : Rule). r.label) form.rules ≡ map (set_label u) sets
  rule_labels =
      same_at (map (λ (r : Rule). r.label) form.rules) (map (set_label u) sets)
      (length-map form.rules (λ (r : Rule). r.label) ∙ f.count ∙ sym (length-map sets (set_label u)))
      (λ i x y p q.
      let (r, at, e) = at_map (λ (r : Rule). r.label) form.rules i p in
      let (s, bt, d) = at_map (set_label u) sets i q in
      sym e ∙ (f.rule i s r bt at).label ∙ d)

  used_labels_lem : used_labels form ≡ labels_of u sets
  unfolding used_labels labels_of
  used_labels_lem =
      ap₂ (λ (test : ℕ → Bool) (ls : List Name). keep test (numbers_below (length ls)))
      (fun_ext (λ l.
      sym (any_map (λ (r : Rule). r.label) (λ m. eqb m l) form.rules)
      ∙ ap (any_pass (λ m. eqb m l)) rule_labels
      ∙ any_map (set_label u) (λ m. eqb m l) sets))
      f.labels

  -- a rule as the last two steps make it
  abbrev numbered : List ℕ → Rule → Rule
  numbered used r = record { type = r.type; label = place eqb r.label used; content = r.content; text = r.text }

  abbrev tidied : Rule → Rule
  tidied r = record { type = r.type; label = r.label; content = tidy r.content; text = r.text }

  abbrev finish : Rule → Rule
  finish r = tidied (numbered (labels_of u sets) r)

  abbrev rule_by : ℕ → TypeSet → Rule
  rule_by i s =
      record {
        type = i;
        label = place eqb (set_label u s) (labels_of u sets);
        content = content_by_set u sets (pairs s) s;
        text = text_by_set u s;
      }

  finished_rule : (i : ℕ) (s : TypeSet) (r : Rule) → get_elem? sets i ≡ just s → get_elem? form.rules i ≡ just r
      → finish r ≡ rule_by_set u sets pairs i
  unfolding rule_by_set
  finished_rule i s r p q =
      let h = f.rule i s r p q in
      made h.type (ap (λ (l : ℕ). place eqb l (labels_of u sets)) h.label) h.content h.text
      ∙ ap (rule_by i) (sym (at_else sets i [] p))
    where
      made : {a b c d : ℕ} {x y : Content} {m n : Bool} → a ≡ b → c ≡ d → x ≡ y → m ≡ n
          → ◌≡◌ {A = Rule} (record { type = a; label = c; content = x; text = m }) (record { type = b; label = d; content = y; text = n })
      made p q r s = cc

  finished_rules : map finish form.rules ≡ map (rule_by_set u sets pairs) (numbers_below (length sets))
  unfolding numbers_below
  finished_rules =
      same_at (map finish form.rules) (map (rule_by_set u sets pairs) (numbers_below (length sets)))
      (length-map form.rules finish
      ∙ f.count
      ∙ sym (length-map (numbers_below (length sets)) (rule_by_set u sets pairs) ∙ numbers_length zero (length sets)))
      (λ i x y p q.
      let (r, at, e) = at_map finish form.rules i p in
      let (k, bt, d) = at_map (rule_by_set u sets pairs) (numbers_below (length sets)) i q in
      let here = numbers_at zero (length sets) i bt in
      let same : i ≡ k = omega arith in
      let (s, ct) = below_at sets i (let b = at_below form.rules i at in let c = f.count in omega arith) in
      sym e ∙ finished_rule i s r ct at ∙ ap (rule_by_set u sets pairs) same ∙ d)

  abbrev table_of : List Name → List ℕ → List Rule → Table
  table_of names used rules = record { labels = map (λ l. get_or names l []) used; starts = form.starts; rules = rules }

  pub table_by_sets_lem : tidy_table (with_used_labels form) ≡ table_by_sets u sets pairs form.starts
  unfolding tidy_table with_used_labels table_by_sets
  table_by_sets_lem =
      ap₂ (λ (names : List Name) (used : List ℕ). table_of names used (map tidied (map (numbered used) form.rules))) f.labels
      used_labels_lem
      ∙ ap (table_of u.labels (labels_of u sets)) (map-map tidied (numbered (labels_of u sets)) form.rules ∙ finished_rules)
