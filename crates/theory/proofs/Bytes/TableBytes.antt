-- A table that a file can hold is read back from its bytes:
--   table_read_back : TableWithin lim classes g → read_table lim classes (table_bytes g) ≡ given g
use Prim.Native.Nat.{ℕ, ◌≤◌, ◌<◌}
use native.Mathlib.Omega.{arith}
use mathlib.Core.Bool.{true, false}
use mathlib.Core.List.Memᴰ
use mathlib.Core.List.{List, [], ◌∷◌, ◌++◌, append_assoc, append-nil, Memᴰ}
use mathlib.Core.Path.{◌≡◌, refl, sym, ◌∙◌, ap}
use lib.ListN.{length, length-append}
use lib.Dec.{eqb, ltb}
use lib.Seq.{append_snoc}
use borrow.Author.Tests.{le-ltb}
use Rattle.grammar.specs.Lists.{all_distinct, joined_of}
use Rattle.grammar.specs.Limits.{Limits}
use Rattle.grammar.specs.Names.{Name, same_name, Classes}
use Rattle.grammar.specs.Table.{Rule, Table, empty_table}
use Rattle.std.specs.Prelude.{Result, Ok}
use Rattle.grammar.specs.declared.Refusal.{Refusal}
use Rattle.grammar.specs.declared.Refusal.TheVariants.{InputTooLong}
use Rattle.grammar.specs.Fields.{Fields, ◌then◌, fields_of, field_bytes}
use Rattle.grammar.specs.ReadTable.{label_tag, start_tag, rule_tag, table_end_tag, read_table_field, read_table_fields, read_table}
use Rattle.grammar.specs.WriteTable.{rule_bytes, rule_field, table_bytes}
use Rattle.grammar.specs.WithinLimits.{NameWithin, RuleWithin, TableWithin}
use Rattle.theory.proofs.Lists.ListLaws.{distinct_new, eqb_sym}
use Rattle.theory.proofs.Trees.NameLaws.{name_sym}
use Rattle.theory.proofs.Bytes.OutcomeLaws.{given_then, no_fault}
use Rattle.theory.proofs.Bytes.FieldBytes.{fields_of_lem, fields_empty}
use Rattle.theory.proofs.Bytes.ReadSteps.{label_read, start_read, rule_read, rule_not_end, rule_field_lem, next_field}

-- labels, starts and rules that a file can hold
pub record LabelsFit (lim : Limits) (classes : Classes) (names : List Name) : Type 0 where
  pub each : (n : Name) → Memᴰ n names → NameWithin lim classes n
  pub differ : all_distinct same_name names ≡ true
  pub few : length names ≤ lim.labels

pub record StartsFit (lim : Limits) (types : List ℕ) : Type 0 where
  pub each : (k : ℕ) → Memᴰ k types → k < lim.types
  pub differ : all_distinct eqb types ≡ true
  pub few : length types ≤ lim.starts

pub record RulesFit (lim : Limits) (labels : ℕ) (rules : List Rule) : Type 0 where
  pub each : (r : Rule) → Memᴰ r rules → RuleWithin lim labels r
  pub few : length rules ≤ lim.rules

module _ (lim : Limits) (classes : Classes) where
  -- the rest of a table, as bytes
  abbrev read_on : Table → List ℕ → Result Table Refusal
  read_on g bytes = read_table_fields lim classes g (fields_of bytes)

  -- a field that is read, and the bytes after it
  field_read : (tag : ℕ) (value : List ℕ) (g more : Table) → eqb tag table_end_tag ≡ false
      → read_table_field lim classes g (record { tag = tag; value = value }) ≡ Ok more
      → (rest : List ℕ) → read_on g (field_bytes tag value ++ rest) ≡ read_on more rest
  field_read tag value g more q e rest =
      ap (read_table_fields lim classes g) (fields_of_lem tag value rest)
      ∙ next_field lim classes g (record { tag = tag; value = value }) (fields_of rest) q
      ∙ given_then
      (read_table_field lim classes g (record { tag = tag; value = value }))
      more
      (λ t. read_table_fields lim classes t (fields_of rest))
      e

  -- So many elements of one sort, one after the other, if each goes on with what was read before it.
  all_read : {A : Type 0} (bytes : A → List ℕ) (state : List A → Table) (Fit : List A → Type 0)
      → ((done : List A) (x : A) (todo : List A) → Fit (done ++ x ∷ todo)
      → (rest : List ℕ) → read_on (state done) (bytes x ++ rest) ≡ read_on (state (done ++ (x ∷ []))) rest)
      → (done todo : List A) → Fit (done ++ todo)
      → (rest : List ℕ) → read_on (state done) (joined_of bytes todo ++ rest) ≡ read_on (state (done ++ todo)) rest
  unfolding joined_of
  all_read bytes state Fit step done [] fit rest = rw append-nil
  all_read bytes state Fit step done (x ∷ todo) fit rest =
      ap (read_on (state done)) (append_assoc (bytes x) (joined_of bytes todo) rest)
      ∙ step done x todo fit (joined_of bytes todo ++ rest)
      ∙ all_read bytes state Fit step (done ++ (x ∷ [])) todo (rw append_snoc fit) rest
      ∙ rw append_snoc

  -- labels
  abbrev labelled : List Name → Table
  labelled names = record { labels = names; starts = []; rules = [] }

  label_step : (done : List Name) (n : Name) (todo : List Name) → LabelsFit lim classes (done ++ n ∷ todo)
      → (rest : List ℕ) → read_on (labelled done) (field_bytes label_tag n ++ rest) ≡ read_on (labelled (done ++ (n ∷ []))) rest
  unfolding read_table_field
  label_step done n todo fit =
      let few = fit.few in
      let l = length-append done (n ∷ todo) in
      let now = labelled done in
      let more = labelled (done ++ (n ∷ [])) in
      let read =
      label_read lim classes now n more (record {
        no_starts = refl;
        no_rules = refl;
        name = fit.each n (Memᴰ.append_right done (Memᴰ.head refl));
        new = distinct_new same_name name_sym done n todo fit.differ;
        room = omega arith;
        result = refl;
      }) in
      field_read label_tag n now more refl read

  -- starts
  abbrev started : List Name → List ℕ → Table
  started names types = record { labels = names; starts = types; rules = [] }

  start_step : (names : List Name) (done : List ℕ) (k : ℕ) (todo : List ℕ) → StartsFit lim (done ++ k ∷ todo) → (rest : List ℕ)
      → read_on (started names done) (field_bytes start_tag (k ∷ []) ++ rest) ≡ read_on (started names (done ++ (k ∷ []))) rest
  unfolding read_table_field
  start_step names done k todo fit =
      let few = fit.few in
      let l = length-append done (k ∷ todo) in
      let now = started names done in
      let more = started names (done ++ (k ∷ [])) in
      let read =
      start_read lim now (k ∷ []) more (record {
        start = k;
        byte = refl;
        no_rules = refl;
        new = distinct_new eqb eqb_sym done k todo fit.differ;
        room = omega arith;
        known = fit.each k (Memᴰ.append_right done (Memᴰ.head refl));
        result = refl;
      }) in
      field_read start_tag (k ∷ []) now more refl read

  -- rules
  abbrev ruled : List Name → List ℕ → List Rule → Table
  ruled names types rules = record { labels = names; starts = types; rules = rules }

  rule_step : (names : List Name) (types : List ℕ) (done : List Rule) (r : Rule) (todo : List Rule)
      → RulesFit lim (length names) (done ++ r ∷ todo) → (rest : List ℕ)
      → read_on (ruled names types done) (rule_field r ++ rest) ≡ read_on (ruled names types (done ++ (r ∷ []))) rest
  unfolding rule_field
  rule_step names types done r todo fit =
      let few = fit.few in
      let l = length-append done (r ∷ todo) in
      let now = ruled names types done in
      let more = ruled names types (done ++ (r ∷ [])) in
      let read =
      rule_read lim now r.text (rule_bytes r) more (record {
        rule = r;
        marked = refl;
        bytes = refl;
        within = fit.each r (Memᴰ.append_right done (Memᴰ.head refl));
        room = omega arith;
        result = refl;
      }) in
      let tag = rule_tag r.text in
      field_read tag (rule_bytes r) now more (rule_not_end r.text) (rule_field_lem lim classes now r.text (rule_bytes r) ∙ read)

  end_step : (g : Table) → read_on g (field_bytes table_end_tag []) ≡ Ok g
  unfolding read_table_fields
  end_step g =
      ap (read_on g) (sym (append-nil (field_bytes table_end_tag [])))
      ∙ ap (read_table_fields lim classes g) (fields_of_lem table_end_tag [] [])
      ∙ ap (λ (fs : Fields). read_table_fields lim classes g (record { tag = table_end_tag; value = [] } then fs)) fields_empty

  fields_read_back : (g : Table) → LabelsFit lim classes g.labels → StartsFit lim g.starts → RulesFit lim (length g.labels) g.rules
      → read_on empty_table (table_bytes g) ≡ Ok g
  unfolding table_bytes
  fields_read_back g ls ss rs =
      let labels = joined_of (field_bytes label_tag) g.labels in
      let starts = joined_of (λ k. field_bytes start_tag (k ∷ [])) g.starts in
      let rules = joined_of rule_field g.rules in
      let end = field_bytes table_end_tag [] in
      ap (read_on empty_table) (append_assoc (labels ++ starts) rules end ∙ append_assoc labels starts (rules ++ end))
      ∙ all_read (field_bytes label_tag) labelled (LabelsFit lim classes) label_step [] g.labels ls (starts ++ (rules ++ end))
      ∙ all_read
      (λ k. field_bytes start_tag (k ∷ []))
      (started g.labels)
      (StartsFit lim)
      (start_step g.labels)
      []
      g.starts
      ss
      (rules ++ end)
      ∙ all_read
      rule_field
      (ruled g.labels g.starts)
      (RulesFit lim (length g.labels))
      (rule_step g.labels g.starts)
      []
      g.rules
      rs
      end
      ∙ end_step g

  pub table_read_back : (g : Table) → TableWithin lim classes g → read_table lim classes (table_bytes g) ≡ Ok g
  unfolding read_table
  table_read_back g h =
      no_fault (ltb lim.input (length (table_bytes g))) InputTooLong _ (le-ltb lim.input (length (table_bytes g)) h.size)
      ∙ fields_read_back
      g
      (record { each = h.names; differ = h.labels_differ; few = h.labels })
      (record { each = h.start_types; differ = h.starts_differ; few = h.starts })
      (record { each = h.each_rule; few = h.rules })
