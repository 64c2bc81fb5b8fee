-- What is read is within the limits, and its bytes are those that were read:
--   read_within : read_table lim classes bytes ≡ given g → TableWithin lim classes g
--   read_was : AreBytes bytes → read_table lim classes bytes ≡ given g → table_bytes g ≡ bytes
-- (The bytes of a table spell the lengths of fields in one way. Numbers above 255 could spell them otherwise.)
use Prim.Native.Nat.{ℕ, ◌≤◌, ◌<◌}
use native.Mathlib.Omega.{arith}
use mathlib.Core.Bool.{Bool, true, false, not}
use mathlib.Core.List.Memᴰ
use mathlib.Core.List.{List, [], ◌∷◌, ◌++◌, append_assoc, append-nil, Memᴰ}
use mathlib.Core.Path.{◌≡◌, refl, sym, ◌∙◌, ap, ap₂, subst}
use lib.ListN.{length, length-append}
use lib.Dec.{eqb, ltb}
use borrow.Author.Tests.{eqb-true, ltb-false, not-false}
use Rattle.grammar.specs.Lists.{all_distinct, joined_of}
use Rattle.grammar.specs.Limits.{Limits}
use Rattle.grammar.specs.Names.{same_name, Classes}
use Rattle.grammar.specs.Table.{Rule, Table, empty_table}
use Rattle.std.specs.Prelude.{Ok}
use Rattle.grammar.specs.declared.Refusal.TheVariants.{InputTooLong, BadField, BytesAfterEnd}
use Rattle.grammar.specs.Fields.{Field, Fields, no_bytes, past_end, ◌then◌, fields_of, field_bytes}
use Rattle.grammar.specs.ReadTable.{
  label_tag,
  start_tag,
  rule_tag,
  table_end_tag,
  is_empty,
  with_label,
  with_start,
  with_rule,
  read_table_field,
  bytes_left,
  read_table_fields,
  read_table,
}
use Rattle.grammar.specs.WriteTable.{rule_field, table_bytes}
use Rattle.grammar.specs.WithinLimits.{NameWithin, RuleWithin, TableWithin}
use Rattle.theory.proofs.Lists.ListLaws.{distinct_end, each_end, joined_end, eqb_sym}
use Rattle.theory.proofs.Trees.NameLaws.{name_sym}
use Rattle.theory.proofs.Bytes.OutcomeLaws.{was_given, had_no_fault, given_eq}
use Rattle.theory.proofs.Bytes.FieldBytes.{AreBytes, Front, fields_were, fields_none}
use Rattle.theory.proofs.Bytes.ReadSteps.{
  LabelRead,
  label_was,
  StartRead,
  start_was,
  RuleRead,
  rule_was,
  end_field,
  next_field,
  empty_is,
  none_left,
}
use Rattle.theory.proofs.Bytes.TableBytes.{LabelsFit, StartsFit, RulesFit}

-- the bytes of a table before its end field
fields_bytes : Table → List ℕ
fields_bytes g =
    joined_of (field_bytes label_tag) g.labels
    ++ joined_of (λ k. field_bytes start_tag (k ∷ [])) g.starts
    ++ joined_of rule_field g.rules

module _ (lim : Limits) (classes : Classes) where
  record FieldsFit (g : Table) : Type 0 where
    labels : LabelsFit lim classes g.labels
    starts : StartsFit lim g.starts
    rules : RulesFit lim (length g.labels) g.rules

  -- what a field that is read adds to the table
  record FieldAdds (g : Table) (tag : ℕ) (value : List ℕ) (more : Table) : Type 0 where
    bytes : fields_bytes more ≡ fields_bytes g ++ field_bytes tag value
    fits : FieldsFit g → FieldsFit more

  label_adds : (g : Table) (value : List ℕ) (more : Table) → LabelRead lim classes g value more → FieldAdds g label_tag value more
  unfolding fields_bytes joined_of
  label_adds g value more w = subst (λ (t : Table). FieldAdds g label_tag value t) w.result (record { bytes = added; fits = fitting })
    where
      added : fields_bytes (with_label g value) ≡ fields_bytes g ++ field_bytes label_tag value
      added = rw (w.no_starts, w.no_rules) (simp (append-nil, joined_end (field_bytes label_tag) g.labels value))

      fitting : FieldsFit g → FieldsFit (with_label g value)
      fitting h =
          let l = length-append g.labels (value ∷ []) in
          let room = w.room in
          record {
            labels =
                record {
                  each = each_end (NameWithin lim classes) g.labels value h.labels.each w.name;
                  differ = distinct_end same_name name_sym g.labels value h.labels.differ w.new;
                  few = omega arith;
                };
            starts = h.starts;
            rules =
                record {
                  each = λ r m. elim (subst (λ (rs : List Rule). Memᴰ r rs) w.no_rules m) [ ];
                  few = h.rules.few;
                };
          }

  start_adds : (g : Table) (value : List ℕ) (more : Table) → StartRead lim g value more → FieldAdds g start_tag value more
  unfolding fields_bytes joined_of
  start_adds g value more w = subst (λ (t : Table). FieldAdds g start_tag value t) w.result (record { bytes = added; fits = fitting })
    where
      added : fields_bytes (with_start g w.start) ≡ fields_bytes g ++ field_bytes start_tag value
      added =
          rw
          (w.no_rules, w.byte)
          (simp (append-nil, joined_end (λ k. field_bytes start_tag (k ∷ [])) g.starts w.start, append_assoc))

      fitting : FieldsFit g → FieldsFit (with_start g w.start)
      fitting h =
          let l = length-append g.starts (w.start ∷ []) in
          let room = w.room in
          record {
            labels = h.labels;
            starts =
                record {
                  each = each_end (λ k. k < lim.types) g.starts w.start h.starts.each w.known;
                  differ = distinct_end eqb eqb_sym g.starts w.start h.starts.differ w.new;
                  few = omega arith;
                };
            rules = h.rules;
          }

  rule_adds : (g : Table) (text : Bool) (value : List ℕ) (more : Table) → RuleRead lim g text value more
      → FieldAdds g (rule_tag text) value more
  unfolding fields_bytes joined_of rule_field
  rule_adds g text value more w =
      subst (λ (t : Table). FieldAdds g (rule_tag text) value t) w.result (record { bytes = added; fits = fitting })
    where
      added : fields_bytes (with_rule g w.rule) ≡ fields_bytes g ++ field_bytes (rule_tag text) value
      added = rw (w.bytes, ← w.marked) (simp (joined_end rule_field g.rules w.rule, append_assoc))

      fitting : FieldsFit g → FieldsFit (with_rule g w.rule)
      fitting h =
          let l = length-append g.rules (w.rule ∷ []) in
          let room = w.room in
          record {
            labels = h.labels;
            starts = h.starts;
            rules =
                record {
                  each = each_end (RuleWithin lim (length g.labels)) g.rules w.rule h.rules.each w.within;
                  few = omega arith;
                };
          }

  field_adds : (g : Table) (f : Field) (more : Table) → read_table_field lim classes g f ≡ Ok more
      → FieldAdds g f.tag f.value more
  unfolding read_table_field
  field_adds g f more e =
      go (eqb f.tag label_tag) (eqb f.tag start_tag) (eqb f.tag (rule_tag false)) (eqb f.tag (rule_tag true)) refl refl refl refl
    where
      of_tag : (tag : ℕ) → eqb f.tag tag ≡ true → FieldAdds g tag f.value more → FieldAdds g f.tag f.value more
      of_tag tag q a = rw (eqb-true f.tag tag q) a

      go : (a b c d : Bool) → eqb f.tag label_tag ≡ a → eqb f.tag start_tag ≡ b → eqb f.tag (rule_tag false) ≡ c
          → eqb f.tag (rule_tag true) ≡ d → FieldAdds g f.tag f.value more
      go true b c d p q r s =
          let read = rw (p, read_table_field) at e in
          of_tag label_tag p (label_adds g f.value more (label_was lim classes g f.value more read))
      go false true c d p q r s =
          let read = rw (p, q, read_table_field) at e in
          of_tag start_tag q (start_adds g f.value more (start_was lim g f.value more read))
      go false false true d p q r s =
          let read = rw (p, q, r, read_table_field) at e in
          of_tag (rule_tag false) r (rule_adds g false f.value more (rule_was lim g false f.value more read))
      go false false false true p q r s =
          let read = rw (p, q, r, s, read_table_field) at e in
          of_tag (rule_tag true) s (rule_adds g true f.value more (rule_was lim g true f.value more read))
      go false false false false p q r s =
          let w = rw (p, q, r, s, read_table_field) at e in
          let z : ◌≡◌ {A = ℕ} 0 1 = cc in
          absurd (omega arith)

  -- how the rest of a table is written
  record FieldsEnd (g : Table) (s : List ℕ) (more : Table) : Type 0 where
    spelled : List ℕ
    whole : fields_bytes g ++ spelled ≡ table_bytes more
    size : length s ≡ length spelled
    same : AreBytes s → s ≡ spelled
    fits : FieldsFit g → FieldsFit more

  ends : (fs : Fields) (g : Table) (s : List ℕ) (more : Table) → fields_of s ≡ fs → read_table_fields lim classes g fs ≡ Ok more
      → FieldsEnd g s more
  unfolding read_table_fields table_bytes fields_bytes
  ends no_bytes g s more p e = let z : ◌≡◌ {A = ℕ} 0 1 = cc in absurd (omega arith)
  ends past_end g s more p e = let z : ◌≡◌ {A = ℕ} 0 1 = cc in absurd (omega arith)
  ends (f then fs) g s more p e =
      go (eqb f.tag table_end_tag) refl (fields_were s f fs p) (λ g' s' p' e'. ends fs g' s' more p' e')
    where
      go : (b : Bool) → eqb f.tag table_end_tag ≡ b → Front s f fs
          → ((g' : Table) (s' : List ℕ) → fields_of s' ≡ fs → read_table_fields lim classes g' fs ≡ Ok more → FieldsEnd g' s' more)
          → FieldsEnd g s more
      go true q front ih =
          let a = had_no_fault (not (is_empty f.value)) BadField _ more (sym (end_field lim classes g f fs q) ∙ e) in
          let b = had_no_fault (bytes_left fs) BytesAfterEnd _ more a.1 in
          let same = given_eq b.1 in
          let t = eqb-true f.tag table_end_tag q in
          let v = empty_is f.value (not-false (is_empty f.value) a.0) in
          let r = fields_none front.rest (sym front.after ∙ none_left fs b.0) in
          let here : field_bytes f.tag f.value ++ front.rest ≡ field_bytes table_end_tag [] =
          ap₂ ◌++◌ (ap₂ field_bytes t v) r ∙ append-nil (field_bytes table_end_tag []) in
          subst (λ (m : Table). FieldsEnd g s m) same (record {
            spelled = field_bytes table_end_tag [];
            whole = refl;
            size = front.size ∙ ap length here;
            same = λ small. front.written small ∙ here;
            fits = λ h. h;
          })
      go false q front ih =
          let a = was_given (read_table_field lim classes g f) _ more (sym (next_field lim classes g f fs q) ∙ e) in
          let add = field_adds g f a.0 a.1 in
          let later = ih a.0 front.rest (sym front.after) a.2 in
          let here = field_bytes f.tag f.value in
          let l = length-append here front.rest in
          let m = length-append here later.spelled in
          let n = front.size in
          let o = later.size in
          record {
            spelled = here ++ later.spelled;
            whole =
                sym (append_assoc (fields_bytes g) here later.spelled)
                ∙ ap (λ (bs : List ℕ). bs ++ later.spelled) (sym add.bytes)
                ∙ later.whole;
            size = omega arith;
            same =
                λ small.
                let w = front.written small in
                w
                ∙ ap
                (λ (bs : List ℕ). here ++ bs)
                (later.same (λ b i. small b (subst (λ (bs : List ℕ). Memᴰ b bs) (sym w) (Memᴰ.append_right here i))));
            fits = λ h. later.fits (add.fits h);
          }

  -- the table of no labels, starts or rules fits
  none_fits : FieldsFit empty_table
  unfolding all_distinct
  none_fits =
      record {
        labels = record { each = λ n m. elim m [ ]; differ = refl; few = omega arith };
        starts = record { each = λ k m. elim m [ ]; differ = refl; few = omega arith };
        rules = record { each = λ r m. elim m [ ]; few = omega arith };
      }

  module _ (bytes : List ℕ) (g : Table) (read : read_table lim classes bytes ≡ Ok g) where
    short_enough : (length bytes ≤ lim.input) × FieldsEnd empty_table bytes g
    unfolding read_table
    short_enough =
        let a = had_no_fault (ltb lim.input (length bytes)) InputTooLong _ g read in
        (ltb-false lim.input (length bytes) a.0, ends (fields_of bytes) empty_table bytes g refl a.1)

    spelled_so : short_enough.1.spelled ≡ table_bytes g
    unfolding fields_bytes joined_of
    spelled_so = short_enough.1.whole

    pub read_was : AreBytes bytes → table_bytes g ≡ bytes
    read_was small = sym (short_enough.1.same small ∙ spelled_so)

    pub read_within : TableWithin lim classes g
    read_within =
        let h = short_enough.1.fits none_fits in
        let short = short_enough.0 in
        let size = short_enough.1.size ∙ ap length spelled_so in
        record {
          names = h.labels.each;
          labels_differ = h.labels.differ;
          labels = h.labels.few;
          start_types = h.starts.each;
          starts_differ = h.starts.differ;
          starts = h.starts.few;
          each_rule = h.rules.each;
          rules = h.rules.few;
          size = omega arith;
        }
