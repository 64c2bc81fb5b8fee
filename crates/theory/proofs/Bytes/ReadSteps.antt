-- When a content, a label, a start or a rule is read, and how the table goes on. Each record below holds if and only if reading
-- gives that result: `label_read` and `label_was`, `start_read` and `start_was`, `rule_read` and `rule_was`. Contents likewise:
--   content_read : is_proper lim c ≡ true → nesting c ≤ lim.nesting → read_content lim (content_bytes c) ≡ given c
--   content_was : read_content lim bytes ≡ given c → (bytes ≡ content_bytes c) × (is_proper lim c ≡ true) × (nesting c ≤ lim.nesting)
use Prim.Native.Nat.{ℕ, ◌≤◌, ◌<◌}
use native.Mathlib.Omega.{arith}
use mathlib.Core.Bool.{Bool, true, false, not, ◌&&◌}
use mathlib.Core.List.{List, [], ◌∷◌, append-nil}
use mathlib.Core.Option.{none as nothing, some as just}
use mathlib.Core.Path.{◌≡◌, refl, sym, ◌∙◌, ap, subst, ap₂}
use lib.ListN.{length}
use lib.Dec.{eqb, leb, ltb}
use borrow.Author.Tests.{le-leb, lt-leb, le-ltb, leb-true, leb-false, ltb-false, not-false}
use Rattle.grammar.specs.Lists.{any_pass}
use Rattle.grammar.specs.Limits.{Limits}
use Rattle.grammar.specs.Names.{Name, same_name, Classes, is_name}
use Rattle.grammar.specs.Content.{Content, nesting}
use Rattle.grammar.specs.Table.{Rule, Table}
use Rattle.std.specs.Prelude.{Ok}
use Rattle.grammar.specs.Outcome.{◌>>=◌, ◌>>◌, turn_back}
use Rattle.grammar.specs.declared.Refusal.TheVariants.{
  BadField,
  BadName,
  Repeated,
  TooMany,
  OutOfRange,
  BytesAfterEnd,
  BadContent,
  NestedTooDeep,
}
use Rattle.grammar.specs.Fields.{Field, Fields, no_bytes, past_end, ◌then◌}
use Rattle.grammar.specs.ReadContent.{content_bytes, Parsed, expression_of, is_proper, whole, read_content}
use Rattle.grammar.specs.ReadTable.{
  table_end_tag,
  is_empty,
  with_label,
  with_start,
  with_rule,
  read_label,
  read_start,
  read_rule,
  read_table_field,
  bytes_left,
  read_table_fields,
  rule_tag,
}
use Rattle.grammar.specs.WriteTable.{rule_bytes}
use Rattle.grammar.specs.WithinLimits.{NameWithin, RuleWithin}
use Rattle.theory.proofs.Lists.BoolLaws.{and_left, and_right, and_intro, or_false, or_none}
use Rattle.theory.proofs.Bytes.OutcomeLaws.{given_then, no_fault, was_given, had_no_fault, given_eq}
use Rattle.theory.proofs.Contents.ContentBytes.{content_has_bytes, expression_of_lem, expression_was}

pub content_read : (lim : Limits) (c : Content) → is_proper lim c ≡ true → nesting c ≤ lim.nesting
    → read_content lim (content_bytes c) ≡ Ok c
unfolding read_content
content_read lim c proper nests =
    let e = ap expression_of (sym (append-nil (content_bytes c))) ∙ expression_of_lem c [] in
    given_then (whole (expression_of (content_bytes c))) c _ (ap whole e)
    ∙ no_fault (not (is_proper lim c)) BadContent _ (ap not proper)
    ∙ no_fault (ltb lim.nesting (nesting c)) NestedTooDeep _ (le-ltb lim.nesting (nesting c) nests)

whole_was : (p : Parsed Content) (c : Content) → whole p ≡ Ok c → p ≡ just (c, [])
whole_was nothing c e = let z : ◌≡◌ {A = ℕ} 0 1 = cc in absurd (omega arith)
whole_was (just (d, [])) c e = rw (given_eq e)
whole_was (just (d, b ∷ rest)) c e = let z : ◌≡◌ {A = ℕ} 0 1 = cc in absurd (omega arith)

pub content_was : (lim : Limits) (bytes : List ℕ) (c : Content) → read_content lim bytes ≡ Ok c
    → (bytes ≡ content_bytes c) × (is_proper lim c ≡ true) × (nesting c ≤ lim.nesting)
unfolding read_content
content_was lim bytes c e =
    let r = was_given (whole (expression_of bytes)) _ c e in
    let p = had_no_fault (not (is_proper lim r.0)) BadContent _ c r.2 in
    let q = had_no_fault (ltb lim.nesting (nesting r.0)) NestedTooDeep _ c p.1 in
    let same : r.0 ≡ c = given_eq q.1 in (
      expression_was bytes c [] (whole_was (expression_of bytes) c (r.1 ∙ ap Ok same)) ∙ append-nil (content_bytes c),
      not-false (is_proper lim c) (rw same at p.0),
      ltb-false lim.nesting (nesting c) (rw same at q.0),
    )

pub name_has_bytes : (classes : Classes) (n : Name) → is_name classes n ≡ true → 1 ≤ length n
unfolding is_name
name_has_bytes classes [] e = let z : ◌≡◌ {A = ℕ} 0 1 = cc in absurd (omega arith)
name_has_bytes classes (b ∷ bs) e = omega arith

pub empty_is : {A : Type 0} (xs : List A) → is_empty xs ≡ true → xs ≡ []
empty_is [] e = refl
empty_is (x ∷ xs) e = let z : ◌≡◌ {A = ℕ} 0 1 = cc in absurd (omega arith)

pub none_left : (fs : Fields) → bytes_left fs ≡ false → fs ≡ no_bytes
none_left no_bytes e = refl
none_left past_end e = let z : ◌≡◌ {A = ℕ} 0 1 = cc in absurd (omega arith)
none_left (f then fs) e = let z : ◌≡◌ {A = ℕ} 0 1 = cc in absurd (omega arith)

module _ (lim : Limits) where
  -- what a start that is read is, and how the table goes on
  pub record StartRead (g : Table) (value : List ℕ) (more : Table) : Type 0 where
    pub start : ℕ
    pub byte : value ≡ start ∷ []
    pub no_rules : g.rules ≡ []
    pub new : any_pass (eqb start) g.starts ≡ false
    pub room : length g.starts < lim.starts
    pub known : start < lim.types
    pub result : with_start g start ≡ more

  pub start_was : (g : Table) (value : List ℕ) (more : Table) → read_start lim g value ≡ Ok more → StartRead g value more
  unfolding read_start
  start_was g [] more e = let z : ◌≡◌ {A = ℕ} 0 1 = cc in absurd (omega arith)
  start_was g (k ∷ []) more e =
      let a = had_no_fault _ BadField _ more e in
      let b = had_no_fault _ Repeated _ more a.1 in
      let c = had_no_fault _ TooMany _ more b.1 in
      let d = had_no_fault _ OutOfRange _ more c.1 in
      record {
        start = k;
        byte = refl;
        no_rules = empty_is g.rules (not-false (is_empty g.rules) a.0);
        new = b.0;
        room = leb-false lim.starts (length g.starts) c.0;
        known = leb-false lim.types k d.0;
        result = given_eq d.1;
      }
  start_was g (k ∷ b ∷ rest) more e = let z : ◌≡◌ {A = ℕ} 0 1 = cc in absurd (omega arith)

  pub start_read : (g : Table) (value : List ℕ) (more : Table) → StartRead g value more → read_start lim g value ≡ Ok more
  unfolding read_start
  start_read g value more w =
      ap (read_start lim g) w.byte
      ∙ no_fault (not (is_empty g.rules)) BadField _ (ap (λ (rs : List Rule). not (is_empty rs)) w.no_rules)
      ∙ no_fault _ Repeated _ w.new
      ∙ no_fault _ TooMany _ (lt-leb lim.starts (length g.starts) w.room)
      ∙ no_fault _ OutOfRange _ (lt-leb lim.types w.start w.known)
      ∙ ap Ok w.result

  -- a rule
  pub record RuleRead (g : Table) (text : Bool) (value : List ℕ) (more : Table) : Type 0 where
    pub rule : Rule
    pub marked : rule.text ≡ text
    pub bytes : value ≡ rule_bytes rule
    pub within : RuleWithin lim (length g.labels) rule
    pub room : length g.rules < lim.rules
    pub result : with_rule g rule ≡ more

  pub rule_was : (g : Table) (text : Bool) (value : List ℕ) (more : Table) → read_rule lim g text value ≡ Ok more
      → RuleRead g text value more
  unfolding read_rule rule_bytes
  rule_was g text [] more e = let z : ◌≡◌ {A = ℕ} 0 1 = cc in absurd (omega arith)
  rule_was g text (k ∷ []) more e = let z : ◌≡◌ {A = ℕ} 0 1 = cc in absurd (omega arith)
  rule_was g text (k ∷ l ∷ content) more e =
      let long = leb 1 (length content) in
      let short = leb (length content) lim.content in
      let a = had_no_fault _ BadField _ more e in
      let b = had_no_fault _ TooMany _ more a.1 in
      let c = had_no_fault _ OutOfRange _ more b.1 in
      let d = was_given (read_content lim content) _ more c.1 in
      let range = or_false (leb lim.types k) (leb (length g.labels) l) c.0 in
      let was = content_was lim content d.0 d.1 in
      let size = leb-true (length content) lim.content (and_right long short (not-false (long && short) a.0)) in
      record {
        rule = record { type = k; label = l; content = d.0; text = text };
        marked = refl;
        bytes = ap (λ (bs : List ℕ). k ∷ l ∷ bs) was.0;
        within =
            record {
              type = leb-false lim.types k range.0;
              label = leb-false (length g.labels) l range.1;
              content =
                  record { proper = was.1; size = subst (λ (bs : List ℕ). length bs ≤ lim.content) was.0 size; nests = was.2 };
            };
        room = leb-false lim.rules (length g.rules) b.0;
        result = given_eq d.2;
      }

  pub rule_read : (g : Table) (text : Bool) (value : List ℕ) (more : Table) → RuleRead g text value more
      → read_rule lim g text value ≡ Ok more
  unfolding read_rule rule_bytes
  rule_read g text value more w =
      let r = w.rule in
      let h = w.within in
      let c = content_bytes r.content in
      let longer = le-leb 1 (length c) (content_has_bytes r.content) in
      let shorter = le-leb (length c) lim.content h.content.size in
      let type_known = lt-leb lim.types r.type h.type in
      let label_known = lt-leb (length g.labels) r.label h.label in
      ap₂ (read_rule lim g) (sym w.marked) w.bytes
      ∙ no_fault _ BadField _ (ap not (and_intro (leb 1 (length c)) (leb (length c) lim.content) longer shorter))
      ∙ no_fault _ TooMany _ (lt-leb lim.rules (length g.rules) w.room)
      ∙ no_fault _ OutOfRange _ (or_none (leb lim.types r.type) (leb (length g.labels) r.label) type_known label_known)
      ∙ given_then (read_content lim c) r.content _ (content_read lim r.content h.content.proper h.content.nests)
      ∙ ap Ok w.result

pub rule_not_end : (text : Bool) → eqb (rule_tag text) table_end_tag ≡ false
rule_not_end true = refl
rule_not_end false = refl

module _ (lim : Limits) (classes : Classes) where
  -- a label
  pub record LabelRead (g : Table) (value : List ℕ) (more : Table) : Type 0 where
    pub no_starts : g.starts ≡ []
    pub no_rules : g.rules ≡ []
    pub name : NameWithin lim classes value
    pub new : any_pass (same_name value) g.labels ≡ false
    pub room : length g.labels < lim.labels
    pub result : with_label g value ≡ more

  pub label_was : (g : Table) (value : List ℕ) (more : Table) → read_label lim classes g value ≡ Ok more → LabelRead g value more
  unfolding read_label
  label_was g value more e =
      let first = is_empty g.starts && is_empty g.rules in
      let long = leb 1 (length value) in
      let short = leb (length value) lim.name in
      let a = had_no_fault _ BadField _ more e in
      let b = had_no_fault _ BadName _ more a.1 in
      let c = had_no_fault _ Repeated _ more b.1 in
      let d = had_no_fault _ TooMany _ more c.1 in
      let shape = not-false (first && long && short) a.0 in
      let front = and_left first long (and_left (first && long) short shape) in
      record {
        no_starts = empty_is g.starts (and_left (is_empty g.starts) (is_empty g.rules) front);
        no_rules = empty_is g.rules (and_right (is_empty g.starts) (is_empty g.rules) front);
        name =
            record {
              rule = not-false (is_name classes value) b.0;
              size = leb-true (length value) lim.name (and_right (first && long) short shape);
            };
        new = c.0;
        room = leb-false lim.labels (length g.labels) d.0;
        result = given_eq d.1;
      }

  pub label_read : (g : Table) (value : List ℕ) (more : Table) → LabelRead g value more → read_label lim classes g value ≡ Ok more
  unfolding read_label
  label_read g value more w =
      let no_starts = is_empty g.starts in
      let no_rules = is_empty g.rules in
      let long = leb 1 (length value) in
      let short = leb (length value) lim.name in
      let first = and_intro no_starts no_rules (ap is_empty w.no_starts) (ap is_empty w.no_rules) in
      let longer = le-leb 1 (length value) (name_has_bytes classes value w.name.rule) in
      let shorter = le-leb (length value) lim.name w.name.size in
      let shape = and_intro (no_starts && no_rules && long) short (and_intro (no_starts && no_rules) long first longer) shorter in
      no_fault _ BadField _ (ap not shape)
      ∙ no_fault _ BadName _ (ap not w.name.rule)
      ∙ no_fault _ Repeated _ w.new
      ∙ no_fault _ TooMany _ (lt-leb lim.labels (length g.labels) w.room)
      ∙ ap Ok w.result

  -- a rule's field is read as a rule, with its mark
  pub rule_field_lem : (g : Table) (text : Bool) (value : List ℕ)
      → read_table_field lim classes g (record { tag = rule_tag text; value = value }) ≡ read_rule lim g text value
  unfolding read_table_field
  rule_field_lem g true value = refl
  rule_field_lem g false value = refl

  -- the end field, and any other
  pub end_field : (g : Table) (f : Field) (rest : Fields) → eqb f.tag table_end_tag ≡ true
      → read_table_fields lim classes g (f then rest)
      ≡ (turn_back (not (is_empty f.value)) BadField >> (turn_back (bytes_left rest) BytesAfterEnd >> Ok g))
  unfolding read_table_fields
  end_field g f rest q = rw (q, read_table_fields)

  pub next_field : (g : Table) (f : Field) (rest : Fields) → eqb f.tag table_end_tag ≡ false
      → read_table_fields lim classes g (f then rest)
      ≡ (read_table_field lim classes g f >>= (λ more. read_table_fields lim classes more rest))
  unfolding read_table_fields
  next_field g f rest q = rw (q, read_table_fields)
