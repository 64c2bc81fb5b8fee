-- The bytes of a result: the names of its labels, a rule's value, and the whole table.
--   name_old, name_new : where the name of a label stands
--   rule_value         : a rule's bytes, its content made in the scratch bytes after the first two
--   scratch_long, scratch_room, made_stored, made_over : where the content is made, and whether
--   table_bytes_lem        : labels, starts, rules and the end are the bytes of the table
--   union_names, union_same, union_count, union_few : the labels of a union of two tables
use Rattle.reader.specs.declared.index.TableIndex.{TableIndex}
use Prim.Native.Nat.{ℕ, suc, ◌+◌, ◌-◌, ◌≤◌, ◌<◌}
use native.Mathlib.Omega.{arith}
use mathlib.Core.Bool.{Bool, true}
use mathlib.Core.List.{List, [], ◌∷◌, ◌++◌, append_assoc, map}
use mathlib.Core.Path.{◌≡◌, refl, sym, ◌∙◌, ap, ap₂, subst}
use lib.ListN.{length, length-append, get_or, set, take, get_or-append}
use lib.Seq.{take-append-le, get_or-append-add}
use Rattle.std.specs.Prelude.{Err, Ok, Result}
use Rattle.grammar.specs.Lists.{keep, joined_of, numbers_below}
use Rattle.grammar.specs.Limits.{Limits, large}
use Rattle.grammar.specs.Names.{Name}
use Rattle.grammar.specs.Content.{Content}
use Rattle.grammar.specs.Table.{Table}
use Rattle.grammar.specs.Kinds.{Kind}
use Rattle.grammar.specs.Fields.{field_bytes}
use Rattle.grammar.specs.Unite.{unite}
use Rattle.grammar.specs.WriteTable.{rule_bytes, table_bytes, rule_field}
use Rattle.grammar.specs.Size.{content_too_large}
use Rattle.grammar.specs.SingleTypeForm.{TypeSet}
use Rattle.grammar.specs.declared.TooLarge.{TooLarge}
use Rattle.theory.specs.Alternatives.{only_if}
use Rattle.theory.proofs.Lists.ListLaws.{at_else}
use Rattle.theory.proofs.Emission.EmittedContent.{joined_map}
use Rattle.reader.specs.TableIndex.{label_from, label_to, label_count, part, Inside}
use Rattle.reader.proofs.LabelSearch.{name_at}
use Rattle.union.specs.declared.labels.Names.{Names}
use Rattle.union.specs.declared.united.Union.{Union}
use Rattle.union.specs.UnitedLabels.{new_names}
use Rattle.reader.specs.Held.{Held}
use Rattle.reader.proofs.LabelSearch.{index_names}
use Rattle.union.specs.View.{UnionSeen}
use Rattle.contents.specs.Completing.{Stored, Made}
use Rattle.reducing.proofs.NumberLaws.{joined_only}
use Rattle.writer.specs.Tables.{rules_bytes}
use Rattle.forms.specs.SetForms.{labels_of, table_by_sets, pairs_within}
use Rattle.results.specs.Results.{result_rule, is_used, LabelsIn, labels_bytes, starts_bytes, body_bytes}

-- names of labels
module _ {old add : List ℕ} {olds : TableIndex} {news : Names} (q : LabelsIn old add olds news) (l count from to : ℕ) (counted : count ≡ label_count olds) where
  pub name_old : from ≡ label_from olds l → to ≡ label_to olds l → l < count
      → Inside old from to × (part old from to ≡ get_or (q.first ++ q.second) l [])
  name_old a b h =
      let (n, at, s) = name_at q.old_names l (omega arith) in
      let c = q.old_names.count in
      let order = s.inside.order in
      let within = s.inside.within in (
        record { order = omega arith; within = omega arith },
        ap₂ (part old) a b
            ∙ s.bytes_are
            ∙ sym (get_or-append q.first q.second [] l (omega arith) ∙ at_else q.first l [] at),
      )

  pub name_new : from ≡ get_or news.places (l - count) 0 → to ≡ get_or news.places (128 + (l - count)) 0 → count ≤ l
      → l < label_count olds + news.count
      → Inside add from to × (part add from to ≡ get_or (q.first ++ q.second) l [])
  name_new a b h k =
      let m = l - count in
      let (n, at, s) = name_at q.new_names m (omega arith) in
      let c = q.old_names.count in
      let order = s.inside.order in
      let within = s.inside.within in
      let z : l ≡ length q.first + m = omega arith in (
        record { order = omega arith; within = omega arith },
        ap₂ (part add) a b
            ∙ s.bytes_are
            ∙ sym
            (ap (λ (i : ℕ). get_or (q.first ++ q.second) i []) z
            ∙ get_or-append-add q.first q.second m []
            ∙ at_else q.second m [] at),
      )

-- the fields of the labels that are on
module _ {old add : List ℕ} {olds : TableIndex} {news : Names} (q : LabelsIn old add olds news) (on : ℕ → Bool) where
  abbrev pub name_field : ℕ → List ℕ
  name_field l = only_if (on l) (field_bytes 0x10 (get_or (q.first ++ q.second) l []))

  pub labels_joined : joined_of name_field (numbers_below (label_count olds + news.count)) ≡ labels_bytes (q.first ++ q.second) on
  labels_joined =
      let a = q.old_names.count in
      let b = q.new_names.count in
      let c = length-append q.first q.second in
      let e : label_count olds + news.count ≡ length (q.first ++ q.second) = omega arith in
      joined_only on (λ l. field_bytes 0x10 (get_or (q.first ++ q.second) l [])) (numbers_below (label_count olds + news.count))
      ∙ ap (λ (n : ℕ). joined_of (λ l. field_bytes 0x10 (get_or (q.first ++ q.second) l [])) (keep on (numbers_below n))) e

-- the value of a rule's field
pub rule_value : (scratch made rest : List ℕ) (k l end : ℕ) (c : Content) (text : Bool) → 2 ≤ length scratch → Stored made c end
    → take (end + 2 - 0) (set (set (take 2 scratch ++ (made ++ rest)) 0 k) 1 l)
    ≡ rule_bytes (record { type = k; label = l; content = c; text = text })
unfolding rule_bytes
rule_value [] made rest k l end c text h s = absurd (omega arith)
rule_value (x ∷ []) made rest k l end c text h s = absurd (omega arith)
rule_value (x ∷ y ∷ more) made rest k l end c text h s =
    let z : end + 2 - 0 ≡ suc (suc end) = omega arith in
    ap (λ (n : ℕ). take n (k ∷ l ∷ (made ++ rest))) z
    ∙ ap (λ (b : List ℕ). k ∷ l ∷ b) (take-append-le end made rest s.inside ∙ s.bytes)

regroup : (a s r e : List ℕ) → a ++ (s ++ (r ++ e)) ≡ a ++ s ++ r ++ e
regroup a s r e = sym (append_assoc (a ++ s) r e ∙ append_assoc a s (r ++ e))

pub table_bytes_lem : (u : Table) (sets : List TypeSet) (kind : Kind) (count : ℕ) (names : List Name) (on starts : ℕ → Bool)
    → u.labels ≡ names
    → count ≡ length sets
    → on ≡ is_used u sets
    → labels_bytes names on ++ body_bytes starts (result_rule u sets kind) count
    ≡ table_bytes (table_by_sets u sets (pairs_within kind u) (keep starts (numbers_below count)))
unfolding table_bytes table_by_sets labels_of
table_bytes_lem u sets kind count names on starts e n o =
    let rule = result_rule u sets kind in
    let s = starts_bytes starts count in
    let end = field_bytes 0x1F [] in
    let first : labels_bytes names on
    ≡ joined_of (field_bytes 0x10) (map (λ l. get_or u.labels l []) (labels_of u sets)) =
    ap (λ (ns : List Name). labels_bytes ns on) (sym e)
    ∙ ap (labels_bytes u.labels) o
    ∙ sym (joined_map (field_bytes 0x10) (λ l. get_or u.labels l []) (labels_of u sets)) in
    let last : rules_bytes rule count ≡ joined_of rule_field (map rule (numbers_below (length sets))) =
    ap (rules_bytes rule) n ∙ sym (joined_map rule_field rule (numbers_below (length sets))) in
    regroup (labels_bytes names on) s (rules_bytes rule count) end
    ∙ ap (λ (x : List ℕ). x ++ s ++ rules_bytes rule count ++ end) first
    ∙ ap (λ (x : List ℕ). joined_of (field_bytes 0x10) (map (λ l. get_or u.labels l []) (labels_of u sets)) ++ s ++ x ++ end) last

-- the labels of the union of two tables
module _ {lim : Limits} {old add : List ℕ} {index : TableIndex} {g h : Table} {r : Union} (x : UnionSeen old add g h r)
    (held : Held lim old index g) where
  abbrev pub union_names : LabelsIn old add index r.new_names
  union_names =
      record {
        first = g.labels;
        second = new_names g.labels h.labels;
        old_names = index_names held.indexes refl;
        new_names = x.new_names;
      }

  pub union_same : (unite large g h).labels ≡ g.labels ++ new_names g.labels h.labels
  unfolding unite
  union_same = x.labels

  pub union_count : label_count index + r.new_names.count ≡ length (unite large g h).labels
  union_count =
      let a = held.indexes.labels in
      let b = x.new_names.count in
      let c = ap length union_same in
      let d = length-append g.labels (new_names g.labels h.labels) in
      omega arith

  pub union_few : length (unite large g h).labels ≤ 256
  union_few =
      let a = held.indexes.few_labels in
      let b = x.new_names.few in
      let c = union_count in
      omega arith

-- the scratch bytes, once the content is made in them
module _ (scratch made rest : List ℕ) (k : ℕ) where
  pub scratch_long : 2 ≤ length scratch → 1 < length (set (take 2 scratch ++ (made ++ rest)) 0 k)
  scratch_long h = go scratch h
    where
      go : (s : List ℕ) → 2 ≤ length s → 1 < length (set (take 2 s ++ (made ++ rest)) 0 k)
      go [] h = absurd (omega arith)
      go (x ∷ []) h = absurd (omega arith)
      go (x ∷ y ∷ more) h = omega arith

  pub scratch_room : (l end : ℕ) → 2 ≤ length scratch → end ≤ length made
      → end + 2 ≤ length (set (set (take 2 scratch ++ (made ++ rest)) 0 k) 1 l)
  scratch_room l end h e = go scratch h
    where
      go : (s : List ℕ) → 2 ≤ length s → end + 2 ≤ length (set (set (take 2 s ++ (made ++ rest)) 0 k) 1 l)
      go [] h = absurd (omega arith)
      go (x ∷ []) h = absurd (omega arith)
      go (x ∷ y ∷ more) h = let a = length-append made rest in omega arith

-- what making a content said
pub made_stored : (draft : List ℕ) (c : Content) (r : Result ℕ TooLarge) {end : ℕ} → Made draft c r → r ≡ Ok end → Stored draft c end
unfolding Made
made_stored draft c r m e = subst (λ (x : Result ℕ TooLarge). Made draft c x) e m

pub made_over : (draft : List ℕ) (c : Content) (r : Result ℕ TooLarge) → Made draft c r → r ≡ Err (record {}) → content_too_large large c ≡ true
unfolding Made
made_over draft c r m e = subst (λ (x : Result ℕ TooLarge). Made draft c x) e m
