-- The lines of a table that was read:
--   joined_place : lists joined one by one
--   name_stands, name_size : a label's name ; content_stands, content_asks, content_put, content_size : a rule's content
--   rule_type_is, rule_type_size, rule_label_is, line_joined : a rule's line ; start_line_size : a start's line
--   starts_next, lines_next : one line more
use Rattle.reader.specs.declared.index.TableIndex.{TableIndex}
use mathlib.Core.Bool.{Bool, true, false}
use Prim.Native.Nat.{ℕ, ◌+◌, ◌-◌, ◌≤◌, ◌<◌}
use native.Mathlib.Omega.{arith}
use native.Mathlib.Numerals.{add-one}
use mathlib.Core.List.{List, [], ◌∷◌, ◌++◌}
use mathlib.Core.Option.{some as just}
use mathlib.Core.Path.{◌≡◌, sym, ◌∙◌, ap, subst}
use lib.ListN.{length, get_or, take, length-append, get_elem?}
use lib.Seq.{take-suc}
use Rattle.grammar.specs.Lists.{joined_of}
use Rattle.grammar.specs.Limits.{large}
use Rattle.grammar.specs.Table.{Rule, Table}
use Rattle.grammar.specs.ReadContent.{content_bytes}
use Rattle.grammar.specs.WithinLimits.{ContentWithin}
use Rattle.grammar.specs.Listing.{type_text, content_text, start_line, rule_line, text_mark}
use Rattle.theory.proofs.Lists.ListLaws.{at_else, joined_end}
use Rattle.reader.specs.ContentAt.{ContentAt}
use Rattle.reader.specs.TableIndex.{
  label_from,
  label_to,
  start_type,
  rule_type,
  rule_label,
  content_from,
  content_to,
  label_count,
  start_count,
  rule_count,
  part,
  BytesStand,
  RuleAt,
}
use Rattle.reader.specs.Held.{SomeHeld}
use Rattle.reader.proofs.TableIndexLaws.{start_at}
use Rattle.reader.proofs.TableFoundLaws.{RuleFound, label_found_at, rule_found_at, content_in_part}
use Rattle.union.specs.PairNumbers.{rule_numbered, no_rule}
use Rattle.writer.specs.Writing.{Put}
use Rattle.lister_lines.specs.declared.content_text.Ends.{Ends}
use Rattle.lister_lines.specs.Printing.{Printable, Printed}
use Rattle.lister_lines.proofs.DecimalLaws.{type_size}
use Rattle.lister_lines.proofs.RoomLaws.{content_short}

-- what the elements before a place give, and the one there
pub joined_place : {A B : Type 0} (f : A → List B) (xs : List A) (i : ℕ) (d : A) → i < length xs
    → joined_of f (take i xs) ++ f (get_or xs i d) ≡ joined_of f (take (i + 1) xs)
joined_place f xs i d h =
    sym (ap (λ (n : ℕ). joined_of f (take n xs)) (add-one i) ∙ ap (joined_of f) (take-suc xs i d h) ∙ joined_end f (take i xs) (get_or xs i d))

module _ {s : List ℕ} {index : TableIndex} (f : SomeHeld large s index) where
  abbrev g : Table
  g = f.table

  module _ (l : ℕ) (h : l < label_count index) where
    pub name_stands : {from to : ℕ} → from ≡ label_from index l → to ≡ label_to index l → BytesStand s from to (get_or g.labels l [])
    name_stands begins ends =
        let a = label_found_at f.held.indexes f.held.within l h in
        rw (begins, ends, at_else g.labels l [] a.1) a.2

    pub name_size : length (get_or g.labels l []) ≤ 63
    unfolding large
    name_size =
        let a = label_found_at f.held.indexes f.held.within l h in
        let e = ap length (at_else g.labels l [] a.1) in
        let b = a.3.size in
        omega arith

  pub starts_next : (i : ℕ) → i < start_count index
      → joined_of start_line (take i g.starts) ++ start_line (start_type index i) ≡ joined_of start_line (take (i + 1) g.starts)
  starts_next i h =
      let x = f.held.indexes in
      ap (λ (k : ℕ). joined_of start_line (take i g.starts) ++ start_line k) (sym (at_else g.starts i 0 (start_at x i h)))
      ∙ joined_place start_line g.starts i 0 (omega (arith, x.starts))

  -- a rule
  module _ (i : ℕ) (h : i < rule_count index) where
    found : RuleFound s index g i
    found = rule_found_at f.held.indexes f.held.within i h

    rule_is : found.rule ≡ rule_numbered g i
    rule_is = sym (at_else g.rules i no_rule found.listed)

    rule_stands : RuleAt s index i (rule_numbered g i)
    rule_stands = subst (RuleAt s index i) rule_is found.at

    content_within : ContentWithin large (rule_numbered g i).content
    content_within = subst (λ (r : Rule). ContentWithin large r.content) rule_is found.within.content

    pub rule_type_is : rule_type index i ≡ (rule_numbered g i).type
    rule_type_is = rule_stands.type

    pub rule_type_size : {k : ℕ} → k ≡ rule_type index i → length (type_text k) ≤ 4
    rule_type_size {k} e = let small = found.type_below in type_size k (omega arith)

    pub rule_label_is : rule_label index i ≡ (rule_numbered g i).label
    rule_label_is = rule_stands.label

    pub rule_mark_is : {b : Bool} → ((q : Rule) → get_elem? g.rules i ≡ just q → b ≡ q.text) → b ≡ (rule_numbered g i).text
    rule_mark_is told = told found.rule found.listed ∙ ap (λ (r : Rule). r.text) rule_is

    pub content_size : length (content_text (rule_numbered g i).content) ≤ 3071
    unfolding large
    content_size =
        let b = content_short (rule_numbered g i).content content_within.proper in
        let c = content_within.size in
        omega arith

    module _ {from to : ℕ} (begins : from ≡ content_from index i) (ends : to ≡ content_to index i) where
      pub content_stands : BytesStand s from to (content_bytes (rule_numbered g i).content)
      content_stands = rw (begins, ends) rule_stands.content

      abbrev content_there : ContentAt large (part s from to) 0
      content_there =
          record {
            content = (rule_numbered g i).content;
            next = to - from;
            stands = content_in_part (rule_numbered g i).content content_stands;
            proper = content_within.proper;
          }

      content_room : (at room : ℕ) → at + 3071 ≤ room → at + length (content_text (rule_numbered g i).content) ≤ room
      content_room at room r = let z = content_size in omega arith

      pub content_asks : {text : List ℕ} {at : ℕ} → at + 3071 ≤ length text → Printable (part s from to) 0 text at
      content_asks {text} {at} r = record { there = content_there; room = content_room at (length text) r }

      pub content_put : {text : List ℕ} {at : ℕ} {after : List ℕ} {r : Ends} → at + 3071 ≤ length text
          → ((q : Printable (part s from to) 0 text at) → Printed text at (content_text q.there.content) q.there.next after r)
          → Put text at (content_text (rule_numbered g i).content) after r.text
      content_put {text} {at} r walk = (walk (record { there = content_there; room = content_room at (length text) r })).put

    pub lines_next : joined_of (rule_line g) (take i g.rules) ++ rule_line g (rule_numbered g i)
        ≡ joined_of (rule_line g) (take (i + 1) g.rules)
    lines_next =
        joined_place (rule_line g) g.rules i no_rule (omega (arith, f.held.indexes.rules))

-- the mark of a rule for text, and of another
pub marked : {b : Bool} (text : Bool) → b ≡ text → b ≡ true → text_mark text ≡ 0x23 ∷ []
unfolding text_mark
marked text e t = ap text_mark (sym e ∙ t)

pub unmarked : {b : Bool} (text : Bool) → b ≡ text → b ≡ false → text_mark text ≡ []
unfolding text_mark
unmarked text e t = ap text_mark (sym e ∙ t)

-- the parts of a rule's line
pub line_joined : (g : Table) (x : Rule) (k l : ℕ) {before : List ℕ} {at : ℕ} {after : List ℕ} {end : ℕ} → k ≡ x.type → l ≡ x.label
    → Put before at
    (type_text k ++ (0x20 ∷ []) ++ get_or g.labels l [] ++ (0x20 ∷ []) ++ content_text x.content ++ text_mark x.text ++ (0x0A ∷ [])) after end
    → Put before at (rule_line g x) after end
unfolding rule_line
line_joined g x k l {before} {at} {after} {end} p q w =
    subst
    (λ (m : ℕ). Put before at
    (type_text m ++ (0x20 ∷ []) ++ get_or g.labels x.label [] ++ (0x20 ∷ []) ++ content_text x.content ++ text_mark x.text ++ (0x0A ∷ [])) after end)
    p
    (subst
    (λ (m : ℕ). Put before at
    (type_text k ++ (0x20 ∷ []) ++ get_or g.labels m [] ++ (0x20 ∷ []) ++ content_text x.content ++ text_mark x.text ++ (0x0A ∷ [])) after end)
    q w)

pub start_line_size : (k : ℕ) → k < 128 → length (start_line k) ≤ 11
unfolding start_line
start_line_size k h = omega (arith, type_size k h, length-append (type_text k) (0x0A ∷ []))
