-- What a label, a start or a rule that is read adds to the index.
use Rattle.reader.specs.declared.index.TableIndex.{TableIndex}
use mathlib.Core.Bool.{Bool}
use Prim.Native.Nat.{ℕ, ◌+◌, ◌-◌, ◌≤◌, ◌<◌}
use native.Mathlib.Omega.{arith}
use mathlib.Core.List.{List, [], ◌∷◌}
use mathlib.Core.Path.{◌≡◌, sym, ◌∙◌, ap, subst}
use lib.ListN.{length, get_or}
use Rattle.grammar.specs.LimitSets.{limits_of}
use Rattle.grammar.specs.Names.{Classes}
use Rattle.grammar.specs.Table.{Table}
use Rattle.std.specs.Prelude.{Result, Ok, Err, IsErr, IsErrAnd}
use Rattle.grammar.specs.Answers.{reading}
use Rattle.grammar.specs.ReadContent.{content_bytes}
use Rattle.grammar.specs.WriteTable.{rule_bytes}
use Rattle.grammar.specs.ReadTable.{with_label, with_start, with_rule, read_label, read_start, read_rule, rule_tag}
use Rattle.grammar.specs.declared.SizeLimits.{SizeLimits}
use Rattle.grammar.specs.declared.Refusal.{Refusal}
use Rattle.theory.proofs.Bytes.OutcomeLaws.{given_eq}
use Rattle.theory.proofs.Bytes.ReadSteps.{label_was, StartRead, start_was, RuleRead, rule_was}
use Rattle.reader.specs.TableIndex.{
  label_count,
  start_count,
  rule_count,
  with_label_at,
  with_start_of,
  with_rule_at,
  part,
  Inside,
  BytesStand,
  Indexes,
  Reads,
}
use Rattle.reader.proofs.AnswerLaws.{readable, was_readable, was_unreadable, never_given, handed_on}
use Rattle.reader.proofs.TableFaults.{part_size, part_one, part_two}
use Rattle.reader.proofs.TableIndexLaws.{label_added, start_added, rule_added}
use Rattle.reader.specs.FieldAt.{TagBefore}

-- a refusal leaves nothing to say of the index
pub refused_reads : (s : List ℕ) (o : Result Table Refusal) (r : Refusal) (index : TableIndex) → reading o ≡ Err r
    → Reads s o (Err r) index
refused_reads s o r index e = record { answer = sym e; index_of = λ g q. absurd (never_given o r g (was_unreadable o r e) q) }

-- the same outcome by another name
pub reads_as : {s : List ℕ} {o o' : Result Table Refusal} {r : Result (Unit {0}) Refusal} {index : TableIndex} → o ≡ o' → Reads s o' r index → Reads s o r index
reads_as {s} {o} {o'} {r} {index} e w = subst (λ (q : Result Table Refusal). Reads s q r index) (sym e) w

-- the index of the table that is given
pub given_reads : (s : List ℕ) (o : Result Table Refusal) (g : Table) (index : TableIndex) → o ≡ Ok g → Indexes s index g
    → Reads s o (Ok tt) index
given_reads s o g index e x =
    record { answer = sym (readable o g e); index_of = λ h q. subst (Indexes s index) (given_eq (sym e ∙ q)) x }

module _ (limits : SizeLimits) {s : List ℕ} {index : TableIndex} {g : Table} (x : Indexes s index g) {from to : ℕ} (h : Inside s from to) where
  module _ (classes : Classes) (read : reading (read_label (limits_of limits) classes g (part s from to)) ≡ Ok tt) where
    pub label_room : label_count index < 128
    label_room =
        let r = was_readable (read_label (limits_of limits) classes g (part s from to)) read in
        let w = label_was (limits_of limits) classes g (part s from to) r.0 r.1 in
        let free = w.room in let most = limits.rules_fit in
        omega (arith, x.labels)

    pub label_reads : Reads s (read_label (limits_of limits) classes g (part s from to)) (Ok tt) (with_label_at index from to)
    label_reads =
        let r = was_readable (read_label (limits_of limits) classes g (part s from to)) read in
        let w = label_was (limits_of limits) classes g (part s from to) r.0 r.1 in
        given_reads s (read_label (limits_of limits) classes g (part s from to)) (with_label g (part s from to)) (with_label_at index from to) (r.1 ∙ ap Ok (sym w.result)) (label_added x from to label_room h)

  module _ (read : reading (read_start (limits_of limits) g (part s from to)) ≡ Ok tt) where
    start_found : (more : Table) × (read_start (limits_of limits) g (part s from to) ≡ Ok more) × StartRead (limits_of limits) g (part s from to) more
    start_found =
        let r = was_readable (read_start (limits_of limits) g (part s from to)) read in
        (r.0, r.1, start_was (limits_of limits) g (part s from to) r.0 r.1)

    start_size : to - from ≡ 1
    start_size = sym (part_size s from to h) ∙ ap length start_found.2.byte

    pub start_room : (start_count index < 128) × (from < length s)
    start_room =
        let free = start_found.2.room in let most = limits.rules_fit in
        let size = start_size in
        (omega (arith, x.starts), omega (arith, h.within))

    pub start_step : Reads s (read_start (limits_of limits) g (part s from to)) (Ok tt) (with_start_of index (get_or s from 0))
    start_step =
        let w = start_found.2 in
        given_reads
        s
        (read_start (limits_of limits) g (part s from to))
        (with_start g (get_or s from 0))
        (with_start_of index (get_or s from 0))
        (start_found.1 ∙ ap Ok (sym w.result ∙ ap (with_start g) (same_one (sym w.byte ∙ part_one s from to start_size h.within))))
        (start_added x (get_or s from 0) start_room.0)
      where
        same_one : {a b : ℕ} → ◌≡◌ {A = List ℕ} (a ∷ []) (b ∷ []) → a ≡ b
        same_one e = cc

  module _ (text : Bool) (read : reading (read_rule (limits_of limits) g text (part s from to)) ≡ Ok tt) where
    rule_found : (more : Table) × (read_rule (limits_of limits) g text (part s from to) ≡ Ok more) × RuleRead (limits_of limits) g text (part s from to) more
    rule_found =
        let r = was_readable (read_rule (limits_of limits) g text (part s from to)) read in
        (r.0, r.1, rule_was (limits_of limits) g text (part s from to) r.0 r.1)

    rule_size : from + 2 ≤ to
    unfolding rule_bytes
    rule_size =
        let size = part_size s from to h in
        let e = ap length rule_found.2.bytes in
        omega arith

    pub rule_room : (rule_count index < 128) × (from + 1 < length s)
    rule_room =
        let free = rule_found.2.room in let most = limits.rules_fit in
        let size = rule_size in
        (omega (arith, x.rules), omega (arith, h.within))

    -- the bytes of the rule, apart
    rule_bytes_lem : let r = rule_found.2.rule in
        (r.type ≡ get_or s from 0) × (r.label ≡ get_or s (from + 1) 0) × (part s (from + 2) to ≡ content_bytes r.content)
    unfolding rule_bytes
    rule_bytes_lem = two (sym rule_found.2.bytes ∙ part_two s from to rule_size h.within)
      where
        two : {a b c d : ℕ} {l m : List ℕ} → ◌≡◌ {A = List ℕ} (a ∷ b ∷ l) (c ∷ d ∷ m) → (a ≡ c) × (b ≡ d) × (m ≡ l)
        two e = (cc, cc, cc)

    pub rule_step : TagBefore s from (rule_tag text) → Reads s (read_rule (limits_of limits) g text (part s from to)) (Ok tt)
        (with_rule_at index (get_or s from 0) (get_or s (from + 1) 0) (from + 2) to)
    rule_step tag =
        let w = rule_found.2 in
        let r = w.rule in
        let b = rule_bytes_lem in
        let stands : BytesStand s (from + 2) to (content_bytes r.content) =
        record { inside = record { order = rule_size; within = h.within }; bytes_are = b.2 } in
        let behind = tag.behind in
        let tag_behind : 3 ≤ from + 2 - 2 = omega arith in
        let at : from + 2 - 2 - 3 ≡ from - 3 = omega arith in
        let tag_is = ap (λ (i : ℕ). get_or s i 0) at ∙ tag.tagged ∙ ap rule_tag (sym w.marked) in
        given_reads
        s
        (read_rule (limits_of limits) g text (part s from to))
        (with_rule g r)
        (with_rule_at index (get_or s from 0) (get_or s (from + 1) 0) (from + 2) to)
        (rule_found.1 ∙ ap Ok (sym w.result))
        (rule_added x (get_or s from 0) (get_or s (from + 1) 0) (from + 2) to rule_room.0 r (sym b.0) (sym b.1) stands
        (record { behind = tag_behind; tagged = tag_is }))

-- a refusal that `?` hands on
pub reads_on : {s : List ℕ} {index : TableIndex} {o : Result Table Refusal} {r : Refusal} (answer : Result (Unit {0}) Refusal) → IsErr answer × IsErrAnd answer (λ x. x ≡ r)
    → Reads s o (Err r) index → Reads s o answer index
reads_on {s} {index} {o} answer h read = subst (λ (a : Result (Unit {0}) Refusal). Reads s o a index) (sym (handed_on answer h)) read
