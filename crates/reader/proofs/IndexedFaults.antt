-- Which answer a label, a start or a rule has, by the places of its field and the counts of an index: the tests as the code makes them.
use Rattle.reader.specs.declared.index.TableIndex.{TableIndex}
use Prim.Native.Nat.{ℕ, ◌+◌, ◌-◌, ◌≤◌, ◌<◌}
use native.Mathlib.Omega.{arith}
use mathlib.Core.Bool.{true, false, Bool}
use mathlib.Core.List.{List, [], ◌∷◌}
use mathlib.Core.Path.{◌≡◌, sym, ◌∙◌, ap}
use lib.ListN.{length, get_or}
use Rattle.grammar.specs.Lists.{is_in}
use Rattle.grammar.specs.LimitSets.{limits_of}
use Rattle.grammar.specs.Names.{Classes}
use Rattle.grammar.specs.Content.{Content}
use Rattle.grammar.specs.Table.{Table}
use Rattle.std.specs.Prelude.{Result, Ok, Err}
use Rattle.grammar.specs.Outcome.{◌>>=◌}
use Rattle.grammar.specs.Answers.{reading}
use Rattle.grammar.specs.ReadContent.{read_content}
use Rattle.grammar.specs.ReadTable.{with_start, with_rule, read_start, read_rule}
use Rattle.grammar.specs.declared.SizeLimits.{SizeLimits}
use Rattle.grammar.specs.declared.Refusal.{Refusal}
use Rattle.grammar.specs.declared.Refusal.TheVariants.{BadField, Repeated, TooMany, OutOfRange}
use Rattle.reader.specs.Extents.{content_answer}
use Rattle.reader.specs.TableIndex.{label_count, start_count, rule_count, part, Inside, Indexes}
use Rattle.reader.proofs.AnswerLaws.{readable, unreadable}
use Rattle.reader.proofs.ExtentLaws.{fine_given, refused_so}
use Rattle.reader.proofs.TableFaults.{
  LabelFits,
  part_size,
  part_one,
  part_two,
  start_unfit,
  start_late,
  start_repeated,
  start_too_many,
  start_unknown,
  start_fine,
  rule_short,
  rule_long,
  rule_too_many,
  rule_type_unknown,
  rule_label_unknown,
  rule_content,
}

module _ (limits : SizeLimits) {s : List ℕ} {index : TableIndex} {g : Table} (x : Indexes s index g) {from to : ℕ} (h : Inside s from to) where
  pub label_fits : {classes : Classes} → start_count index ≡ 0 → rule_count index ≡ 0 → (from ≡ to → ⊥) → to - from ≤ 63
      → LabelFits (limits_of limits) classes g (part s from to)
  label_fits p q r short =
      let size = part_size s from to h in
      let order = h.order in
      record { no_starts = sym x.starts ∙ p; no_rules = sym x.rules ∙ q; long = omega arith; short = omega arith }

  pub label_fitted : {classes : Classes} → LabelFits (limits_of limits) classes g (part s from to) → (1 ≤ to - from) × (to - from ≤ 63)
  label_fitted f =
      let size = part_size s from to h in
      let long = f.long in
      let short = f.short in
      (omega arith, omega arith)

  pub start_not_one : (to - from ≡ 1 → ⊥) → reading (read_start (limits_of limits) g (part s from to)) ≡ Err BadField
  start_not_one e =
      unreadable _ BadField (start_unfit (limits_of limits) g (part s from to) (λ q. e (sym (part_size s from to h) ∙ q)))

  module _ (one : to - from ≡ 1) where
    ty : ℕ
    ty = get_or s from 0

    one_byte : read_start (limits_of limits) g (part s from to) ≡ read_start (limits_of limits) g (ty ∷ [])
    unfolding ty
    one_byte = ap (read_start (limits_of limits) g) (part_one s from to one h.within)

    pub start_after_rule : (rule_count index ≡ 0 → ⊥) → reading (read_start (limits_of limits) g (part s from to)) ≡ Err BadField
    start_after_rule e = unreadable _ BadField (one_byte ∙ start_late (limits_of limits) g ty (λ q. e (x.rules ∙ q)))

    module _ (no_rules : rule_count index ≡ 0) where
      none : length g.rules ≡ 0
      none = sym x.rules ∙ no_rules

      pub start_again : is_in (get_or s from 0) g.starts ≡ true → reading (read_start (limits_of limits) g (part s from to)) ≡ Err Repeated
      unfolding ty
      start_again e = unreadable _ Repeated (one_byte ∙ start_repeated (limits_of limits) g ty none e)

      module _ (new : is_in (get_or s from 0) g.starts ≡ false) where
        pub start_one_too_many : limits.rules ≤ start_count index → reading (read_start (limits_of limits) g (part s from to)) ≡ Err TooMany
        unfolding ty
        start_one_too_many e =
            unreadable _ TooMany (one_byte ∙ start_too_many (limits_of limits) g ty none new (omega (arith, x.starts)))

        module _ (few : start_count index < limits.rules) where
          pub start_out : limits.rules ≤ get_or s from 0 → reading (read_start (limits_of limits) g (part s from to)) ≡ Err OutOfRange
          unfolding ty
          start_out e =
              unreadable _ OutOfRange (one_byte ∙ start_unknown (limits_of limits) g ty none new (omega (arith, x.starts)) e)

          pub start_reads : get_or s from 0 < limits.rules → reading (read_start (limits_of limits) g (part s from to)) ≡ Ok tt
          unfolding ty
          start_reads e =
              readable _ (with_start g ty) (one_byte ∙ start_fine (limits_of limits) g ty none new (omega (arith, x.starts)) e)

  pub rule_small : (text : Bool) → to - from < 3 → reading (read_rule (limits_of limits) g text (part s from to)) ≡ Err BadField
  rule_small text e =
      let size = part_size s from to h in
      unreadable _ BadField (rule_short (limits_of limits) g text (part s from to) (omega arith))

  module _ (text : Bool) (long : 3 ≤ to - from) where
    content : List ℕ
    content = part s (from + 2) to

    content_size : length content ≡ to - (from + 2)
    unfolding content
    content_size = let w = h.within in part_size s (from + 2) to (record { order = omega arith; within = w })

    apart : read_rule (limits_of limits) g text (part s from to) ≡ read_rule (limits_of limits) g text (get_or s from 0 ∷ get_or s (from + 1) 0 ∷ content)
    unfolding content
    apart = ap (read_rule (limits_of limits) g text) (part_two s from to (omega arith) h.within)

    pub rule_large : 1026 < to - from → reading (read_rule (limits_of limits) g text (part s from to)) ≡ Err BadField
    rule_large e =
        let size = content_size in
        unreadable _ BadField (apart ∙ rule_long (limits_of limits) g text (get_or s from 0) (get_or s (from + 1) 0) content (omega arith))

    module _ (short : to - from ≤ 1026) where
      has : 1 ≤ length content
      has = let size = content_size in omega arith

      fits : length content ≤ 1024
      fits = let size = content_size in omega arith

      pub rule_one_too_many : limits.rules ≤ rule_count index → reading (read_rule (limits_of limits) g text (part s from to)) ≡ Err TooMany
      rule_one_too_many e =
          unreadable
          _
          TooMany
          (apart
          ∙ rule_too_many (limits_of limits) g text (get_or s from 0) (get_or s (from + 1) 0) content has fits (omega (arith, x.rules)))

      module _ (few : rule_count index < limits.rules) where
        room : length g.rules < limits.rules
        room = omega (arith, x.rules)

        pub rule_type_out : limits.rules ≤ get_or s from 0 → reading (read_rule (limits_of limits) g text (part s from to)) ≡ Err OutOfRange
        rule_type_out e =
            unreadable
            _
            OutOfRange
            (apart ∙ rule_type_unknown (limits_of limits) g text (get_or s from 0) (get_or s (from + 1) 0) content has fits room e)

        pub rule_label_out : label_count index ≤ get_or s (from + 1) 0 → reading (read_rule (limits_of limits) g text (part s from to)) ≡ Err OutOfRange
        rule_label_out e =
            unreadable
            _
            OutOfRange
            (apart
            ∙ rule_label_unknown (limits_of limits) g text (get_or s from 0) (get_or s (from + 1) 0) content has fits room (omega (arith, x.labels)))

        module _ (type_in : get_or s from 0 < limits.rules) (label_in : get_or s (from + 1) 0 < label_count index) where
          by_content : read_rule (limits_of limits) g text (part s from to)
              ≡ (read_content (limits_of limits) content >>= (λ c. Ok (with_rule g (record { type = get_or s from 0; label = get_or s (from + 1) 0; content = c; text = text }))))
          by_content =
              apart
              ∙ rule_content (limits_of limits) g text (get_or s from 0) (get_or s (from + 1) 0) content has fits room type_in (omega (arith, x.labels))

          rule_by_content : (r : Refusal) → content_answer (read_content (limits_of limits) (part s (from + 2) to)) ≡ Err r
              → reading (read_rule (limits_of limits) g text (part s from to)) ≡ Err r
          unfolding content
          rule_by_content r e =
              unreadable
              _
              r
              (by_content
              ∙ ap
              (λ (o : Result Content Refusal). o >>= (λ c. Ok (with_rule g (record { type = get_or s from 0; label = get_or s (from + 1) 0; content = c; text = text }))))
              (refused_so (read_content (limits_of limits) (part s (from + 2) to)) r e))

          rule_reads : content_answer (read_content (limits_of limits) (part s (from + 2) to)) ≡ Ok tt
              → reading (read_rule (limits_of limits) g text (part s from to)) ≡ Ok tt
          unfolding content
          rule_reads e =
              let f = fine_given (read_content (limits_of limits) (part s (from + 2) to)) e in
              readable
              _
              (with_rule g (record { type = get_or s from 0; label = get_or s (from + 1) 0; content = f.0; text = text }))
              (by_content
              ∙ ap
              (λ (o : Result Content Refusal). o >>= (λ c. Ok (with_rule g (record { type = get_or s from 0; label = get_or s (from + 1) 0; content = c; text = text }))))
              f.1)

          -- the content settles it
          pub rule_settled : (r : Result (Unit {0}) Refusal) → content_answer (read_content (limits_of limits) (part s (from + 2) to)) ≡ r
              → reading (read_rule (limits_of limits) g text (part s from to)) ≡ r
          rule_settled (Ok done) e = rule_reads e
          rule_settled (Err r) e = rule_by_content r e
