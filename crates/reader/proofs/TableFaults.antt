-- Which refusal a label, a start, a rule or an end field has, in the order of the tests; and what each of them gives otherwise.
use Prim.Native.Nat.{ℕ, suc, ◌+◌, ◌-◌, ◌≤◌, ◌<◌}
use native.Mathlib.Omega.{arith}
use native.Mathlib.Numerals.{add-one}
use mathlib.Core.Bool.{Bool, true, false, not, ◌&&◌}
use mathlib.Core.List.{List, [], ◌∷◌}
use mathlib.Core.Path.{◌≡◌, refl, sym, ◌∙◌, ap, ap₂}
use lib.ListN.{length, get_or, take, drop, length-drop}
use lib.Dec.{leb}
use lib.Seq.{slice, drop-cons, length-take-le}
use borrow.Author.Tests.{leb-true, le-leb, lt-leb}
use Rattle.grammar.specs.Lists.{any_pass, is_in}
use Rattle.grammar.specs.Limits.{Limits}
use Rattle.grammar.specs.Names.{same_name, Classes, is_name}
use Rattle.grammar.specs.Table.{Table}
use Rattle.std.specs.Prelude.{Result, Ok, Err}
use Rattle.grammar.specs.Outcome.{◌>>=◌, ◌>>◌, turn_back}
use Rattle.grammar.specs.declared.Refusal.{Refusal}
use Rattle.grammar.specs.ReadContent.{read_content}
use Rattle.grammar.specs.ReadTable.{is_empty, with_label, with_start, with_rule, read_label, read_start, read_rule}
use Rattle.grammar.specs.declared.Refusal.TheVariants.{BadField, BadName, Repeated, TooMany, OutOfRange}
use Rattle.theory.proofs.Lists.BoolLaws.{and_left, and_right, and_intro, or_left, or_right, or_none, false_of}
use Rattle.theory.proofs.Bytes.OutcomeLaws.{no_fault}
use Rattle.theory.proofs.Bytes.ReadSteps.{empty_is}
use Rattle.reader.specs.TableIndex.{part, Inside}
use Rattle.reader.proofs.AnswerLaws.{fault}
use Rattle.basis.proofs.FromPlaces.{slice_part}

none_of : {A : Type 0} (xs : List A) → is_empty xs ≡ true → length xs ≡ 0
none_of xs e = ap length (empty_is xs e)

pub is_empty_lem : {A : Type 0} (xs : List A) → length xs ≡ 0 → is_empty xs ≡ true
is_empty_lem [] e = refl
is_empty_lem (x ∷ xs) e = absurd (omega arith)

pub is_some : {A : Type 0} (xs : List A) → 0 < length xs → is_empty xs ≡ false
is_some [] h = absurd (omega arith)
is_some (x ∷ xs) h = refl

module _ (lim : Limits) (classes : Classes) (g : Table) (value : List ℕ) where
  -- a label comes before all starts and rules, and is of a length that a name may have
  pub record LabelFits : Type 0 where
    pub no_starts : length g.starts ≡ 0
    pub no_rules : length g.rules ≡ 0
    pub long : 1 ≤ length value
    pub short : length value ≤ lim.name

  first : Bool
  first = is_empty g.starts && is_empty g.rules

  long : Bool
  long = leb 1 (length value)

  short : Bool
  short = leb (length value) lim.name

  fits : Bool
  fits = first && long && short

  fitting : LabelFits → fits ≡ true
  unfolding fits first long short
  fitting h =
      and_intro
      (first && long)
      short
      (and_intro
      first
      long
      (and_intro (is_empty g.starts) (is_empty g.rules) (is_empty_lem g.starts h.no_starts) (is_empty_lem g.rules h.no_rules))
      (le-leb 1 (length value) h.long))
      (le-leb (length value) lim.name h.short)

  fitted : fits ≡ true → LabelFits
  unfolding fits first long short
  fitted e =
      let a = and_left (first && long) short e in
      let b = and_left first long a in
      record {
        no_starts = none_of g.starts (and_left (is_empty g.starts) (is_empty g.rules) b);
        no_rules = none_of g.rules (and_right (is_empty g.starts) (is_empty g.rules) b);
        long = leb-true 1 (length value) (and_right first long a);
        short = leb-true (length value) lim.name (and_right (first && long) short e);
      }

  pub label_unfit : (LabelFits → ⊥) → read_label lim classes g value ≡ Err BadField
  unfolding read_label fits first long short
  label_unfit h = fault (not fits) BadField _ (ap not (false_of fits (λ e. h (fitted e))))

  module _ (h : LabelFits) where
    fine_field : {B : Type 0} (next : Result B Refusal) → (turn_back (not fits) BadField >> next) ≡ next
    fine_field next = no_fault (not fits) BadField next (ap not (fitting h))

    pub label_misnamed : is_name classes value ≡ false → read_label lim classes g value ≡ Err BadName
    unfolding read_label fits first long short
    label_misnamed e = fine_field _ ∙ fault _ BadName _ (ap not e)

    module _ (named : is_name classes value ≡ true) where
      pub label_repeated : any_pass (same_name value) g.labels ≡ true → read_label lim classes g value ≡ Err Repeated
      unfolding read_label fits first long short
      label_repeated e = fine_field _ ∙ no_fault _ BadName _ (ap not named) ∙ fault _ Repeated _ e

      module _ (new : any_pass (same_name value) g.labels ≡ false) where
        pub label_too_many : lim.labels ≤ length g.labels → read_label lim classes g value ≡ Err TooMany
        unfolding read_label fits first long short
        label_too_many e =
            fine_field _
            ∙ no_fault _ BadName _ (ap not named)
            ∙ no_fault _ Repeated _ new
            ∙ fault _ TooMany _ (le-leb lim.labels (length g.labels) e)

        pub label_fine : length g.labels < lim.labels → read_label lim classes g value ≡ Ok (with_label g value)
        unfolding read_label fits first long short
        label_fine e =
            fine_field _
            ∙ no_fault _ BadName _ (ap not named)
            ∙ no_fault _ Repeated _ new
            ∙ no_fault _ TooMany _ (lt-leb lim.labels (length g.labels) e)

module _ (lim : Limits) (g : Table) where
  pub start_unfit : (value : List ℕ) → (length value ≡ 1 → ⊥) → read_start lim g value ≡ Err BadField
  unfolding read_start
  start_unfit [] h = refl
  start_unfit (k ∷ []) h = absurd (h refl)
  start_unfit (k ∷ b ∷ rest) h = refl

  module _ (k : ℕ) where
    pub start_late : (length g.rules ≡ 0 → ⊥) → read_start lim g (k ∷ []) ≡ Err BadField
    unfolding read_start
    start_late h = fault _ BadField _ (ap not (false_of (is_empty g.rules) (λ e. h (none_of g.rules e))))

    module _ (no_rules : length g.rules ≡ 0) where
      in_time : {B : Type 0} (next : Result B Refusal) → (turn_back (not (is_empty g.rules)) BadField >> next) ≡ next
      in_time next = no_fault _ BadField next (ap not (is_empty_lem g.rules no_rules))

      pub start_repeated : is_in k g.starts ≡ true → read_start lim g (k ∷ []) ≡ Err Repeated
      unfolding read_start
      start_repeated e = in_time _ ∙ fault _ Repeated _ e

      module _ (new : is_in k g.starts ≡ false) where
        pub start_too_many : lim.starts ≤ length g.starts → read_start lim g (k ∷ []) ≡ Err TooMany
        unfolding read_start
        start_too_many e = in_time _ ∙ no_fault _ Repeated _ new ∙ fault _ TooMany _ (le-leb lim.starts (length g.starts) e)

        module _ (few : length g.starts < lim.starts) where
          pub start_unknown : lim.types ≤ k → read_start lim g (k ∷ []) ≡ Err OutOfRange
          unfolding read_start
          start_unknown e =
              in_time _
              ∙ no_fault _ Repeated _ new
              ∙ no_fault _ TooMany _ (lt-leb lim.starts (length g.starts) few)
              ∙ fault _ OutOfRange _ (le-leb lim.types k e)

          pub start_fine : k < lim.types → read_start lim g (k ∷ []) ≡ Ok (with_start g k)
          unfolding read_start
          start_fine e =
              in_time _
              ∙ no_fault _ Repeated _ new
              ∙ no_fault _ TooMany _ (lt-leb lim.starts (length g.starts) few)
              ∙ no_fault _ OutOfRange _ (lt-leb lim.types k e)

  pub rule_short : (text : Bool) (value : List ℕ) → length value < 3 → read_rule lim g text value ≡ Err BadField
  unfolding read_rule
  rule_short text [] h = refl
  rule_short text (k ∷ []) h = refl
  rule_short text (k ∷ l ∷ []) h = refl
  rule_short text (k ∷ l ∷ b ∷ rest) h = absurd (omega arith)

  module _ (text : Bool) (k l : ℕ) (content : List ℕ) where
    sized : Bool
    sized = leb 1 (length content) && leb (length content) lim.content

    pub rule_long : lim.content < length content → read_rule lim g text (k ∷ l ∷ content) ≡ Err BadField
    unfolding read_rule sized
    rule_long h =
        fault _ BadField _ (ap not (false_of sized (λ e. let q = leb-true (length content) lim.content (and_right (leb 1 (length content)) _ e) in omega arith)))

    module _ (has : 1 ≤ length content) (size : length content ≤ lim.content) where
      right_size : {B : Type 0} (next : Result B Refusal) → (turn_back (not sized) BadField >> next) ≡ next
      unfolding sized
      right_size next =
          no_fault (not sized) BadField next (ap not (and_intro (leb 1 (length content)) _ (le-leb 1 (length content) has) (le-leb (length content) lim.content size)))

      pub rule_too_many : lim.rules ≤ length g.rules → read_rule lim g text (k ∷ l ∷ content) ≡ Err TooMany
      unfolding read_rule sized
      rule_too_many e = right_size _ ∙ fault _ TooMany _ (le-leb lim.rules (length g.rules) e)

      module _ (few : length g.rules < lim.rules) where
        room_left : {B : Type 0} (next : Result B Refusal) → (turn_back (leb lim.rules (length g.rules)) TooMany >> next) ≡ next
        room_left next = no_fault _ TooMany next (lt-leb lim.rules (length g.rules) few)

        pub rule_type_unknown : lim.types ≤ k → read_rule lim g text (k ∷ l ∷ content) ≡ Err OutOfRange
        unfolding read_rule sized
        rule_type_unknown e =
            right_size _ ∙ room_left _ ∙ fault _ OutOfRange _ (or_left _ _ (le-leb lim.types k e))

        pub rule_label_unknown : length g.labels ≤ l → read_rule lim g text (k ∷ l ∷ content) ≡ Err OutOfRange
        unfolding read_rule sized
        rule_label_unknown e =
            right_size _ ∙ room_left _ ∙ fault _ OutOfRange _ (or_right (leb lim.types k) _ (le-leb (length g.labels) l e))

        -- what is left is the content's answer
        pub rule_content : k < lim.types → l < length g.labels
            → read_rule lim g text (k ∷ l ∷ content)
            ≡ (read_content lim content >>= (λ c. Ok (with_rule g (record { type = k; label = l; content = c; text = text }))))
        unfolding read_rule sized
        rule_content p q =
            right_size _
            ∙ room_left _
            ∙ no_fault _ OutOfRange _ (or_none (leb lim.types k) (leb (length g.labels) l) (lt-leb lim.types k p) (lt-leb (length g.labels) l q))

-- a part of some bytes, its first one or two bytes apart
module _ (s : List ℕ) where
  part_next : (from from' to : ℕ) → from' ≡ suc from → from < to → to ≤ length s → part s from to ≡ get_or s from 0 ∷ part s from' to
  part_next from from' to e h k =
      ap₂ take size (drop-cons s from 0 (omega arith) ∙ ap (λ (n : ℕ). get_or s from 0 ∷ drop n s) (sym e))
    where
      size : to - from ≡ suc (to - from')
      size = omega arith

  pub part_one : (from to : ℕ) → to - from ≡ 1 → to ≤ length s → part s from to ≡ get_or s from 0 ∷ []
  part_one from to e h =
      part_next from (from + 1) to (add-one from) (omega arith) h
      ∙ ap (λ (n : ℕ). get_or s from 0 ∷ take n (drop (from + 1) s)) none
    where
      none : to - (from + 1) ≡ 0
      none = omega arith

  pub part_two : (from to : ℕ) → from + 2 ≤ to → to ≤ length s
      → part s from to ≡ get_or s from 0 ∷ get_or s (from + 1) 0 ∷ part s (from + 2) to
  part_two from to h k =
      part_next from (from + 1) to (add-one from) (omega arith) k
      ∙ ap (λ (l : List ℕ). get_or s from 0 ∷ l) (part_next (from + 1) (from + 2) to (omega arith) (omega arith) k)

  pub part_size : (from to : ℕ) → Inside s from to → length (part s from to) ≡ to - from
  part_size from to h =
      let l = length-drop from s in
      length-take-le (to - from) (drop from s) (omega arith)

  -- as fields have it
  pub part_slice : (from to : ℕ) → Inside s from to → slice from to s ≡ part s from to
  part_slice from to h =
      let e : to ≡ from + (to - from) = omega arith in
      ap (λ (n : ℕ). slice from n s) e ∙ slice_part from (to - from) s (omega arith)
