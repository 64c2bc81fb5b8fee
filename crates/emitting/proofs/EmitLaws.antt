-- The emitter's steps, as its code meets them:
--   no_sources, first_source, other_sources, row_wide, row_then   a row gathered: none; the first; the others after it
--   no_operands, first_operand, .. , row_on                       a row written: none; the first, finished; the others after it
--   SourcesLeft, RowRest                                          what is left of a row, within its loop
--   sequence-..., around-...                                      a sequence, and an operator of one operand, around a row written
use Prim.Native.Nat.{ℕ, suc, ◌+◌, ◌-◌, ◌*◌, ◌≤◌, ◌<◌}
use native.Mathlib.Omega.{arith}
use mathlib.Core.Bool.{true, false}
use mathlib.Core.List.{List, [], ◌∷◌, ◌++◌, map}
use mathlib.Core.Option.{some as just}
use mathlib.Core.Path.{◌≡◌, refl, sym, ◌∙◌, ap, subst}
use lib.ListN.{length, get_or, get_elem?, take, drop, set, replicate, length-set}
use lib.Seq.{take-set-le, get_or-set_same, get_or-take}
use Rattle.std.specs.Prelude.{Err, Ok, Result}
use Rattle.grammar.specs.Lists.{joined_of}
use Rattle.grammar.specs.Limits.{large, content_limit, operand_limit}
use Rattle.grammar.specs.Content.{
  Content,
  none,
  empty,
  type,
  sequence,
  choice,
  any_number,
  one_or_more,
  optional,
  Contents,
  []ᶜ,
  ◌∷ᶜ◌,
  nesting,
  deepest,
  operands,
  choice_of,
}
use Rattle.grammar.specs.ReadContent.{operators}
use Rattle.grammar.specs.declared.TooLarge.{TooLarge}
use Rattle.theory.specs.Alternatives.{alts, alts_of_each, one_content, has_alts, all_have_alts, some_left, gathered}
use Rattle.theory.proofs.Emission.AlternativeLaws.{sequence_has, sequence_has_not}
use Rattle.theory.proofs.Emission.GatheringLaws.{gathered_nothing, gather_more, written_gathered}
use Rattle.reader.specs.ExprAt.{◌up_to◌, placed, expr_at, exprs_at}
use Rattle.reader.proofs.ExprLaws.{expr_kept, expr_forward, expr_written, exprs_none, exprs_more, alone_was, numbered_was, operator_none, operator_empty, operator_type, operator_sequence}
use Rattle.operands.specs.declared.drafts.OperandRow.{OperandRow}
use Rattle.operands.specs.declared.drafts.Gathering.{Gathering}
use Rattle.emitting.specs.declared.emitter.Emitted.{Emitted}
use Rattle.operands.proofs.RowLaws.{exprs_only}
use Rattle.operands.proofs.FinishLaws.{
  single_stands,
  counted_stands,
  headed_first,
  headed_second,
  headed_length_lem,
  headed_before,
}
use Rattle.reader.proofs.ContentAtLaws.{FirstThere, first_of, others_from, none_there}
use Rattle.union.specs.Walks.{list_of_type}
use Rattle.operands.specs.Drafts.{headed_length, reaching, Row, Kept, Newest, Unfit, TooWide, OperandsAdded, Gathers, GathersWith, Finished}
use Rattle.operands.specs.Notes.{Noted, type_words, Registered, row_words}
use Rattle.emitting.specs.Emitting.{RoomForMore, Source, Sources, Operands, Laid, Emits}
use Rattle.operands.proofs.WideLaws.{
  one_long,
  wide_choice,
  unfit_first,
  unfit_others,
  unfit_less,
  wide_sequence,
  wide_single,
}
use Rattle.operands.proofs.NoteLaws.{noted_front, lent_from, with_lent}
use Rattle.operands.proofs.KeptLaws.{row_count}
use Rattle.operands.proofs.GatherLaws.{
  newest_of,
  keeps_before,
  first_wide,
  then_others,
  told_large,
  told_upto,
  with_as,
  with_from,
  with_none,
  with_large,
}
use Rattle.emitting.proofs.TypesKeptLaws.{registered_none, registered_part, types_plain}
use Rattle.emitting.proofs.SourceLaws.{
  first_deep,
  each_first,
  each_none,
  each_written,
  written_first,
  written_none,
  CountedThere,
  SingleThere,
  one_there,
}

-- A row gathered.
module _ {s : List ℕ} {at n : ℕ} {types from results d : List ℕ} {row : OperandRow} {words : ℕ}
    (q : Sources s at n types from results d row words) (res : ℕ → List ℕ) where
  abbrev row_gives : List Content
  row_gives = joined_of (λ xs. xs) (alts_of_each res q.there.contents)

  pub no_sources : n ≡ 0 → {Holds : List Content → Type 0} → Holds q.kept.list
      → GathersWith Holds d d row q.there.next (gathered q.kept.list row_gives) (Ok (record { next = at; count = row.count; end = row.end }))
  no_sources z y =
      let e = none_there large s at n q.there z in
      with_none q.kept row_gives e.1 q.fits (each_none res q.there.contents e.0) y

  module _ (some : n ≡ 0 → ⊥) where
    abbrev first : FirstThere large s at n q.there
    first = first_of large s at n q.there some

    pub first_room : (row.limit + headed_length * nesting first.first.content ≤ length d) × (row_words * nesting first.first.content ≤ words)
    first_room =
        let f = first_deep q.there.contents first.first.content first.others.contents first.both in
        let r = q.room in
        let w = q.deep in
        (omega arith, omega arith)

    abbrev pub first_source : Source s at types from results d row words
    first_source =
        record {
          there = first.first;
          maps = q.maps;
          kept = q.kept;
          fits = q.fits;
          small = q.small;
          room = first_room.0;
          deep = first_room.1;
        }

    abbrev first_gives : List Content
    first_gives = alts res first.first.content

    abbrev others_give : List Content
    others_give = joined_of (λ xs. xs) (alts_of_each res first.others.contents)

    both_give : row_gives ≡ first_gives ++ others_give
    both_give = each_first res q.there.contents first.first.content first.others.contents first.both

    both_gathered : gathered (gathered q.kept.list first_gives) others_give ≡ gathered q.kept.list row_gives
    both_gathered = gather_more q.kept.list first_gives others_give ∙ ap (gathered q.kept.list) (sym both_give)

    module _ (d' : List ℕ) (r : Result Gathering TooLarge) {Holds : List Content → Type 0}
        (g : GathersWith Holds d d' row first.first.next (gathered q.kept.list first_gives) r) where
      pub row_wide : r ≡ Err (record {})
          → GathersWith Holds d d' row q.there.next (gathered q.kept.list row_gives) (Err (record {}))
      row_wide e =
          with_large (gathered q.kept.list row_gives)
          (first_wide (row.limit - row.base) q.kept.list first_gives others_give row_gives both_give
          (told_large d d' row.base row.end row.limit first.first.next (gathered q.kept.list first_gives) r e g.gathers))

      module _ {next more last : ℕ} (e : r ≡ Ok (record { next = next; count = more; end = last })) (l : length d' ≡ length d) where
        pub told : (next ≡ first.first.next) × OperandsAdded d d' row.base row.end (gathered q.kept.list first_gives) row.limit more last
        told = told_upto d d' row.base row.end row.limit first.first.next (gathered q.kept.list first_gives) r next more last e g.gathers

        pub others_room : (row.limit + headed_length * deepest first.others.contents ≤ length d') × (row_words * deepest first.others.contents ≤ words)
        others_room =
            let f = first_deep q.there.contents first.first.content first.others.contents first.both in
            let r = q.room in
            let w = q.deep in
            (omega arith, omega arith)

        abbrev pub other_sources : (words' : ℕ) → words' ≡ words → Sources s next (n - 1) types from results d' (reaching row more last) words'
        other_sources words' w =
            record {
              there = others_from large s at n q.there first next told.0;
              maps = q.maps;
              kept = record { list = gathered q.kept.list first_gives; row = told.1.row };
              fits = told.1.fits;
              small = q.small;
              room = others_room.0;
              deep = subst (λ (k : ℕ). row_words * deepest first.others.contents ≤ k) (sym w) others_room.1;
            }

        pub goes_on : at < next
        goes_on = subst (λ (k : ℕ). at < k) (sym told.0) first.forward

        pub row_then : (d'' : List ℕ) (o : Result Gathering TooLarge) {Holds' : List Content → Type 0}
            → GathersWith Holds' d' d'' (reaching row more last) first.others.next
            (gathered (gathered q.kept.list first_gives) others_give) o
            → GathersWith Holds' d d'' row q.there.next (gathered q.kept.list row_gives) o
        row_then d'' o {Holds'} f =
            record {
              gathers =
                  subst (λ (k : ℕ). Gathers d d'' row.base row.end row.limit k (gathered q.kept.list row_gives) o) first.ends
                  (then_others d d' d'' row.base row.end last row.limit first.others.next q.kept.list first_gives others_give row_gives o both_give
                  told.1.grows
                  told.1.keeps
                  f.gathers);
              noted = λ u. subst Holds' both_gathered (f.noted u);
            }

-- What is still to be gathered of a row: once it is gathered, the whole row is.
pub record SourcesLeft {s : List ℕ} {at n : ℕ} {types from results d : List ℕ} {row : OperandRow} {words : ℕ}
    (q : Sources s at n types from results d row words) (res : ℕ → List ℕ) (register d' : List ℕ)
    (at' left count' end' words' : ℕ)
    : Type 0 where
  pub rest : Sources s at' left types from results d' (reaching row count' end') words'
  pub registered : Registered register rest.kept.list
  pub whole : (register' d'' : List ℕ) (o : Result Gathering TooLarge)
      → GathersWith (Registered register') d' d'' (reaching row count' end') rest.there.next
      (gathered rest.kept.list (joined_of (λ xs. xs) (alts_of_each res rest.there.contents))) o
      → GathersWith (Registered register') d d'' row q.there.next
      (gathered q.kept.list (joined_of (λ xs. xs) (alts_of_each res q.there.contents))) o

-- what an answer says, once it is known which it is
pub emits_large : (d d' : List ℕ) (start place n next : ℕ) (cs : Contents) (r : Result Emitted TooLarge) → r ≡ Err (record {})
    → Emits d d' start place n next cs r → Unfit (start + content_limit - place) cs
unfolding Emits
emits_large d d' start place n next cs r e g = subst (λ (x : Result Emitted TooLarge). Emits d d' start place n next cs x) e g

pub emits_upto : (d d' : List ℕ) (start place n next : ℕ) (cs : Contents) (r : Result Emitted TooLarge) (m end : ℕ) → r ≡ Ok (record { next = m; end = end })
    → Emits d d' start place n next cs r → (m ≡ next) × Laid d d' start place n cs end
unfolding Emits
emits_upto d d' start place n next cs r m end e g = subst (λ (x : Result Emitted TooLarge). Emits d d' start place n next cs x) e g

large_emits : (d d' : List ℕ) (start place n next : ℕ) (cs : Contents) → Unfit (start + content_limit - place) cs
    → Emits d d' start place n next cs (Err (record {}))
unfolding Emits
large_emits d d' start place n next cs h = h

-- no operands kept yet
pub fresh_row : (d : List ℕ) (base : ℕ) → base ≤ length d → Row d base 0 [] base
unfolding operands
fresh_row d base h =
    record {
      stand = exprs_none d base;
      apart = gathered_nothing;
      forward = omega arith;
      inside = h;
      few = omega arith;
    }

-- one more operand written, and the others after it
others_laid : (d d' : List ℕ) (start place last n next next' : ℕ) (c : Content) (cs : Contents) (r : Result Emitted TooLarge) → (n ≡ 0 → ⊥)
    → expr_at d place ≡ just (c up_to last) → last ≤ start + content_limit → place ≤ last → next ≡ next'
    → Emits d d' start last (n - 1) next cs r → Emits d d' start place n next' (c ∷ᶜ cs) r
unfolding Emits
others_laid d d' start place last n next next' c cs (Err over) some s l p e g =
    let w = expr_written d place c last s in
    unfit_others (start + content_limit - place) (start + content_limit - last) c cs (omega arith) g
others_laid d d' start place last n next next' c cs (Ok got) some s l p e g =
    let k = expr_kept d d' place c last (sym g.1.keeps) s in
    let f = g.1.forward in
    let z : n ≡ suc (n - 1) = omega arith in (
      g.0 ∙ e,
      record {
        stand =
            ap (exprs_at d' place) z ∙ exprs_more d' place (n - 1) c last k ∙ ap (placed (λ ds. c ∷ᶜ ds)) g.1.stand;
        forward = omega arith;
        fits = g.1.fits;
        keeps = keeps_before d d' place last p g.1.keeps;
      },
    )

emits_from : (d d' d'' : List ℕ) (start place n next : ℕ) (cs : Contents) (r : Result Emitted TooLarge) → take place d' ≡ take place d
    → Emits d' d'' start place n next cs r → Emits d d'' start place n next cs r
unfolding Emits
emits_from d d' d'' start place n next cs (Err over) e g = g
emits_from d d' d'' start place n next cs (Ok got) e g = (
  g.0,
  record { stand = g.1.stand; forward = g.1.forward; fits = g.1.fits; keeps = g.1.keeps ∙ e },
)

nests : (c : Content) → 1 ≤ nesting c
unfolding nesting
nests none = omega arith
nests empty = omega arith
nests (type k) = omega arith
nests (sequence cs) = omega arith
nests (choice cs) = omega arith
nests (any_number c) = omega arith
nests (one_or_more c) = omega arith
nests (optional c) = omega arith

-- an operand that is to stand at a place, of an expression that begins at `start`: nothing is kept of it yet
abbrev pub operand_row : (start place : ℕ) → OperandRow
operand_row start place = record { base = place + 2; count = 0; end = place + 2; limit = start + headed_length }

-- A row written.
module _ {s : List ℕ} {at n : ℕ} {types from results d : List ℕ} {start place words : ℕ}
    (q : Operands s at n types from results d start place words) (res : ℕ → List ℕ) where
  abbrev row_written : Contents
  row_written = each_written res q.there.contents

  pub no_operands : n ≡ 0 → Emits d d start place n q.there.next row_written (Ok (record { next = at; end = place }))
  unfolding Emits
  no_operands z =
      let e = none_there large s at n q.there z in (
        e.1,
        record {
          stand =
              ap (exprs_at d place) z
              ∙ exprs_none d place
              ∙ ap (λ (cs : Contents). just (cs up_to place)) (sym (written_none res q.there.contents e.0));
          forward = omega arith;
          fits = q.fits;
          keeps = refl;
        },
      )

  module _ (some : n ≡ 0 → ⊥) where
    abbrev first' : FirstThere large s at n q.there
    first' = first_of large s at n q.there some

    deep' : (nesting first'.first.content ≤ deepest q.there.contents)
        × (deepest first'.others.contents ≤ deepest q.there.contents)
    deep' = first_deep q.there.contents first'.first.content first'.others.contents first'.both

    pub inside' : place + 2 ≤ length d
    inside' =
        let r = q.room in
        let f = q.fits in
        omega arith

    pub room' : start + headed_length + headed_length * nesting first'.first.content ≤ length d
    room' =
        let f = deep' in
        let r = q.room in
        omega arith

    pub words' : row_words * nesting first'.first.content ≤ words
    words' =
        let f = deep' in
        let w = q.deep in
        omega arith

    pub fits' : place + 2 ≤ start + headed_length
    fits' = let f = q.fits in omega arith

    pub small' : start + headed_length ≤ place + 2 + content_limit
    small' = let f = q.forward in omega arith

    abbrev pub first_operand : (lent : ℕ) → lent ≡ words → Source s at types from results d (operand_row start place) lent
    first_operand lent e =
        record {
          there = first'.first;
          maps = q.maps;
          kept = record { list = []; row = fresh_row d (place + 2) inside' };
          fits = fits';
          small = small';
          room = room';
          deep = subst (λ (k : ℕ). row_words * nesting first'.first.content ≤ k) (sym e) words';
        }

    -- there are words for the set of its types; nothing is registered yet
    pub operand_words : type_words ≤ words
    operand_words =
        let n = nests first'.first.content in
        let w = words' in
        omega arith

    pub operand_registered : (front register : List ℕ) → length register ≡ words
        → front ≡ replicate (length (take type_words register)) 0 → Registered (front ++ drop type_words register) []
    operand_registered front register e z =
        let n = nests first'.first.content in
        let w = words' in
        registered_none front register (omega arith) z

    abbrev first_alts : List Content
    first_alts = alts res first'.first.content

    both_written : row_written ≡ one_content first_alts ∷ᶜ each_written res first'.others.contents
    both_written = written_first res q.there.contents first'.first.content first'.others.contents first'.both

    -- the first does not fit, so the row does not
    first_unfit : Unfit (start + content_limit - place) (one_content first_alts ∷ᶜ []ᶜ) → (d' : List ℕ)
        → Emits d d' start place n q.there.next row_written (Err (record {}))
    first_unfit h d' =
        large_emits d d' start place n q.there.next row_written
        (subst (λ (cs : Contents). Unfit (start + content_limit - place) cs) (sym both_written)
        (unfit_first (start + content_limit - place) (one_content first_alts) (each_written res first'.others.contents) h))

    module _ (d' : List ℕ) (r : Result Gathering TooLarge)
        (g : Gathers d d' (place + 2) (place + 2) (start + headed_length) first'.first.next (gathered [] first_alts) r) where
      pub operand_wide : r ≡ Err (record {}) → Emits d d' start place n q.there.next row_written (Err (record {}))
      operand_wide e =
          let w = told_large d d' (place + 2) (place + 2) (start + headed_length) first'.first.next (gathered [] first_alts) r e g in
          let z : start + content_limit - place ≤ start + headed_length - (place + 2) = omega arith in
          first_unfit
          (unfit_less (start + headed_length - (place + 2)) (start + content_limit - place) (one_content first_alts ∷ᶜ []ᶜ) z
          (subst (λ (c : Content). Unfit (start + headed_length - (place + 2)) (c ∷ᶜ []ᶜ)) (sym (written_gathered first_alts))
          (wide_choice (start + headed_length - (place + 2)) (gathered [] first_alts) w)))
          d'

      module _ {next more last : ℕ} (e : r ≡ Ok (record { next = next; count = more; end = last })) (l : length d' ≡ length d) where
        pub told' : (next ≡ first'.first.next) × OperandsAdded d d' (place + 2) (place + 2) (gathered [] first_alts) (start + headed_length) more last
        told' =
            told_upto d d' (place + 2) (place + 2) (start + headed_length) first'.first.next (gathered [] first_alts) r next more last e g

        abbrev pub operand_kept : Kept d' (place + 2) more last
        operand_kept = record { list = gathered [] first_alts; row = told'.1.row }

        pub goes_on' : at < next
        goes_on' = subst (λ (k : ℕ). at < k) (sym told'.0) first'.forward

        module _ {d'' : List ℕ} {close : ℕ} (f : Finished d' d'' place (choice_of (gathered [] first_alts)) close)
            (l' : length d'' ≡ length d') where
          operand_stands : expr_at d'' place ≡ just (one_content first_alts up_to close)
          operand_stands = f.stands ∙ ap (λ (c : Content). just (c up_to close)) (sym (written_gathered first_alts))

          pub operand_long : start + content_limit < close → Emits d d'' start place n q.there.next row_written (Err (record {}))
          operand_long h =
              let w = expr_written d'' place (one_content first_alts) close operand_stands in
              first_unfit (one_long (start + content_limit - place) (one_content first_alts) (omega arith)) d''

          forward'' : place < close
          forward'' = (expr_forward d'' place (one_content first_alts) close operand_stands).0

          pub start'' : start < close
          start'' =
              let p = forward'' in
              let f = q.forward in
              omega arith

          pub room'' : (start + headed_length + headed_length * deepest first'.others.contents ≤ length d'')
              × (row_words * deepest first'.others.contents ≤ words)
          room'' =
              let f = deep' in
              let r = q.room in
              let w = q.deep in
              (omega arith, omega arith)

          module _ (fits : close ≤ start + content_limit) where
            abbrev pub other_operands : (more_words : ℕ) → more_words ≡ words
                → Operands s next (n - 1) types from results d'' start close more_words
            other_operands more_words w =
                record {
                  there = others_from large s at n q.there first' next told'.0;
                  maps = q.maps;
                  forward = start'';
                  fits = fits;
                  room = room''.0;
                  deep = subst (λ (k : ℕ). row_words * deepest first'.others.contents ≤ k) (sym w) room''.1;
                }

            pub row_on : (d''' : List ℕ) (o : Result Emitted TooLarge)
                → Emits d'' d''' start close (n - 1) first'.others.next (each_written res first'.others.contents) o
                → Emits d d''' start place n q.there.next row_written o
            row_on d''' o g' =
                let k : place ≤ place + 2 = omega arith in
                let p = forward'' in
                emits_from d d'' d''' start place n q.there.next row_written o
                (f.keeps ∙ keeps_before d d' place (place + 2) k told'.1.keeps)
                (subst (λ (cs : Contents). Emits d'' d''' start place n q.there.next cs o) (sym both_written)
                (others_laid d'' d''' start place close n first'.others.next q.there.next (one_content first_alts)
                (each_written res first'.others.contents)
                o
                some
                operand_stands
                fits
                (omega arith)
                first'.ends
                g'))

-- What is still to be written of a row: once it is written, the whole row is.
pub record RowRest {s : List ℕ} {at n : ℕ} {types from results d : List ℕ} {start place words : ℕ}
    (q : Operands s at n types from results d start place words) (res : ℕ → List ℕ) (d' : List ℕ) (at' left place' words' : ℕ)
    : Type 0 where
  pub rest : Operands s at' left types from results d' start place' words'
  pub whole : (d'' : List ℕ) (o : Result Emitted TooLarge)
      → Emits d' d'' start place' left rest.there.next (each_written res rest.there.contents) o
      → Emits d d'' start place n q.there.next (each_written res q.there.contents) o

-- a row of one
one_stands : (s : List ℕ) (at : ℕ) (c : Content) (next : ℕ) → exprs_at s at 1 ≡ just ((c ∷ᶜ []ᶜ) up_to next)
    → expr_at s at ≡ just (c up_to next)
unfolding operands
one_stands s at c next e =
    let o = exprs_only s at (c ∷ []) next e in
    let same : o.0 ≡ c = cc o.1 in
    o.2 ∙ ap (λ (x : Content). just (x up_to next)) same

-- a byte before a place up to which bytes are kept
byte_kept : (d d' : List ℕ) (i n : ℕ) → i < n → take n d' ≡ take n d → get_or d' i 0 ≡ get_or d i 0
byte_kept d d' i n h e = sym (get_or-take n d' i 0 h) ∙ ap (λ (l : List ℕ). get_or l i 0) e ∙ get_or-take n d i 0 h

-- A sequence, its bytes written before a inner_row.
module _ {s : List ℕ} {at n : ℕ} {types from results d : List ℕ} {row : OperandRow} {words : ℕ}
    (q : Source s at types from results d row words) (res : ℕ → List ℕ)
    (cs : CountedThere large s at n q.there sequence) (counts : n ≡ get_or s (at + 1) 0) where
  abbrev inner_row : Contents
  inner_row = cs.operands.contents

  sequence_deep : nesting q.there.content ≡ suc (deepest inner_row)
  unfolding nesting
  sequence_deep = ap nesting (sym cs.is)

  pub sequence_inside : row.end + 1 < length d
  sequence_inside =
      let m = sequence_deep in
      let r = q.room in
      let f = q.fits in
      omega arith

  pub sequence_blank : (next : ℕ) → next ≡ cs.operands.next → all_have_alts (some_left res) inner_row ≡ false
      → {Holds : List Content → Type 0} → Holds q.kept.list
      → GathersWith Holds d d row q.there.next (gathered q.kept.list (alts res q.there.content))
      (Ok (record { next = next; count = row.count; end = row.end }))
  sequence_blank next e h y =
      with_none q.kept (alts res q.there.content) (e ∙ cs.ends) q.fits
      (ap (alts res) (sym cs.is) ∙ sequence_has_not res inner_row h)
      y

  -- the two bytes before the operands
  abbrev d₁ : List ℕ
  d₁ = set (set d row.end 3) (row.end + 1) (get_or s (at + 1) 0)

  pub sequence_length : length d₁ ≡ length d
  sequence_length = headed_length_lem d row.end 3 (get_or s (at + 1) 0) sequence_inside

  pub sequence_room : row.end + headed_length + headed_length * deepest inner_row ≤ length d₁
  sequence_room =
      let m = sequence_deep in
      let l = sequence_length in
      let r = q.room in
      let f = q.fits in
      omega arith

  pub sequence_words : (less : ℕ) → less ≡ words - row_words → row_words * deepest inner_row ≤ less
  sequence_words less e =
      let m = sequence_deep in
      let w = q.deep in
      omega arith

  abbrev pub sequence_operands : (less : ℕ) → less ≡ words - row_words → Operands s (at + 2) n types from results d₁ row.end (row.end + 2) less
  sequence_operands less e =
      record {
        there = cs.operands;
        maps = q.maps;
        forward = omega arith;
        fits = omega arith;
        room = sequence_room;
        deep = sequence_words less e;
      }

  abbrev whole : Content
  whole = sequence (each_written res inner_row)

  module _ (has : all_have_alts (some_left res) inner_row ≡ true) where
    gives : whole ∷ [] ≡ alts res q.there.content
    gives = sym (sequence_has res inner_row has) ∙ ap (alts res) cs.is

    module _ (d₂ : List ℕ) (r : Result Emitted TooLarge) (g : Emits d₁ d₂ row.end (row.end + 2) n cs.operands.next (each_written res inner_row) r) where
      pub sequence_wide : r ≡ Err (record {}) → {Holds : List Content → Type 0}
          → GathersWith Holds d d₂ row q.there.next (gathered q.kept.list (alts res q.there.content))
          (Err (record {}))
      sequence_wide e =
          let h = emits_large d₁ d₂ row.end (row.end + 2) n cs.operands.next (each_written res inner_row) r e g in
          let z = q.small in
          with_large (gathered q.kept.list (alts res q.there.content))
          (subst (λ (l : List Content). TooWide (row.limit - row.base) (gathered q.kept.list l)) gives
          (wide_sequence (row.limit - row.base) (row.end + content_limit - (row.end + 2)) q.kept.list (each_written res inner_row) (omega arith) h))

      module _ {next fresh : ℕ} (e : r ≡ Ok (record { next = next; end = fresh })) (l : length d₂ ≡ length d₁) where
        laid : (next ≡ cs.operands.next) × Laid d₁ d₂ row.end (row.end + 2) n (each_written res inner_row) fresh
        laid = emits_upto d₁ d₂ row.end (row.end + 2) n cs.operands.next (each_written res inner_row) r next fresh e g

        pub sequence_keeps : take row.end d₂ ≡ take row.end d
        sequence_keeps =
            keeps_before d₁ d₂ row.end (row.end + 2) (omega arith) laid.1.keeps
            ∙ headed_before d row.end 3 (get_or s (at + 1) 0) sequence_inside

        sequence_bytes : (get_or d₂ row.end 0 ≡ 3) × (get_or d₂ (row.end + 1) 0 ≡ n)
        sequence_bytes = (
          byte_kept d₁ d₂ row.end (row.end + 2) (omega arith) laid.1.keeps
              ∙ headed_first d row.end 3 (get_or s (at + 1) 0) sequence_inside,
          byte_kept d₁ d₂ (row.end + 1) (row.end + 2) (omega arith) laid.1.keeps
              ∙ headed_second d row.end 3 (get_or s (at + 1) 0) sequence_inside
              ∙ sym counts,
        )

        pub sequence_long : length d₂ ≡ length d
        sequence_long = l ∙ sequence_length

        pub sequence_stands : expr_at d₂ row.end ≡ just (whole up_to fresh)
        sequence_stands =
            let i = sequence_inside in
            let k = sequence_long in
            counted_stands d₂ row.end 3 n sequence (each_written res inner_row) fresh (omega arith) sequence_bytes.0 operator_sequence
            sequence_bytes.1
            laid.1.stand

        abbrev pub sequence_newest : Newest d₂ row fresh
        sequence_newest =
            newest_of d d₂ row fresh whole sequence_keeps sequence_long q.kept sequence_stands

        pub sequence_settled : (o : Result Gathering TooLarge) {Holds : List Content → Type 0}
            → GathersWith Holds d₂ d₂ row next (gathered q.kept.list (whole ∷ [])) o
            → GathersWith Holds d d₂ row q.there.next (gathered q.kept.list (alts res q.there.content)) o
        sequence_settled o f =
            with_as q.kept.list (whole ∷ []) (alts res q.there.content) (laid.0 ∙ cs.ends) gives
            (with_from (gathered q.kept.list (whole ∷ [])) sequence_keeps f)

-- An operator of one operand, its byte written before the operand.
module _ {s : List ℕ} {at : ℕ} {types from results d : List ℕ} {row : OperandRow} {words : ℕ}
    (q : Source s at types from results d row words) (res : ℕ → List ℕ)
    (one : SingleThere large s at q.there res) where
  abbrev inner : Content
  inner = one.operand.content

  around_deep : nesting q.there.content ≡ suc (nesting inner)
  around_deep = ap nesting (sym one.is) ∙ one.deep inner

  pub around_inside : row.end < length d
  around_inside =
      let m = around_deep in
      let r = q.room in
      let f = q.fits in
      omega arith

  pub around_blank : (next : ℕ) → next ≡ one.operand.next → get_or s at 0 ≡ 6 → has_alts (some_left res) inner ≡ false
      → {Holds : List Content → Type 0} → Holds q.kept.list
      → GathersWith Holds d d row q.there.next (gathered q.kept.list (alts res q.there.content))
      (Ok (record { next = next; count = row.count; end = row.end }))
  around_blank next e six h y =
      with_none q.kept (alts res q.there.content) (e ∙ one.ends) q.fits
      (ap (alts res) (sym one.is) ∙ one.blank inner six h)
      y

  pub around_empty : (next : ℕ) (d' : List ℕ) (o : Result Gathering TooLarge) → next ≡ one.operand.next → (get_or s at 0 ≡ 6 → ⊥)
      → has_alts (some_left res) inner ≡ false → {Holds : List Content → Type 0}
      → GathersWith Holds d d' row next (gathered q.kept.list (empty ∷ [])) o
      → GathersWith Holds d d' row q.there.next (gathered q.kept.list (alts res q.there.content)) o
  around_empty next d' o e six h g =
      with_as q.kept.list (empty ∷ []) (alts res q.there.content) (e ∙ one.ends)
      (sym (one.spare inner six h) ∙ ap (alts res) one.is)
      g

  -- the byte before the operand
  abbrev e₁ : List ℕ
  e₁ = set d row.end (get_or s at 0)

  pub around_length : length e₁ ≡ length d
  around_length = length-set d row.end (get_or s at 0)

  pub around_operand_room : row.end + headed_length + headed_length * deepest (inner ∷ᶜ []ᶜ) ≤ length e₁
  unfolding deepest
  around_operand_room =
      let m = around_deep in
      let l = around_length in
      let r = q.room in
      let f = q.fits in
      omega arith

  pub around_words : (less : ℕ) → less ≡ words - row_words → row_words * deepest (inner ∷ᶜ []ᶜ) ≤ less
  unfolding deepest
  around_words less e =
      let m = around_deep in
      let w = q.deep in
      omega arith

  abbrev pub around_operands : (less : ℕ) → less ≡ words - row_words → Operands s (at + 1) 1 types from results e₁ row.end (row.end + 1) less
  around_operands less e =
      record {
        there = one_there large s (at + 1) one.operand;
        maps = q.maps;
        forward = omega arith;
        fits = omega arith;
        room = around_operand_room;
        deep = around_words less e;
      }

  abbrev wrapped : Content
  wrapped = one.operator (one_content (alts res inner))

  inner_written : each_written res (inner ∷ᶜ []ᶜ) ≡ one_content (alts res inner) ∷ᶜ []ᶜ
  unfolding alts operands
  inner_written = refl

  module _ (has : has_alts (some_left res) inner ≡ true) where
    gives' : wrapped ∷ [] ≡ alts res q.there.content
    gives' = sym (one.some inner has) ∙ ap (alts res) one.is

    module _ (e₂ : List ℕ) (r : Result Emitted TooLarge) (g : Emits e₁ e₂ row.end (row.end + 1) 1 one.operand.next (each_written res (inner ∷ᶜ []ᶜ)) r) where
      pub around_wide : r ≡ Err (record {}) → {Holds : List Content → Type 0}
          → GathersWith Holds d e₂ row q.there.next (gathered q.kept.list (alts res q.there.content))
          (Err (record {}))
      around_wide e =
          let h = emits_large e₁ e₂ row.end (row.end + 1) 1 one.operand.next (each_written res (inner ∷ᶜ []ᶜ)) r e g in
          let z = q.small in
          with_large (gathered q.kept.list (alts res q.there.content))
          (subst (λ (l : List Content). TooWide (row.limit - row.base) (gathered q.kept.list l)) gives'
          (wide_single (row.limit - row.base) (row.end + content_limit - (row.end + 1)) q.kept.list one.operator (one_content (alts res inner))
          one.around
          (omega arith)
          (subst (λ (cs : Contents). Unfit (row.end + content_limit - (row.end + 1)) cs) inner_written h)))

      module _ {next fresh : ℕ} (e : r ≡ Ok (record { next = next; end = fresh })) (l : length e₂ ≡ length e₁) where
        laid' : (next ≡ one.operand.next) × Laid e₁ e₂ row.end (row.end + 1) 1 (each_written res (inner ∷ᶜ []ᶜ)) fresh
        laid' = emits_upto e₁ e₂ row.end (row.end + 1) 1 one.operand.next (each_written res (inner ∷ᶜ []ᶜ)) r next fresh e g

        pub around_keeps : take row.end e₂ ≡ take row.end d
        around_keeps =
            keeps_before e₁ e₂ row.end (row.end + 1) (omega arith) laid'.1.keeps
            ∙ take-set-le row.end d row.end (get_or s at 0) (omega arith)

        around_byte : get_or e₂ row.end 0 ≡ get_or s at 0
        around_byte =
            byte_kept e₁ e₂ row.end (row.end + 1) (omega arith) laid'.1.keeps ∙ get_or-set_same d row.end (get_or s at 0) 0 around_inside

        pub around_long : length e₂ ≡ length d
        around_long = l ∙ around_length

        inner_stands : expr_at e₂ (row.end + 1) ≡ just (one_content (alts res inner) up_to fresh)
        unfolding operands
        inner_stands = one_stands e₂ (row.end + 1) (one_content (alts res inner)) fresh
            (laid'.1.stand ∙ ap (λ (cs : Contents). just (cs up_to fresh)) inner_written)

        pub around_stands : expr_at e₂ row.end ≡ just (wrapped up_to fresh)
        around_stands =
            let i = around_inside in
            let k = around_long in
            single_stands e₂ row.end (get_or s at 0) one.operator (one_content (alts res inner)) fresh (omega arith) around_byte one.byte
            inner_stands

        abbrev pub around_newest : Newest e₂ row fresh
        around_newest = newest_of d e₂ row fresh wrapped around_keeps around_long q.kept around_stands

        pub around_settled : (o : Result Gathering TooLarge) {Holds : List Content → Type 0}
            → GathersWith Holds e₂ e₂ row next (gathered q.kept.list (wrapped ∷ [])) o
            → GathersWith Holds d e₂ row q.there.next (gathered q.kept.list (alts res q.there.content)) o
        around_settled o f =
            with_as q.kept.list (wrapped ∷ []) (alts res q.there.content) (laid'.0 ∙ one.ends) gives'
            (with_from (gathered q.kept.list (wrapped ∷ [])) around_keeps f)

-- The other operators.
module _ {s : List ℕ} {at : ℕ} {types from results d : List ℕ} {row : OperandRow} {words : ℕ}
    (q : Source s at types from results d row words) where
  pub source_spare : row.limit + headed_length ≤ length d
  source_spare =
      let n = nests q.there.content in
      let r = q.room in
      omega arith

  abbrev pub source_room : RoomForMore d row
  source_room = record { kept = q.kept; fits = q.fits; small = q.small; room = source_spare }

  -- with as many words
  abbrev pub source_as : (lent : ℕ) → lent ≡ words → Source s at types from results d row lent
  source_as lent e =
      record {
        there = q.there;
        maps = q.maps;
        kept = q.kept;
        fits = q.fits;
        small = q.small;
        room = q.room;
        deep = subst (λ (k : ℕ). row_words * nesting q.there.content ≤ k) (sym e) q.deep;
      }

  -- the notes of the operands, after the rows within are written
  pub source_noted : {notes : List ℕ} → Noted notes q.kept.list → (part : List ℕ) → Noted (take operand_limit notes ++ part) q.kept.list
  source_noted {notes} m part =
      let c = row_count d row.base row.count row.end q.kept.list q.kept.row in
      let f = q.kept.row.few in
      noted_front notes q.kept.list m part (omega arith)

  module _ (res : ℕ → List ℕ) where
    abbrev source_gives : List Content
    source_gives = alts res q.there.content

    -- neither a type nor a choice
    pub plain_gives : (get_or s at 0 ≡ 2 → ⊥) → (get_or s at 0 ≡ 4 → ⊥) → {register part d' : List ℕ} {o : Result Gathering TooLarge}
        → Registered register q.kept.list → length part ≡ length (lent_from type_words register)
        → GathersWith (Noted part) d d' row q.there.next (gathered q.kept.list source_gives) o
        → GathersWith (Registered (with_lent type_words register part)) d d' row q.there.next (gathered q.kept.list source_gives) o
    plain_gives h k {register} {part} y l g =
        record {
          gathers = g.gathers;
          noted =
              λ u.
              registered_part (types_plain res s at q.there.next q.there.content q.there.stands h k y.types) l
              (g.noted u);
        }

    pub none_gives : get_or s at 0 ≡ 0 → {Holds : List Content → Type 0} → Holds q.kept.list
        → GathersWith Holds d d row q.there.next (gathered q.kept.list source_gives) (Ok (record { next = (at + 1); count = row.count; end = row.end }))
    unfolding alts
    none_gives e y =
        let w = alone_was s at q.there.content q.there.next q.there.stands none (ap (get_elem? operators) e ∙ operator_none) in
        with_none q.kept source_gives w.1 q.fits (ap (alts res) (sym w.0)) y

    pub empty_gives : get_or s at 0 ≡ 1 → (d' : List ℕ) (o : Result Gathering TooLarge) {Holds : List Content → Type 0}
        → GathersWith Holds d d' row (at + 1) (gathered q.kept.list (empty ∷ [])) o
        → GathersWith Holds d d' row q.there.next (gathered q.kept.list source_gives) o
    unfolding alts
    empty_gives e d' o g =
        let w = alone_was s at q.there.content q.there.next q.there.stands empty (ap (get_elem? operators) e ∙ operator_empty) in
        with_as q.kept.list (empty ∷ []) source_gives w.1 (ap (alts res) w.0) g

    module _ {n : ℕ} (cs : CountedThere large s at n q.there choice) where
      pub choice_room : (row.limit + headed_length * deepest cs.operands.contents ≤ length d) × (row_words * deepest cs.operands.contents ≤ words)
      unfolding nesting
      choice_room =
          let m : suc (deepest cs.operands.contents) ≡ nesting q.there.content = ap nesting cs.is in
          let r = q.room in
          let w = q.deep in
          (omega arith, omega arith)

      abbrev pub choice_sources : Sources s (at + 2) n types from results d row words
      choice_sources =
          record {
            there = cs.operands;
            maps = q.maps;
            kept = q.kept;
            fits = q.fits;
            small = q.small;
            room = choice_room.0;
            deep = choice_room.1;
          }

      pub choice_gives : (d' : List ℕ) (o : Result Gathering TooLarge) {Holds : List Content → Type 0}
          → GathersWith Holds d d' row cs.operands.next
          (gathered q.kept.list (joined_of (λ xs. xs) (alts_of_each res cs.operands.contents))) o
          → GathersWith Holds d d' row q.there.next (gathered q.kept.list source_gives) o
      unfolding alts
      choice_gives d' o g =
          with_as q.kept.list (joined_of (λ xs. xs) (alts_of_each res cs.operands.contents)) source_gives cs.ends
          (ap (alts res) cs.is)
          g

  pub type_gives : get_or s at 0 ≡ 2 → (k : ℕ) → k ≡ get_or s (at + 1) 0 → (d' : List ℕ) (o : Result Gathering TooLarge) {Holds : List Content → Type 0}
      → GathersWith Holds d d' row (at + 2) (gathered q.kept.list (map type (list_of_type from results k))) o
      → GathersWith Holds d d' row q.there.next
      (gathered q.kept.list (alts (list_of_type from results) q.there.content)) o
  unfolding alts
  type_gives e k is d' o g =
      let w = numbered_was s at q.there.content q.there.next q.there.stands type (ap (get_elem? operators) e ∙ operator_type) in
      with_as q.kept.list (map type (list_of_type from results k)) (alts (list_of_type from results) q.there.content) w.1
      (ap (alts (list_of_type from results)) (ap type is ∙ w.0))
      g
