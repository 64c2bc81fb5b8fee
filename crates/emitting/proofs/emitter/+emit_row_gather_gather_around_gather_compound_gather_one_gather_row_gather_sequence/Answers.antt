-- The emitter's functions meet their contracts. The measure is five times the bytes from the place on: a row is four more, a
-- content three more, a content with operands two more, one that is no choice one more; every call goes on past a byte, or from a
-- row to its contents, or from a content to what its operator needs. Each return is a law of EmitLaws.
use native.Mathlib.Omega.{arith}
use mathlib.Core.List.{List}
use mathlib.Core.Path.{◌≡◌, refl, sym, ◌∙◌, ap}
use lib.ListN.{length, get_or, get_elem?, length-set}
use lib.Seq.{length_front}
use Rattle.grammar.specs.Limits.{large, operand_limit}
use Rattle.grammar.specs.Content.{sequence, choice}
use Rattle.grammar.specs.ReadContent.{operators}
use Rattle.reader.proofs.ExprLaws.{operator_sequence, operator_choice}
use Rattle.operands.specs.declared.drafts.OperandRow.{OperandRow}
use Rattle.operands.specs.Notes.{type_words, row_words}
use Rattle.emitting.specs.Emitting.{Source}
use Rattle.operands.proofs.NoteLaws.{lent_from, lent_words}
use Rattle.emitting.proofs.TypesKeptLaws.{noted_part}
use Rattle.reader.proofs.ContentAtLaws.{content_inside, type_there, count_there}
use Rattle.emitting.proofs.SourceLaws.{CountedThere, counted_of, single_of, content_found, row_found}
use Rattle.emitting.proofs.EmitLaws.{no_sources, first_source, row_wide, other_sources, goes_on, row_then, no_operands, first_operand, operand_words, operand_registered, operand_wide, operand_kept, goes_on', operand_long, other_operands, row_on, sequence_inside, sequence_blank, sequence_operands, sequence_wide, sequence_newest, sequence_settled, around_inside, around_blank, around_empty, around_operands, around_wide, around_newest, around_settled, source_room, source_as, source_noted, plain_gives, none_gives, empty_gives, choice_sources, choice_gives, type_gives}
use Prim.Native.Nat.{ℕ, ◌+◌, ◌-◌, ◌≤◌, ◌<◌}
use Rattle.union.specs.Walks.{list_of_type}
use Rattle.reader.proofs.AnswerLaws.{handed_on}
use Rattle.emitting.proofs.emitter.+emit_row_gather_gather_around_gather_compound_gather_one_gather_row_gather_sequence.Goals as goal

-- the operands of a sequence and of a choice
module _ {s : List ℕ} {at n : ℕ} {types from results d : List ℕ} {row : OperandRow} {words : ℕ}
    (q : Source s at types from results d row words) where
  operands_of : get_or s at 0 ≡ 3 → n ≡ get_or s (at + 1) 0 → CountedThere large s at n q.there sequence
  operands_of b e =
      counted_of large s at n q.there sequence e (omega arith) (omega arith) (ap (get_elem? operators) b ∙ operator_sequence)

  choices-of : get_or s at 0 ≡ 4 → n ≡ get_or s (at + 1) 0 → CountedThere large s at n q.there choice
  choices-of b e =
      counted_of large s at n q.there choice e (omega arith) (omega arith) (ap (get_elem? operators) b ∙ operator_choice)

-- the words lent for the rows within
rows-within : (notes : List ℕ) → operand_limit ≤ length notes → length (lent_from operand_limit notes) ≡ type_words + length notes - row_words
rows-within notes h = let p = lent_words operand_limit notes h in omega arith

notes-within : (register : List ℕ) → type_words ≤ length register → type_words + length (lent_from type_words register) ≡ length register
notes-within register h = let p = lent_words type_words register h in omega arith

some_left : {n k : ℕ} → k < n → n - k ≡ 0 → ⊥
some_left h z = omega arith

none_passed : (n : ℕ) → n - 0 ≡ n
none_passed n = omega arith

one_passed : (n k : ℕ) → n - (k + 1) ≡ n - k - 1
one_passed n k = omega arith

pub emit_row-loop-init : goal.emit_row-loop-init
emit_row-loop-init t c = (omega arith, refl, refl, λ q. rw (none_passed c.args.n) (record { rest = q; whole = λ d o g. g }))

pub gather-bounds-content-at : goal.gather-bounds-content-at
gather-bounds-content-at t c = (content_inside large _ _ c.requires.0.there).0

pub gather_row-loop-init : goal.gather_row-loop-init
gather_row-loop-init t c = (omega arith, refl, refl, λ q y. rw (none_passed c.args.n) (record { rest = q; registered = y; whole = λ register d o g. g }))

pub gather_row-gather-requires : goal.gather_row-gather-requires
gather_row-gather-requires t c =
    let res = list_of_type c.args.from.now c.args.results.now in
    let some = some_left c.loop-test.true in
    let q = c.requires.0 in
    let y = c.requires.1 in
    let x = c.loop.invariant.3 q y in
    let r = x.rest in
    (omega arith, (first_source r res some, x.registered))

pub gather_sequence-bounds-content-at : goal.gather_sequence-bounds-content-at
gather_sequence-bounds-content-at t c =
    let i = count_there large _ _ c.requires.1.0.there (omega arith) (omega arith) in
    omega arith

pub gather-overflow_add-result : goal.gather-overflow_add-result
gather-overflow_add-result t c =
    let i = content_inside large _ _ c.requires.0.there in
    omega arith

pub gather_around-content_has-asked-requires : goal.gather_around-content_has-asked-requires
gather_around-content_has-asked-requires t c =
    let res = list_of_type c.args.from.now c.args.results.now in
    let b = c.requires.0 in
    ((single_of large _ _ c.requires.1.0.there res b).operand, omega arith)

pub gather_row-returns-in_err-gathered : goal.gather_row-returns-in_err-gathered
gather_row-returns-in_err-gathered t c =
    rw (handed_on c.from_residual.result c.from_residual.ensures)
    (let res = list_of_type c.args.from.now c.args.results.now in
    let some = some_left c.loop-test.true in
    λ q y.
    let x = c.loop.invariant.3 q y in
    let r = x.rest in
    x.whole _ _ _ (row_wide r res some _ _ (c.gather.ensures (first_source r res some) x.registered) c.in_err-gathered.was))

pub emit_row-slice_bounds-clear-end : goal.emit_row-slice_bounds-clear-end
emit_row-slice_bounds-clear-end t c =
    let some = some_left c.loop-test.true in
    let r = (c.loop.invariant.3 c.requires).rest in
    let w = operand_words r (list_of_type c.args.from.now c.args.results.now) some in
    omega arith

pub gather_around-bounds-draft-end : goal.gather_around-bounds-draft-end
gather_around-bounds-draft-end t c =
    let res = list_of_type c.args.from.now c.args.results.now in
    let q = c.requires.1.0 in
    let b = c.requires.0 in
    around_inside q res (single_of large _ _ q.there res b)

pub gather_compound-bounds-content-at-then-from-eq-CHOICE : goal.gather_compound-bounds-content-at-then-from-eq-CHOICE
gather_compound-bounds-content-at-then-from-eq-CHOICE t c =
    let b = sym c.from.ensures ∙ c.if-from-eq-CHOICE.true in
    count_there large _ _ c.requires.1.0.there (omega arith) (omega arith)

pub gather_sequence-row_has-asked-requires : goal.gather_sequence-row_has-asked-requires
gather_sequence-row_has-asked-requires t c =
    let q = c.requires.1.0 in
    let b = c.requires.0 in
    let words = q.maps.words in
    ((operands_of q b c.from-n.ensures).operands, omega arith)

pub emit_row-overflow_add-row : goal.emit_row-overflow_add-row
emit_row-overflow_add-row t c =
    let r = (c.loop.invariant.3 c.requires).rest in
    omega arith

pub gather_row-loop-preserved : goal.gather_row-loop-preserved
gather_row-loop-preserved t c =
    let res = list_of_type c.args.from.now c.args.results.now in
    let some = some_left c.loop-test.true in
    let e = c.in_ok-gathered.was in
    let l = c.gather.auto.draft in
    let on =
    let q = c.requires.0 in
    let y = c.requires.1 in
    let x = c.loop.invariant.3 q y in
    let r = x.rest in
    let g = c.gather.ensures (first_source r res some) x.registered in
    goes_on r res some _ _ g e l in (
      omega arith,
      l ∙ c.loop.invariant.1,
      c.gather.auto.register ∙ c.loop.invariant.2,
      λ q y.
          let x = c.loop.invariant.3 q y in
          let r = x.rest in
          let g = c.gather.ensures (first_source r res some) x.registered in
          rw (one_passed c.args.n c.loop.counter)
          (record {
            rest = other_sources r res some _ _ g e l _ c.gather.auto.register;
            registered = g.noted e;
            whole = λ register d o h. x.whole register d o (row_then r res some _ _ g e l d o h);
          }),
    )

pub gather_sequence-bounds-draft-end : goal.gather_sequence-bounds-draft-end
gather_sequence-bounds-draft-end t c =
    let res = list_of_type c.args.from.now c.args.results.now in
    let q = c.requires.1.0 in
    let b = c.requires.0 in
    let n = c.from-n.ensures in
    let i = sequence_inside q res (operands_of q b n) n in
    omega arith

pub emit_row-overflow_add-row-in-loop : goal.emit_row-overflow_add-row-in-loop
emit_row-overflow_add-row-in-loop t c =
    let r = (c.loop.invariant.3 c.requires).rest in
    omega arith

pub gather_compound-gather_row-requires : goal.gather_compound-gather_row-requires
gather_compound-gather_row-requires t c =
    let res = list_of_type c.args.from.now c.args.results.now in
    let q = c.requires.1.0 in
    let b = sym c.from.ensures ∙ c.if-from-eq-CHOICE.true in
    let i = count_there large _ _ q.there (omega arith) (omega arith) in
    (omega arith, (choice_sources q res (choices-of q b c.from-n.ensures), c.requires.1.1))

pub gather_row-returns : goal.gather_row-returns
gather_row-returns t c =
    λ q y.
    let x = c.loop.invariant.3 q y in
    let r = x.rest in
    x.whole _ _ _ (no_sources r _ (omega arith) x.registered)

pub gather-gather_empty-requires : goal.gather-gather_empty-requires
gather-gather_empty-requires t c = (source_room c.requires.0, noted_part c.requires.1)

pub gather_compound-returns-then-from-eq-CHOICE : goal.gather_compound-returns-then-from-eq-CHOICE
gather_compound-returns-then-from-eq-CHOICE t c =
    let res = list_of_type c.args.from.now c.args.results.now in
    let b = sym c.from.ensures ∙ c.if-from-eq-CHOICE.true in
    λ q s.
    let cs = choices-of q b c.from-n.ensures in
    choice_gives q res cs _ _ (c.gather_row.ensures (choice_sources q res cs) s)

pub gather_sequence-bounds-content-at-then-asked : goal.gather_sequence-bounds-content-at-then-asked
gather_sequence-bounds-content-at-then-asked t c =
    let i = count_there large _ _ c.requires.1.0.there (omega arith) (omega arith) in
    omega arith

pub emit_row-gather-requires : goal.emit_row-gather-requires
emit_row-gather-requires t c =
    let cleared = length_front c.loop.register c.clear.new.words type_words c.clear.auto.words in
    let res = list_of_type c.args.from.now c.args.results.now in
    let some = some_left c.loop-test.true in
    let q = c.requires in
    let x = c.loop.invariant.3 q in
    let r = x.rest in
    (omega arith, (first_operand r res some _ cleared, operand_registered r res some c.clear.new.words c.loop.register refl c.clear.ensures))

pub emit_row-returns-in_err-gathered : goal.emit_row-returns-in_err-gathered
emit_row-returns-in_err-gathered t c =
    rw (handed_on c.from_residual.result c.from_residual.ensures)
    (let cleared = length_front c.loop.register c.clear.new.words type_words c.clear.auto.words in
    let res = list_of_type c.args.from.now c.args.results.now in
    let some = some_left c.loop-test.true in
    λ q.
    let x = c.loop.invariant.3 q in
    let r = x.rest in
    let g = (c.gather.ensures (first_operand r res some _ cleared) (operand_registered r res some c.clear.new.words c.loop.register refl c.clear.ensures)).gathers in
    x.whole _ _ (operand_wide r res some _ _ g c.in_err-gathered.was))

pub gather-bounds-content-at-in-2 : goal.gather-bounds-content-at-in-2
gather-bounds-content-at-in-2 t c = (type_there large _ _ c.requires.0.there (sym c.from-operator.ensures ∙ c.in-2.is)).0

pub gather_around-emit_row-requires : goal.gather_around-emit_row-requires
gather_around-emit_row-requires t c =
    let res = list_of_type c.args.from.now c.args.results.now in
    let q = c.requires.1.0 in
    let b = c.requires.0 in
    let i = content_inside large _ _ q.there in
    (omega arith, around_operands q res (single_of large _ _ q.there res b) _ (rows-within c.args.notes.now c.requires.1.1.room))

pub gather_sequence-bounds-draft-end-then-asked : goal.gather_sequence-bounds-draft-end-then-asked
gather_sequence-bounds-draft-end-then-asked t c =
    let res = list_of_type c.args.from.now c.args.results.now in
    let q = c.requires.1.0 in
    let b = c.requires.0 in
    let n = c.from-n.ensures in
    let i = sequence_inside q res (operands_of q b n) n in
    simp length-set (omega arith)

pub emit_row-finish-place-requires : goal.emit_row-finish-place-requires
emit_row-finish-place-requires t c =
    let cleared = length_front c.loop.register c.clear.new.words type_words c.clear.auto.words in
    let res = list_of_type c.args.from.now c.args.results.now in
    let some = some_left c.loop-test.true in
    let q = c.requires in
    let x = c.loop.invariant.3 q in
    let r = x.rest in
    let g = (c.gather.ensures (first_operand r res some _ cleared) (operand_registered r res some c.clear.new.words c.loop.register refl c.clear.ensures)).gathers in
    operand_kept r res some _ _ g c.in_ok-gathered.was c.gather.auto.draft

pub gather_around-settle-requires : goal.gather_around-settle-requires
gather_around-settle-requires t c =
    let res = list_of_type c.args.from.now c.args.results.now in
    let q = c.requires.1.0 in
    let m = c.requires.1.1 in
    let b = c.requires.0 in
    let one = single_of large _ _ q.there res b in
    let found = content_found _ _ _ q.maps _ _ one.operand _ _ c.content_has-asked.ensures in
    let has = sym found.0 ∙ c.if-asked.true in
    let g = c.emit_row.ensures (around_operands q res one _ (rows-within c.args.notes.now m.room)) in
    ((around_newest q res one has _ _ g c.in_ok-emitted.was c.emit_row.auto.draft, source_noted q m _), q.fits, q.small)

pub gather_around-returns-in_err-emitted : goal.gather_around-returns-in_err-emitted
gather_around-returns-in_err-emitted t c =
    rw (handed_on c.from_residual.result c.from_residual.ensures)
    (let res = list_of_type c.args.from.now c.args.results.now in
    let b = c.requires.0 in
    λ q m.
    let one = single_of large _ _ q.there res b in
    let found = content_found _ _ _ q.maps _ _ one.operand _ _ c.content_has-asked.ensures in
    let has = sym found.0 ∙ c.if-asked.true in
    let g = c.emit_row.ensures (around_operands q res one _ (rows-within c.args.notes.now m.room)) in
    around_wide q res one has _ _ g c.in_err-emitted.was)

pub gather_compound-gather_one-requires : goal.gather_compound-gather_one-requires
gather_compound-gather_one-requires t c =
    let w = c.from.ensures in
    let q = c.requires.1.0 in
    let y = c.requires.1.1 in
    (omega arith, (c.requires.0, (λ z. c.if-from-eq-CHOICE.false (w ∙ z)), (source_as q _ (notes-within c.args.register.now y.types.room), noted_part y)))

pub emit_row-returns-then-start-place : goal.emit_row-returns-then-start-place
emit_row-returns-then-start-place t c =
    let cleared = length_front c.loop.register c.clear.new.words type_words c.clear.auto.words in
    let res = list_of_type c.args.from.now c.args.results.now in
    let some = some_left c.loop-test.true in
    let e = c.in_ok-gathered.was in
    let l = c.gather.auto.draft in
    λ q.
    let x = c.loop.invariant.3 q in
    let r = x.rest in
    let g = (c.gather.ensures (first_operand r res some _ cleared) (operand_registered r res some c.clear.new.words c.loop.register refl c.clear.ensures)).gathers in
    let f = c.finish-place.ensures (operand_kept r res some _ _ g e l) in
    let l' = c.finish-place.auto.draft in
    x.whole _ _ (operand_long r res some _ _ g e l f l' c.if-start-place.true)

pub gather-gather_type-requires : goal.gather-gather_type-requires
unfolding large
gather-gather_type-requires t c =
    let q = c.requires.0 in
    let b = sym c.from-operator.ensures ∙ c.in-2.is in
    let i = type_there large _ _ q.there b in
    (omega arith, (source_room q, c.requires.1))

pub gather_around-returns-then-asked : goal.gather_around-returns-then-asked
gather_around-returns-then-asked t c =
    let res = list_of_type c.args.from.now c.args.results.now in
    let b = c.requires.0 in
    let e = c.in_ok-emitted.was in
    let l = c.emit_row.auto.draft in
    λ q m.
    let one = single_of large _ _ q.there res b in
    let found = content_found _ _ _ q.maps _ _ one.operand _ _ c.content_has-asked.ensures in
    let has = sym found.0 ∙ c.if-asked.true in
    let g = c.emit_row.ensures (around_operands q res one _ (rows-within c.args.notes.now m.room)) in
    around_settled q res one has _ _ g e l _ (c.settle.ensures (around_newest q res one has _ _ g e l) (source_noted q m _))

pub gather_compound-returns : goal.gather_compound-returns
gather_compound-returns t c =
    let w = c.from.ensures in
    λ q s. plain_gives q _ (λ z. omega arith) (λ z. c.if-from-eq-CHOICE.false (w ∙ z)) s c.gather_one.auto.notes
    (c.gather_one.ensures (source_as q _ (notes-within c.args.register.now s.types.room)) (noted_part s))

pub gather_around-returns-then-operator-eq-ONE_OR_MORE_BYTE : goal.gather_around-returns-then-operator-eq-ONE_OR_MORE_BYTE
gather_around-returns-then-operator-eq-ONE_OR_MORE_BYTE t c =
    let res = list_of_type c.args.from.now c.args.results.now in
    let b = c.requires.0 in
    λ q m.
    let one = single_of large _ _ q.there res b in
    let found = content_found _ _ _ q.maps _ _ one.operand _ _ c.content_has-asked.ensures in
    around_blank q res one _ found.1 c.if-operator-eq-ONE_OR_MORE_BYTE.true (sym found.0 ∙ c.if-asked.false) m

pub gather-returns-in-0 : goal.gather-returns-in-0
gather-returns-in-0 t c =
    let b = sym c.from-operator.ensures ∙ c.in-0.is in
    λ q s. none_gives q _ b s

pub gather_around-gather_empty-requires : goal.gather_around-gather_empty-requires
gather_around-gather_empty-requires t c = (source_room c.requires.1.0, c.requires.1.1)

pub emit_row-loop-preserved : goal.emit_row-loop-preserved
emit_row-loop-preserved t c =
    let cleared = length_front c.loop.register c.clear.new.words type_words c.clear.auto.words in
    let res = list_of_type c.args.from.now c.args.results.now in
    let some = some_left c.loop-test.true in
    let e = c.in_ok-gathered.was in
    let l = c.gather.auto.draft in
    let on =
    let q = c.requires in
    let x = c.loop.invariant.3 q in
    let r = x.rest in
    let g = (c.gather.ensures (first_operand r res some _ cleared) (operand_registered r res some c.clear.new.words c.loop.register refl c.clear.ensures)).gathers in
    goes_on' r res some _ _ g e l in (
      omega arith,
      c.finish-place.auto.draft ∙ l ∙ c.loop.invariant.1,
      c.gather.auto.register ∙ cleared ∙ c.loop.invariant.2,
      λ q.
          let x = c.loop.invariant.3 q in
          let r = x.rest in
          let g = (c.gather.ensures (first_operand r res some _ cleared) (operand_registered r res some c.clear.new.words c.loop.register refl c.clear.ensures)).gathers in
          let f = c.finish-place.ensures (operand_kept r res some _ _ g e l) in
          let l' = c.finish-place.auto.draft in
          rw (one_passed c.args.n c.loop.counter)
          (record {
            rest = other_operands r res some _ _ g e l f l' c.if-start-place.false _ (c.gather.auto.register ∙ cleared);
            whole = λ d o h. x.whole d o (row_on r res some _ _ g e l f l' c.if-start-place.false d o h);
          }),
    )

pub gather-returns-in-1 : goal.gather-returns-in-1
gather-returns-in-1 t c =
    let b = sym c.from-operator.ensures ∙ c.in-1.is in
    λ q s. plain_gives q _ (λ z. omega arith) (λ z. omega arith)
    s
    c.gather_empty.auto.notes
    (empty_gives q _ b _ _ (c.gather_empty.ensures (source_room q) (noted_part s)))

pub gather_around-returns : goal.gather_around-returns
gather_around-returns t c =
    let res = list_of_type c.args.from.now c.args.results.now in
    let b = c.requires.0 in
    λ q m.
    let one = single_of large _ _ q.there res b in
    let found = content_found _ _ _ q.maps _ _ one.operand _ _ c.content_has-asked.ensures in
    let has-not = sym found.0 ∙ c.if-asked.false in
    around_empty q res one _ _ _ found.1 c.if-operator-eq-ONE_OR_MORE_BYTE.false has-not (c.gather_empty.ensures (source_room q) m)

pub gather_sequence-emit_row-requires : goal.gather_sequence-emit_row-requires
gather_sequence-emit_row-requires t c =
    let res = list_of_type c.args.from.now c.args.results.now in
    let q = c.requires.1.0 in
    let b = c.requires.0 in
    let n = c.from-n.ensures in
    let i = count_there large _ _ q.there (omega arith) (omega arith) in
    (omega arith, sequence_operands q res (operands_of q b n) n _ (rows-within c.args.notes.now c.requires.1.1.room))

pub emit_row-returns : goal.emit_row-returns
emit_row-returns t c =
    λ q.
    let x = c.loop.invariant.3 q in
    let r = x.rest in
    x.whole _ _ (no_operands r _ (omega arith))

pub gather-returns-in-2 : goal.gather-returns-in-2
gather-returns-in-2 t c =
    let b = sym c.from-operator.ensures ∙ c.in-2.is in
    λ q s. type_gives q b _ c.from-k.ensures _ _ (c.gather_type.ensures (source_room q) s)

pub gather_sequence-settle-requires : goal.gather_sequence-settle-requires
gather_sequence-settle-requires t c =
    let res = list_of_type c.args.from.now c.args.results.now in
    let q = c.requires.1.0 in
    let m = c.requires.1.1 in
    let b = c.requires.0 in
    let n = c.from-n.ensures in
    let cs = operands_of q b n in
    let found = row_found _ _ _ q.maps _ _ _ cs.operands _ _ _ c.row_has-asked.ensures in
    let has = sym found.0 ∙ c.if-asked.true in
    let g = c.emit_row.ensures (sequence_operands q res cs n _ (rows-within c.args.notes.now m.room)) in
    ((sequence_newest q res cs n has _ _ g c.in_ok-emitted.was c.emit_row.auto.draft, source_noted q m _), q.fits, q.small)

pub gather_sequence-returns-in_err-emitted : goal.gather_sequence-returns-in_err-emitted
gather_sequence-returns-in_err-emitted t c =
    rw (handed_on c.from_residual.result c.from_residual.ensures)
    (let res = list_of_type c.args.from.now c.args.results.now in
    let b = c.requires.0 in
    let n = c.from-n.ensures in
    λ q m.
    let cs = operands_of q b n in
    let found = row_found _ _ _ q.maps _ _ _ cs.operands _ _ _ c.row_has-asked.ensures in
    let has = sym found.0 ∙ c.if-asked.true in
    let g = c.emit_row.ensures (sequence_operands q res cs n _ (rows-within c.args.notes.now m.room)) in
    sequence_wide q res cs n has _ _ g c.in_err-emitted.was)

pub gather_sequence-returns-then-asked : goal.gather_sequence-returns-then-asked
gather_sequence-returns-then-asked t c =
    let res = list_of_type c.args.from.now c.args.results.now in
    let b = c.requires.0 in
    let n = c.from-n.ensures in
    let e = c.in_ok-emitted.was in
    let l = c.emit_row.auto.draft in
    λ q m.
    let cs = operands_of q b n in
    let found = row_found _ _ _ q.maps _ _ _ cs.operands _ _ _ c.row_has-asked.ensures in
    let has = sym found.0 ∙ c.if-asked.true in
    let g = c.emit_row.ensures (sequence_operands q res cs n _ (rows-within c.args.notes.now m.room)) in
    sequence_settled q res cs n has _ _ g e l _ (c.settle.ensures (sequence_newest q res cs n has _ _ g e l) (source_noted q m _))

pub gather_sequence-returns : goal.gather_sequence-returns
gather_sequence-returns t c =
    let res = list_of_type c.args.from.now c.args.results.now in
    let b = c.requires.0 in
    let n = c.from-n.ensures in
    λ q m.
    let cs = operands_of q b n in
    let found = row_found _ _ _ q.maps _ _ _ cs.operands _ _ _ c.row_has-asked.ensures in
    sequence_blank q res cs n _ found.1 (sym found.0 ∙ c.if-asked.false) m
