-- `put_starts` meets its contract. The loop's invariant: the starts before `t` are written.
use Prim.Native.Nat.{ℕ, ◌+◌, ◌<◌}
use native.Mathlib.Omega.{arith}
use mathlib.Core.Bool.{Bool}
use mathlib.Core.List.{List, [], ◌∷◌}
use mathlib.Core.Path.{◌≡◌, ◌∙◌, ap, subst}
use lib.ListN.{length}
use Rattle.grammar.specs.Limits.{input_limit}
use Rattle.grammar.specs.Lists.{joined_of, numbers_below}
use Rattle.grammar.specs.Fields.{field_bytes}
use Rattle.theory.specs.Alternatives.{only_if}
use Rattle.sets.specs.Sets.{member}
use Rattle.writer.specs.Writing.{Put}
use Rattle.reducing.proofs.NumberLaws.{joined_only}
use Rattle.writer.proofs.TableLaws.{up_start, step_stop, step_more}
use Rattle.results.specs.Results.{starts_bytes}
use Rattle.reader.proofs.AnswerLaws.{handed_on}
use Rattle.results.proofs.starts.put_starts.Goals as goal

abbrev start_field : (ℕ → Bool) → ℕ → List ℕ
start_field on k = only_if (on k) (field_bytes 0x11 (k ∷ []))

pub loop-t-init : goal.loop-t-init
loop-t-init c = (
  c.requires.0,
  up_start (start_field (member c.load-starts.result.words 0)) c.args.draft.now c.args.at (omega arith),
)

pub returns-in_err-end : goal.returns-in_err-end
returns-in_err-end c =
    rw (handed_on c.from_residual.result c.from_residual.ensures)
    (let on = member c.load-starts.result.words 0 in
    subst (λ (b : List ℕ). input_limit < c.args.at + length b)
    (joined_only on (λ k. field_bytes 0x11 (k ∷ [])) (numbers_below c.args.count)
    ∙ ap (λ (t : ℕ → Bool). starts_bytes t c.args.count) (ap (λ (w : List ℕ). member w 0) c.load-starts.ensures))
    (step_stop (start_field on) c.loop-t.t c.loop-t.invariant.1 _ c.put_start.new.draft c.put_start.result
    (ap (λ (b : Bool). only_if b (field_bytes 0x11 (c.loop-t.t ∷ []))) c.has.ensures)
    c.put_start.ensures
    c.in_err-end.was
    c.args.count
    c.loop-t-test.true))

pub loop-t-preserved : goal.loop-t-preserved
loop-t-preserved c =
    let on = member c.load-starts.result.words 0 in
    let more =
    step_more (start_field on) c.loop-t.t c.loop-t.invariant.1 _ c.put_start.new.draft c.put_start.result
    (ap (λ (b : Bool). only_if b (field_bytes 0x11 (c.loop-t.t ∷ []))) c.has.ensures)
    c.put_start.ensures
    c.in_ok-end.was in
    (more.1, more.0)

pub returns : goal.returns
returns c =
    let on = member c.load-starts.result.words 0 in
    let count = c.args.count in
    let e : c.loop-t.t ≡ count = omega arith in (
      subst (λ (b : List ℕ). Put c.args.draft.now c.args.at b c.loop-t.draft c.loop-t.end)
          (ap (λ (n : ℕ). joined_of (start_field on) (numbers_below n)) e
          ∙ joined_only on (λ k. field_bytes 0x11 (k ∷ [])) (numbers_below count)
          ∙ ap (λ (t : ℕ → Bool). starts_bytes t count) (ap (λ (w : List ℕ). member w 0) c.load-starts.ensures))
          c.loop-t.invariant.1,
      c.loop-t.invariant.0,
    )
