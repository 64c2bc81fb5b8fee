-- `label_place` meets its contract.
use Prim.Native.Nat.{ℕ, ◌+◌}
use native.Mathlib.Omega.{arith}
use mathlib.Core.Path.{◌≡◌, sym, ◌∙◌, ap}
use lib.ListN.{length}
use Rattle.grammar.specs.Lists.{keep, numbers_below}
use Rattle.theory.proofs.Bytes.FormsNumbered.{few_kept}
use Rattle.sets.specs.Sets.{member}
use Rattle.results.proofs.LabelLaws.{place_among, kept_in, kept_out, kept_none}
use Rattle.results.proofs.labels_used.label_place.Goals as goal
use Rattle.results.proofs.labels_used.label_place.Goals.{then-has, else-has}

pub loop-l-init : goal.loop-l-init
loop-l-init c = sym (kept_none (member c.args.used.words 0))

pub overflow_add-place : goal.overflow_add-place
overflow_add-place c =
    let few = few_kept (member c.args.used.words 0) c.loop-l.l in
    omega arith

pub loop-l-preserved : goal.loop-l-preserved
loop-l-preserved c =
    let on = member c.args.used.words 0 in
    let l = c.loop-l.l in
    let e = c.loop-l.invariant in
    let h = c.has.ensures in
    elim c.if-has.branch [
      | then-has w ↦ w.place-is ∙ ap (λ (n : ℕ). n + 1) e ∙ sym (kept_in on l (sym h ∙ w.if-has.true))
      | else-has w ↦ w.place-is ∙ e ∙ sym (kept_out on l (sym h ∙ w.if-has.false))
    ]

pub returns : goal.returns
returns c =
    let on = member c.args.used.words 0 in
    let label = c.args.label in
    let e : c.loop-l.l ≡ label = omega arith in
    let place = c.loop-l.invariant ∙ ap (λ (n : ℕ). length (keep on (numbers_below n))) e in
    let few = few_kept on label in
    (λ n h t. place ∙ place_among on label n h t, omega arith)
