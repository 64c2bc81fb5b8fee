-- `label_places::name_begins` meets its contract. The loop's invariant: the fields of the labels before `i` are summed.
use Prim.Native.Nat.{ℕ, ◌+◌, ◌-◌}
use native.Mathlib.Omega.{arith}
use mathlib.Core.Path.{◌≡◌, refl, sym, ◌∙◌, ap, ap₂}
use Rattle.reader.specs.TableIndex.{label_from, label_to}
use Rattle.reader.specs.LabelPlaces.{name_begins}
use Rattle.reader.proofs.LabelPlaceLaws.{summed, summed_next, label_short, begins_at}
use Rattle.reader.proofs.label_places.name_begins.Goals as goal

pub loop-i-init : goal.loop-i-init
unfolding summed
loop-i-init c = (refl, omega arith)

pub overflow_sub-begins : goal.overflow_sub-begins
overflow_sub-begins c =
    let short = label_short c.requires.some_held c.loop-i.i (omega arith) in omega (arith, short.0, c.label_to.ensures, c.label_from.ensures)

pub overflow_add-begins : goal.overflow_add-begins
overflow_add-begins c =
    let short = label_short c.requires.some_held c.loop-i.i (omega arith) in omega (arith, short.1, c.label_to.ensures, c.label_from.ensures)

pub overflow_add-begins-in-loop-i : goal.overflow_add-begins-in-loop-i
overflow_add-begins-in-loop-i c =
    let short = label_short c.requires.some_held c.loop-i.i (omega arith) in omega (arith, short.1, c.label_to.ensures, c.label_from.ensures, c.requires.some_held.held.indexes.few_labels)

pub loop-i-preserved : goal.loop-i-preserved
loop-i-preserved c =
    let index = c.args.index.now in
    let i = c.loop-i.i in
    let short = label_short c.requires.some_held i (omega arith) in (
      ap₂ (λ (t f : ℕ). c.loop-i.begins + (3 + (t - f))) c.label_to.ensures c.label_from.ensures
          ∙ ap (λ (n : ℕ). n + (3 + (label_to index i - label_from index i))) c.loop-i.invariant.0
          ∙ sym (summed_next index i),
      omega (arith, short.1, c.label_to.ensures, c.label_from.ensures),
    )

pub returns-clause-value : goal.returns-clause-value
returns-clause-value c =
    λ f. let last : c.loop-i.i ≡ c.args.label = omega arith in
    c.loop-i.invariant.0 ∙ begins_at f c.loop-i.i (omega arith) ∙ ap (name_begins f.table.labels) last
