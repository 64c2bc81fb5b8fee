-- `put_labels` meets its contract. The loop's invariant: the labels passed are written.
use Prim.Native.Nat.{ℕ, ◌+◌, ◌-◌, ◌<◌}
use native.Mathlib.Omega.{arith}
use mathlib.Core.List.{List}
use mathlib.Core.Path.{◌≡◌, refl, ◌∙◌, ap, ap₂}
use lib.ListN.{length, get_or, take, drop, length-take}
use lib.Seq.{get_or-take}
use borrow.Author.Rules.{rules}
use Rattle.grammar.specs.Fields.{field_bytes}
use Rattle.theory.proofs.Lists.ListLaws.{part_of}
use Rattle.reader.proofs.AnswerLaws.{handed_on}
use Rattle.sampling.specs.SampleTable.{label_field}
use Rattle.writer.proofs.TableLaws.{up_start, step_stop, step_more}
use Rattle.sampling.proofs.fields.put_labels.Goals as goal

-- the bytes from a listed node's name on are its label's field
field_is : (s names sizes firsts : List ℕ) (count k i from size : ℕ) → k < length (take count firsts) → i ≡ get_or (take count firsts) k 0
    → from ≡ get_or names i 0 → size ≡ get_or sizes i 0
    → field_bytes 16 (take (from + size - from) (drop from s)) ≡ label_field s names sizes firsts k
field_is s names sizes firsts count k i from size h e f g =
    let at = e ∙ get_or-take count firsts k 0 (omega (arith, length-take count firsts)) in
    ap (field_bytes 16)
    (part_of s from size
    ∙ ap₂ (λ (a : ℕ) (n : ℕ). take n (drop a s)) (f ∙ ap (λ (j : ℕ). get_or names j 0) at) (g ∙ ap (λ (j : ℕ). get_or sizes j 0) at))

pub loop-first-init : goal.loop-first-init
loop-first-init c =
    (omega arith, refl, up_start (label_field c.args.s.now c.args.names.now c.args.sizes.now c.args.firsts.now) c.args.draft.now 0 (omega arith))

pub returns-in_err-end : goal.returns-in_err-end
returns-in_err-end c =
    let field = label_field c.args.s.now c.args.names.now c.args.sizes.now c.args.firsts.now in
    let same = field_is c.args.s.now _ _ _ _ _ _ _ _ c.loop-first-test.true c.from-i.ensures c.from-from.ensures c.from.ensures in
    rw (handed_on c.from_residual.result c.from_residual.ensures)
    (step_stop field c.loop-first.first-index c.loop-first.invariant.2 _ c.put_field.new.draft c.put_field.result same c.put_field.ensures c.in_err-end.was c.args.count
    (omega (arith, length-take c.args.count c.args.firsts.now)))

pub loop-first-preserved : goal.loop-first-preserved
loop-first-preserved c =
    let field = label_field c.args.s.now c.args.names.now c.args.sizes.now c.args.firsts.now in
    let same = field_is c.args.s.now _ _ _ _ _ _ _ _ c.loop-first-test.true c.from-i.ensures c.from-from.ensures c.from.ensures in
    let r = step_more field c.loop-first.first-index c.loop-first.invariant.2 _ c.put_field.new.draft c.put_field.result same c.put_field.ensures c.in_ok-end.was in
    (r.1, search rules, r.0)
