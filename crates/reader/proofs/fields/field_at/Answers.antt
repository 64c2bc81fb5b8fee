-- `fields::field_at` meets its contract: each way through the code is a case of the definition.
use Prim.Native.Nat.{ℕ, ◌+◌, ◌*◌}
use native.Mathlib.Omega.{arith}
use mathlib.Core.Path.{◌≡◌, sym, ◌∙◌, ap}
use lib.ListN.{get_or}
use Rattle.reader.specs.FieldAt.{size_at}
use Rattle.reader.specs.declared.fields.FieldAt.TheVariants.{Found}
use Rattle.reader.proofs.FieldReading.{at_end, at_past, at_found}
use Rattle.reader.proofs.fields.field_at.Goals as goal

pub returns-then-size-at : goal.returns-then-size-at
returns-then-size-at c = sym (at_end c.args.s.now c.args.at (omega arith))

pub returns-then-size-at-lt3 : goal.returns-then-size-at-lt3
returns-then-size-at-lt3 c = sym (at_past c.args.s.now c.args.at (omega arith) (omega arith))

pub returns-then-size-from : goal.returns-then-size-from
returns-then-size-from c =
    let s = c.args.s.now in
    let at = c.args.at in
    let n : c.from-high.result * 256 + c.from-low.result ≡ size_at s at = omega (arith, c.from-high.ensures, c.from-low.ensures) in
    sym (at_past s at (omega arith) (omega arith))

pub returns : goal.returns
returns c =
    let s = c.args.s.now in
    let at = c.args.at in
    let n : c.from-high.result * 256 + c.from-low.result ≡ size_at s at = omega (arith, c.from-high.ensures, c.from-low.ensures) in
    ap (λ (k : ℕ). Found (get_or s at 0) (at + 3) (at + 3 + k)) n ∙ sym (at_found s at (omega arith))
