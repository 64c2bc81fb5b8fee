-- `documents::closed_depth` meets its contract.
use Prim.Native.Nat.{ℕ, ◌+◌, ◌-◌}
use native.Mathlib.Omega.{arith}
use mathlib.Core.Path.{◌≡◌, sym, ◌∙◌, ap}
use Rattle.grammar.specs.ReadDocument.{closed}
use Rattle.documents.specs.DocumentSteps.{open_levels}
use Rattle.documents.proofs.OpenLevels.{none_open, closes, stays_open, some_to_come}
use Rattle.documents.proofs.documents.closed_depth.Goals as goal

pub returns-then-coming-d-ne0 : goal.returns-then-coming-d-ne0
returns-then-coming-d-ne0 c =
    let coming = c.args.coming.now in
    let d = c.loop-d.d in
    let here : d - 1 + 1 ≡ d = omega arith in
    rw here (record {
      stays = record { innermost = some_to_come coming d c.if-coming-d-ne0.true };
      levels = sym (stays_open coming d (omega arith) c.if-coming-d-ne0.true) ∙ c.loop-d.invariant;
    })

pub loop-d-preserved : goal.loop-d-preserved
loop-d-preserved c = sym (closes c.args.coming.now c.loop-d.d (omega arith) c.if-coming-d-ne0.false) ∙ c.loop-d.invariant

pub returns : goal.returns
returns c =
    let coming = c.args.coming.now in
    let none : c.loop-d.d ≡ 0 = omega arith in
    record {
      stays = record { innermost = λ k e. absurd (omega arith) };
      levels = sym (none_open coming) ∙ ap (λ (d : ℕ). closed (open_levels coming d)) (sym none) ∙ c.loop-d.invariant;
    }
