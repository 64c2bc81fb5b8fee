-- `elements::closes` meets its contract.
use Prim.Native.Nat.{ℕ, ◌+◌, ◌-◌}
use native.Mathlib.Omega.{arith}
use mathlib.Core.Path.{◌≡◌, ◌∙◌, ap, ap₂}
use lib.ListN.{take, drop}
use Rattle.grammar.specs.Lists.{same_numbers}
use Rattle.documents.proofs.TextReading.{same_bytes}
use Rattle.documents.proofs.TextPlaces.{closes_inside}
use Rattle.documents.proofs.elements.closes.Goals as goal

pub returns : goal.returns
returns c =
    let s = c.args.s.now in
    let name = c.from-name.result in
    let size = c.from.result in
    let same : name + size - name ≡ size = omega arith in
    c.eq.ensures
    ∙ same_bytes _ _
    ∙ ap (same_numbers c.args.tag.now)
    (ap (λ (k : ℕ). take k (drop name s)) same ∙ ap₂ (λ (k n : ℕ). take k (drop n s)) c.from.ensures c.from-name.ensures)
    ∙ closes_inside s c.args.index.now.names c.args.index.now.sizes c.args.places.now c.args.tag.now c.args.depth c.from-open.result (omega arith) c.from-open.ensures
