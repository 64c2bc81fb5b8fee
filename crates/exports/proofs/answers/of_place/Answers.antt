-- `answers::of_place` meets its contract.
use Prim.Native.Nat.{◌+◌, ◌*◌, ◌-◌}
use native.Mathlib.Omega.{arith}
use mathlib.Core.Path.{◌≡◌, sym, ◌∙◌, ap}
use Rattle.exports.specs.Exported.{told, place_numbers}
use Rattle.exports.proofs.answers.of_place.Goals as goal

pub overflow_mul-result : goal.overflow_mul-result
overflow_mul-result c =
    let s = c.requires _ _ c.in-Ok.is in let early = s.early in let order = s.order in let short = s.short in omega arith

pub overflow_sub-result : goal.overflow_sub-result
overflow_sub-result c =
    let s = c.requires _ _ c.in-Ok.is in let early = s.early in let order = s.order in let short = s.short in omega arith

pub overflow_add-result : goal.overflow_add-result
overflow_add-result c =
    let s = c.requires _ _ c.in-Ok.is in let early = s.early in let order = s.order in let short = s.short in omega arith

pub returns-in-Err : goal.returns-in-Err
unfolding place_numbers
returns-in-Err c = c.of_refusal.ensures ∙ sym (ap (λ f. told (place_numbers f)) c.in-Err.is)

pub returns-in-Ok : goal.returns-in-Ok
unfolding place_numbers
returns-in-Ok c =
    let from = c.in-Ok.from in
    let to = c.in-Ok.to in
    let alone : from * 65536 + (to - from) ≡ told (record { refusal = 0; value = from * 65536 + (to - from) }) = omega arith in
    alone ∙ sym (ap (λ f. told (place_numbers f)) c.in-Ok.is)
