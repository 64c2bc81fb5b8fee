-- `text::past_white` meets its contract.
use Prim.Native.Nat.{ℕ}
use native.Mathlib.Omega.{arith}
use mathlib.Core.Path.{◌≡◌, sym, ◌∙◌, ap}
use lib.ListN.{length, drop}
use Rattle.documents.proofs.TextReading.{white_next, white_stop, white_end}
use Rattle.documents.proofs.text.past_white.Goals as goal

pub returns-then-not-is_white : goal.returns-then-not-is_white
returns-then-not-is_white c =
    record {
      order = omega arith;
      within = omega arith;
      stands = white_stop c.args.s.now c.loop-i.i (omega arith) (sym c.is_white.ensures ∙ c.if-not-is_white.true) ∙ sym c.loop-i.invariant;
    }

pub loop-i-preserved : goal.loop-i-preserved
loop-i-preserved c =
    c.loop-i.invariant ∙ white_next c.args.s.now c.loop-i.i (omega arith) (sym c.is_white.ensures ∙ c.if-not-is_white.false)

pub returns : goal.returns
returns c =
    let s = c.args.s.now in
    let ended : c.loop-i.i ≡ length s = omega arith in
    record {
      order = c.requires;
      within = omega arith;
      stands = ap (λ (k : ℕ). drop k s) (sym ended) ∙ white_end s c.loop-i.i (omega arith) ∙ sym c.loop-i.invariant;
    }
