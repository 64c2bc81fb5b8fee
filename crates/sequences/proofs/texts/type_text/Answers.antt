-- `type_text` meets its contract. The loop's invariant: the nodes of the type among those passed hold no text.
use native.Mathlib.Omega.{arith}
use mathlib.Core.Path.{sym, ◌∙◌}
use Rattle.sequences.proofs.TextLaws.{text_none, text_other, text_plain, text_found, text_absent}
use Rattle.sequences.proofs.texts.type_text.Goals as goal
use Rattle.sequences.proofs.texts.type_text.Goals.{
  else-from-k-via-then-from-k+else-holds_text as no_text,
  else-from-k-via-else-from-k as no_node,
}

pub loop-i-init : goal.loop-i-init
loop-i-init c = text_none c.args.shapes.now c.args.types.now c.args.k

pub holds_text-requires : goal.holds_text-requires
holds_text-requires c = omega arith

pub returns-then-holds_text : goal.returns-then-holds_text
returns-then-holds_text c =
    text_found c.args.shapes.now c.args.types.now c.args.k c.args.nodes c.loop-i.i c.loop-i-test.true (sym c.from.ensures ∙ c.if-from-k.true)
    (sym c.holds_text.ensures ∙ c.if-holds_text.true)

pub loop-i-preserved : goal.loop-i-preserved
loop-i-preserved c =
    let other = text_other c.args.shapes.now c.args.types.now c.args.k c.loop-i.invariant in
    let plain = text_plain c.args.shapes.now c.args.types.now c.args.k c.loop-i.invariant in
    elim c.else-from-k.branch [
      | no_text w ↦ plain (sym w.holds_text.ensures ∙ w.if-holds_text.false)
      | no_node w ↦ other (λ e. w.if-from-k.false (c.from.ensures ∙ e))
    ]

pub returns : goal.returns
returns c =
    text_absent c.args.shapes.now c.args.types.now c.args.k c.args.nodes (λ j h. c.loop-i.invariant j (omega arith))
