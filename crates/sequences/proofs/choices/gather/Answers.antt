-- `gather` meets its contract. The loop's invariant: the sequences of the nodes passed stand in the draft, noted.
use native.Mathlib.Omega.{arith}
use mathlib.Core.List.{List}
use mathlib.Core.Path.{refl, sym, ◌∙◌, subst}
use borrow.Author.Rules.{rules}
use Rattle.grammar.specs.Content.{Content}
use Rattle.operands.specs.Drafts.{Row}
use Rattle.operands.specs.Notes.{Noted}
use Rattle.sequences.proofs.SequenceLaws.{among_start, among_noted, among_skip, newest_is, gather_stop, gather_next, gather_all}
use Rattle.reader.proofs.AnswerLaws.{handed_on}
use Rattle.sequences.proofs.choices.gather.Goals as goal

pub loop-i-init : goal.loop-i-init
loop-i-init c = (
  among_start c.args.parents.now c.args.types.now c.args.nodes c.args.k c.args.scratch.now (omega arith),
  omega arith,
  refl,
  among_noted c.args.parents.now c.args.types.now c.args.nodes c.args.k _ (omega arith),
  refl,
)

pub loop-i-preserved-then-from-k : goal.loop-i-preserved-then-from-k
loop-i-preserved-then-from-k c =
    let at-loop = c.loop-i in
    let l = at-loop in
    let same = among_skip c.args.parents.now c.args.types.now c.args.nodes c.args.k l.i (λ e. c.if-from-k.true (c.from.ensures ∙ e)) in (
      subst (λ (ds : List Content). Row l.scratch 4 l.count ds l.end) same l.invariant.0,
      l.invariant.1,
      l.invariant.2,
      subst (Noted l.notes) same l.invariant.3,
      l.invariant.4,
    )

pub settle-requires : goal.settle-requires
settle-requires c =
    let at-loop = c.loop-i in
    let l = at-loop in
    let newest = newest_is c.args.parents.now c.args.types.now c.args.nodes c.args.k l.i c.put_sequence-fresh.ensures (record { list = _; row = l.invariant.0 }) in
    ((newest, l.invariant.3), l.invariant.1, omega arith)

pub returns-in_err-gathered : goal.returns-in_err-gathered
returns-in_err-gathered c =
    rw (handed_on c.from_residual.result c.from_residual.ensures)
    (let at-loop = c.loop-i in
    let l = at-loop in
    let newest = newest_is c.args.parents.now c.args.types.now c.args.nodes c.args.k l.i c.put_sequence-fresh.ensures (record { list = _; row = l.invariant.0 }) in
    gather_stop c.args.parents.now c.args.types.now c.args.nodes c.args.k _ _ _ l.count l.end l.i (sym c.from.ensures ∙ c.if-from-k.false) c.settle.result
    (c.settle.ensures newest l.invariant.3)
    c.in_err-gathered.was
    c.loop-i-test.true)

pub loop-i-preserved : goal.loop-i-preserved
loop-i-preserved c =
    let at-loop = c.loop-i in
    let l = at-loop in
    let newest = newest_is c.args.parents.now c.args.types.now c.args.nodes c.args.k l.i c.put_sequence-fresh.ensures (record { list = _; row = l.invariant.0 }) in
    let r =
    gather_next c.args.parents.now c.args.types.now c.args.nodes c.args.k _ _ _ l.count l.end l.i (sym c.from.ensures ∙ c.if-from-k.false) c.settle.result
    (c.settle.ensures newest l.invariant.3)
    c.in_ok-gathered.was in
    (r.0, r.1, search rules, r.2, search rules)

pub returns : goal.returns
returns c =
    gather_all c.args.parents.now c.args.types.now c.args.nodes c.args.k _ c.loop-i.invariant.0 c.loop-i.invariant.1 (omega arith)
