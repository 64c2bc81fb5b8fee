-- `is_there` meets its contract. The loop's invariant: an equal one is among all operands just where it is among those from the
-- next note on.
use Prim.Native.Nat.{ℕ, ◌-◌, ◌<◌}
use native.Mathlib.Omega.{arith}
use mathlib.Core.List.{List}
use mathlib.Core.Path.{◌≡◌, sym, ◌∙◌, ap}
use lib.ListN.{take, drop, length-take}
use Rattle.grammar.specs.ReadContent.{content_bytes}
use Rattle.reader.proofs.ExprLaws.{expr_bytes, expr_forward}
use Rattle.operands.specs.declared.drafts.OperandRow.{OperandRow}
use Rattle.operands.specs.Drafts.{Newest}
use Rattle.operands.specs.Notes.{fingerprint}
use Rattle.operands.proofs.NoteLaws.{note_before}
use Rattle.operands.proofs.AmongLaws.{StillAmong, FirstAmong, among_all, among_first, among_none, same_noted}
use Rattle.operands.proofs.drafts.is_there.Goals as goal

abbrev first : {d notes : List ℕ} {row : OperandRow} {fresh k : ℕ} (q : Newest d row fresh) → k < row.count
    → StillAmong d notes row.base k (row.count - k) row.end q.newest q.kept.list
    → FirstAmong d notes row.base k (row.count - k) row.end q.newest q.kept.list
first {d} {notes} {row} {k = k} q h a =
    among_first d notes row.base k (row.count - k) row.end q.newest q.kept.list (omega arith) q.kept.row.inside a

-- what is asked of an operand is answered for the operand
asked : {d : List ℕ} {row : OperandRow} {fresh print : ℕ} (q : Newest d row fresh)
    → print ≡ fingerprint (take (fresh - row.end) (drop row.end d)) → print ≡ fingerprint (content_bytes q.newest)
asked {d} {row} {fresh} q p = p ∙ ap fingerprint (expr_bytes d row.end q.newest fresh q.stands)

pub loop-note-init : goal.loop-note-init
loop-note-init c = λ q m. among_all q.kept.row m

pub is_same-requires : goal.is_same-requires
is_same-requires c =
    let q = c.requires.0.0 in
    let f = first q (omega (arith, length-take c.args.row.count c.args.notes.now)) (c.loop-note.invariant q c.requires.0.1) in
    let i = f.inside in
    let at = note_before _ f.before _ f.note_is (omega arith) in
    let e = expr_forward _ _ q.newest _ q.stands in
    (omega arith, omega arith, omega arith)

pub returns-then-is_same : goal.returns-then-is_same
returns-then-is_same c =
    λ q m.
    let f = first q (omega (arith, length-take c.args.row.count c.args.notes.now)) (c.loop-note.invariant q m) in
    f.here
    (sym (same_noted _ _ _ _ _ _ _ _ q.newest _ _ q.stands (asked q c.requires.2) c.requires.1 f c.is_same.ensures) ∙ c.if-is_same.true)

pub loop-note-preserved : goal.loop-note-preserved
loop-note-preserved c =
    λ q m.
    let f = first q (omega (arith, length-take c.args.row.count c.args.notes.now)) (c.loop-note.invariant q m) in
    f.later
    (sym (same_noted _ _ _ _ _ _ _ _ q.newest _ _ q.stands (asked q c.requires.2) c.requires.1 f c.is_same.ensures) ∙ c.if-is_same.false) _
    (omega arith)

pub returns : goal.returns
returns c =
    λ q m.
    let few = q.kept.row.few in
    let room = m.room in
    among_none (omega (arith, length-take c.args.row.count c.args.notes.now)) (c.loop-note.invariant q m)
