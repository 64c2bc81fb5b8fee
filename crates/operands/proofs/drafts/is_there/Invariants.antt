-- `is_there` meets its contract. The loop's invariant: an equal one is among all operands just where it is among those from the
-- next note on.
use Prim.Native.Nat.{◌-◌}
use lib.ListN.{take}
use Rattle.operands.specs.Drafts.{Newest}
use Rattle.operands.specs.Notes.{Noted}
use Rattle.operands.proofs.AmongLaws.{StillAmong}
use Rattle.operands.proofs.drafts.is_there.Given as goal

abbrev pub invariant-loop-note : goal.invariant-loop-note
invariant-loop-note l =
    (q : Newest l.draft l.row l.fresh) → Noted l.notes q.kept.list
    → StillAmong l.draft (take l.row.count l.notes) l.row.base l.note-index (l.row.count - l.note-index) l.row.end q.newest q.kept.list
