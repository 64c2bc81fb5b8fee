-- `settle` meets its contract: the newest is dropped where it is there, and kept otherwise.
use native.Mathlib.Omega.{arith}
use mathlib.Core.Path.{refl, sym, ◌∙◌, subst}
use Rattle.reader.proofs.ExprLaws.{expr_forward}
use Rattle.theory.proofs.Emission.GatheringLaws.{gather_old}
use Rattle.operands.specs.Drafts.{Gathers}
use Rattle.operands.specs.Notes.{Noted}
use Rattle.operands.proofs.KeptLaws.{old_row}
use Rattle.operands.proofs.drafts.settle.Goals as goal

pub print_of-print-requires : goal.print_of-print-requires
print_of-print-requires c =
    let f = expr_forward _ _ c.requires.0.0.newest _ c.requires.0.0.stands in
    (omega arith, omega arith)

pub is_there-requires : goal.is_there-requires
is_there-requires c = (c.requires.0, omega arith, c.print_of-print.ensures)

pub returns-then-is_there : goal.returns-then-is_there
unfolding Gathers
returns-then-is_there c =
    λ q m.
    let t = sym (c.is_there.ensures q m) ∙ c.if-is_there.true in
    record {
      gathers = (refl, old_row _ _ _ q c.requires.1 t);
      noted = λ u. subst (Noted c.args.notes.now) (sym (gather_old q.kept.list q.kept.row.apart q.newest t)) m;
    }

pub keep-requires : goal.keep-requires
keep-requires c =
    let q = c.requires.0.0 in
    ((q, sym (c.is_there.ensures q c.requires.0.1) ∙ c.if-is_there.false, c.requires.0.1), c.requires.1, c.requires.2, c.print_of-print.ensures)

pub returns : goal.returns
returns c = λ q m. c.keep.ensures q (sym (c.is_there.ensures q m) ∙ c.if-is_there.false) m
