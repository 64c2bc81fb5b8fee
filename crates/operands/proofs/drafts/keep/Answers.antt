-- `keep` meets its contract: the newest is kept where it fits, with its note.
use native.Mathlib.Omega.{arith}
use mathlib.Core.Path.{refl}
use Rattle.operands.specs.Drafts.{Gathers}
use Rattle.operands.proofs.NoteLaws.{print_small, no_upto}
use Rattle.operands.proofs.KeptLaws.{more_row, more_noted, too_long, too_many}
use Rattle.operands.proofs.drafts.keep.Goals as goal

pub returns-then-row-fresh : goal.returns-then-row-fresh
unfolding Gathers
returns-then-row-fresh c = λ q t m. record { gathers = too_long _ _ _ q c.requires.1 t c.if-row-fresh.true; noted = λ u. no_upto u }

pub returns-then-count-ge-OPERANDS : goal.returns-then-count-ge-OPERANDS
unfolding Gathers
returns-then-count-ge-OPERANDS c =
    λ q t m. record { gathers = too_many _ _ _ q c.requires.1 t c.if-count-ge-OPERANDS.true; noted = λ u. no_upto u }

pub overflow_mul-notes : goal.overflow_mul-notes
overflow_mul-notes c = let p = print_small _ _ c.requires.3 in omega arith

pub overflow_sub-notes : goal.overflow_sub-notes
overflow_sub-notes c = omega arith

pub overflow_add-notes : goal.overflow_add-notes
overflow_add-notes c = let p = print_small _ _ c.requires.3 in omega arith

pub overflow_cast-notes : goal.overflow_cast-notes
overflow_cast-notes c = let p = print_small _ _ c.requires.3 in omega arith

pub offset_bounds-notes-count : goal.offset_bounds-notes-count
offset_bounds-notes-count c = let p = print_small _ _ c.requires.3 in omega arith

pub bounds-notes-count : goal.bounds-notes-count
bounds-notes-count c = omega arith

pub returns : goal.returns
unfolding Gathers
returns c =
    λ q t m.
    record {
      gathers = (refl, more_row _ _ _ q c.requires.1 t c.if-row-fresh.false c.if-count-ge-OPERANDS.false);
      noted = λ u. more_noted _ _ _ q c.requires.1 t m c.if-count-ge-OPERANDS.false c.requires.3;
    }
