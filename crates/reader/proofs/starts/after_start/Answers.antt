-- `starts::after_start` meets its contract.
use native.Mathlib.Omega.{arith}
use mathlib.Core.Path.{sym, ◌∙◌, subst}
use Rattle.reader.specs.TableIndex.{Reads}
use Rattle.reader.proofs.TableSteps.{reads_on, refused_reads, start_room, start_step}
use Rattle.reader.proofs.starts.after_start.Goals as goal

pub bounds-s-from : goal.bounds-s-from
bounds-s-from c =
    let x = c.requires.value_at.indexed.indexes in let read = sym (c.start_answer.ensures c.requires.value_at.indexed.table x) ∙ c.in_ok-start_answer.was in let room = start_room c.args.limits x c.requires.value_at.inside read in omega arith

pub add_start-requires : goal.add_start-requires
add_start-requires c =
    let x = c.requires.value_at.indexed.indexes in let read = sym (c.start_answer.ensures c.requires.value_at.indexed.table x) ∙ c.in_ok-start_answer.was in let room = start_room c.args.limits x c.requires.value_at.inside read in room.0

pub returns-in_err-start_answer : goal.returns-in_err-start_answer
returns-in_err-start_answer c = λ g x. reads_on _ c.from_residual.ensures (refused_reads _ _ _ _ (sym (c.start_answer.ensures g x) ∙ c.in_err-start_answer.was))

pub returns : goal.returns
returns c =
    λ g x. subst (Reads _ _ _) (sym c.add_start.ensures) (start_step c.args.limits x c.requires.value_at.inside (sym (c.start_answer.ensures g x) ∙ c.in_ok-start_answer.was))
