-- `labels::after_label` meets its contract.
use native.Mathlib.Omega.{arith}
use mathlib.Core.Path.{sym, ◌∙◌, subst}
use Rattle.reader.specs.TableIndex.{Reads}
use Rattle.reader.proofs.TableSteps.{reads_on, refused_reads, label_room, label_reads}
use Rattle.reader.proofs.labels.after_label.Goals as goal

pub add_label-requires : goal.add_label-requires
add_label-requires c =
    let x = c.requires.value_at.indexed.indexes in let read = sym (c.label_answer.ensures c.requires.value_at.indexed.table x) ∙ c.in_ok-label_answer.was in (label_room c.args.limits x c.requires.value_at.inside c.args.classes.now read, omega arith, omega arith)

pub returns-in_err-label_answer : goal.returns-in_err-label_answer
returns-in_err-label_answer c = λ g x. reads_on _ c.from_residual.ensures (refused_reads _ _ _ _ (sym (c.label_answer.ensures g x) ∙ c.in_err-label_answer.was))

pub returns : goal.returns
returns c =
    λ g x. subst (Reads _ _ _) (sym c.add_label.ensures) (label_reads c.args.limits x c.requires.value_at.inside c.args.classes.now (sym (c.label_answer.ensures g x) ∙ c.in_ok-label_answer.was))
