-- `rules::after_rule` meets its contract.
use mathlib.Core.Bool.{false}
use native.Mathlib.Omega.{arith}
use mathlib.Core.Path.{sym, ◌∙◌, subst}
use Rattle.reader.specs.TableIndex.{Reads}
use Rattle.reader.proofs.TableSteps.{reads_on, refused_reads, rule_room, rule_step}
use Rattle.reader.proofs.rules.after_rule.Goals as goal

pub bounds-s-from : goal.bounds-s-from
bounds-s-from c =
    let x = c.requires.value_at.indexed.indexes in let read = sym (c.rule_answer.ensures false c.requires.value_at.indexed.table x) ∙ c.in_ok-rule_answer.was in let room = rule_room c.args.limits x c.requires.value_at.inside false read in omega arith

pub bounds-s-from-2 : goal.bounds-s-from-2
bounds-s-from-2 c =
    let x = c.requires.value_at.indexed.indexes in let read = sym (c.rule_answer.ensures false c.requires.value_at.indexed.table x) ∙ c.in_ok-rule_answer.was in let room = rule_room c.args.limits x c.requires.value_at.inside false read in omega arith

pub add_rule-requires : goal.add_rule-requires
add_rule-requires c =
    let x = c.requires.value_at.indexed.indexes in let read = sym (c.rule_answer.ensures false c.requires.value_at.indexed.table x) ∙ c.in_ok-rule_answer.was in let room = rule_room c.args.limits x c.requires.value_at.inside false read in (room.0, omega arith, omega arith)

pub returns-in_err-rule_answer : goal.returns-in_err-rule_answer
returns-in_err-rule_answer c = λ text tag g x. reads_on _ c.from_residual.ensures (refused_reads _ _ _ _ (sym (c.rule_answer.ensures text g x) ∙ c.in_err-rule_answer.was))

pub returns : goal.returns
returns c =
    λ text tag g x. subst (Reads _ _ _) (sym c.add_rule.ensures) (rule_step c.args.limits x c.requires.value_at.inside text (sym (c.rule_answer.ensures text g x) ∙ c.in_ok-rule_answer.was) tag)
