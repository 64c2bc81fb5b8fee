-- `labels::label_answer` meets its contract: each return is a case of the definition, in its order.
use native.Mathlib.Omega.{arith}
use mathlib.Core.Path.{sym, ◌∙◌}
use Rattle.grammar.specs.LimitSets.{limits_of}
use Rattle.grammar.specs.ReadTable.{with_label}
use Rattle.grammar.specs.declared.Refusal.TheVariants.{BadField, BadName, Repeated, TooMany}
use Rattle.reader.specs.TableIndex.{part}
use Rattle.reader.proofs.AnswerLaws.{readable, unreadable}
use Rattle.reader.proofs.IndexedFaults.{label_fits, label_fitted}
use Rattle.reader.proofs.TableFaults.{label_unfit, label_misnamed, label_repeated, label_too_many, label_fine}
use Rattle.reader.proofs.labels.label_answer.Goals as goal

pub returns-then-start_count-ne0 : goal.returns-then-start_count-ne0
returns-then-start_count-ne0 c =
    let s = c.args.s.now in let from = c.args.from in let to = c.args.to in let limits = c.args.limits in let classes = c.args.classes.now in λ g x. sym (unreadable _ BadField (label_unfit (limits_of limits) classes g (part s from to) (λ f. c.if-start_count-ne0.true (c.start_count.ensures ∙ x.starts ∙ f.no_starts))))

pub returns-then-rule_count-ne0 : goal.returns-then-rule_count-ne0
returns-then-rule_count-ne0 c =
    let s = c.args.s.now in let from = c.args.from in let to = c.args.to in let limits = c.args.limits in let classes = c.args.classes.now in λ g x. sym (unreadable _ BadField (label_unfit (limits_of limits) classes g (part s from to) (λ f. c.if-rule_count-ne0.true (c.rule_count.ensures ∙ x.rules ∙ f.no_rules))))

pub returns-then-from-to : goal.returns-then-from-to
returns-then-from-to c =
    let s = c.args.s.now in let from = c.args.from in let to = c.args.to in let limits = c.args.limits in let classes = c.args.classes.now in λ g x. sym (unreadable _ BadField (label_unfit (limits_of limits) classes g (part s from to) (λ f. omega (arith, label_fitted limits x c.requires.value_at.inside f, c.if-from-to.true))))

pub returns-then-to-from-gt-NAME : goal.returns-then-to-from-gt-NAME
returns-then-to-from-gt-NAME c =
    let s = c.args.s.now in let from = c.args.from in let to = c.args.to in let limits = c.args.limits in let classes = c.args.classes.now in λ g x. sym (unreadable _ BadField (label_unfit (limits_of limits) classes g (part s from to) (λ f. omega (arith, label_fitted limits x c.requires.value_at.inside f, c.if-to-from-gt-NAME.true))))

pub returns-then-repeated_label : goal.returns-then-repeated_label
returns-then-repeated_label c =
    let s = c.args.s.now in let from = c.args.from in let to = c.args.to in let limits = c.args.limits in let classes = c.args.classes.now in λ g x. sym (unreadable _ Repeated (label_repeated (limits_of limits) classes g (part s from to) (label_fits limits x c.requires.value_at.inside (sym c.start_count.ensures ∙ c.if-start_count-ne0.false) (sym c.rule_count.ensures ∙ c.if-rule_count-ne0.false) c.if-from-to.false c.if-to-from-gt-NAME.false) (sym c.is_name.ensures ∙ c.if-is_name.true) (sym (c.repeated_label.ensures g x) ∙ c.if-repeated_label.true)))

pub returns-then-limits-label_count : goal.returns-then-limits-label_count
returns-then-limits-label_count c =
    let s = c.args.s.now in let from = c.args.from in let to = c.args.to in let limits = c.args.limits in let classes = c.args.classes.now in λ g x. sym (unreadable _ TooMany (label_too_many (limits_of limits) classes g (part s from to) (label_fits limits x c.requires.value_at.inside (sym c.start_count.ensures ∙ c.if-start_count-ne0.false) (sym c.rule_count.ensures ∙ c.if-rule_count-ne0.false) c.if-from-to.false c.if-to-from-gt-NAME.false) (sym c.is_name.ensures ∙ c.if-is_name.true) (sym (c.repeated_label.ensures g x) ∙ c.if-repeated_label.false) (omega (arith, x.labels, c.label_count.ensures, c.if-limits-label_count.true))))

pub returns-else-limits-label_count : goal.returns-else-limits-label_count
returns-else-limits-label_count c =
    let s = c.args.s.now in let from = c.args.from in let to = c.args.to in let limits = c.args.limits in let classes = c.args.classes.now in λ g x. sym (readable _ (with_label g (part s from to)) (label_fine (limits_of limits) classes g (part s from to) (label_fits limits x c.requires.value_at.inside (sym c.start_count.ensures ∙ c.if-start_count-ne0.false) (sym c.rule_count.ensures ∙ c.if-rule_count-ne0.false) c.if-from-to.false c.if-to-from-gt-NAME.false) (sym c.is_name.ensures ∙ c.if-is_name.true) (sym (c.repeated_label.ensures g x) ∙ c.if-repeated_label.false) (omega (arith, x.labels, c.label_count.ensures, c.if-limits-label_count.false))))

pub returns-else-is_name : goal.returns-else-is_name
returns-else-is_name c =
    let s = c.args.s.now in let from = c.args.from in let to = c.args.to in let limits = c.args.limits in let classes = c.args.classes.now in λ g x. sym (unreadable _ BadName (label_misnamed (limits_of limits) classes g (part s from to) (label_fits limits x c.requires.value_at.inside (sym c.start_count.ensures ∙ c.if-start_count-ne0.false) (sym c.rule_count.ensures ∙ c.if-rule_count-ne0.false) c.if-from-to.false c.if-to-from-gt-NAME.false) (sym c.is_name.ensures ∙ c.if-is_name.false)))
