-- `tables::after_field` meets its contract: the tag says which definition reads the value.
use Rattle.grammar.specs.declared.Refusal.TheVariants.{BadField}
use mathlib.Core.Bool.{true, false}
use mathlib.Core.Path.{subst}
use Rattle.reader.specs.FieldAt.{TagBefore}
use Rattle.reader.specs.TableIndex.{part}
use Rattle.reader.proofs.AnswerLaws.{unreadable}
use Rattle.reader.proofs.TableReading.{label_field, start_field, rule_field_lem, foreign_field}
use Rattle.reader.proofs.TableSteps.{refused_reads, reads_as}
use Rattle.reader.proofs.tables.after_field.Goals as goal

pub returns-then-tag-eq-LABEL_TAG : goal.returns-then-tag-eq-LABEL_TAG
returns-then-tag-eq-LABEL_TAG c =
    λ g x.
    reads_as (label_field c.args.limits c.args.classes.now g c.args.tag (part c.args.s.now c.args.from c.args.to) c.if-tag-eq-LABEL_TAG.true)
    (c.after_label.ensures g x)

pub returns-then-tag-eq-START_TAG : goal.returns-then-tag-eq-START_TAG
returns-then-tag-eq-START_TAG c =
    λ g x.
    reads_as (start_field c.args.limits c.args.classes.now g c.args.tag (part c.args.s.now c.args.from c.args.to) c.if-tag-eq-LABEL_TAG.false c.if-tag-eq-START_TAG.true)
    (c.after_start.ensures g x)

pub returns-then-tag-eq-RULE_TAG : goal.returns-then-tag-eq-RULE_TAG
returns-then-tag-eq-RULE_TAG c =
    let s = c.args.s.now in
    λ g x.
    reads_as (rule_field_lem c.args.limits c.args.classes.now g c.args.tag (part s c.args.from c.args.to) false c.if-tag-eq-RULE_TAG.true)
    (c.after_rule.ensures false (subst (TagBefore s c.args.from) c.if-tag-eq-RULE_TAG.true c.requires.tag_before) g x)

pub returns-then-tag-eq-TEXT_RULE_TAG : goal.returns-then-tag-eq-TEXT_RULE_TAG
returns-then-tag-eq-TEXT_RULE_TAG c =
    let s = c.args.s.now in
    λ g x.
    reads_as (rule_field_lem c.args.limits c.args.classes.now g c.args.tag (part s c.args.from c.args.to) true c.if-tag-eq-TEXT_RULE_TAG.true)
    (c.after_rule-then-tag-eq-TEXT_RULE_TAG.ensures true (subst (TagBefore s c.args.from) c.if-tag-eq-TEXT_RULE_TAG.true c.requires.tag_before) g x)

pub returns : goal.returns
returns c =
    λ g x.
    refused_reads _ _ BadField _
    (unreadable _ BadField
    (foreign_field c.args.limits c.args.classes.now g c.args.tag (part c.args.s.now c.args.from c.args.to) c.if-tag-eq-LABEL_TAG.false c.if-tag-eq-START_TAG.false
    c.if-tag-eq-RULE_TAG.false
    c.if-tag-eq-TEXT_RULE_TAG.false))
