-- `put_rest` meets its contract.
use native.Mathlib.Omega.{arith}
use mathlib.Core.List.{[]}
use mathlib.Core.Path.{◌≡◌}
use lib.ListN.{length}
use Rattle.grammar.specs.Fields.{field_bytes}
use Rattle.writer.specs.Tables.{rules_bytes}
use Rattle.writer.proofs.TableLaws.{table_length_is, table_over, table_then}
use Rattle.results.specs.Results.{rule_from}
use Rattle.reader.proofs.AnswerLaws.{handed_on}
use Rattle.results.proofs.rules.put_rest.Goals as goal

pub put_field-requires : goal.put_field-requires
put_field-requires c =
    let rules = c.put_rules in
    let n = c.args.plan.count in
    let q = c.requires.3 in
    let rule = rule_from q.rules in
    let h =
    table_length_is c.args.draft.now c.args.at rule n (rules_bytes rule n) (field_bytes 0x1F []) rules.new.draft [] rules.result
    (rules.ensures q)
    c.in_ok-end.was in
    let w : length rules.new.draft ≡ length c.args.draft.now = search rules in
    (h.1, omega arith)

pub returns-in_err-end : goal.returns-in_err-end
returns-in_err-end c =
    rw (handed_on c.from_residual.result c.from_residual.ensures)
    (let n = c.args.plan.count in
    λ q.
    let rule = rule_from q.rules in
    table_over c.args.draft.now c.args.at rule n (rules_bytes rule n) (field_bytes 0x1F []) c.put_rules.new.draft c.put_rules.new.draft
    c.put_rules.result
    (c.put_rules.ensures q)
    c.in_err-end.was)

pub returns : goal.returns
returns c =
    let n = c.args.plan.count in
    λ q.
    let rule = rule_from q.rules in
    table_then c.args.draft.now c.args.at rule n (rules_bytes rule n) (field_bytes 0x1F []) c.put_rules.new.draft c.put_field.new.draft
    c.put_rules.result
    (c.put_rules.ensures q)
    c.in_ok-end.was
    c.put_field.result
    c.put_field.ensures
