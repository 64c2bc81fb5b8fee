-- `put_rest` meets its contract.
use mathlib.Core.List.{[]}
use native.Mathlib.Omega.{arith}
use mathlib.Core.Path.{◌≡◌}
use lib.ListN.{length}
use Rattle.grammar.specs.Fields.{field_bytes}
use Rattle.writer.specs.Tables.{rules_bytes}
use Rattle.sampling.specs.SampleTable.{rule_in}
use Rattle.writer.proofs.TableLaws.{table_length_is, table_over, table_then}
use borrow.Author.Rules.{rules}
use Rattle.reader.proofs.AnswerLaws.{handed_on}
use Rattle.sampling.proofs.fields.put_rest.Goals as goal

pub put_field-requires : goal.put_field-requires
put_field-requires c =
    let rule = rule_in c.args.shapes.now c.args.parents.now c.args.types.now c.args.labels.now c.args.nodes in
    let h = table_length_is c.args.draft.now c.args.at rule c.args.count (rules_bytes rule c.args.count) (field_bytes 0x1F []) c.put_rules.new.draft [] c.put_rules.result c.put_rules.ensures c.in_ok-end.was in
    let w : length c.put_rules.new.draft ≡ length c.args.draft.now = search rules in
    (h.1, omega arith)

pub returns-in_err-end : goal.returns-in_err-end
returns-in_err-end c =
    rw (handed_on c.from_residual.result c.from_residual.ensures)
    (let rule = rule_in c.args.shapes.now c.args.parents.now c.args.types.now c.args.labels.now c.args.nodes in
    table_over c.args.draft.now c.args.at rule c.args.count (rules_bytes rule c.args.count) (field_bytes 0x1F []) c.put_rules.new.draft c.put_rules.new.draft c.put_rules.result c.put_rules.ensures c.in_err-end.was)

pub returns : goal.returns
returns c =
    let rule = rule_in c.args.shapes.now c.args.parents.now c.args.types.now c.args.labels.now c.args.nodes in
    table_then c.args.draft.now c.args.at rule c.args.count (rules_bytes rule c.args.count) (field_bytes 0x1F []) c.put_rules.new.draft c.put_field.new.draft c.put_rules.result c.put_rules.ensures c.in_ok-end.was c.put_field.result c.put_field.ensures
