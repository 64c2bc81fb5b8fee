-- `put_start` meets its contract.
use mathlib.Core.List.{[]}
use native.Mathlib.Omega.{arith}
use mathlib.Core.List.{◌∷◌}
use mathlib.Core.Path.{◌≡◌}
use lib.ListN.{length}
use Rattle.grammar.specs.Fields.{field_bytes}
use Rattle.writer.specs.Tables.{rest_bytes}
use Rattle.sampling.specs.SampleTable.{rule_in}
use Rattle.writer.proofs.TableLaws.{put_length_is, put_over, put_then}
use borrow.Author.Rules.{rules}
use Rattle.reader.proofs.AnswerLaws.{handed_on}
use Rattle.sampling.proofs.fields.put_start.Goals as goal

pub put_rest-requires : goal.put_rest-requires
put_rest-requires c =
    let rule = rule_in c.args.shapes.now c.args.parents.now c.args.types.now c.args.labels.now c.args.nodes in
    let h = put_length_is c.args.draft.now c.args.at rule c.args.count (field_bytes 0x11 (0 ∷ [])) (rest_bytes rule c.args.count) c.put_field.new.draft [] c.put_field.result c.put_field.ensures c.in_ok-end.was in
    let w : length c.put_field.new.draft ≡ length c.args.draft.now = search rules in
    (h.1, omega arith, c.requires.2, c.requires.3)

pub returns-in_err-end : goal.returns-in_err-end
returns-in_err-end c =
    rw (handed_on c.from_residual.result c.from_residual.ensures)
    (let rule = rule_in c.args.shapes.now c.args.parents.now c.args.types.now c.args.labels.now c.args.nodes in
    put_over c.args.draft.now c.args.at rule c.args.count (field_bytes 0x11 (0 ∷ [])) (rest_bytes rule c.args.count) c.put_field.new.draft c.put_field.new.draft c.put_field.result c.put_field.ensures c.in_err-end.was)

pub returns : goal.returns
returns c =
    let rule = rule_in c.args.shapes.now c.args.parents.now c.args.types.now c.args.labels.now c.args.nodes in
    put_then c.args.draft.now c.args.at rule c.args.count (field_bytes 0x11 (0 ∷ [])) (rest_bytes rule c.args.count) c.put_field.new.draft c.put_rest.new.draft c.put_field.result c.put_field.ensures c.in_ok-end.was c.put_rest.result c.put_rest.ensures
