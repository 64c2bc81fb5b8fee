-- `write_sample` meets its contract.
use mathlib.Core.List.{[]}
use native.Mathlib.Omega.{arith}
use mathlib.Core.Path.{◌≡◌}
use lib.ListN.{length}
use Rattle.std.specs.Prelude.{Err}
use Rattle.grammar.specs.Lists.{joined_of, numbers_below}
use Rattle.theory.proofs.Lists.ListLaws.{zeros_at}
use Rattle.sampling.specs.SampleTable.{rule_in, label_field, start_bytes}
use Rattle.writer.proofs.TableLaws.{put_length_is, put_over, put_then}
use Rattle.sampling.proofs.SampleWritten.{sample_wide, sample_drafted, firsts_keys, labels_keys, rules_held}
use borrow.Author.Rules.{rules}
use Rattle.reader.proofs.AnswerLaws.{handed_on}
use Rattle.sampling.proofs.sample.write_sample.Goals as goal

pub returns-then-limits-count : goal.returns-then-limits-count
returns-then-limits-count c = λ q. sample_wide q c.args.limits c.if-limits-count.true

pub labels_of-found-requires : goal.labels_of-found-requires
labels_of-found-requires c = (omega arith, firsts_keys c.requires.input_limit_in_bounds.1 (omega arith) (omega arith), zeros_at 2048)

pub put_labels-requires : goal.put_labels-requires
put_labels-requires c =
    let w : length c.labels_of-found.result.firsts ≡ 128 = search rules in
    (c.requires.input_limit_in_bounds.0, omega arith, labels_keys c.requires.input_limit_in_bounds.1 (omega arith) c.labels_of-found.ensures (omega arith) (omega arith))

pub put_start-requires : goal.put_start-requires
put_start-requires c =
    let rule = rule_in c.args.shapes.now c.args.parents.now c.args.types.now c.labels_of-found.result.of c.args.nodes in
    let xs = joined_of (label_field c.args.s.now c.args.names.now c.args.sizes.now c.labels_of-found.result.firsts) (numbers_below c.labels_of-found.result.count) in
    let h =
    put_length_is c.args.draft.now 0 rule c.args.count xs (start_bytes rule c.args.count) c.put_labels.new.draft [] c.put_labels.result c.put_labels.ensures
    c.in_ok-end.was in
    let w : length c.put_labels.new.draft ≡ length c.args.draft.now = search rules in
    let v : length c.labels_of-found.result.of ≡ 128 = search rules in
    (h.1, omega arith, omega arith, rules_held c.requires.input_limit_in_bounds.1 (omega arith) (omega arith))

pub returns-in_err-end : goal.returns-in_err-end
returns-in_err-end c =
    rw (handed_on c.from_residual.result c.from_residual.ensures)
    (let w : length c.labels_of-found.result.firsts ≡ 128 = search rules in
    let rule = rule_in c.args.shapes.now c.args.parents.now c.args.types.now c.labels_of-found.result.of c.args.nodes in
    let xs = joined_of (label_field c.args.s.now c.args.names.now c.args.sizes.now c.labels_of-found.result.firsts) (numbers_below c.labels_of-found.result.count) in
    λ q. sample_drafted q c.labels_of-found.ensures (omega arith) c.args.limits (omega arith) c.args.draft.now c.put_labels.new.draft (Err (record {}))
    (put_over c.args.draft.now 0 rule c.args.count xs (start_bytes rule c.args.count) c.put_labels.new.draft c.put_labels.new.draft c.put_labels.result c.put_labels.ensures
    c.in_err-end.was))

pub returns : goal.returns
returns c =
    let w : length c.labels_of-found.result.firsts ≡ 128 = search rules in
    let rule = rule_in c.args.shapes.now c.args.parents.now c.args.types.now c.labels_of-found.result.of c.args.nodes in
    let xs = joined_of (label_field c.args.s.now c.args.names.now c.args.sizes.now c.labels_of-found.result.firsts) (numbers_below c.labels_of-found.result.count) in
    λ q. sample_drafted q c.labels_of-found.ensures (omega arith) c.args.limits (omega arith) c.args.draft.now c.put_start.new.draft c.put_start.result
    (put_then c.args.draft.now 0 rule c.args.count xs (start_bytes rule c.args.count) c.put_labels.new.draft c.put_start.new.draft c.put_labels.result c.put_labels.ensures
    c.in_ok-end.was c.put_start.result c.put_start.ensures)
