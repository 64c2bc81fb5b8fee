-- `put_rule` meets its contract.
use native.Mathlib.Omega.{arith}
use mathlib.Core.Logic.{inl}
use mathlib.Core.Path.{◌≡◌}
use lib.ListN.{length, length-set, set}
use Rattle.grammar.specs.Limits.{standard, large}
use Rattle.grammar.specs.Size.{content_too_large}
use Rattle.sequences.specs.SampleContents.{content_in}
use Rattle.writer.proofs.TableLaws.{rule_puts}
use Rattle.sampling.proofs.RuleLaws.{made_stop, drafted_over, drafted_rule}
use borrow.Author.Rules.{rules}
use Rattle.reader.proofs.AnswerLaws.{handed_on}
use Rattle.sampling.proofs.rules.put_rule.Goals as goal

pub bounds-scratch-1 : goal.bounds-scratch-1
bounds-scratch-1 c =
    let l = length-set c.make_content.new.scratch 0 c.args.k in
    let w : length c.make_content.new.scratch ≡ length c.args.scratch.now = search rules in
    omega arith

pub slice_bounds-put_field-end : goal.slice_bounds-put_field-end
slice_bounds-put_field-end c =
    let c0 = content_in c.args.parents.now c.args.types.now c.args.nodes c.args.k in
    let made = made_stop c.make_content.new.scratch c0 c.make_content.result c.make_content.ensures c.in_ok-stop.was in
    let b = made.1 in
    let w : length c.make_content.new.scratch ≡ length c.args.scratch.now = search rules in
    let l = length-set c.make_content.new.scratch 0 c.args.k in
    let m = length-set (set c.make_content.new.scratch 0 c.args.k) 1 c.args.label in
    omega arith

pub returns-in_err-stop : goal.returns-in_err-stop
unfolding content_too_large standard large
returns-in_err-stop c =
    rw (handed_on c.from_residual.result c.from_residual.ensures)
    (inl (drafted_over c.make_content.new.scratch (content_in c.args.parents.now c.args.types.now c.args.nodes c.args.k) c.make_content.result c.make_content.ensures c.in_err-stop.was))

pub returns : goal.returns
unfolding content_too_large standard large
returns c =
    let c0 = content_in c.args.parents.now c.args.types.now c.args.nodes c.args.k in
    let made = made_stop c.make_content.new.scratch c0 c.make_content.result c.make_content.ensures c.in_ok-stop.was in
    rule_puts c.args.draft.now c.put_field.new.draft c.args.at _ _ (record { type = c.args.k; label = c.args.label; content = c0; text = c.args.text })
    c.put_field.result
    c.rule_tag.ensures
    (drafted_rule c.make_content.new.scratch c.args.k c.args.label _ c0 c.args.text made.0) made.2 c.put_field.ensures
