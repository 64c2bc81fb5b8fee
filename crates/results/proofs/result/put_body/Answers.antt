-- `put_body` meets its contract.
use native.Mathlib.Omega.{arith}
use mathlib.Core.List.{[]}
use mathlib.Core.Path.{◌≡◌}
use lib.ListN.{length}
use borrow.Author.Rules.{rules}
use Rattle.sets.specs.Sets.{set_of_eight_at}
use Rattle.union.specs.Places.{start_types_at}
use Rattle.writer.specs.Tables.{rest_bytes}
use Rattle.writer.proofs.TableLaws.{put_length_is, put_over, put_then}
use Rattle.results.specs.Results.{rule_from, starts_bytes}
use Rattle.reader.proofs.AnswerLaws.{handed_on}
use Rattle.results.proofs.result.put_body.Goals as goal

pub put_rest-requires : goal.put_rest-requires
put_rest-requires c =
    let n = c.args.plan.count in
    let rule = rule_from c.requires.3.rules in
    let h =
    put_length_is c.args.draft.now c.args.at rule n (starts_bytes (set_of_eight_at c.args.words.now start_types_at) n) (rest_bytes rule n) c.put_starts.new.draft []
    c.put_starts.result
    c.put_starts.ensures
    c.in_ok-end.was in
    let w : length c.put_starts.new.draft ≡ length c.args.draft.now = search rules in
    (h.1, omega arith, c.requires.2, c.requires.3)

pub returns-in_err-end : goal.returns-in_err-end
returns-in_err-end c =
    rw (handed_on c.from_residual.result c.from_residual.ensures)
    (let n = c.args.plan.count in
    λ q.
    let rule = rule_from q.rules in
    put_over c.args.draft.now c.args.at rule n (starts_bytes (set_of_eight_at c.args.words.now start_types_at) n) (rest_bytes rule n) c.put_starts.new.draft
    c.put_starts.new.draft
    c.put_starts.result
    c.put_starts.ensures
    c.in_err-end.was)

pub returns : goal.returns
returns c =
    let n = c.args.plan.count in
    λ q.
    let rule = rule_from q.rules in
    put_then c.args.draft.now c.args.at rule n (starts_bytes (set_of_eight_at c.args.words.now start_types_at) n) (rest_bytes rule n) c.put_starts.new.draft
    c.put_rest.new.draft
    c.put_starts.result
    c.put_starts.ensures
    c.in_ok-end.was
    c.put_rest.result
    (c.put_rest.ensures q)
