-- `sample_table` meets its contract.
use native.Mathlib.Omega.{arith}
use mathlib.Core.Path.{◌≡◌, sym}
use lib.ListN.{length}
use Rattle.sampling.proofs.SampleIndexed.{index_counted, index_tree, index_whole, index_held, index_ready}
use borrow.Author.Rules.{rules}
use Rattle.sampling.proofs.sample.sample_table.Goals as goal

pub parents_of-parents-requires : goal.parents_of-parents-requires
parents_of-parents-requires c =
    let s = c.args.document.now in
    let x = c.requires.input_limit_in_bounds.1 in
    let lc : length c.args.index.now.shapes ≡ 2048 = search rules in
    let f = x.indexed.few in
    (f, omega arith, index_counted _ s c.args.index.now x)

pub types_of-types-requires : goal.types_of-types-requires
types_of-types-requires c =
    let s = c.args.document.now in
    let x = c.requires.input_limit_in_bounds.1 in
    let ps = c.parents_of-parents.ensures (index_counted _ s c.args.index.now x) in
    index_whole _ s c.args.index.now x c.parents_of-parents.result ps ((search rules)) ((search rules)) ((search rules))
    (index_tree _ s c.args.index.now x).0 (index_tree _ s c.args.index.now x).1

pub slice_bounds-write_sample-end-3 : goal.slice_bounds-write_sample-end-3
slice_bounds-write_sample-end-3 c = sym ((search rules))

pub write_sample-requires : goal.write_sample-requires
write_sample-requires c =
    let s = c.args.document.now in
    let x = c.requires.input_limit_in_bounds.1 in
    let ps = c.parents_of-parents.ensures (index_counted _ s c.args.index.now x) in
    let lp : length c.parents_of-parents.result ≡ 2048 = search rules in
    let ready =
    index_ready _ s c.args.index.now x c.parents_of-parents.result ps lp ((search rules)) ((search rules)) c.types_of-types.result.of
    c.types_of-types.result.firsts c.types_of-types.result.count ((search rules)) ((search rules)) ((search rules)) c.types_of-types.ensures in
    record { input_limit_in_bounds = (c.requires.input_limit_in_bounds.0, ready) }

pub returns : goal.returns
returns c =
    let s = c.args.document.now in
    let x = c.requires.input_limit_in_bounds.1 in
    let ps = c.parents_of-parents.ensures (index_counted _ s c.args.index.now x) in
    let lp : length c.parents_of-parents.result ≡ 2048 = search rules in
    λ d e.
    c.write_sample.ensures
    (index_held _ s c.args.index.now x c.parents_of-parents.result ps lp ((search rules)) ((search rules)) c.types_of-types.result.of
    c.types_of-types.result.firsts c.types_of-types.result.count ((search rules)) ((search rules)) ((search rules)) c.types_of-types.ensures d e)
