-- `put_run` meets its contract.
use native.Mathlib.Omega.{arith}
use Prim.Native.Nat.{◌+◌}
use lib.ListN.{set, length-set}
use Rattle.sequences.proofs.RunLaws.{put_nothing, put_more, put_one_child, more_room, one_room}
use Rattle.sequences.proofs.sequences.put_run.Goals as goal

pub returns-then-not-begins : goal.returns-then-not-begins
returns-then-not-begins c =
    put_nothing c.args.scratch.now c.args.at c.args.ty c.args.begins c.args.several (omega (arith, c.requires)) c.if-not-begins.true-raw

pub bounds-scratch-at : goal.bounds-scratch-at
bounds-scratch-at c =
    let room = more_room c.args.scratch.now c.args.at c.args.ty c.args.begins c.args.several c.requires c.if-not-begins.false-raw c.if-several.true in
    omega arith

pub bounds-scratch-at-then-several : goal.bounds-scratch-at-then-several
bounds-scratch-at-then-several c =
    let room = more_room c.args.scratch.now c.args.at c.args.ty c.args.begins c.args.several c.requires c.if-not-begins.false-raw c.if-several.true in
    let l = length-set c.args.scratch.now c.args.at 6 in
    omega arith

pub bounds-scratch-at-then-several-2 : goal.bounds-scratch-at-then-several-2
bounds-scratch-at-then-several-2 c =
    let room = more_room c.args.scratch.now c.args.at c.args.ty c.args.begins c.args.several c.requires c.if-not-begins.false-raw c.if-several.true in
    let l = length-set c.args.scratch.now c.args.at 6 in
    let m = length-set (set c.args.scratch.now c.args.at 6) (c.args.at + 1) 2 in
    omega arith

pub returns-then-several : goal.returns-then-several
returns-then-several c =
    let room = more_room c.args.scratch.now c.args.at c.args.ty c.args.begins c.args.several c.requires c.if-not-begins.false-raw c.if-several.true in
    put_more c.args.scratch.now c.args.at c.args.ty c.args.begins c.args.several room c.if-not-begins.false-raw c.if-several.true

pub bounds-scratch-at-2 : goal.bounds-scratch-at-2
bounds-scratch-at-2 c =
    let room = one_room c.args.scratch.now c.args.at c.args.ty c.args.begins c.args.several c.requires c.if-not-begins.false-raw c.if-several.false in
    omega arith

pub bounds-scratch-at-3 : goal.bounds-scratch-at-3
bounds-scratch-at-3 c =
    let room = one_room c.args.scratch.now c.args.at c.args.ty c.args.begins c.args.several c.requires c.if-not-begins.false-raw c.if-several.false in
    let l = length-set c.args.scratch.now c.args.at 2 in
    omega arith

pub returns : goal.returns
returns c =
    let room = one_room c.args.scratch.now c.args.at c.args.ty c.args.begins c.args.several c.requires c.if-not-begins.false-raw c.if-several.false in
    put_one_child c.args.scratch.now c.args.at c.args.ty c.args.begins c.args.several room c.if-not-begins.false-raw c.if-several.false
