-- `put_field` meets its contract.
use Prim.Native.Nat.{◌+◌, ◌/◌, ◌%◌}
use native.Mathlib.Omega.{arith}
use lib.ListN.{length, length-set, set}
use Rattle.reader.proofs.FieldReading.{field_length}
use Rattle.writer.proofs.PutLaws.{put_field, stored_length}
use Rattle.writer.proofs.writing.put_field.Goals as goal

pub returns-then-at-lt3 : goal.returns-then-at-lt3
returns-then-at-lt3 c = let l = field_length c.args.tag c.args.value.now in omega arith

pub returns-then-at-size : goal.returns-then-at-size
returns-then-at-size c = let l = field_length c.args.tag c.args.value.now in omega arith

pub bounds-draft-at-2 : goal.bounds-draft-at-2
bounds-draft-at-2 c =
    let l = length-set c.args.draft.now c.args.at c.args.tag in
    omega arith

pub bounds-draft-at-3 : goal.bounds-draft-at-3
bounds-draft-at-3 c =
    let l = length-set c.args.draft.now c.args.at c.args.tag in
    let m = length-set (set c.args.draft.now c.args.at c.args.tag) (c.args.at + 1) (length c.args.value.now / 256) in
    omega arith

pub copy-requires : goal.copy-requires
copy-requires c =
    let l = stored_length c.args.draft.now c.args.at c.args.tag (c.args.at + 1) (length c.args.value.now / 256) (c.args.at + 2) (length c.args.value.now % 256) in
    omega arith

pub returns : goal.returns
returns c =
    (put_field c.args.draft.now c.args.at c.args.tag c.args.value.now _ (omega arith) c.copy.ensures, omega arith)
